-- The lines end with the schedule, in whose place the image's comes.
use Rattle.report.specs.Places.{origin_in}
use Rattle.command_line.proofs.ImageLines.{image_text_behind, losses_end}
use Rattle.command_line.proofs.reasons.image_losses.Goals as goal

pub with_end-requires : goal.with_end-requires
with_end-requires c =
    let end = losses_end c.args.json (origin_in c.args.places.now) c.args.traced.now c.args.explained.now in
    (end.0, rw (c.as_str.ensures.value, c.in_ok-text.ensures, c.as_str-2.ensures.value, c.in_ok-last.ensures) end.1)

pub returns : goal.returns
returns c =
    let changed = rw (c.as_str.ensures.value, c.in_ok-text.ensures, c.as_str-2.ensures.value, c.in_ok-last.ensures, c.as_str-3.ensures.value, c.in_ok-image.ensures) at c.with_end.ensures in
    image_text_behind c.args.json (origin_in c.args.places.now) c.args.traced.now c.args.explained.now c.with_end.result changed
