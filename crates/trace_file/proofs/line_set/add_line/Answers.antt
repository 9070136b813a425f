use Rattle.trace_file.proofs.LineSets.{place_of, there, there_few}
use Rattle.trace_file.proofs.line_set.add_line.Goals as goal

pub insert_line-requires : goal.insert_line-requires
insert_line-requires c =
    place_of c.as_slice.result.now c.args.lines.now.items c.args.line c.in-Err.place c.as_slice.ensures.value c.requires c.in-Err.ensures.position

pub returns-in-Ok-clause-added : goal.returns-in-Ok-clause-added
returns-in-Ok-clause-added c = λ holds.
    there c.as_slice.result.now c.args.lines.now.items c.args.line c.in-Ok.field-0 c.as_slice.ensures.value c.requires c.in-Ok.ensures.position

pub returns-in-Ok-clause-few : goal.returns-in-Ok-clause-few
returns-in-Ok-clause-few c = λ holds.
    there_few c.as_slice.result.now c.args.lines.now.items c.args.line c.in-Ok.field-0 c.as_slice.ensures.value c.requires c.in-Ok.ensures.position c.as_slice.ensures.fits
