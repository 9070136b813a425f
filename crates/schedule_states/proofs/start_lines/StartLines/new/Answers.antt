use Rattle.std.proofs.Common.{arith, rules}
use Rattle.line_memory.specs.Lines.{IsMedium}
use Rattle.schedule_states.specs.StartLines.{AreOf}
use Rattle.schedule_states.proofs.Starting.{lines_are}
use Rattle.schedule_states.proofs.start_lines.StartLines.new.Goals as goal

pub invariant_of-result : goal.invariant_of-result
invariant_of-result c =
    let whole : IsMedium c.args.medium.now = search rules in
    let start = c.args.program.now in
    let text : AreOf start.text 1024 c.in_ok-new.field-0 =
    lines_are c.in_ok-new.field-0 start.text 1024 c.in_ok-new.ensures.whole (rw c.text_bytes.ensures.text at c.in_ok-new.ensures.ok) (omega (arith, c.text_bytes.ensures.size)) in
    let bytes : AreOf start.static_data 16384 c.in_ok-new-2.field-0 =
    lines_are c.in_ok-new-2.field-0 start.static_data 16384 c.in_ok-new-2.ensures.whole (rw c.data_bytes.ensures.static_data at c.in_ok-new-2.ensures.ok) (omega (arith, c.data_bytes.ensures.size)) in
    (whole, text, bytes)
