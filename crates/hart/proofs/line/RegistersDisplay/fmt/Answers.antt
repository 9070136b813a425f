use Rattle.std.proofs.Common.{rules, arith, ◌++◌, ◌∙◌, ap, sym}
use Rattle.std.proofs.Output.{has_written_append, has_written_of_eq}
use Rattle.hart.specs.HartLines.{register_text}
use Rattle.hart.proofs.RegisterTexts.{registers_below, registers_more}
use Rattle.hart.proofs.line.RegistersDisplay.fmt.Goals as goal

pub loop-number-preserved : goal.loop-number-preserved
loop-number-preserved g c = λ plain.
    let registers = c.args.self.now in
    let number = c.loop-number.number in
    let more = ap (λ v. registers_below registers number ++ register_text number v) c.get-value.ensures
    ∙ sym (registers_more registers number (omega arith)) in
    has_written_of_eq _ _ _ _ _ more (has_written_append _ _ _ _ _ _ (c.loop-number.invariant plain) (search rules))
