-- They are told where they are asked for.
use Rattle.std.proofs.Common.{◌∙◌, Bool, Ok, refl, subst, sym}
use Rattle.command_line.specs.ToldFull.{TellsFullIf}
use Rattle.command_line.proofs.told_full.with_full_answers.Goals as goal

pub returns-then-are_asked : goal.returns-then-are_asked
returns-then-are_asked c = record {
  tells = subst (λ (asked : Bool). TellsFullIf c.args.judge.now c.args.answer asked c.answers_behind.result) (sym c.if-are_asked.true ∙ c.are_asked.ensures)
      c.answers_behind.ensures;
}

pub returns-else-are_asked : goal.returns-else-are_asked
returns-else-are_asked c = record {
  tells = subst (λ (asked : Bool). TellsFullIf c.args.judge.now c.args.answer asked (Ok c.args.answer)) (sym c.if-are_asked.false ∙ c.are_asked.ensures) refl;
}
