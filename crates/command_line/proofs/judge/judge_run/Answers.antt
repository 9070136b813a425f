-- Sequential runs are found with `--atomic` alone.
use Rattle.std.proofs.Common.{◌≡◌, ◌∙◌, Ok, None, refl, sym}
use Rattle.arguments.specs.declared.asked.RightAnswers.TheVariants.{Atomic, InTurn, Overlapping}
use Rattle.command_line.proofs.judge.judge_run.Goals as goal

pub returns-in-InTurn : goal.returns-in-InTurn
returns-in-InTurn g c = record {
  found = Ok None;
  between = c.args.errors.now;
  first = record { value = record { finds = λ e. let never : InTurn ≡ Atomic = sym c.in-InTurn.is ∙ e in absurd cc }; untouched = refl };
  after = c.judge_by.ensures;
}

pub returns-in-Overlapping : goal.returns-in-Overlapping
returns-in-Overlapping g c = record {
  found = Ok None;
  between = c.args.errors.now;
  first = record { value = record { finds = λ e. let never : Overlapping ≡ Atomic = sym c.in-Overlapping.is ∙ e in absurd cc }; untouched = refl };
  after = c.judge_by-in-Overlapping.ensures;
}
