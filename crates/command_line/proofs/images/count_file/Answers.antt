-- Each step in its turn.
use Rattle.std.proofs.Common.{◌≡◌, ◌∙◌, Result, Ok, Err, MatchResult, ap, refl, subst, sym}
use Rattle.std.proofs.lemmas.Result.{err_from_is_err_and}
use Rattle.command_line.specs.Imaging.{told_count}
use Rattle.command_line.specs.declared.answer.Answer.{Answer}
use Rattle.command_line.specs.declared.failure.Failure.{Failure}
use Rattle.command_line.specs.declared.failure.Failure.TheVariants.{Memory}
use Rattle.command_line.proofs.images.count_file.Goals as goal

pub returns-in_err-count : goal.returns-in_err-count
returns-in_err-count g c =
    let failed = err_from_is_err_and c.from_residual-in_err-count.result c.from_residual-in_err-count.ensures.1 in
    record {
      found = Ok c.in_ok-opened.opened;
      between = c.open_events.new.files;
      first = rw c.in_ok-opened.was at c.open_events.ensures.opens;
      after = record {
        found = Err c.in_err-count.field-0.0;
        between = c.open_events.new.files;
        first = record { value = rw c.in_err-count.was at c.count.ensures; untouched = refl };
        after = (failed.1 ∙ ap (λ failure. Err failure) failed.2, refl);
      };
    }

pub returns-in_err-text : goal.returns-in_err-text
returns-in_err-text g c =
    let failed = err_from_is_err_and c.from_residual-in_err-text.result c.from_residual-in_err-text.ensures.1 in
    record {
      found = Ok c.in_ok-opened.opened;
      between = c.open_events.new.files;
      first = rw c.in_ok-opened.was at c.open_events.ensures.opens;
      after = record {
        found = Ok c.in_ok-count.count;
        between = c.open_events.new.files;
        first = record { value = rw c.in_ok-count.was at c.count.ensures; untouched = refl };
        after = record {
          value = record {
            answer = subst (λ (r : Result Answer Failure). MatchResult r
                (λ answer. (answer.text.items ≡ told_count c.args.command.now.json c.args.command.now.moment c.in_ok-count.count) × (answer.status ≡ 0))
                (λ failure. failure ≡ Memory)) (sym (failed.1 ∙ ap (λ failure. Err failure) failed.2)) refl;
          };
          untouched = refl;
        };
      };
    }
