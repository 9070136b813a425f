-- Each step in its turn.
use Rattle.std.proofs.Common.{◌∙◌, Ok, Err, ap, refl}
use Rattle.std.proofs.lemmas.Result.{err_from_is_err_and}
use Rattle.command_line.proofs.noting.judge_noted_run.Goals as goal

pub returns : goal.returns
returns g c = record {
  found = Ok c.in_ok-notes.notes;
  between = c.args.errors.now;
  first = record { value = rw (c.in_ok-notes.was, c.are_wanted_of-wanted.ensures) at c.notes_of.ensures; untouched = refl };
  after = record {
    found = Ok tt;
    between = c.write_notes.new.errors;
    first = record { goes_on = refl; gets = rw c.deref.ensures.value at c.write_notes.ensures.gets };
    after = c.judge_run.ensures;
  };
}

pub returns-in_err-notes : goal.returns-in_err-notes
returns-in_err-notes g c =
    let failed = err_from_is_err_and c.from_residual.result c.from_residual.ensures.1 in
    record {
      found = Err c.in_err-notes.field-0.0;
      between = c.args.errors.now;
      first = record { value = rw (c.in_err-notes.was, c.are_wanted_of-wanted.ensures) at c.notes_of.ensures; untouched = refl };
      after = (failed.1 ∙ ap (λ failure. Err failure) failed.2, refl);
    }
