-- Each step in its turn.
use Rattle.std.proofs.Common.{◌∙◌, Ok, Err, ap, refl}
use Rattle.std.proofs.lemmas.Result.{err_from_is_err_and}
use Rattle.command_line.proofs.unpersisted.unpersisted_file.Goals as goal

pub returns : goal.returns
returns g c = record {
  found = Ok c.in_ok-opened.opened;
  between = c.open_events.new.files;
  first = rw c.in_ok-opened.was at c.open_events.ensures.opens;
  after = record {
    found = Ok c.in_ok-notes.notes;
    between = c.open_events.new.files;
    first = record { value = rw (c.in_ok-notes.was, c.are_wanted.ensures) at c.notes_of.ensures; untouched = refl };
    after = record {
      found = Ok c.in_ok-found.found;
      between = c.open_events.new.files;
      first = record { value = rw c.in_ok-found.was at c.found.ensures; untouched = refl };
      after = record {
        found = Ok c.in_ok-answer.answer;
        between = c.open_events.new.files;
        first = record { value = rw c.in_ok-answer.was at c.stores_answer.ensures; untouched = refl };
        after = record { value = record { noted = (refl, refl) }; untouched = refl };
      };
    };
  };
}

pub returns-in_err-notes : goal.returns-in_err-notes
returns-in_err-notes g c =
    let failed = err_from_is_err_and c.from_residual-in_err-notes.result c.from_residual-in_err-notes.ensures.1 in
    record {
      found = Ok c.in_ok-opened.opened;
      between = c.open_events.new.files;
      first = rw c.in_ok-opened.was at c.open_events.ensures.opens;
      after = record {
        found = Err c.in_err-notes.field-0.0;
        between = c.open_events.new.files;
        first = record { value = rw (c.in_err-notes.was, c.are_wanted.ensures) at c.notes_of.ensures; untouched = refl };
        after = (failed.1 ∙ ap (λ failure. Err failure) failed.2, refl);
      };
    }

pub returns-in_err-found : goal.returns-in_err-found
returns-in_err-found g c =
    let failed = err_from_is_err_and c.from_residual-in_err-found.result c.from_residual-in_err-found.ensures.1 in
    record {
      found = Ok c.in_ok-opened.opened;
      between = c.open_events.new.files;
      first = rw c.in_ok-opened.was at c.open_events.ensures.opens;
      after = record {
        found = Ok c.in_ok-notes.notes;
        between = c.open_events.new.files;
        first = record { value = rw (c.in_ok-notes.was, c.are_wanted.ensures) at c.notes_of.ensures; untouched = refl };
        after = record {
          found = Err c.in_err-found.field-0.0;
          between = c.open_events.new.files;
          first = record { value = rw c.in_err-found.was at c.found.ensures; untouched = refl };
          after = (failed.1 ∙ ap (λ failure. Err failure) failed.2, refl);
        };
      };
    }

pub returns-in_err-answer : goal.returns-in_err-answer
returns-in_err-answer g c =
    let failed = err_from_is_err_and c.from_residual-in_err-answer.result c.from_residual-in_err-answer.ensures.1 in
    record {
      found = Ok c.in_ok-opened.opened;
      between = c.open_events.new.files;
      first = rw c.in_ok-opened.was at c.open_events.ensures.opens;
      after = record {
        found = Ok c.in_ok-notes.notes;
        between = c.open_events.new.files;
        first = record { value = rw (c.in_ok-notes.was, c.are_wanted.ensures) at c.notes_of.ensures; untouched = refl };
        after = record {
          found = Ok c.in_ok-found.found;
          between = c.open_events.new.files;
          first = record { value = rw c.in_ok-found.was at c.found.ensures; untouched = refl };
          after = record {
            found = Err c.in_err-answer.field-0.0;
            between = c.open_events.new.files;
            first = record { value = rw c.in_err-answer.was at c.stores_answer.ensures; untouched = refl };
            after = (failed.1 ∙ ap (λ failure. Err failure) failed.2, refl);
          };
        };
      };
    }
