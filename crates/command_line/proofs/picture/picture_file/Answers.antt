-- Each step in its turn.
use Rattle.std.proofs.Common.{◌∙◌, Ok, Err, ap, refl}
use Rattle.std.proofs.lemmas.Result.{err_from_is_err_and}
use Rattle.std.specs.Prelude.{string_bytes}
use Rattle.command_line.proofs.picture.picture_file.Goals as goal

pub returns-in_err-picture : goal.returns-in_err-picture
returns-in_err-picture g c =
    let failed = err_from_is_err_and c.from_residual-in_err-picture.result c.from_residual-in_err-picture.ensures.1 in
    record {
      found = Ok c.in_ok-opened.opened;
      between = c.open_events.new.files;
      first = rw c.in_ok-opened.was at c.open_events.ensures.opens;
      after = record {
        found = Err c.in_err-picture.field-0.0;
        between = c.open_events.new.files;
        first = record { value = rw c.in_err-picture.was at c.picture.ensures; untouched = refl };
        after = (failed.1 ∙ ap (λ failure. Err failure) failed.2, refl);
      };
    }

pub returns-in_err-write_file : goal.returns-in_err-write_file
returns-in_err-write_file g c =
    let failed = err_from_is_err_and c.from_residual-in_err-write_file.result c.from_residual-in_err-write_file.ensures.1 in
    record {
      found = Ok c.in_ok-opened.opened;
      between = c.open_events.new.files;
      first = rw c.in_ok-opened.was at c.open_events.ensures.opens;
      after = record {
        found = Ok (string_bytes c.in_ok-picture.picture);
        between = c.open_events.new.files;
        first = record { value = rw c.in_ok-picture.was at c.picture.ensures; untouched = refl };
        after = record {
          found = Err c.in_err-write_file.field-0.0;
          between = c.write_file.new.files;
          first = rw (c.in_err-write_file.was, c.as_str.ensures.value, c.as_bytes.ensures.value) at c.write_file.ensures;
          after = (failed.1 ∙ ap (λ failure. Err failure) failed.2, refl);
        };
      };
    }
