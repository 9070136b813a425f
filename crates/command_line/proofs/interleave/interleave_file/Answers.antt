-- Each step in its turn.
use Rattle.std.proofs.Common.{◌∙◌, Ok, Err, ap, refl}
use Rattle.std.proofs.lemmas.Result.{err_from_is_err_and}
use Rattle.command_line.proofs.interleave.interleave_file.Goals as goal

pub returns-in_err-schedule : goal.returns-in_err-schedule
returns-in_err-schedule g c =
    let failed = err_from_is_err_and c.from_residual-in_err-schedule.result c.from_residual-in_err-schedule.ensures.1 in
    record {
      found = Ok c.in_ok-program.program;
      between = c.read_program.new.files;
      first = rw c.as_str.ensures.value at c.in_ok-program.ensures;
      after = record {
        found = Ok c.in_ok-medium.medium;
        between = c.read_medium.new.files;
        first = c.in_ok-medium.ensures;
        after = record {
          found = Ok c.in_ok-machine.machine;
          between = c.read_medium.new.files;
          first = record { value = c.in_ok-machine.ensures; untouched = refl };
          after = record {
            found = Err c.in_err-schedule.field-0.0;
            between = c.read_medium.new.files;
            first = record { value = c.in_err-schedule.ensures.draws; untouched = refl };
            after = (failed.1 ∙ ap (λ failure. Err failure) failed.2, refl);
          };
        };
      };
    }
