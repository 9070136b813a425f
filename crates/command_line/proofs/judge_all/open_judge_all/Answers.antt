-- Each step in its turn.
use Rattle.std.proofs.Common.{Ok, Err, refl, rules}
use Rattle.command_line.proofs.judge_all.open_judge_all.Goals as goal

pub returns-clause-opens : goal.returns-clause-opens
returns-clause-opens g c = record {
  found = Ok c.in_ok-file.file.items;
  between = c.read_file.new.files;
  first = rw (c.in_ok-file.was, c.as_str.ensures.value) at c.read_file.ensures;
  after = record {
    found = Ok c.in_ok-program.program;
    between = c.read_file.new.files;
    first = record { value = rw (c.in_ok-program.was, c.deref.ensures.value) at c.program_of.ensures.says; untouched = refl };
    after = record {
      found = Ok c.in_ok-recovery.recovery;
      between = c.read_recovery.new.files;
      first = rw (c.in_ok-recovery.was, c.as_str-2.ensures.value) at c.read_recovery.ensures;
      after = record {
        found = Ok c.in_ok-medium.medium;
        between = c.read_medium.new.files;
        first = rw c.in_ok-medium.was at c.read_medium.ensures;
        after = record { value = record { opens = record { command_is = refl; file_is = refl; recovery_is = refl; setup_is = c.with_room-setup.ensures } }; untouched = refl };
      };
    };
  };
}

pub returns-in_err-medium-clause-opens : goal.returns-in_err-medium-clause-opens
returns-in_err-medium-clause-opens g c = record {
  found = Ok c.in_ok-file.file.items;
  between = c.read_file.new.files;
  first = rw (c.in_ok-file.was, c.as_str.ensures.value) at c.read_file.ensures;
  after = record {
    found = Ok c.in_ok-program.program;
    between = c.read_file.new.files;
    first = record { value = rw (c.in_ok-program.was, c.deref.ensures.value) at c.program_of.ensures.says; untouched = refl };
    after = record {
      found = Ok c.in_ok-recovery.recovery;
      between = c.read_recovery.new.files;
      first = rw (c.in_ok-recovery.was, c.as_str-2.ensures.value) at c.read_recovery.ensures;
      after = record {
        found = Err c.in_err-medium.field-0.0;
        between = c.read_medium.new.files;
        first = rw c.in_err-medium.was at c.read_medium.ensures;
        after = (search (rules, c.from_residual-in_err-medium.ensures), refl);
      };
    };
  };
}

pub returns-in_err-recovery-clause-opens : goal.returns-in_err-recovery-clause-opens
returns-in_err-recovery-clause-opens g c = record {
  found = Ok c.in_ok-file.file.items;
  between = c.read_file.new.files;
  first = rw (c.in_ok-file.was, c.as_str.ensures.value) at c.read_file.ensures;
  after = record {
    found = Ok c.in_ok-program.program;
    between = c.read_file.new.files;
    first = record { value = rw (c.in_ok-program.was, c.deref.ensures.value) at c.program_of.ensures.says; untouched = refl };
    after = record {
      found = Err c.in_err-recovery.field-0.0;
      between = c.read_recovery.new.files;
      first = rw (c.in_err-recovery.was, c.as_str-2.ensures.value) at c.read_recovery.ensures;
      after = (search (rules, c.from_residual-in_err-recovery.ensures), refl);
    };
  };
}

pub returns-in_err-program-clause-opens : goal.returns-in_err-program-clause-opens
returns-in_err-program-clause-opens g c = record {
  found = Ok c.in_ok-file.file.items;
  between = c.read_file.new.files;
  first = rw (c.in_ok-file.was, c.as_str.ensures.value) at c.read_file.ensures;
  after = record {
    found = Err c.in_err-program.field-0.0;
    between = c.read_file.new.files;
    first = record { value = rw (c.in_err-program.was, c.deref.ensures.value) at c.program_of.ensures.says; untouched = refl };
    after = (search (rules, c.from_residual-in_err-program.ensures), refl);
  };
}
