use Rattle.std.proofs.Common.{refl}
use Rattle.command_line.proofs.Absences.{other_command}
use Rattle.command_line.proofs.absent.absent_text.Goals as goal

pub returns-in-Explain : goal.returns-in-Explain
returns-in-Explain g c = rw c.in-Explain.is c.of_run.ensures

pub returns-in-Ask : goal.returns-in-Ask
returns-in-Ask g c = rw (c.in-Ask.is, ← c.first_of-in-Ask.ensures) c.of_trace.ensures

pub returns-in_default : goal.returns-in_default
returns-in_default g c =
    other_command g.F.Files.read_gives c.args.refusal.now c.args.command.now _ _ _
    c.in_default.not-Images c.in_default.not-Image c.in_default.not-Picture c.in_default.not-Explain c.in_default.not-Check c.in_default.not-Judge
    c.in_default.not-Ask (record { value = c.told_meaning.ensures; untouched = refl })
