use Rattle.command_line.proofs.Absences.{other_refusal}
use Rattle.command_line.proofs.further.refusal_text.Goals as goal

pub returns-in_default : goal.returns-in_default
returns-in_default g c =
    other_refusal g.F.Files.read_gives c.args.command.now c.args.refusal.now _ _ _ c.in_default.not-Moment c.in_default.not-Image
    (rw (c.refused_file.ensures, c.names_of-names.ensures) at c.refused_text.ensures)
