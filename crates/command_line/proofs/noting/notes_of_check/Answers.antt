-- Each step in its turn.
use Rattle.command_line.proofs.NotedChecks.{notes_checked}
use Rattle.command_line.proofs.noting.notes_of_check.Goals as goal

pub returns : goal.returns
returns c =
    notes_checked c.args.check.now c.in_ok-notes.notes c.in_ok-lacks.lacks c.with_volume_note.result
    (rw (c.in_ok-notes.was, c.are_wanted_of-wanted.ensures) at c.notes_of.ensures)
    (rw (c.in_ok-lacks.was, c.are_wanted_of-wanted.ensures, c.medium.ensures) at c.lacks_volume.ensures).says
    c.with_volume_note.ensures
