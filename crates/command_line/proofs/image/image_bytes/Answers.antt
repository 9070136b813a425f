use Rattle.std.proofs.Common.{sym}
use Rattle.command_line.proofs.RankedLines.{lines_placed}
use Rattle.command_line.proofs.image.image_bytes.Goals as goal

pub put_lines-requires : goal.put_lines-requires
put_lines-requires c =
    rw (sym c.deref.ensures.value, sym c.deref_mut.ensures.value) at (lines_placed c.args.start c.in_ok-lines.lines.items c.requires.room c.in_ok-lines.ensures.there)
