use Rattle.recovery.proofs.Placing.{at_start}
use Rattle.recovery.proofs.overlay_memory.memory.HeldMemory.new.Goals as goal

pub returns-clause-start : goal.returns-clause-start
returns-clause-start c =
    at_start _ c.args.lines (rw c.text_bytes.ensures.text at c.in_ok-text.ensures.ok) (rw c.data_bytes.ensures.static_data at c.in_ok-bytes.ensures.ok)
    c.in_ok-text.ensures.start c.in_ok-bytes.ensures.start c.in_ok-image.ensures.fresh
