-- A byte of text or data is that of the memory.
use Rattle.line_memory.proofs.Accesses.{text_peeked, data_peeked}
use Rattle.line_memory.proofs.ram.Ram.peek.Goals as goal

pub returns-in-Ok-Text : goal.returns-in-Ok-Text
returns-in-Ok-Text c =
    let found = rw c.in-Ok-Text.field-0-is at c.in-Ok-Text.ensures.ok in
    rw (← c.self.view_is) (text_peeked _ c.self.invariant c.args.addr c.in-Ok-Text.at found.1 found.2 _ c.index.ensures)

pub returns-in-Ok-Data : goal.returns-in-Ok-Data
returns-in-Ok-Data c =
    let found = rw c.in-Ok-Data.field-0-is at c.in-Ok-Data.ensures.ok in
    rw (← c.self.view_is) (data_peeked _ c.self.invariant c.args.addr c.in-Ok-Data.at found.1 found.2 _ c.index-in-Ok-Data.ensures)
