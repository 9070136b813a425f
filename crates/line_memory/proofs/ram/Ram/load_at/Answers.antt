-- A load at a place of text or data is that of the memory.
use Rattle.std.proofs.Common.{refl, ◌∙◌}
use Rattle.line_memory.proofs.Accesses.{text_loaded, data_loaded}
use Rattle.line_memory.proofs.ram.Ram.load_at.Goals as goal

pub returns-in-Text : goal.returns-in-Text
returns-in-Text c =
    let within = rw c.in-Text.is at c.requires.within in
    rw (← c.self.view_is, c.in-Text.is) (text_loaded _ c.self.invariant _ c.args.width c.in-Text.at refl within ∙ cc)

pub returns-in-Data : goal.returns-in-Data
returns-in-Data c =
    let within = rw c.in-Data.is at c.requires.within in
    rw (← c.self.view_is, c.in-Data.is) (data_loaded _ c.self.invariant _ c.args.width c.in-Data.at refl within ∙ cc)
