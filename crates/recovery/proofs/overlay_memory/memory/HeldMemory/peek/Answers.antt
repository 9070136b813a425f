use Rattle.std.proofs.Common.{ap, sym, ◌∙◌}
use Rattle.line_memory.proofs.Accesses.{none_peeked}
use Rattle.recovery.specs.Memory.{HeldView, memory_of}
use Rattle.recovery.proofs.Placing.{data_byte, image_byte, text_byte}
use Rattle.recovery.proofs.overlay_memory.memory.HeldMemory.peek.Goals as goal

pub returns-in-Ok-Text : goal.returns-in-Ok-Text
returns-in-Ok-Text g c =
    let within = rw c.in-Ok-Text.field-0-is at c.in-Ok-Text.ensures.within in
    let found = rw (ap (λ (h : HeldView). h.text) c.self.view_is) at c.peek.ensures in
    let address = rw c.in-Ok-Text.field-0-is at c.in-Ok-Text.ensures.address in
    rw address (sym (text_byte c.args.self.now (g.S.Source.medium c.args.image.now) c.in-Ok-Text.offset within.there ∙ found))

pub returns-in-Ok-Data : goal.returns-in-Ok-Data
returns-in-Ok-Data g c =
    let within = rw c.in-Ok-Data.field-0-is at c.in-Ok-Data.ensures.within in
    let found = rw (ap (λ (h : HeldView). h.bytes) c.self.view_is) at c.peek-in-Ok-Data.ensures in
    let address = rw c.in-Ok-Data.field-0-is at c.in-Ok-Data.ensures.address in
    rw address (sym (data_byte c.args.self.now (g.S.Source.medium c.args.image.now) c.in-Ok-Data.offset within.there ∙ found))

pub returns-in-Ok-Image : goal.returns-in-Ok-Image
returns-in-Ok-Image g c =
    let found = rw (ap (λ (h : HeldView). h.image) c.self.view_is) at c.peek-in-Ok-Image.ensures in
    let address = rw c.in-Ok-Image.field-0-is at c.in-Ok-Image.ensures.address in
    rw address (sym (image_byte c.args.self.now (g.S.Source.medium c.args.image.now) c.in-Ok-Image.offset ∙ found))

pub returns-in-Err : goal.returns-in-Err
returns-in-Err g c =
    sym (none_peeked (memory_of c.args.self.now (g.S.Source.medium c.args.image.now)) c.args.address _ c.in-Err.ensures.err)
