use Rattle.std.proofs.Common.{ap}
use Rattle.recovery.specs.Memory.{HeldView}
use Rattle.recovery.proofs.Placing.{data_store_if, image_store_if, text_store_if}
use Rattle.recovery.proofs.overlay_memory.memory.HeldMemory.store.Goals as goal

pub returns-in-Text-clause-ok : goal.returns-in-Text-clause-ok
returns-in-Text-clause-ok g c =
    let within = rw c.in-Text.is at c.requires.within in
    rw c.in-Text.is (text_store_if c.store.result c.args.self.now
    (record { program = c.self.inside.program; text = c.store.new.self; bytes = c.self.inside.bytes; image = c.self.inside.image }) (g.S.Source.medium c.args.image.now) c.in-Text.offset c.args.width c.args.value
    c.requires.width within.aligned within.there (rw (ap (λ (h : HeldView). h.text) c.self.view_is) at c.store.ensures.ok)
    (ap (λ (h : HeldView). h.bytes) c.self.view_is) (ap (λ (h : HeldView). h.image) c.self.view_is))

pub returns-in-Data-clause-ok : goal.returns-in-Data-clause-ok
returns-in-Data-clause-ok g c =
    let within = rw c.in-Data.is at c.requires.within in
    rw c.in-Data.is (data_store_if c.store-in-Data.result c.args.self.now
    (record { program = c.self.inside.program; text = c.self.inside.text; bytes = c.store-in-Data.new.self; image = c.self.inside.image }) (g.S.Source.medium c.args.image.now) c.in-Data.offset c.args.width c.args.value
    c.requires.width within.aligned within.there (rw (ap (λ (h : HeldView). h.bytes) c.self.view_is) at c.store-in-Data.ensures.ok)
    (ap (λ (h : HeldView). h.text) c.self.view_is) (ap (λ (h : HeldView). h.image) c.self.view_is))

pub returns-in-Image-clause-ok : goal.returns-in-Image-clause-ok
returns-in-Image-clause-ok g c =
    rw c.in-Image.is (image_store_if c.store-in-Image.result c.args.self.now
    (record { program = c.self.inside.program; text = c.self.inside.text; bytes = c.self.inside.bytes; image = c.store-in-Image.new.self }) (g.S.Source.medium c.args.image.now) c.in-Image.offset c.args.width c.args.value
    (rw (ap (λ (h : HeldView). h.image) c.self.view_is) at c.store-in-Image.ensures.ok)
    (ap (λ (h : HeldView). h.text) c.self.view_is) (ap (λ (h : HeldView). h.bytes) c.self.view_is))
