use Rattle.std.proofs.Common.{Some, ap}
use Rattle.recovery.specs.Memory.{HeldView}
use Rattle.recovery.proofs.Placing.{data_load, image_load, text_load}
use Rattle.recovery.proofs.overlay_memory.memory.HeldMemory.load.Goals as goal

pub returns-in-Text : goal.returns-in-Text
returns-in-Text g c =
    let within = rw c.in-Text.is at c.requires.within in
    rw c.in-Text.is (text_load c.args.self.now (g.S.Source.medium c.args.image.now) c.in-Text.offset c.args.width (Some c.load.result)
    c.requires.width within.aligned within.there (rw (ap (λ (h : HeldView). h.text) c.self.view_is) at c.load.ensures))

pub returns-in-Data : goal.returns-in-Data
returns-in-Data g c =
    let within = rw c.in-Data.is at c.requires.within in
    rw c.in-Data.is (data_load c.args.self.now (g.S.Source.medium c.args.image.now) c.in-Data.offset c.args.width (Some c.load-in-Data.result)
    c.requires.width within.aligned within.there (rw (ap (λ (h : HeldView). h.bytes) c.self.view_is) at c.load-in-Data.ensures))

pub returns-in-Image : goal.returns-in-Image
returns-in-Image g c =
    rw c.in-Image.is (image_load c.args.self.now (g.S.Source.medium c.args.image.now) c.in-Image.offset c.args.width (Some c.load-in-Image.result)
    (rw (ap (λ (h : HeldView). h.image) c.self.view_is) at c.load-in-Image.ensures))
