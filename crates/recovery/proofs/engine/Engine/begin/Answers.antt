use Rattle.std.proofs.Common.{◌∙◌, ap, refl, slice_index}
use Rattle.recovery.specs.World.{WorldView}
use Rattle.recovery.proofs.Resting.{begins}
use Rattle.recovery.proofs.engine.Engine.begin.Goals as goal

pub returns-clause-represents : goal.returns-clause-represents
returns-clause-represents g c =
    begins c.args.self.now (record { world = c.begin.new.self; text = c.args.self.now.text; hart = c.start-self.result }) (g.S.Source.medium c.args.image.now)
    c.requires.rest c.start-self.ensures refl (ap (λ (w : WorldView). w.held) c.begin.ensures) (ap (λ (w : WorldView). w.reserved) c.begin.ensures)
    (ap (λ (w : WorldView). w.events) c.begin.ensures) (ap (λ (w : WorldView). w.trace) c.begin.ensures) (λ l. ap (λ (w : WorldView). slice_index w.own l) c.begin.ensures ∙ c.requires.rest.own l)
    (ap (λ (w : WorldView). w.asked) c.begin.ensures)
