use Rattle.std.proofs.Common.{ℕ, ◌%◌, List, ap, ◌∙◌}
use Rattle.word_bits.specs.Bytes.{stored}
use Rattle.recovery.proofs.Holding.{over_stored}
use Rattle.recovery.proofs.overlay.held.Held.store.Goals as goal

pub returns-clause-over : goal.returns-clause-over
returns-clause-over g c =
    over_stored c.args.self.now c.hold.new.self (g.S.Source.medium c.args.source.now) c.args.offset c.args.width c.args.value c.store_bytes.new.bytes
    c.requires.over c.requires.width c.requires.aligned c.requires.there
    (c.store_bytes.ensures ∙ ap (λ (b : List ℕ). stored b (c.args.offset % 64) c.args.width c.args.value) c.line.ensures.value)
    c.in_ok-hold.ensures.ok
