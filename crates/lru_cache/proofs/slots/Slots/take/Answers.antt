use Rattle.std.proofs.Common.{◌≡◌, ap, arith, length, ◌∙◌, ◌++◌, ◌∷◌, [], refl}
use Rattle.lru_cache.specs.SlotMap.{SlotMap, has_slot}
use Rattle.lru_cache.proofs.Tables.{table_taken}
use Rattle.lru_cache.proofs.slots.Slots.take.Goals as goal

pub invariant_of-self : goal.invariant_of-self
invariant_of-self c =
    let popped : c.self.inside.free.items ≡ c.pop.new.self.items ++ c.in-Some.slot ∷ [] = rw c.in-Some.is at c.pop.ensures.items in
    rw c.pop.ensures.capacity (table_taken _ _ _ _ _ c.self.invariant c.args.line _ _ _ (omega (arith, ap (λ (s : SlotMap). length s.slots) c.self.view_is, c.requires.line))
    (ap (λ (s : SlotMap). has_slot s c.args.line) c.self.view_is ∙ c.requires.none) popped refl)

pub returns-clause-sound : goal.returns-clause-sound
returns-clause-sound c = (invariant_of-self c).sound
