-- Which reservations are left as one hart after another is told of a store.
use Rattle.std.proofs.Common.{◌≡◌, ℕ, ◌+◌, ◌<◌, ◌≤◌, ◌↔◌, List, Option, Some, slice_get, arith}
use Rattle.std.proofs.lemmas.Bool.Decides.{nat_tests}
use Rattle.reservation.specs.Reserved.{AreFree, Stored, Follows}

-- the reservations of the line are ended of each hart below `count` but the one that wrote
abbrev pub EndedBelow : ℕ → ℕ → ℕ → List (Option ℕ) → List (Option ℕ) → Type 0
EndedBelow count hart line old new = (k m : ℕ) → k < 8 →
    (slice_get new k ≡ Some (Some m)) ↔ ((slice_get old k ≡ Some (Some m)) × (k < count → m ≡ line → k ≡ hart))

-- the reservation of the line is ended of one hart, unless it is the one that wrote
abbrev pub EndedAt : ℕ → ℕ → ℕ → List (Option ℕ) → List (Option ℕ) → Type 0
EndedAt other hart line old new = (k m : ℕ) → k < 8 →
    (slice_get new k ≡ Some (Some m)) ↔ ((slice_get old k ≡ Some (Some m)) × (k ≡ other → m ≡ line → k ≡ hart))

pub one_more : (other hart line : ℕ) (old mid new : List (Option ℕ)) →
    EndedBelow other hart line old mid → EndedAt other hart line mid new → EndedBelow (other + 1) hart line old new
one_more other hart line old mid new below at k m h = grind (arith, nat_tests, below k m h, at k m h)

pub all_ended : (count hart line : ℕ) (old new : List (Option ℕ)) → 8 ≤ count →
    EndedBelow count hart line old new → Follows old new (Stored hart line)
all_ended count hart line old new all below =
    record { agrees = λ calls agrees h l k. grind (arith, nat_tests, below h l k, agrees h l k) }

-- where no line is reserved a store ends nothing
pub none_ended : (hart line : ℕ) (words : List (Option ℕ)) → AreFree words → Follows words words (Stored hart line)
none_ended hart line words free = all_ended 8 hart line words words (omega arith) (λ k m h. ((λ there. absurd (free k m there)), (λ both. both.0)))
