-- The least bad cut of a piece, where it has room only from the first bad one on.
use Rattle.std.proofs.Common.{◌≡◌, ℕ, List, Option, Some, None, length, refl, sym, subst, true≢false}
use Rattle.std.specs.Prelude.{IfOk, IsSome, Ok, Err, Result}
use Rattle.verdict.specs.Least.{IsLess}
use Rattle.verdict.specs.Numbers.{AreAbove}

-- what a cut that passes leaves
pub less_none : {Cause : Type 0} (low : ℕ → ℕ) (cut kept : List ℕ) (judged least : Option Cause) → judged ≡ None → IsLess low cut judged kept least kept least
less_none {Cause} low cut kept judged least is = subst (λ (j : Option Cause). IsLess low cut j kept least kept least) (sym is) (refl, refl)

-- the first bad cut is kept, whatever stood there
pub less_first : {Cause E : Type 0} (r : Result (Option Cause) E) (cut room kept new : List ℕ) (judged least before : Option Cause) (cause : Cause) → judged ≡ Some cause → least ≡ None → before ≡ None →
    IfOk r (λ found. (low : ℕ → ℕ) → (IsSome (Some cause) → AreAbove low cut) → (IsSome before → AreAbove low room) → IsLess low cut (Some cause) room before new found) →
    IfOk r (λ found. (low : ℕ → ℕ) → (IsSome judged → AreAbove low cut) → (IsSome least → AreAbove low kept) → IsLess low cut judged kept least new found)
less_first {Cause} (Ok found) cut room kept new judged least before cause is none first h = λ low above room_above.
    let here = h low (λ some. above (subst IsSome (sym is) some)) (λ some. absurd (true≢false (sym (subst IsSome first some)))) in
    let one : IsLess low cut (Some cause) room None new found = subst (λ (l : Option Cause). IsLess low cut (Some cause) room l new found) first here in
    subst (λ (j : Option Cause). IsLess low cut j kept least new found) (sym is) (subst (λ (l : Option Cause). IsLess low cut (Some cause) kept l new found) (sym none) one)
less_first (Err e) cut room kept new judged least before cause is none first h = tt

-- a further one is kept where it comes before
pub less_other : {Cause E : Type 0} (r : Result (Option Cause) E) (cut kept new : List ℕ) (judged least : Option Cause) (cause other : Cause) → judged ≡ Some cause → least ≡ Some other →
    IfOk r (λ found. (low : ℕ → ℕ) → (IsSome (Some cause) → AreAbove low cut) → (IsSome (Some other) → AreAbove low kept) → IsLess low cut (Some cause) kept (Some other) new found) →
    IfOk r (λ found. (low : ℕ → ℕ) → (IsSome judged → AreAbove low cut) → (IsSome least → AreAbove low kept) → IsLess low cut judged kept least new found)
less_other {Cause} r cut kept new judged least cause other is there h =
    let P : Option Cause → Option Cause → Type 0 = λ j l. IfOk r (λ found. (low : ℕ → ℕ) → (IsSome j → AreAbove low cut) → (IsSome l → AreAbove low kept) → IsLess low cut j kept l new found) in
    subst (λ (j : Option Cause). P j least) (sym is) (subst (λ (l : Option Cause). P (Some cause) l) (sym there) h)

-- then there is room
pub size_kept : {Cause E : Type 0} (r : Result (Option Cause) E) (new : List ℕ) (lines : ℕ) → length new ≡ lines → IfOk r (λ found. IsSome found → length new ≡ lines)
size_kept (Ok found) new lines e = λ some. e
size_kept (Err x) new lines e = tt

pub size_other : {Cause : Type 0} (least : Option Cause) (other : Cause) (old : List ℕ) (lines : ℕ) → least ≡ Some other → (IsSome least → length old ≡ lines) → length old ≡ lines
size_other least other old lines there h = h (subst IsSome (sym there) refl)
