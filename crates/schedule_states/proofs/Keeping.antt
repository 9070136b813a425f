-- What keeps to the claims.
use Rattle.std.proofs.Common.{◌≡◌, inl, inr, ℕ, ◌/◌, Option, Some, sym, ◌∙◌}
use Rattle.hart.specs.declared.need.Request.{Request}
use Rattle.hart.specs.declared.need.Request.TheVariants.{Load, Store, Lr, Sc, Amo, Cbo, Fence, FenceI, Begin, End}
use Rattle.schedule_states.specs.Claims.{IsLocal, IsOwn, KeepsClaims, MayTouch, MayWrite}
use Rattle.schedule_states.specs.declared.claims.Claim.{Claim}
use Rattle.schedule_states.specs.declared.claims.Claim.TheVariants.{Alone, Unwritten}

one_claim : (g h : ℕ) (claim : Option Claim) → claim ≡ Some (Alone g) → claim ≡ Some (Alone h) → g ≡ h
one_claim g h claim a b = let e : Some (Alone g) ≡ Some (Alone h) = sym a ∙ b in cc

pub not_both : (g : ℕ) (claim : Option Claim) → claim ≡ Some (Alone g) → claim ≡ Some Unwritten → ⊥
not_both g claim a b = let e : Some (Alone g) ≡ Some Unwritten = sym a ∙ b in cc

own_touch : (claims : ℕ → Option Claim) (h l : ℕ) → IsOwn claims h l → MayTouch claims h l
own_touch claims h l own g other = one_claim g h (claims l) other.0 own.0

own_write : (claims : ℕ → Option Claim) (h l : ℕ) → IsOwn claims h l → MayWrite claims h l
own_write claims h l own = (own_touch claims h l own, λ e. not_both h (claims l) own.0 e)

-- a hart's own affair keeps to the claims
pub local_keeps : (claims : ℕ → Option Claim) (h : ℕ) (request : Request) → IsLocal claims h request → KeepsClaims claims h request
local_keeps claims h (Load a w) (inl own) = own_touch claims h (a / 64) own
local_keeps claims h (Load a w) (inr unwritten) = λ g other. absurd (not_both g (claims (a / 64)) other.0 unwritten)
local_keeps claims h (Store a w v) own = own_write claims h (a / 64) own
local_keeps claims h (Cbo op a) own = own_touch claims h (a / 64) own
local_keeps claims h (Lr a w) local = absurd local
local_keeps claims h (Sc a w v) local = absurd local
local_keeps claims h (Amo op a w v) local = absurd local
local_keeps claims h Fence local = absurd local
local_keeps claims h FenceI local = absurd local
local_keeps claims h (Begin op) local = absurd local
local_keeps claims h (End op) local = absurd local
