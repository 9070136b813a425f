-- Claims of lines of the address space, a line being an address divided by 64.
use Rattle.std.specs.Prelude.{◌≡◌, ◌≢◌, ◌⊎◌, ℕ, ◌+◌, ◌*◌, ◌/◌, ◌≤◌, ◌==◌, not, Bool, List, [], ◌∷◌, Option, Some, None, if◌then◌else◌}
use Rattle.hart.specs.declared.need.Request.{Request}
use Rattle.hart.specs.declared.need.Request.TheVariants.{Load, Store, Lr, Sc, Amo, Cbo}
use Rattle.line_memory.specs.declared.TheConstants.{TEXT_BASE, TEXT_SIZE}
use Rattle.schedule_states.specs.declared.claims.Claim.{Claim}
use Rattle.schedule_states.specs.declared.claims.Claim.TheVariants.{Alone, Unwritten}
use Rattle.schedule_states.specs.declared.claims.ClaimedLine.{ClaimedLine}

-- what a list claims of a line
abbrev pub claim_in : List ClaimedLine → ℕ → Option Claim
claim_in [] l = None
claim_in (claimed ∷ claims) l = if claimed.line == l then Some claimed.claim else claim_in claims l

-- the claim is of another line
abbrev pub is_of_other : ℕ → ClaimedLine → Bool
is_of_other l claimed = not (claimed.line == l)

-- it is claimed that hart h alone touches line l, which lies behind the text
abbrev pub IsOwn : (ℕ → Option Claim) → ℕ → ℕ → Type 0
IsOwn claims h l = (claims l ≡ Some (Alone h)) × (TEXT_BASE + TEXT_SIZE ≤ 64 * l)

-- hart h may touch line l
abbrev pub MayTouch : (ℕ → Option Claim) → ℕ → ℕ → Type 0
MayTouch claims h l = (g : ℕ) → IsOwn claims g l → g ≡ h

-- it may write to it
abbrev pub MayWrite : (ℕ → Option Claim) → ℕ → ℕ → Type 0
MayWrite claims h l = MayTouch claims h l × (claims l ≢ Some Unwritten)

-- a request of hart h keeps to the claims
abbrev pub KeepsClaims : (ℕ → Option Claim) → ℕ → Request → Type 0
KeepsClaims claims h (Load address width) = MayTouch claims h (address / 64)
KeepsClaims claims h (Store address width value) = MayWrite claims h (address / 64)
KeepsClaims claims h (Lr address width) = MayTouch claims h (address / 64)
KeepsClaims claims h (Sc address width value) = MayWrite claims h (address / 64)
KeepsClaims claims h (Amo op address width operand) = MayWrite claims h (address / 64)
KeepsClaims claims h (Cbo op address) = MayTouch claims h (address / 64)
KeepsClaims claims h request = Unit {0}

-- a request of hart h is its own affair: it touches a line that is the hart's own, or loads from one to which nobody writes
abbrev pub IsLocal : (ℕ → Option Claim) → ℕ → Request → Type 0
IsLocal claims h (Load address width) = IsOwn claims h (address / 64) ⊎ (claims (address / 64) ≡ Some Unwritten)
IsLocal claims h (Store address width value) = IsOwn claims h (address / 64)
IsLocal claims h (Cbo op address) = IsOwn claims h (address / 64)
IsLocal claims h request = ⊥

-- the request touches line l
abbrev pub Touches : Request → ℕ → Type 0
Touches (Load address width) l = l ≡ address / 64
Touches (Store address width value) l = l ≡ address / 64
Touches (Lr address width) l = l ≡ address / 64
Touches (Sc address width value) l = l ≡ address / 64
Touches (Amo op address width operand) l = l ≡ address / 64
Touches (Cbo op address) l = l ≡ address / 64
Touches request l = ⊥
