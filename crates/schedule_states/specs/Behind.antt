-- Configurations from which harts go on by themselves to others.
-- Source: Clarke, Grumberg, Peled, Model Checking, 1999, chapter 10: steps that commute with those of other harts needn't be tried in each order.
use Rattle.std.specs.Prelude.{◌≡◌, ℕ, zero, suc, List, [], ◌∷◌, Option, Some, None, slice_get}
use Rattle.bus.specs.Alone.{Asks, StepsAlone}
use Rattle.hart.specs.Needs.{IsSpelledBy}
use Rattle.hart.specs.Requests.{IsRequest}
use Rattle.hart.specs.declared.need.Request.{Request}
use Rattle.hart.specs.declared.state.HartState.{HartState}
use Rattle.isa_table.specs.declared.instruction.Instr.{Instr}
use Rattle.machine.specs.Run.{Config, after_request, fetched, with_hart}
use Rattle.schedule_states.specs.Claims.{IsLocal, KeepsClaims}
use Rattle.schedule_states.specs.Seen.{seen}
use Rattle.schedule_states.specs.States.{text_for}
use Rattle.schedule_states.specs.declared.claims.Claim.{Claim}

-- they have the same harts, and of what these share all that decides what may come
pub record AreAlike (c d : Config) : Type 0 where
  pub harts : d.harts ≡ c.harts
  pub seen : seen d.common ≡ seen c.common

-- hart h makes a step of its registers alone
pub record IsQuietStep (c : Config) (h : ℕ) (d : Config) : Type 0 where
  pub own : HartState
  pub next : HartState
  pub here : slice_get c.harts h ≡ Some own
  pub step : StepsAlone (text_for c.common h) own next
  pub is : d ≡ with_hart c h next

-- it makes this request
pub record IsRequestStep (c : Config) (h : ℕ) (request : Request) (d : Config) : Type 0 where
  pub own : HartState
  pub instr : Instr
  pub here : slice_get c.harts h ≡ Some own
  pub asks : Asks (text_for c.common h) own request
  pub spelled : IsSpelledBy (fetched (text_for c.common h) own.pc) instr
  pub is : d ≡ after_request c h own instr request

-- a step of hart h, by its request, if it makes one
abbrev pub Moves : Config → ℕ → Option Request → Config → Type 0
Moves c h None d = IsQuietStep c h d
Moves c h (Some request) d = IsRequestStep c h request d

-- its request is of the kinds that harts make, and keeps to the claims
pub record IsFit (claims : ℕ → Option Claim) (h : ℕ) (request : Request) : Type 0 where
  pub keeps : KeepsClaims claims h request
  pub is : IsRequest request

abbrev pub IsFitMove : (ℕ → Option Claim) → ℕ → Option Request → Type 0
IsFitMove claims h None = Unit {0}
IsFitMove claims h (Some request) = IsFit claims h request

-- it makes none, or one that is the hart's own affair
abbrev pub IsOwnMove : (ℕ → Option Claim) → ℕ → Option Request → Type 0
IsOwnMove claims h None = Unit {0}
IsOwnMove claims h (Some request) = IsLocal claims h request × IsRequest request

-- a step of hart h that is its own affair
abbrev pub GoesOwn : (ℕ → Option Claim) → Config → ℕ → Config → Type 0
GoesOwn claims c h d = (request : Option Request) × Moves c h request d × IsOwnMove claims h request

-- such steps of these harts, in order, lead from c to what is like d
abbrev pub IsBehind : (ℕ → Option Claim) → List ℕ → Config → Config → Type 0
IsBehind claims [] c d = AreAlike c d
IsBehind claims (h ∷ harts) c d = (middle : Config) × GoesOwn claims c h middle × IsBehind claims harts middle d

-- so many such steps of hart h lead from c to d
abbrev pub GoesOwnBy : (ℕ → Option Claim) → ℕ → ℕ → Config → Config → Type 0
GoesOwnBy claims h zero c d = d ≡ c
GoesOwnBy claims h (suc n) c d = (middle : Config) × GoesOwnBy claims h n c middle × GoesOwn claims middle h d
