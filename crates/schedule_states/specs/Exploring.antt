-- What is known of the states of a program.
use Rattle.std.specs.Prelude.{◌≡◌, ◌⊎◌, ℕ, List, [], Bool, true}
use Rattle.std.specs.Global.{Vec}
use Rattle.store_trace.specs.declared.event.Event.{Event}
use Rattle.schedule_states.specs.Ending.{AnyMayGo}
use Rattle.schedule_states.specs.Leads.{AreOfHarts}
use Rattle.schedule_states.specs.declared.claims.ClaimedLine.{ClaimedLine}
use Rattle.schedule_states.specs.declared.exploring.Explored.{Explored}
use Rattle.schedule_states.specs.declared.exploring.Explored.TheVariants as known
use Rattle.schedule_states.specs.declared.reached.Stop.{Stop}

-- the claim holds where all states were judged, and are good
abbrev pub IfAll : Explored → Type 0 → Type 0
IfAll (known.All states moments) claim = claim
IfAll (known.Found stop requests) claim = Unit {0}
IfAll (known.NoWayOut requests) claim = Unit {0}
IfAll known.TooMany claim = Unit {0}

-- the claim holds of the requests that lead to a state without a way out, if one was found
abbrev pub IfNoWayOut : Explored → (List ℕ → Type 0) → Type 0
IfNoWayOut (known.All states moments) claim = Unit {0}
IfNoWayOut (known.Found stop requests) claim = Unit {0}
IfNoWayOut (known.NoWayOut requests) claim = claim requests.items
IfNoWayOut known.TooMany claim = Unit {0}

-- all states were judged, and are good
abbrev pub IsAll : Explored → Type 0
IsAll explored = (states : ℕ) × (moments : ℕ) × (explored ≡ known.All states moments)

-- the requests that lead to what was found, if something was, are of so many harts
abbrev pub LeadByHarts : ℕ → Explored → Type 0
LeadByHarts harts (known.All states moments) = Unit {0}
LeadByHarts harts (known.Found stop requests) = AreOfHarts harts requests.items
LeadByHarts harts (known.NoWayOut requests) = AreOfHarts harts requests.items
LeadByHarts harts known.TooMany = Unit {0}

-- the search goes no further from a state to which such requests lead
abbrev pub IsFound : ℕ → Explored → Type 0
IsFound harts explored = (stop : Stop) × (requests : Vec ℕ) × (explored ≡ known.Found stop requests) × AreOfHarts harts requests.items

-- all states were judged, or there are too many
abbrev pub IsFinal : Explored → Type 0
IsFinal (known.All states moments) = Unit {0}
IsFinal (known.Found stop requests) = ⊥
IsFinal (known.NoWayOut requests) = ⊥
IsFinal known.TooMany = Unit {0}

-- Lines may be claimed where any hart may always go, and images are judged without a look at what loads find; else nothing is claimed.
abbrev pub MayReduce : (List Event → ℕ → Type 0) → Type 0 → List ClaimedLine → Type 0
MayReduce allows ignored claims = (claims ≡ []) ⊎ (AnyMayGo allows × ignored)

-- a search asks for ways out where that is asked for, and only where any hart may always go
pub record IsAsked (demanded : Type 0) (allows : List Event → ℕ → Type 0) (asked : Bool) : Type 0 where
  pub asks : demanded → asked ≡ true
  pub free : asked ≡ true → AnyMayGo allows
