-- What keeps a run from being whole, by the states of its harts at its end and by the marks among its events.
use Rattle.std.specs.Prelude.{◌≡◌, ◌⊎◌, ◌↔◌, ◌==◌, ℕ, Bool, false, List, [], ◌∷◌, ◌++◌, map, if◌then◌else◌}
use Rattle.std.specs.List.{Contains, enumerate_from, flat_map, list_any}
use Rattle.std.specs.List.Sorted.{IsStrictlyIncreasing}
use Rattle.hart.specs.declared.state.HartState.{HartState}
use Rattle.hart.specs.declared.state.Status.{Status}
use Rattle.hart.specs.declared.state.Status.TheVariants.{Running, Exited, Trapped}
use Rattle.store_trace.specs.Marks.{begun, pending}
use Rattle.plan.specs.declared.operation.Operation.{Operation}
use Rattle.store_trace.specs.declared.event.Event.{Event}
use Rattle.unfinished.specs.declared.unfinished.Unfinished.{Unfinished}
use Rattle.unfinished.specs.declared.unfinished.Unfinished.TheVariants.{Hart, Pending, NeverBegan}

-- the numbers of a plan's operations
abbrev pub numbers_of : List Operation → List ℕ
numbers_of operations = map (λ o. o.number) operations

-- the hart has exited with 0
abbrev pub is_success : Status → Bool
is_success Running = false
is_success (Exited code) = code == 0
is_success (Trapped trap) = false

-- a hart at the end of a run
abbrev pub cause_of_hart : ℕ × HartState → List Unfinished
cause_of_hart h = if is_success h.1.status then [] else Hart h.0 h.1.status h.1.pc ∷ []

-- the harts, by their number, that haven't exited with 0
abbrev pub hart_causes : List HartState → List Unfinished
hart_causes harts = flat_map cause_of_hart (enumerate_from 0 harts)

-- the operation is one of these
abbrev pub is_among : List ℕ → ℕ → Bool
is_among numbers op = list_any (λ other. other == op) numbers

-- an operation that hasn't ended: it is pending, or it never began
abbrev pub cause_among : List ℕ → ℕ → Unfinished
cause_among numbers op = if is_among numbers op then Pending op else NeverBegan op

abbrev pub cause_of : List Event → ℕ → Unfinished
cause_of events op = cause_among (begun events) op

-- a planned operation that never began
abbrev pub IsMissing : List ℕ → List Event → ℕ → Type 0
IsMissing planned events op = Contains planned op × ¬ Contains (begun events) op

-- the numbers, upwards and each once, of the operations that are pending, and of the planned ones that never began
pub record AreUnended (planned : List ℕ) (events : List Event) (numbers : List ℕ) : Type 0 where
  pub upwards : IsStrictlyIncreasing numbers
  pub which : (op : ℕ) → Contains numbers op ↔ (Contains (pending events) op ⊎ IsMissing planned events op)

-- first the harts, then the operations
pub record AreCauses (planned : List ℕ) (harts : List HartState) (events : List Event) (causes : List Unfinished) : Type 0 where
  pub numbers : List ℕ
  pub unended : AreUnended planned events numbers
  pub all : causes ≡ hart_causes harts ++ map (cause_of events) numbers
