-- Sequential runs, and which of them fit what a run has begun and ended.
-- Source: durable linearizability (Izraelevitz, Mendes, Scott, DISC 2016): after a crash the state is that of a sequential run of all
-- operations that had ended and some that were pending, in an order that keeps that of operations which don't overlap.
use Rattle.std.specs.Prelude.{◌≡◌, ◌↔◌, ℕ, ◌==◌, Bool, List, ◌∷◌, ◌++◌, length, map, Option, Some, None, option_to_list, slice_get, take, IsTrue}
use Rattle.std.specs.List.{Contains, filter_map, list_any}
use Rattle.machine.specs.Replies.{trace_in}
use Rattle.machine.specs.Run.{Config, RunsTo}
use Rattle.machine.specs.declared.schedule.items.Step.{Step}
use Rattle.machine.specs.declared.schedule.items.Step.TheVariants.{Hart}
use Rattle.store_trace.specs.Marks.{begun, ended}
use Rattle.routine_judge.specs.MarkFaults.{AreSound}
use Rattle.routine_judge.specs.Operations.{IsPendingBy}
use Rattle.routine_judge.specs.Order.{Begun, EndsBefore}
use Rattle.routine_judge.specs.declared.history.overlap.Overlap.TheVariants.{Never}
use Rattle.routine_judge.specs.declared.order.operation.Operation.{Operation}
use Rattle.routine_judge.specs.declared.order.sequential.SequentialState.{SequentialState}
use Rattle.routine_judge.specs.declared.order.word.Word.{Word}
use Rattle.store_trace.specs.declared.event.Event.{Event}
use Rattle.store_trace.specs.declared.event.Event.TheVariants.{Store, Clean, Fence, Begin, End}

-- each step that is made while an operation is pending is of that operation's hart
abbrev pub IsSequential : Config → List Step → Type 0
IsSequential start steps = (before after : List Step) (hart : ℕ) (config : Config) → steps ≡ before ++ Hart hart ∷ after → RunsTo start before config →
    (beginner op : ℕ) → IsPendingBy (trace_in config.common) beginner op → beginner ≡ hart

-- the sequential events w fit the events p: what w has begun p has begun, by the same hart; what p has ended w has ended; and where x
-- had ended before y began in p, it had in w too
pub record Fits (w p : List Event) : Type 0 where
  pub begins : (hart op : ℕ) → Contains w (Begin hart op) → Contains p (Begin hart op)
  pub ends : (op : ℕ) → Contains (ended p) op → Contains (ended w) op
  pub orders : (x y : ℕ) → EndsBefore p x y → Contains (begun w) y → EndsBefore w x y

abbrev pub operation_of : ℕ → ℕ → Operation
operation_of hart op = record { op = op; hart = hart }

-- the operation that begins in this event, with its hart
abbrev pub beginning : Event → Option Operation
beginning (Store hart line offset width value) = None
beginning (Clean hart line) = None
beginning (Fence hart) = None
beginning (Begin hart op) = Some (operation_of hart op)
beginning (End hart op) = None

-- the operations that begin in these events, in the order of their Begins
abbrev pub beginnings : List Event → List Operation
beginnings events = filter_map beginning events

-- the word of sequential events: the operations that they begin, in order. Their marks are sound, so each has ended before the next
-- begins, and none begins twice.
pub record IsWordOf (events : List Event) (word : Word) : Type 0 where
  pub sound : AreSound Never events (length events)
  pub begins : beginnings events ≡ word.operations.items

-- what sequential events have done: these operations have ended, and this one is pending, if one is
pub record IsStateOf (events : List Event) (state : SequentialState) : Type 0 where
  pub sound : AreSound Never events (length events)
  pub begins : beginnings events ≡ state.done.operations.items ++ option_to_list state.pending
  pub pends : (hart op : ℕ) → IsPendingBy events hart op ↔ (state.pending ≡ Some (operation_of hart op))

-- the operation is in the word
abbrev pub has : List Operation → ℕ → Bool
has word op = list_any (λ operation. operation.op == op) word

-- the next operation of a word may stand behind those done: it has begun, by this hart, and those that had ended before it are done
pub record MayFollow (operations : List Begun) (done : List Operation) (next : Operation) : Type 0 where
  pub operation : Begun
  pub among : Contains operations operation
  pub op_is : operation.op ≡ next.op
  pub hart_is : operation.hart ≡ next.hart
  pub earlier_done : (x : ℕ) → Contains operation.earlier x → Contains (map (λ o. o.op) done) x

-- each operation of the word may stand behind those in front of it
abbrev pub MayFollowAll : List Begun → List Operation → Type 0
MayFollowAll operations word = (k : ℕ) (next : Operation) → slice_get word k ≡ Some next → MayFollow operations (take k word) next

-- the word has each operation that has ended
abbrev pub HasAllEnded : List Begun → List Operation → Type 0
HasAllEnded operations word =
    (operation : Begun) → Contains operations operation → IsTrue operation.has_ended → Contains (map (λ o. o.op) word) operation.op
