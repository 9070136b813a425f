-- Right answers by the precedence behind which they are right.
use Rattle.std.specs.Cmp.Lexicographic.{pointwise}
use Rattle.std.specs.HashMap.{get}
use Rattle.std.specs.Prelude.{Bool, List, Option, IfSome, IsSome}
use Rattle.routine_judge.proofs.Equal.{same_entry}
use Rattle.routine_judge.specs.Gathered.{AreRightAfter}
use Rattle.routine_judge.specs.Order.{AreOrdered}
use Rattle.routine_judge.specs.SequentialRuns.{AreSequentialRuns}
use Rattle.routine_judge.specs.Views.{ProgramView}
use Rattle.routine_judge.specs.declared.order.precedence.Precedence.{Precedence}
use Rattle.routine_judge.specs.declared.order.sequential_runs.SequentialRun.{SequentialRun}
use Rattle.routine_judge.specs.declared.right.RightAnswers.{RightAnswers}
use Rattle.store_trace.specs.declared.event.Event.{Event}
use Rattle.every_schedule.specs.declared.known_answers.KnownAnswers.{KnownAnswers}

-- these are the right answers behind all events of a precedence, where these are the sequential runs
abbrev pub AreRight : List SequentialRun → Precedence → RightAnswers → Type 0
AreRight notes precedence right =
    (view : ProgramView) (events : List Event) → AreSequentialRuns view notes → AreOrdered events precedence → AreRightAfter view events right

-- both have the same entries
abbrev pub are_same : Precedence → Precedence → Bool
are_same one other = pointwise same_entry one.entries.items other.entries.items

-- the answers that are noted of a precedence
abbrev pub answers_of : KnownAnswers → Precedence → Option RightAnswers
answers_of known precedence = get are_same known.right precedence

-- what is noted of each precedence is right behind it
abbrev pub AreKnown : List SequentialRun → KnownAnswers → Type 0
AreKnown notes known = (precedence : Precedence) → IfSome (answers_of known precedence) (AreRight notes precedence)

abbrev pub IsNoted : KnownAnswers → Precedence → Type 0
IsNoted known precedence = IsSome (answers_of known precedence)
