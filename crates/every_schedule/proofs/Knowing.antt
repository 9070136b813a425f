-- Right answers that are known by a precedence.
use Rattle.std.proofs.Common.{◌≡◌, Bool, true, false, Option, Some, cond, sym, ◌∙◌, refl, subst}
use Rattle.std.specs.Prelude.{List, IfSome}
use Rattle.routine_judge.proofs.Equal.{entries_told}
use Rattle.routine_judge.specs.Order.{AreOperations, Begun, operations_in}
use Rattle.routine_judge.specs.declared.order.precedence.Precedence.{Precedence}
use Rattle.routine_judge.specs.declared.order.sequential_runs.SequentialRun.{SequentialRun}
use Rattle.routine_judge.specs.declared.right.RightAnswers.{RightAnswers}
use Rattle.every_schedule.specs.KnownAnswers.{AreKnown, AreRight, answers_of, are_same}
use Rattle.every_schedule.specs.declared.known_answers.KnownAnswers.{KnownAnswers}

-- those of one are those of its equals
right_of_equals : (notes : List SequentialRun) (key one other : Precedence) (right : RightAnswers) → are_same key one ≡ true
    → are_same key other ≡ true → AreRight notes one right → AreRight notes other right
right_of_equals notes key one other right is_one is_other rights view events all ordered =
    let ops : operations_in other ≡ operations_in one =
    sym (entries_told key.entries.items other.entries.items is_other) ∙ entries_told key.entries.items one.entries.items is_one in
    rights view events all (subst (λ (these : List Begun). AreOperations events these) ops ordered)

known_by : (notes : List SequentialRun) (key one other : Precedence) (right : RightAnswers) (before : Option RightAnswers) (test : Bool)
    → are_same key other ≡ test → are_same key one ≡ true → AreRight notes one right → IfSome before (AreRight notes other)
    → IfSome (cond test (Some right) before) (AreRight notes other)
known_by notes key one other right before true is is_one rights known = right_of_equals notes key one other right is_one is rights
known_by notes key one other right before false is is_one rights known = known

-- the answers of one more precedence are noted by a copy of it
abbrev pub AreNotedBy : KnownAnswers → KnownAnswers → Precedence → RightAnswers → Type 0
AreNotedBy old new key right = (other : Precedence) → answers_of new other ≡ cond (are_same key other) (Some right) (answers_of old other)

pub known_more : (notes : List SequentialRun) (old new : KnownAnswers) (key one : Precedence) (right : RightAnswers) → AreNotedBy old new key right
    → are_same key one ≡ true → AreRight notes one right → AreKnown notes old → AreKnown notes new
known_more notes old new key one right is is_one rights known other =
    subst (λ (found : Option RightAnswers). IfSome found (AreRight notes other)) (sym (is other))
    (known_by notes key one other right (answers_of old other) (are_same key other) refl is_one rights (known other))

-- what is found in the map
pub right_found : (notes : List SequentialRun) (known : KnownAnswers) (precedence : Precedence) (right : RightAnswers)
    → answers_of known precedence ≡ Some right → AreKnown notes known → AreRight notes precedence right
right_found notes known precedence right found all = subst (λ (found : Option RightAnswers). IfSome found (AreRight notes precedence)) found (all precedence)
