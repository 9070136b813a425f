use Rattle.std.specs.Prelude.{◌≡◌, ℕ, length}
use Rattle.schedule_states.specs.Ways.{AreKeptMarks, IsMarked, LeadsOut, unmarked}
use Rattle.schedule_states.proofs.ways.mark_back.Given as goal

abbrev pub invariant-passes : goal.invariant-passes
invariant-passes l = record {
  count : length l.marks ≡ length l.next;
  sound : (n : ℕ) → IsMarked l.marks n → LeadsOut l.next l.initial.marks n;
  kept : AreKeptMarks l.initial.marks l.marks;
}

abbrev pub decreases-passes : goal.decreases-passes
decreases-passes l = unmarked l.marks
