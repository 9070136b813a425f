use Rattle.std.specs.Prelude.{◌≡◌, length}
use Rattle.schedule_states.specs.Media.{AreOnMedium}
use Rattle.schedule_states.specs.Numbers.{AreKept}
use Rattle.schedule_states.proofs.medium_lists.MediumLists.number_up_to.Given as goal

abbrev pub invariant-loop-next : goal.invariant-loop-next
invariant-loop-next l = record {
  count : length l.self.numbers ≡ l.next;
  known : AreOnMedium l.parts l.self;
  kept : AreKept l.initial.self.lists l.self.lists;
}
