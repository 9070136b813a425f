use Rattle.std.proofs.Common.{List, ◌≤◌, subst, sym}
use Rattle.std.specs.Prelude.{All}
use Rattle.durability.proofs.MendLists.{kept_are_made, lost_are_caused}
use Rattle.durability.specs.Mends.{IsCaused}
use Rattle.durability.specs.declared.cut.Kept.{Kept}
use Rattle.durability.specs.declared.cut.Lost.{Lost}
use Rattle.durability.proofs.cut.tell_cut.Goals as goal

pub mends_of-requires-clause-lost : goal.mends_of-requires-clause-lost
mends_of-requires-clause-lost c =
    subst (λ (lost : List Lost). All (IsCaused c.events-events.result.now c.args.moment) lost) (sym c.deref-3.ensures.value)
    (lost_are_caused c.events-events.result.now c.args.moment c.args.cut.now c.in_ok-lost.lost.items c.in_ok-lost.ensures)

pub mends_of-requires-clause-kept : goal.mends_of-requires-clause-kept
mends_of-requires-clause-kept c =
    subst (λ (kept : List Kept). All (λ one. one.store ≤ c.args.moment) kept) (sym c.deref-4.ensures.value)
    (kept_are_made c.events-events.result.now c.args.moment c.args.cut.now c.in_ok-kept.kept.items c.in_ok-kept.ensures)
