use Rattle.std.proofs.Common.{◌≡◌, [], ◌∷◌, List, Option, None, rules, subst, sym}
use Rattle.durability.proofs.MendLists.{kept_none, kept_some}
use Rattle.durability.specs.Mends.{AreForKept, IsAmong, IsLastIfAny}
use Rattle.durability.specs.declared.mend.Mend.{Mend}
use Rattle.durability.specs.declared.mend.Mend.TheVariants.{Later}
use Rattle.durability.proofs.mend.mends_of_kept.Goals as goal
use Rattle.durability.proofs.mend.mends_of_kept.Goals.{in-Some+in_ok-push, in_default}

pub returns : goal.returns
returns c = elim c.match-last_kept.branch [
  | in-Some+in_ok-push w ↦
      let items : c.match-last_kept.mends.items ≡ Later w.in-Some.store ∷ [] = rw w.mends-is (search rules) in
      subst (λ (mends : List Mend). AreForKept c.args.kept.now mends) (sym items) (kept_some c.args.kept.now w.in-Some.store w.in-Some.ensures)
  | in_default w ↦
      let items : c.match-last_kept.mends.items ≡ [] = rw w.mends-is (search rules) in
      subst (λ (mends : List Mend). AreForKept c.args.kept.now mends) (sym items) (kept_none c.args.kept.now w.in_default.ensures)
]
