use Rattle.std.proofs.Common.{◌∷◌, sym, subst, IsPermutation, List}
use Rattle.std.proofs.lemmas.List.Sorted.{IsPermutation-insert}
use Rattle.image_check.specs.Growth.{begun_on}
use Rattle.image_check.specs.declared.legal.UnderWay.{UnderWay}
use Rattle.image_check.proofs.Rising.{placed}
use Rattle.image_check.proofs.legal.Outcomes.begin.Goals as goal

pub returns-clause-under_way : goal.returns-clause-under_way
returns-clause-under_way c =
    subst (λ (us : List UnderWay). IsPermutation (begun_on c.args.hart c.args.op ∷ c.args.self.now.under_way.items) us) (sym c.in_ok-insert.ensures.items)
    (IsPermutation-insert c.args.self.now.under_way.items c.place_of-place.result (begun_on c.args.hart c.args.op))

pub returns-clause-in_order : goal.returns-clause-in_order
returns-clause-in_order c = λ h fresh.
    placed (λ (u : UnderWay). u.op) c.args.self.now.under_way.items _ c.place_of-place.result (begun_on c.args.hart c.args.op)
    c.place_of-place.ensures.bound (c.place_of-place.ensures.place h) c.in_ok-insert.ensures.items h fresh
