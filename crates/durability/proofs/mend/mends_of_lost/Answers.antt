use Rattle.std.proofs.Common.{◌≡◌, ◌<◌, List, [], ◌∷◌, ◌++◌, length, get_or, take, rules, subst, sym}
use Rattle.std.specs.Prelude.{Bool, Contains, IsTrue}
use Rattle.std.proofs.lemmas.List.{take_more}
use Rattle.durability.proofs.MendLists.{false_is, mend_again, mend_new, true_is}
use Rattle.durability.specs.Mends.{AreForLost}
use Rattle.durability.specs.declared.cause.Cause.TheVariants.{NeverCleaned}
use Rattle.durability.specs.declared.cut.Lost.{Lost}
use Rattle.durability.specs.declared.mend.Mend.{Mend}
use Rattle.durability.proofs.mend.mends_of_lost.Goals as goal
use Rattle.durability.proofs.mend.mends_of_lost.Goals.{then-not-has+in_ok-push, else-not-has}

pub loop-one-preserved : goal.loop-one-preserved
loop-one-preserved c =
    let none : Lost = record { line = 0; store = 0; cause = NeverCleaned } in
    let i = c.loop-one.one-index in
    let before = take c.loop-one.one-index c.args.lost.now in
    let one = get_or c.args.lost.now c.loop-one.one-index none in
    let old = c.loop-one.mends.items in
    let mend = c.mend_of-mend.result in
    elim c.if-not-has.branch [
      | then-not-has+in_ok-push w ↦
          let items : c.if-not-has.mends.items ≡ c.loop-one.mends.items ++ c.mend_of-mend.result ∷ [] = rw w.mends-is (search rules) in
          let new : Contains c.loop-one.mends.items c.mend_of-mend.result → ⊥ = λ has.
          false_is (subst (λ (b : Bool). IsTrue b) w.if-not-has.true
          (c.has.ensures.1 (subst (λ (xs : List Mend). Contains xs c.mend_of-mend.result) (sym c.deref.ensures.value) has))) in
          subst (λ (xs : List Lost). AreForLost c.args.events.now c.args.moment xs c.args.kept.now c.if-not-has.mends.items)
          (sym (take_more c.args.lost.now c.loop-one.one-index none c.loop-one-test.true))
          (subst (λ (ys : List Mend). AreForLost c.args.events.now c.args.moment
          (take c.loop-one.one-index c.args.lost.now ++ get_or c.args.lost.now c.loop-one.one-index none ∷ []) c.args.kept.now ys) (sym items)
          (mend_new c.args.events.now c.args.moment c.args.kept.now before one old mend c.mend_of-mend.ensures new c.loop-one.invariant))
      | else-not-has w ↦
          let items : c.if-not-has.mends.items ≡ c.loop-one.mends.items = rw w.mends-is (search rules) in
          let has : Contains c.loop-one.mends.items c.mend_of-mend.result =
          subst (λ (xs : List Mend). Contains xs c.mend_of-mend.result) c.deref.ensures.value
          (c.has.ensures.0 (subst (λ (b : Bool). IsTrue b) (sym w.if-not-has.false) true_is)) in
          subst (λ (xs : List Lost). AreForLost c.args.events.now c.args.moment xs c.args.kept.now c.if-not-has.mends.items)
          (sym (take_more c.args.lost.now c.loop-one.one-index none c.loop-one-test.true))
          (subst (λ (ys : List Mend). AreForLost c.args.events.now c.args.moment
          (take c.loop-one.one-index c.args.lost.now ++ get_or c.args.lost.now c.loop-one.one-index none ∷ []) c.args.kept.now ys) (sym items)
          (mend_again c.args.events.now c.args.moment c.args.kept.now before one old mend c.mend_of-mend.ensures has c.loop-one.invariant))
    ]
