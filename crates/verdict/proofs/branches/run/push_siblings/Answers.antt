use Rattle.std.proofs.Common.{◌≡◌, ◌∙◌, ◌+◌, ◌-◌, ◌++◌, ◌==◌, if◌then◌else◌, ℕ, Bool, List, slice_index, subst, ap, arith, sym}
use Rattle.verdict.specs.Numbers.{number_over}
use Rattle.verdict.specs.Queue.{is_new_behind, siblings}
use Rattle.verdict.proofs.BranchesBranching.{both_true, first_false, last_false, sibling_passed, sibling_pushed, siblings_end}
use Rattle.verdict.proofs.branches.run.push_siblings.Goals as goal
use Rattle.verdict.proofs.branches.run.push_siblings.Goals.{then-is_alike+then-is_first+in_ok-push, else-is_alike, else-is_alike-via-then-is_alike+else-is_first, else-is_alike-via-else-is_alike}

pub loop-below-preserved : goal.loop-below-preserved
loop-below-preserved g c =
    let r = g.R.Recovery in
    let s = c.args.recovery.now in
    let i = c.loop-below.invariant in
    let own : ℕ = c.number_of-own.result in
    let new : ℕ → Bool = is_new_behind (r.alike s) (r.low s) c.args.question c.args.before own in (
      let h = i.0 in omega (arith, h),
      let h = c.loop-below-test.true in omega (arith, h),
      elim c.if-is_alike.branch [
        | then-is_alike+then-is_first+in_ok-push w ↦
            ap (λ v. v.items) w.found-is ∙ w.in_ok-push.ensures.items
            ∙ sibling_pushed new c.args.cut.place c.args.decided c.args.question.line own c.loop-below.below c.args.found.now.items c.loop-below.found.items
            i.0 (both_true (sym c.is_alike.ensures ∙ w.if-is_alike.true) (sym w.is_first.ensures ∙ w.if-is_first.true)) i.2
        | else-is_alike w ↦ elim w.else-is_alike.branch [
          | else-is_alike-via-then-is_alike+else-is_first w' ↦
              ap (λ v. v.items) w.found-is
              ∙ sibling_passed new c.args.cut.place c.args.decided c.args.question.line own c.loop-below.below c.args.found.now.items c.loop-below.found.items
              i.0 (last_false _ (sym w'.is_first.ensures ∙ w'.if-is_first.false)) i.2
          | else-is_alike-via-else-is_alike w' ↦
              ap (λ v. v.items) w.found-is
              ∙ sibling_passed new c.args.cut.place c.args.decided c.args.question.line own c.loop-below.below c.args.found.now.items c.loop-below.found.items
              i.0 (first_false _ (sym c.is_alike.ensures ∙ w'.if-is_alike.false)) i.2
        ]
      ],
    )

pub returns : goal.returns
returns g c =
    let r = g.R.Recovery in
    let s = c.args.recovery.now in
    let line : ℕ = c.args.question.line in
    let numbers : List ℕ = c.args.cut.numbers.now in
    let own : c.number_of-own.result ≡ number_over (r.low s) numbers line =
    c.number_of-own.ensures ∙ ap (λ (floor : ℕ). if slice_index numbers line == 0 then floor else slice_index numbers line) c.floor.ensures in
    let end : c.loop-below.below ≡ r.high s line =
    (let a = c.loop-below.invariant.1 in let b = c.loop-below-test.false in let e = c.stores-below-end.ensures in omega (arith, a, b, e)) in
    siblings_end (is_new_behind (r.alike s) (r.low s) c.args.question c.args.before (number_over (r.low s) numbers line)) c.args.cut.place c.args.decided line
    c.number_of-own.result c.loop-below.below (number_over (r.low s) numbers line) (r.high s line) c.args.found.now.items c.loop-below.found.items own end
    (subst (λ (n : ℕ). c.loop-below.found.items ≡ c.args.found.now.items ++ siblings (is_new_behind (r.alike s) (r.low s) c.args.question c.args.before n) c.args.cut.place c.args.decided line
    (c.number_of-own.result + 1) (c.loop-below.below - c.number_of-own.result)) own c.loop-below.invariant.2)
