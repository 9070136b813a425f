use Rattle.std.proofs.Common.{◌+◌, ◌<◌, ◌≡◌, ℕ, length, arith, subst, sym}
use Rattle.std.specs.Ordering.{nat_cmp, ord_max}
use Rattle.std.specs.Prelude.{max}
use Rattle.std.proofs.lemmas.Grind.{common_steps}
use Rattle.routine_judge.proofs.Lasting.{IsFreeUpTo, free_all, free_none, passed_ended, passed_other, taken_in}
use Rattle.routine_judge.proofs.Telling.{sizes}
use Rattle.routine_judge.proofs.history.moments.Windows.free_from.Goals as goal
use Rattle.routine_judge.proofs.history.moments.Windows.free_from.Goals.{then-begins_on+then-index-moment, else-begins_on, else-begins_on-via-then-begins_on+else-index-moment, else-begins_on-via-else-begins_on}

max_is : (a b n : ℕ) → n ≡ ord_max nat_cmp a b → n ≡ max a b
max_is a b n e = grind (arith, common_steps, e)

pub loop-at-init : goal.loop-at-init
loop-at-init c = free_none c.args.events.now c.args.self.now.until.items c.args.moment c.args.hart

pub loop-at-preserved : goal.loop-at-preserved
loop-at-preserved c =
    let events = c.args.events.now in
    let numbers = c.args.self.now.until.items in
    let m = c.args.moment in
    let hart = c.args.hart in
    let at = c.loop-at.at in
    let latest = c.loop-at.latest in
    let there : at < length events = omega (arith, c.loop-at-test.true, c.requires.within) in
    let inside : at < length numbers = omega (arith, there, sizes events numbers c.requires.windows) in
    elim c.if-begins_on.branch [
      | then-begins_on+then-index-moment w ↦
          subst (λ n. IsFreeUpTo events numbers m hart (at + 1) n) (sym w.latest-is)
          (taken_in events numbers m hart at _ latest w.max-latest.result w.index.result.now w.index-then-index-moment.result.now c.begins_on.result there inside
          c.loop-at.invariant c.begins_on.ensures w.if-begins_on.true w.index.ensures w.if-index-moment.true w.index-then-index-moment.ensures (max_is latest w.index-then-index-moment.result.now w.max-latest.result w.max-latest.ensures))
      | else-begins_on w ↦ subst (λ n. IsFreeUpTo events numbers m hart (at + 1) n) (sym w.latest-is) (elim w.else-begins_on.branch [
        | else-begins_on-via-then-begins_on+else-index-moment v ↦
            passed_ended events numbers m hart at latest v.index.result.now inside c.loop-at.invariant v.index.ensures v.if-index-moment.false
        | else-begins_on-via-else-begins_on v ↦
            passed_other events numbers m hart at _ latest c.begins_on.result there c.loop-at.invariant c.begins_on.ensures v.if-begins_on.false
      ])
    ]

pub returns : goal.returns
returns c =
    let events = c.args.events.now in
    let numbers = c.args.self.now.until.items in
    let ended : c.loop-at.at ≡ c.args.moment = omega arith in
    free_all events numbers c.args.moment c.args.hart c.loop-at.latest c.requires.windows c.requires.within
    (subst (λ n. IsFreeUpTo events numbers c.args.moment c.args.hart n c.loop-at.latest) ended c.loop-at.invariant)
