use Rattle.std.proofs.Common.{ℕ, ◌<◌, ◌≤◌, Option, Some, subst, arith}
use Rattle.routine_judge.proofs.Unsettled.{any_at, fewer_next, first_at, last_at, times_allowed}
use Rattle.routine_judge.specs.Chains.{IsFirstUnsettled}
use Rattle.routine_judge.specs.CutRows.{IsEndBy, IsRowEnd, times_of}
use Rattle.routine_judge.specs.declared.cuts.outcome.RecoveryCuts.{RecoveryCuts}
use Rattle.routine_judge.specs.declared.cuts.row.RowEnd.{RowEnd}
use Rattle.routine_judge.proofs.cuts.row.CutRow.fewest.Goals as goal

pub loop-cuts-init : goal.loop-cuts-init
loop-cuts-init g c = λ k below. absurd (omega (arith, below))

pub tell-requires-clause-first : goal.tell-requires-clause-first
tell-requires-clause-first g c =
    let row = c.args.self.now in
    let n = c.loop-cuts.cuts in
    let end = c.in-Some.end in
    let is : IsRowEnd row.goes_on row.run.now (Some n) row.first row.end end =
    subst (λ (found : Option RowEnd). IsEndBy row.goes_on row.run.now (Some n) row.first row.end found) c.in-Some.is c.in_ok-found.ensures in
    let below : n < times_of c.args.asked = subst (λ (k : ℕ). n < k) c.times-cuts-end.ensures c.loop-cuts-test.true in
    first_at row.goes_on row.run.now c.args.asked row.first row.end n end (times_allowed c.args.asked n below) c.loop-cuts.invariant is

pub tell-requires-clause-long : goal.tell-requires-clause-long
tell-requires-clause-long g c =
    let row = c.args.self.now in
    let is : IsRowEnd row.goes_on row.run.now (Some c.loop-cuts.cuts) row.first row.end c.in-Some.end =
    subst (λ (found : Option RowEnd). IsEndBy row.goes_on row.run.now (Some c.loop-cuts.cuts) row.first row.end found) c.in-Some.is c.in_ok-found.ensures in
    is.long

pub loop-cuts-preserved : goal.loop-cuts-preserved
loop-cuts-preserved g c =
    let row = c.args.self.now in
    let n = c.loop-cuts.cuts in
    let here = subst (λ (found : Option RowEnd). IsEndBy row.goes_on row.run.now (Some n) row.first row.end found) c.in_default.is c.in_ok-found.ensures in
    fewer_next row.goes_on row.run.now row.first row.end n c.loop-cuts.invariant here

pub tell-requires-in-AtMost-clause-first : goal.tell-requires-in-AtMost-clause-first
tell-requires-in-AtMost-clause-first g c =
    let row = c.args.self.now in
    let past : times_of c.args.asked ≤ c.loop-cuts.cuts = subst (λ (k : ℕ). k ≤ c.loop-cuts.cuts) c.times-cuts-end.ensures c.loop-cuts-test.false in
    subst (λ (asked : RecoveryCuts). IsFirstUnsettled row.goes_on row.run.now asked row.first row.end c.in-AtMost.most c.args.last.moment) c.in-AtMost.is
    (last_at row.goes_on row.run.now c.args.asked row.first row.end c.loop-cuts.cuts c.in-AtMost.most c.args.last c.in-AtMost.is past c.loop-cuts.invariant c.requires)

pub tell-requires-in-AtMost-clause-long : goal.tell-requires-in-AtMost-clause-long
tell-requires-in-AtMost-clause-long g c = c.requires.long

pub returns-in-Any : goal.returns-in-Any
returns-in-Any g c =
    let row = c.args.self.now in
    let past : times_of c.args.asked ≤ c.loop-cuts.cuts = subst (λ (k : ℕ). k ≤ c.loop-cuts.cuts) c.times-cuts-end.ensures c.loop-cuts-test.false in
    any_at row.goes_on row.run.now c.args.asked row.first row.end c.loop-cuts.cuts c.args.last c.in-Any.is past c.loop-cuts.invariant c.requires
