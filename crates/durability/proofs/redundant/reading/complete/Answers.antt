use Rattle.std.proofs.Common.{◌≡◌, ℕ, Bool, false, length, All, arith, subst, sym}
use Rattle.store_trace.specs.TraceView.{NamesLine}
use Rattle.durability.proofs.Completed.{completed_none, lines_completed, nothing_rises}
use Rattle.durability.specs.Completing.{AreCompleted}
use Rattle.durability.proofs.redundant.reading.complete.Goals as goal

pub loop-place-init : goal.loop-place-init
loop-place-init c = record {
  completed = completed_none c.args.events.now c.args.at c.args.hart c.args.since c.args.lines.now c.args.told.now c.requires.fence
      c.requires.hart c.requires.since c.requires.lines c.requires.told;
}

pub loop-place-preserved : goal.loop-place-preserved
loop-place-preserved c = record { completed = c.complete_at-rises.ensures c.args.at c.loop-place-test.true c.loop-place.invariant.completed }

pub returns-then-rises : goal.returns-then-rises
returns-then-rises c =
    let events = c.args.events.now in
    let end : c.loop-place.place ≡ c.args.at = omega arith in
    let all : AreCompleted events c.args.at c.args.hart c.args.at c.loop-place.lines c.loop-place.told c.loop-place.rises =
    subst (λ (n : ℕ). AreCompleted events c.args.at c.args.hart n c.loop-place.lines c.loop-place.told c.loop-place.rises) end c.loop-place.invariant.completed in
    record {
      lines = lines_completed events c.args.at c.args.hart c.loop-place.lines c.loop-place.told c.loop-place.rises c.requires.hart all;
      told = all.before;
      fence = all.rising c.if-rises.true;
    }

pub returns-else-rises : goal.returns-else-rises
returns-else-rises c =
    let events = c.args.events.now in
    let end : c.loop-place.place ≡ c.args.at = omega arith in
    let reached : AreCompleted events c.args.at c.args.hart c.args.at c.loop-place.lines c.loop-place.told c.loop-place.rises =
    subst (λ (n : ℕ). AreCompleted events c.args.at c.args.hart n c.loop-place.lines c.loop-place.told c.loop-place.rises) end c.loop-place.invariant.completed in
    let all : AreCompleted events c.args.at c.args.hart c.args.at c.loop-place.lines c.loop-place.told false =
    subst (λ (b : Bool). AreCompleted events c.args.at c.args.hart c.args.at c.loop-place.lines c.loop-place.told b) c.if-rises.false reached in
    let size : length c.args.lines.now ≡ length c.loop-place.lines = sym c.loop-place.auto.lines in
    let named : All (NamesLine (length c.loop-place.lines)) events =
    subst (λ (n : ℕ). All (NamesLine n) events) size c.requires.named in
    record {
      lines = lines_completed events c.args.at c.args.hart c.loop-place.lines c.loop-place.told false c.requires.hart all;
      told = all.before;
      fence = nothing_rises events c.args.at c.args.hart c.loop-place.lines c.loop-place.told c.requires.hart (omega arith) named all;
    }
