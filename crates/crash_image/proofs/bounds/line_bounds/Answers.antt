use Rattle.std.proofs.Common.{◌≡◌, ◌∙◌, ◌-◌, ◌++◌, List, ap, length, take, drop, arith}
use Rattle.store_trace.specs.History.{history}
use Rattle.crash_image.specs.Bounds.{stored_bounds}
use Rattle.crash_image.specs.FloorScan.{bounds_from}
use Rattle.crash_image.specs.declared.bounds.Tally.{Tally}
use Rattle.crash_image.proofs.Slices.{written}
use Rattle.crash_image.proofs.Stored.{below_history}
use Rattle.crash_image.proofs.Tallying.{one_back, last_tallies}
use Rattle.crash_image.proofs.bounds.line_bounds.Goals as goal

pub loop-at-preserved : goal.loop-at-preserved
loop-at-preserved c =
    let same : take c.loop-at.tallies.len (c.scan_back_over.new.tallies ++ drop (length c.scan_back_over.new.tallies) c.loop-at.tallies.items) ≡ c.scan_back_over.new.tallies =
    written c.loop-at.tallies.items c.scan_back_over.new.tallies c.loop-at.tallies.len c.loop-at.tallies.ok.0
    (c.scan_back_over.auto.tallies ∙ ap (λ (ts : List Tally). length ts) c.deref_mut.ensures.value) in
    rw same (
      c.scan_back_over.ensures (history c.args.events.now) (history (take (c.loop-at.at - 1) c.args.events.now)) (c.loop-at.at - 1)
          (rw c.deref_mut.ensures.value (one_back _ _ _ _ _ _ c.loop-at-test.true c.loop-at.auto.at c.loop-at.invariant.0)),
      c.scan_back_over.auto.tallies ∙ ap (λ (ts : List Tally). length ts) c.deref_mut.ensures.value ∙ c.loop-at.invariant.1,
    )

pub returns : goal.returns
returns c =
    let none : c.loop-at.at ≡ 0 = omega arith in
    let all : bounds_from 0 c.loop-at.tallies.items ≡ stored_bounds (history c.args.events.now) =
    last_tallies _ _ _ _ c.args.lines c.loop-at.invariant.1 (below_history c.args.lines c.args.events.now c.requires.named) (rw none at c.loop-at.invariant.0) in
    rw (c.deref.ensures.value, all) at c.stored_lines.ensures
