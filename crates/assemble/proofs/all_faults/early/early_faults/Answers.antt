use Rattle.std.proofs.Common.{arith, subst, sym}
use Rattle.assemble.specs.Positions.{IsWithin}
use Rattle.assemble.proofs.AllFaults.{early_end, early_full, early_start, early_step, still_few}
use Rattle.assemble.proofs.all_faults.early.early_faults.Goals as goal

pub loop-line-init : goal.loop-line-init
loop-line-init c = record {
  passed = early_start _ _ _ _ c.start-position.ensures c.new-labels.ensures c.new-found.ensures.items;
  within = subst IsWithin (sym c.start-position.ensures) (record { text_fits = omega arith; data_fits = omega arith });
  few = rw c.new-found.ensures.items (omega arith);
}

pub loop-line-preserved : goal.loop-line-preserved
loop-line-preserved c = record {
  passed = early_step _ _ _ _ _ _ _ _ _ _ _ _ c.requires c.in-Some.ensures.0 c.in-Some.ensures.1 c.in_ok-code.ensures.code c.in_ok-code.ensures.next c.in_ok-push_fault.ensures c.loop-line.invariant.passed;
  within = c.in_ok-code.ensures.within;
  few = rw c.in_ok-push_fault.ensures (still_few _ _ _ _ c.loop-line.invariant.few (λ full. omega (arith, c.len.ensures, c.if-len-most.false, c.loop-line.found.ok.0, full)));
}

pub returns-then-len-most : goal.returns-then-len-most
returns-then-len-most c =
    early_full _ _ _ _ _ _ _ (omega (arith, c.len.ensures, c.if-len-most.true, c.loop-line.found.ok.0)) c.loop-line.invariant.passed

pub returns : goal.returns
returns c = early_end _ _ _ _ _ _ _ c.loop-line.invariant.few c.in_default.ensures c.loop-line.invariant.passed
