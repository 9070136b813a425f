use Rattle.std.proofs.Common.{◌∙◌, ap, arith, refl, subst, sym}
use Rattle.assemble.specs.Faults.{late_code}
use Rattle.assemble.specs.SourceLines.{Values}
use Rattle.assemble.specs.Positions.{IsWithin}
use Rattle.assemble.proofs.AllFaults.{late_end, late_full, late_start, late_step, still_few}
use Rattle.assemble.proofs.SecondPass.{labels_near}
use Rattle.assemble.proofs.all_faults.late.late_faults.Goals as goal

pub loop-line-init : goal.loop-line-init
loop-line-init c = record {
  passed = late_start _ _ _ c.start-position.ensures c.new-found.ensures.items;
  within = subst IsWithin (sym c.start-position.ensures) (record { text_fits = omega arith; data_fits = omega arith });
  few = rw c.new-found.ensures.items (omega arith);
}

pub pass_line-requires-clause-labels_near : goal.pass_line-requires-clause-labels_near
pass_line-requires-clause-labels_near c = labels_near _ _ _ c.requires.labels_are refl c.requires.none

pub loop-line-preserved : goal.loop-line-preserved
loop-line-preserved c = record {
  passed = late_step _ _ _ _ _ _ _ _ _ _ c.in-Some.ensures.0 c.in-Some.ensures.1 (λ earlier placed. ap (λ (values : Values). late_code values earlier c.in-Some.line.now) (sym c.requires.labels_are) ∙ c.in_ok-code.ensures.code earlier placed)
      c.in_ok-code.ensures.next c.in_ok-push_fault.ensures c.loop-line.invariant.passed;
  within = c.in_ok-code.ensures.within;
  few = rw c.in_ok-push_fault.ensures (still_few _ _ _ _ c.loop-line.invariant.few (λ full. omega (arith, c.len.ensures, c.if-len-most.false, c.loop-line.found.ok.0, full)));
}

pub returns-then-len-most : goal.returns-then-len-most
returns-then-len-most c =
    late_full _ _ _ _ _ _ (omega (arith, c.len.ensures, c.if-len-most.true, c.loop-line.found.ok.0)) c.loop-line.invariant.passed

pub returns : goal.returns
returns c = late_end _ _ _ _ _ _ c.loop-line.invariant.few c.in_default.ensures c.loop-line.invariant.passed
