use Rattle.std.proofs.Common.{arith, subst, sym}
use Rattle.assemble.specs.Positions.{IsWithin}
use Rattle.assemble.proofs.FirstPass.{placing_start, placing_step, placing_fault, placing_end}
use Rattle.assemble.proofs.placing.labels_of.Goals as goal

pub loop-line-init : goal.loop-line-init
loop-line-init c = record {
  placing = placing_start _ _ _ c.start-position.ensures c.new-labels.ensures;
  within = subst IsWithin (sym c.start-position.ensures) (record { text_fits = omega arith; data_fits = omega arith });
}

pub returns-in-Err-clause-err : goal.returns-in-Err-clause-err
returns-in-Err-clause-err c = λ other. placing_fault _ _ _ _ _ _ _ _ c.in-Some.ensures.0 (c.in-Err.ensures.err other) c.loop-line.invariant.placing

pub loop-line-preserved : goal.loop-line-preserved
loop-line-preserved c = record {
  placing = placing_step _ _ _ _ _ _ _ _ _ c.requires c.in-Some.ensures.0 c.in-Some.ensures.1 c.in_default-place_line.ensures.ok c.in_default-place_line.ensures.none c.loop-line.invariant.placing;
  within = c.in_default-place_line.ensures.within;
}

pub returns-clause-ok : goal.returns-clause-ok
returns-clause-ok c = (placing_end _ _ _ _ _ c.in_default.ensures c.loop-line.invariant.placing).0

pub returns-clause-none : goal.returns-clause-none
returns-clause-none c = (placing_end _ _ _ _ _ c.in_default.ensures c.loop-line.invariant.placing).1
