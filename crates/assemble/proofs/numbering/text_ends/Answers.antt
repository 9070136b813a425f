use Rattle.std.proofs.Common.{arith, subst, sym}
use Rattle.assemble.specs.Positions.{IsWithin}
use Rattle.assemble.proofs.Numbers.{numbering_start, numbering_step, numbering_fault, numbering_end, numbering_few}
use Rattle.assemble.proofs.numbering.text_ends.Goals as goal

pub loop-line-init : goal.loop-line-init
loop-line-init c = record {
  numbering = numbering_start _ _ _ _ c.start-position.ensures c.new-labels.ensures c.new-ends.ensures.items;
  within = subst IsWithin (sym c.start-position.ensures) (record { text_fits = omega arith; data_fits = omega arith });
}

pub returns-in-Err-clause-err : goal.returns-in-Err-clause-err
returns-in-Err-clause-err c = λ other. numbering_fault _ _ _ _ _ _ _ _ _ c.in-Some.ensures.0 (c.in-Err.ensures.err other) c.loop-line.invariant.numbering

pub loop-line-preserved : goal.loop-line-preserved
loop-line-preserved c = record {
  numbering = numbering_step _ _ _ _ _ _ _ _ _ _ _ c.requires c.in-Some.ensures.0 c.in-Some.ensures.1 c.in_default-place_line.ensures.ok c.in_default-place_line.ensures.none c.in_default-push_end.ensures.ok c.loop-line.invariant.numbering;
  within = c.in_default-place_line.ensures.within;
}

pub returns-clause-ok : goal.returns-clause-ok
returns-clause-ok c = numbering_end _ _ _ _ _ _ c.in_default.ensures c.loop-line.invariant.numbering

pub returns-clause-few : goal.returns-clause-few
returns-clause-few c = numbering_few _ _ _ _ _ _ c.requires c.loop-line.invariant.numbering
