use Rattle.std.proofs.Common.{refl}
use Rattle.assemble.proofs.SecondPass.{emitting_start, emitting_room, emitting_step, emitting_fault, emitting_end, emitting_limits, labels_near}
use Rattle.assemble.proofs.emission.sections_of.Goals as goal

pub loop-line-init : goal.loop-line-init
loop-line-init c = emitting_start _ _ _ c.new-emission.ensures.section c.new-emission.ensures.text c.new-emission.ensures.static_data

pub emit_line-requires : goal.emit_line-requires
emit_line-requires c = record {
  room = emitting_room _ _ _ _ _ c.requires.none c.loop-line.invariant;
  labels_near = labels_near _ _ _ c.requires.labels_are refl c.requires.none;
}

pub returns-in-Err-clause-err : goal.returns-in-Err-clause-err
returns-in-Err-clause-err c = λ other. emitting_fault _ _ _ _ _ _ _ _ _ c.requires.labels_are c.requires.none c.in-Some.ensures.0 c.in-Some.ensures.1 (c.in-Err.ensures.err other) c.loop-line.invariant

pub loop-line-preserved : goal.loop-line-preserved
loop-line-preserved c = emitting_step _ _ _ _ _ _ _ _ c.requires.none c.in-Some.ensures.0 c.in-Some.ensures.1 c.in_default-emit_line.ensures.ok c.in_default-emit_line.ensures.none c.loop-line.invariant

pub returns-clause-ok : goal.returns-clause-ok
returns-clause-ok c = emitting_end _ _ _ _ _ _ c.requires.labels_are c.in_default.ensures c.loop-line.invariant

pub returns-clause-limits : goal.returns-clause-limits
returns-clause-limits c = emitting_limits _ _ _ _ _ c.requires.none c.loop-line.invariant
