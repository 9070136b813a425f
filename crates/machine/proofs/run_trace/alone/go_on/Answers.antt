use Rattle.std.proofs.Common.{sym, arith, ◌+◌}
use Rattle.machine.proofs.OneHart.{halts_alone, makes_more_alone, makes_one_more, running_more, running_on}
use Rattle.machine.proofs.run_trace.alone.go_on.Goals as goal

pub returns-in-Err-clause-err : goal.returns-in-Err-clause-err
returns-in-Err-clause-err c =
    halts_alone c.args.tracer.now c.make_rows-made.new.self c.step_hart.new.self c.args.hart c.args.most (c.loop-made.made + c.make_rows-made.result) _ (omega arith)
    (makes_more_alone c.args.tracer.now c.loop-made.tracer c.make_rows-made.new.self c.args.hart c.loop-made.made c.make_rows-made.result c.loop-made.invariant.makes
    c.make_rows-made.ensures.made)
    c.in-Err.ensures.held

pub loop-made-preserved : goal.loop-made-preserved
loop-made-preserved c =
    let makes = makes_more_alone c.args.tracer.now c.loop-made.tracer c.make_rows-made.new.self c.args.hart c.loop-made.made c.make_rows-made.result
    c.loop-made.invariant.makes c.make_rows-made.ensures.made in
    let running = running_on c.args.tracer.now c.loop-made.tracer c.args.hart c.loop-made.made c.make_rows-made.result c.requires (omega arith)
    c.loop-made.invariant.running c.loop-made.invariant.makes c.make_rows-made.ensures.running in
    record {
      within = omega arith;
      makes = makes_one_more c.args.tracer.now c.make_rows-made.new.self c.step_hart.new.self c.args.hart (c.loop-made.made + c.make_rows-made.result) makes
          c.in_default.ensures.ok;
      running = running_more c.args.tracer.now c.make_rows-made.new.self c.step_hart.new.self c.args.hart (c.loop-made.made + c.make_rows-made.result) c.requires
          (omega arith) running makes (rw (← c.tracer.view_is) (sym c.if-has_stopped.ensures)) c.in_default.ensures.ok;
    }

pub returns-then-made-most-clause-ok : goal.returns-then-made-most-clause-ok
returns-then-made-most-clause-ok c =
    makes_more_alone c.args.tracer.now c.loop-made.tracer c.make_rows-made.new.self c.args.hart c.loop-made.made c.make_rows-made.result
    c.loop-made.invariant.makes c.make_rows-made.ensures.made

pub returns-then-made-most-clause-running : goal.returns-then-made-most-clause-running
returns-then-made-most-clause-running c =
    running_on c.args.tracer.now c.loop-made.tracer c.args.hart c.loop-made.made c.make_rows-made.result c.requires (omega arith)
    c.loop-made.invariant.running c.loop-made.invariant.makes c.make_rows-made.ensures.running
