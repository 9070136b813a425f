use Rattle.std.proofs.Common.{◌∙◌, length}
use Rattle.routine_judge.proofs.Keepings.{below_as, named_of, opened_of}
use Rattle.routine_judge.proofs.cuts.opening.open_box.Goals as goal

pub returns-clause-ok : goal.returns-clause-ok
returns-clause-ok c =
    let routine = c.run_first.new.routine in
    let box = c.args.images.now in
    opened_of c.args.routine.now.program c.args.steps box c.keep_part.new.images routine.asked c.asked.result.now c.in_ok-run.run'.trace.events c.in_ok-run.run'.found
    c.args.others.now.items c.keep_part.new.others.items c.in_ok-run.ensures.ok c.asked.ensures.asked c.in_ok-run.ensures.whole
    (below_as routine.lines (length box) routine.asked c.asked.result.now (c.in_ok-run.ensures.lines ∙ c.requires) c.asked.ensures.asked c.asked.ensures.below)
    c.in_ok-keep_part.ensures.part c.in_ok-keep_part.ensures.others

pub returns-clause-named : goal.returns-clause-named
returns-clause-named c =
    named_of c.args.routine.now.program c.args.steps c.args.images.now c.run_first.new.routine.asked c.in_ok-run.run'.trace.events c.in_ok-run.run'.found c.in_ok-run.ensures.ok
