-- The first comma, where there is one.
use Rattle.command_line.proofs.CutLines.{parted_none, parted_some}
use Rattle.command_line.proofs.cut_reasons.parts.Goals as goal

pub returns-in-Some-clause-kind : goal.returns-in-Some-clause-kind
returns-in-Some-clause-kind c = (parted_some c.args.object.now c.in-Some.kind c.in-Some.others c.in-Some.ensures.cases).0

pub returns-in-Some-clause-others : goal.returns-in-Some-clause-others
returns-in-Some-clause-others c = (parted_some c.args.object.now c.in-Some.kind c.in-Some.others c.in-Some.ensures.cases).1

pub returns-in-None-clause-kind : goal.returns-in-None-clause-kind
returns-in-None-clause-kind c = (parted_none c.args.object.now c.in-None.ensures.cases).0

pub returns-in-None-clause-others : goal.returns-in-None-clause-others
returns-in-None-clause-others c = (parted_none c.args.object.now c.in-None.ensures.cases).1
