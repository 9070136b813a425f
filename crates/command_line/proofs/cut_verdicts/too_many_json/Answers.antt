use Rattle.command_line.proofs.cut_verdicts.too_many_json.Goals as goal

pub returns : goal.returns
returns c = rw c.in_ok-most.ensures at c.format.ensures.ok
