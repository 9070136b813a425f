use Rattle.command_line.proofs.cut_verdicts.open_json.Goals as goal

pub returns : goal.returns
returns c = rw (c.in_ok-images.ensures, c.in_ok-cuts.ensures) at c.format.ensures.ok
