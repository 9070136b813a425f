use Rattle.command_line.proofs.source_lines.first_bytes.Goals as goal

pub returns : goal.returns
returns c = c.at_most.ensures
