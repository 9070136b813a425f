use Rattle.command_line.proofs.waste.waste_answer.Goals as goal

pub returns : goal.returns
returns c = record {
  prints = record {
    told = c.in_ok-told.told;
    are_told = c.in_ok-told.ensures.told;
    text = rw c.of.ensures.text c.in_ok-text.ensures;
    status = c.of.ensures.status;
  };
}
