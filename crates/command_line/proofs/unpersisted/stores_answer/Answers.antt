use Rattle.std.proofs.Common.{◌∙◌}
use Rattle.command_line.proofs.unpersisted.stores_answer.Goals as goal

pub returns : goal.returns
returns c = record {
  prints = record {
    told = c.in_ok-told.told;
    named = c.in_ok-named.named;
    are_told = c.in_ok-told.ensures.told;
    are_named = c.in_ok-named.ensures;
    text = c.of.ensures.text ∙ c.in_ok-text.ensures;
    status = c.of.ensures.status ∙ c.status_of.ensures;
  };
}
