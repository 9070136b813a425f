use Rattle.std.proofs.lemmas.Map.Text.{hash_map_updates_str}
use Rattle.assemble.specs.Labels.{place_at}
use Rattle.assemble.proofs.labels.Labels.define.Goals as goal

pub returns : goal.returns
unfolding place_at
returns c = λ text. hash_map_updates_str c.args.label.now c.args.self.now.places c.insert.new.self _ c.in_ok-insert.ensures.updates text
