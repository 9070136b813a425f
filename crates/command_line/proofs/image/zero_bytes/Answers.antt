use Rattle.command_line.proofs.image.zero_bytes.Goals as goal

pub returns : goal.returns
returns c = record { zeros = c.in_ok-vec.ensures.items_if_clones_equal (λ y same. same) }
