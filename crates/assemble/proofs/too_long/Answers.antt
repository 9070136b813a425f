use Rattle.std.proofs.Common.{inl, length}
use Rattle.assemble.proofs.First.{first_line}
use Rattle.assemble.proofs.too_long.Goals as goal

pub returns : goal.returns
returns c = λ other. inl (first_line _ _ _ _ c.in-Some.ensures.0 (c.code_of_first-code.ensures (length c.args.source.now) c.requires other))
