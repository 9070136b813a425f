use Rattle.std.proofs.Common.{length}
use Rattle.std.proofs.lemmas.Bool.{both_ways}
use Rattle.std.proofs.lemmas.Bool.Decides.{Decides-eqb}
use Rattle.std.proofs.lemmas.List.{take_rest}
use Rattle.std.proofs.lemmas.Slice.Eq.{starts_is}
use Rattle.trace_file.proofs.cutting.after.Goals as goal

pub returns-then-starts_with : goal.returns-then-starts_with
returns-then-starts_with c =
    rw (take_rest c.args.text.now (length c.args.beginning.now)) ((starts_is Decides-eqb c.args.text.now c.args.beginning.now _ c.starts_with.ensures.value).0 c.if-starts_with.true)

pub returns-else-starts_with : goal.returns-else-starts_with
returns-else-starts_with c = λ rest same.
    both_ways _ c.if-starts_with.false ((starts_is Decides-eqb c.args.text.now c.args.beginning.now _ c.starts_with.ensures.value).1 rest same)
