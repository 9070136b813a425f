use Rattle.std.proofs.Common.{◌==◌, arith, rules}
use Rattle.std.proofs.lemmas.Fn.{always_returns_same, dedup_same}
use Rattle.durability.proofs.Dedups.{are_firsts}
use Rattle.durability.specs.declared.cut.Lost.{Lost}
use Rattle.durability.proofs.losses.first_of_each_line.Goals as goal

pub returns : goal.returns
returns c =
    let sorted = c.sort_unstable_by_key.ensures.sorted (λ (x : Lost). (x.line, x.store)) (always_returns_same _ _ _ (λ a r f' k. search rules)) in
    let kept = dedup_same _ (λ (x y : Lost). x.line == y.line) _ (λ x y b f' x' y' k. search rules) c.sort_unstable_by_key.new.self.items c.dedup_by_key.new.self.items c.dedup_by_key.ensures.filtered in
    are_firsts c.args.lost.now.items c.sort_unstable_by_key.new.self.items c.dedup_by_key.new.self.items c.sort_unstable_by_key.ensures.permutation
    (λ k d h. sorted k d (omega arith) h) kept
