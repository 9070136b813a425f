use Rattle.std.proofs.Common.{rules}
use Rattle.std.proofs.lemmas.Fn.{always_returns_same}
use Rattle.verdict.specs.declared.moment_verdict.contents.LineContents.{LineContents}
use Rattle.verdict.proofs.moment_verdict.contents.WidestLines.of.Goals as goal

pub returns : goal.returns
returns g c =
    let sorted = c.sort_unstable_by_key.ensures.sorted (λ (x : LineContents). (record { 0 = x.contents }, x.line)) (always_returns_same _ _ _ (λ a r f' k. search rules)) in
    record {
      all = c.sort_unstable_by_key.new.self.items;
      same = rw c.in_ok-lines.ensures at c.sort_unstable_by_key.ensures.permutation;
      sorted = sorted;
      first = c.truncate.ensures.items;
    }
