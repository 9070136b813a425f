use Rattle.std.proofs.Common.{◌≡◌, ◌<◌, ℕ, false, List, length, rules, sym, subst, arith}
use Rattle.std.specs.Prelude.{Contains, slice_index_or}
use Rattle.trace_file.specs.Ranks.{copies_of}
use Rattle.trace_file.specs.Spaced.{spaced_words}
use Rattle.report.proofs.told.placed.Goals as goal

pub number_of-requires : goal.number_of-requires
number_of-requires c =
    let inside : c.loop-at.at < length c.args.texts.now = omega (arith, c.loop-at-test.true, c.requires.size) in
    let is : c.deref-in-loop-at.result.now ≡ spaced_words false (slice_index_or c.args.texts.now c.loop-at.at c.index-texts-at.result).items = (search rules) in
    record {
      upwards = c.requires.places.upwards;
      there = subst (λ (word : List ℕ). Contains (copies_of c.args.places.now) word) (sym is) (c.requires.places.all c.loop-at.at c.index-texts-at.result inside);
    }
