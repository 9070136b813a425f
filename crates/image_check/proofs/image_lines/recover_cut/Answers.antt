use Rattle.std.proofs.Common.{◌∙◌, ℕ, List, ap, length}
use Rattle.nova_log.specs.Sources.{Source}
use Rattle.verdict.specs.Numbers.{number_over}
use Rattle.image_check.proofs.Reading.{below_length, source_alike, source_kept, source_of}
use Rattle.image_check.proofs.image_lines.recover_cut.Goals as goal

pub returns-clause-below : goal.returns-clause-below
returns-clause-below g c =
    let images = c.args.images.now in
    let cut : ℕ → ℕ = number_over (g.I.Images.low images) c.args.numbers.now in
    below_length _ _ c.into_asked.result.items
    (ap (λ (lines : List (List ℕ)). length lines) c.recover_again-recovered.ensures.same
    ∙ ap (λ (s : Source). length s.lines) (c.new-source.ensures ∙ ap source_of c.new-image.ensures)
    ∙ g.met.I.Images.count images cut) c.into_asked.ensures.below

pub recover_again-recovered-requires : goal.recover_again-recovered-requires
recover_again-recovered-requires g c =
    let images = c.args.images.now in
    let cut : ℕ → ℕ = number_over (g.I.Images.low images) c.args.numbers.now in
    record {
      kept = source_kept (g.I.Images.image images cut) c.new-source.result c.args.kept.now
          (c.new-source.ensures ∙ ap source_of c.new-image.ensures)
          (c.requires.kept cut c.requires.cut.within);
    }

pub returns-clause-kept : goal.returns-clause-kept
returns-clause-kept g c = λ k within.
    let images = c.args.images.now in
    let cut : ℕ → ℕ = number_over (g.I.Images.low images) c.args.numbers.now in
    c.recover_again-recovered.ensures.kept (g.I.Images.image images k)
    (source_alike (g.I.Images.lines images) (g.I.Images.image images) (record { count = g.met.I.Images.count images; decides = g.met.I.Images.by_line images })
    (g.I.Images.low images) (g.I.Images.high images) cut k c.new-source.result
    (c.new-source.ensures ∙ ap source_of c.new-image.ensures) c.requires.cut.within within)
    (c.requires.kept k within)
