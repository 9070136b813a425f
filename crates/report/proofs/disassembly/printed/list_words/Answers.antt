use Rattle.std.proofs.Common.{List, ℕ, ◌+◌, ◌*◌, ◌++◌, ◌∙◌, ap, map, sym}
use Rattle.report.specs.Places.{origin_in}
use Rattle.report.specs.Listing.{listing_line}
use Rattle.report.specs.declared.disassembly.words.TextWord.{TextWord}
use Rattle.report.proofs.DisassemblyListing.{lines_below, lines_more}
use Rattle.report.proofs.disassembly.printed.list_words.Goals as goal

pub loop-index-preserved : goal.loop-index-preserved
loop-index-preserved c =
    let lines : List (List ℕ) = map (λ line. line.now) c.args.lines.now in
    let index = c.loop-index.index in
    let shown : TextWord → List ℕ = λ (word : TextWord). listing_line lines (origin_in c.args.places.now) (0x1_0000 + 4 * index) word in
    let word : TextWord = c.index-words-index.result in
    c.in_ok-list_word.ensures
    ∙ ap (λ (l : List ℕ). l ++ shown word) c.loop-index.invariant
    ∙ ap (λ (w : TextWord). lines_below lines (origin_in c.args.places.now) c.args.words.now index ++ shown w) c.index-words-index.is
    ∙ sym (lines_more lines (origin_in c.args.places.now) c.args.words.now index word c.loop-index-test.true)
