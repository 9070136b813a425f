-- One more letter that makes no mnemonic.
use Rattle.std.proofs.Common.{ℕ, ◌∷◌, [], arith, get_or, rules}
use Rattle.std.proofs.lemmas.Grind.{common_steps}
use Rattle.std.proofs.lemmas.List.{take_all}
use Rattle.std.proofs.lemmas.List.Elements.{All-more}
use Rattle.report.specs.SlipNearest.{IsUnknown, edited}
use Rattle.report.proofs.slips.nearest.with_one_of.Goals as goal

pub loop-letter-preserved : goal.loop-letter-preserved
loop-letter-preserved c =
    let letters = c.args.letters.now in
    let IsNone : ℕ → Type 0 = λ letter. IsUnknown (edited c.args.name.now c.args.place (letter ∷ []) c.args.removed) in
    let here : IsUnknown (edited c.args.name.now c.args.place (get_or letters c.loop-letter.letter-index 0 ∷ []) c.args.removed) =
    first_of (search rules, grind (arith, common_steps)) in
    All-more IsNone letters c.loop-letter.letter-index 0 c.loop-letter-test.true c.loop-letter.invariant here

pub returns : goal.returns
returns c = rw (take_all c.loop-letter.letter-index c.args.letters.now c.loop-letter-test.false) at c.loop-letter.invariant
