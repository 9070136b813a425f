use Rattle.std.proofs.Common.{◌≡◌, ◌+◌, ◌*◌, ◌<◌, length, ◌∙◌, arith}
use Rattle.std.proofs.lemmas.List.{length-set}
use Rattle.machine.proofs.Decoding.{mixed_anew}
use Rattle.machine.proofs.text_copy.decode_line.Goals as goal

pub loop-word-preserved : goal.loop-word-preserved
loop-word-preserved c =
    let decoded = c.loop-word.decoded in
    let there : c.loop-word.word < length decoded = omega (arith, c.loop-word-test.true, c.loop-word.auto.word-end, c.loop-word.invariant.0, c.requires.line) in (
      length-set decoded c.loop-word.word c.instruction.result ∙ c.loop-word.invariant.0,
      λ before start.
          mixed_anew c.args.text.now before c.loop-word.word decoded c.instruction.result there (c.loop-word.invariant.1 before start)
          (rw c.word_at.ensures at c.instruction.ensures),
    )

pub returns-clause-mixed : goal.returns-clause-mixed
returns-clause-mixed c = λ before start.
    let done : c.loop-word.word ≡ 16 * c.args.line + 16 = omega (arith, c.loop-word-test.false, c.loop-word.auto.word-end) in
    rw done at (c.loop-word.invariant.1 before start)
