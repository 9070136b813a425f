use Rattle.std.proofs.Common.{◌≡◌, ◌+◌, ◌*◌, ◌++◌, ◌∷◌, [], Some, length, arith}
use Rattle.std.proofs.lemmas.List.{length-append}
use Rattle.hart.specs.Needs.{IsInstruction}
use Rattle.machine.specs.Decoded.{word_of}
use Rattle.machine.proofs.Decoding.{more_decoded}
use Rattle.machine.proofs.text_copy.decode_lines.Goals as goal

pub loop-word-preserved : goal.loop-word-preserved
loop-word-preserved c =
    let text = c.args.text.now in
    let decoded = c.loop-word.decoded.items in
    let instr = c.instruction.result in
    let pushed : c.push_instruction.new.decoded.items ≡ decoded ++ instr ∷ [] = c.in_ok-push_instruction.ensures.ok in
    let here : IsInstruction (Some (word_of text c.loop-word.word)) instr = rw c.word_at.ensures at c.instruction.ensures in
    let one : IsInstruction (Some (word_of text (length decoded))) instr = rw c.loop-word.invariant.0 here in
    let long : length (decoded ++ instr ∷ []) ≡ c.loop-word.word + 1 =
    omega (arith, length-append decoded (instr ∷ []), c.loop-word.invariant.0) in
    rw pushed (long, more_decoded text decoded instr c.loop-word.invariant.1 one)

pub returns-clause-ok : goal.returns-clause-ok
returns-clause-ok c =
    let all : length c.loop-word.decoded.items ≡ 16 * c.args.lines =
    omega (arith, c.loop-word.invariant.0, c.loop-word-test.false, c.loop-word.auto.word-end) in
    record { lines = c.args.lines; whole = all; within = c.requires.lines; each = c.loop-word.invariant.1 }
