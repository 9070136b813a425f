use Rattle.std.proofs.Common.{ℕ, ◌+◌, ◌-◌, ◌*◌, ◌/◌, ◌≤◌, ◌∙◌, length, refl, arith}
use Rattle.line_memory.proofs.ZeroLines.{AreGiven, chunks_given, given_joined, given_medium, length_given}
use Rattle.line_memory.proofs.padded_lines.PaddedLines.new.Goals as goal

pub invariant_of-result : goal.invariant_of-result
invariant_of-result c =
    let size : ℕ = (length c.args.bytes.now + 64 - 1) / 64 * 64 in
    let a : AreGiven c.args.bytes.now c.in_ok-given.given.items size = chunks_given c.args.bytes.now c.in_ok-filled.filled.items c.in_ok-given.given.items size c.in_ok-filled.ensures.ok c.in_ok-filled.ensures.whole (omega arith)
    (rw c.deref.ensures.value at (c.in_ok-given.ensures.items ∙ c.as_chunks.ensures.front)) in
    let few : length c.in_ok-given.given.items ≤ c.args.count = omega (arith, a.counted) in
    (given_medium _ _ few a.whole c.requires.least c.requires.most, length_given _ _ few, refl)

pub returns-clause-ok : goal.returns-clause-ok
returns-clause-ok c =
    let size : ℕ = (length c.args.bytes.now + 64 - 1) / 64 * 64 in
    let a : AreGiven c.args.bytes.now c.in_ok-given.given.items size = chunks_given c.args.bytes.now c.in_ok-filled.filled.items c.in_ok-given.given.items size c.in_ok-filled.ensures.ok c.in_ok-filled.ensures.whole (omega arith)
    (rw c.deref.ensures.value at (c.in_ok-given.ensures.items ∙ c.as_chunks.ensures.front)) in
    let few : length c.in_ok-given.given.items ≤ c.args.count = omega (arith, a.counted) in
    given_joined _ _ size _ a.joined a.counted (omega arith) few

pub returns-clause-whole : goal.returns-clause-whole
returns-clause-whole c =
    let size : ℕ = (length c.args.bytes.now + 64 - 1) / 64 * 64 in
    let a : AreGiven c.args.bytes.now c.in_ok-given.given.items size = chunks_given c.args.bytes.now c.in_ok-filled.filled.items c.in_ok-given.given.items size c.in_ok-filled.ensures.ok c.in_ok-filled.ensures.whole (omega arith)
    (rw c.deref.ensures.value at (c.in_ok-given.ensures.items ∙ c.as_chunks.ensures.front)) in
    let few : length c.in_ok-given.given.items ≤ c.args.count = omega (arith, a.counted) in
    given_medium _ _ few a.whole c.requires.least c.requires.most
