use Rattle.std.proofs.Common.{◌≡◌, ◌+◌, ◌-◌, ◌*◌, ◌/◌, ◌<◌, length, arith}
use Rattle.std.proofs.Math.Nat.{div-add-mod}
use Rattle.line_memory.specs.declared.TheConstants.{TEXT_BASE}
use Rattle.machine.proofs.Decoding.{decoded_at}
use Rattle.machine.proofs.text_copy.TextCopy.instruction.Goals as goal

pub returns-then-word-len : goal.returns-then-word-len
returns-then-word-len c =
    let bytes = c.self.inside.bytes.items in
    let decoded = c.self.inside.decoded.items in
    let word = (c.args.pc - TEXT_BASE) / 4 in
    let whole = div-add-mod (c.args.pc - TEXT_BASE) 4 in
    let at : c.args.pc ≡ TEXT_BASE + 4 * word = omega (arith, whole, c.if-pc-eq0.true, c.if-pc-ge-TEXT_BASE.true) in
    let there : word < length decoded = omega (arith, c.if-word-len.true, c.len.ensures) in
    rw (← c.self.view_is)
    (decoded_at bytes decoded c.args.pc word c.index.result.now c.self.invariant.0 c.self.invariant.1 at there c.index.ensures)
