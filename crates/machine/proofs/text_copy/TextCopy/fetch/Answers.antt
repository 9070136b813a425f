use Rattle.std.proofs.Common.{◌≡◌, ◌+◌, ◌-◌, ◌≤◌, length, refl, arith}
use Rattle.line_memory.specs.declared.TheConstants.{TEXT_BASE, TEXT_SIZE}
use Rattle.machine.proofs.Copying.{word_fetched}
use Rattle.machine.proofs.text_copy.TextCopy.fetch.Goals as goal

pub returns : goal.returns
returns c =
    let at = c.args.pc - TEXT_BASE in
    let whole : length c.args.self.now ≡ TEXT_SIZE = rw c.self.view_is at c.self.invariant.0 in
    let place : c.args.pc ≡ TEXT_BASE + at = omega arith in
    let fits : at + 4 ≤ TEXT_SIZE = omega arith in
    let word = word_fetched c.args.self.now c.args.pc at whole place fits in
    rw (word, c.word_at.ensures, c.deref.ensures.value, c.self.view_is) refl
