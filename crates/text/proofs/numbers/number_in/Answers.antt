use Rattle.std.proofs.Common.{◌<◌, length, arith}
use Rattle.text.proofs.Digits.{digit_more, no_digit}
use Rattle.text.proofs.numbers.number_in.Goals as goal

pub returns-in_default : goal.returns-in_default
returns-in_default c =
    let inside : c.loop-byte.byte-index < length c.args.digits.now = omega arith in
    no_digit c.args.radix c.args.digits.now c.loop-byte.byte-index c.from.result inside c.from.ensures
    (λ small. let some = rw c.in_default.is at (c.to_digit.ensures.succeeds small) in absurd (cc))

pub loop-byte-preserved : goal.loop-byte-preserved
loop-byte-preserved c =
    let inside : c.loop-byte.byte-index < length c.args.digits.now = omega arith in
    let grown = digit_more c.args.radix c.args.digits.now c.loop-byte.byte-index c.from.result c.in-Some.digit c.loop-byte.number
    c.extended-number.result inside c.from.ensures c.in-Some.ensures.value.0 c.in-Some.ensures.value.1 c.loop-byte.invariant.digits
    c.loop-byte.invariant.value c.extended-number.ensures in
    record { digits = grown.digits_too; value = grown.value }
