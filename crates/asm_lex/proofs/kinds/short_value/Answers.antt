use Rattle.std.proofs.Common.{◌<◌, length, arith}
use Rattle.asm_lex.proofs.Digits.{short_more}
use Rattle.asm_lex.proofs.kinds.short_value.Goals as goal

pub overflow_mul-value : goal.overflow_mul-value
overflow_mul-value c =
    let inside : c.loop-byte.byte-index < length c.args.digits.now = omega arith in
    let more = short_more c.args.radix c.args.digits.now c.loop-byte.byte-index c.from.result c.in-Some.digit c.loop-byte.value c.requires.high
    c.requires.short inside c.from.ensures c.in-Some.ensures.value.0 c.in-Some.ensures.value.1 c.loop-byte.invariant in
    rw c.from-in-loop-byte.ensures (omega (arith, more.1))

pub overflow_add-value : goal.overflow_add-value
overflow_add-value c =
    let inside : c.loop-byte.byte-index < length c.args.digits.now = omega arith in
    let more = short_more c.args.radix c.args.digits.now c.loop-byte.byte-index c.from.result c.in-Some.digit c.loop-byte.value c.requires.high
    c.requires.short inside c.from.ensures c.in-Some.ensures.value.0 c.in-Some.ensures.value.1 c.loop-byte.invariant in
    rw (c.from-in-loop-byte.ensures, c.from-in-loop-byte-2.ensures) (omega (arith, more.1))

pub loop-byte-preserved : goal.loop-byte-preserved
loop-byte-preserved c =
    let inside : c.loop-byte.byte-index < length c.args.digits.now = omega arith in
    let more = short_more c.args.radix c.args.digits.now c.loop-byte.byte-index c.from.result c.in-Some.digit c.loop-byte.value c.requires.high
    c.requires.short inside c.from.ensures c.in-Some.ensures.value.0 c.in-Some.ensures.value.1 c.loop-byte.invariant in
    rw (c.from-in-loop-byte.ensures, c.from-in-loop-byte-2.ensures) more.0
