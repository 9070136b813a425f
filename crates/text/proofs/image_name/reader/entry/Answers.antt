use Rattle.std.proofs.Common.{lit<, Some}
use Rattle.std.proofs.lemmas.Str.Pattern.{strip_prefix_char}
use Rattle.text.proofs.Entries.{if_none, no_line, no_number, other_letter, without_colon}
use Rattle.text.proofs.image_name.reader.entry.Goals as goal

pub returns-in_err-strip_prefix-clause-none : goal.returns-in_err-strip_prefix-clause-none
returns-in_err-strip_prefix-clause-none c = if_none c.from_residual.result _ (other_letter c.args.word.now c.in_err-strip_prefix.ensures.cases)

pub returns-in_err-line-clause-none : goal.returns-in_err-line-clause-none
returns-in_err-line-clause-none c =
    let rest = c.in_ok-strip_prefix.field-0 in
    let begins = strip_prefix_char 108 c.args.word.now (Some rest) c.in_ok-strip_prefix.ensures.cases (lit< tt) in
    if_none c.from_residual-in_err-line.result _ (without_colon c.args.word.now rest.now begins c.in_err-line.ensures.cases)

pub returns-in_err-decimal-clause-none : goal.returns-in_err-decimal-clause-none
returns-in_err-decimal-clause-none c =
    let rest = c.in_ok-strip_prefix.field-0 in
    let begins = strip_prefix_char 108 c.args.word.now (Some rest) c.in_ok-strip_prefix.ensures.cases (lit< tt) in
    if_none c.from_residual-in_err-decimal.result _
    (no_line c.args.word.now rest.now c.in_ok-line.line c.in_ok-line.number begins c.in_ok-line.ensures.cases
    (rw c.as_bytes.ensures.value at c.in_err-decimal.ensures))

pub returns-in_err-decimal-2-clause-none : goal.returns-in_err-decimal-2-clause-none
returns-in_err-decimal-2-clause-none c =
    let rest = c.in_ok-strip_prefix.field-0 in
    let begins = strip_prefix_char 108 c.args.word.now (Some rest) c.in_ok-strip_prefix.ensures.cases (lit< tt) in
    if_none c.from_residual-in_err-decimal-2.result _
    (no_number c.args.word.now rest.now c.in_ok-line.line c.in_ok-line.number begins c.in_ok-line.ensures.cases
    (rw c.as_bytes-2.ensures.value at c.in_err-decimal-2.ensures))
