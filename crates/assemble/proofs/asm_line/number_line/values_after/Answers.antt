use Rattle.std.proofs.Common.{◌≡◌, ◌<◌, ◌*◌, ◌^◌, Ok, sym, ◌∙◌}
use Rattle.std.proofs.lemmas.List.Elements.{All-push}
use Rattle.std.specs.Prelude.{Some}
use Rattle.asm_lex.specs.Kinds.{comma}
use Rattle.asm_lex.specs.Tokens.{IsNextKind}
use Rattle.assemble.specs.Meanings.{width_bytes}
use Rattle.assemble.specs.Steps.{stored}
use Rattle.assemble.proofs.NumberLines.{read_more, read_last}
use Rattle.assemble.proofs.asm_line.number_line.values_after.Goals as goal

pub returns-in-None-clause-values : goal.returns-in-None-clause-values
returns-in-None-clause-values c =
    let is : stored c.args.width c.in_ok-number.number ≡ Ok c.in-Ok-stored.value = sym c.stored.ensures.value ∙ c.in-Ok-stored.is in
    rw c.in-Ok-push.ensures.items (read_last c.args.width c.args.line.now c.args.from c.loop-found.at c.in_ok-number.end c.loop-found.found.items
    c.in_ok-number.number c.in-Ok-stored.value c.loop-found.invariant.0 c.in_ok-number.ensures is c.in-None.ensures)

pub loop-found-preserved : goal.loop-found-preserved
loop-found-preserved c =
    let here = c.in-Some-Some-Comma-default in
    let is : stored c.args.width c.in_ok-number.number ≡ Ok c.in-Ok-stored.value = sym c.stored.ensures.value ∙ c.in-Ok-stored.is in
    let mark : IsNextKind c.args.line.now c.in_ok-number.end (Some comma) here.after = rw (here.field-0-0-is, here.field-0-0-0-is) at here.ensures in
    rw c.in-Ok-push.ensures.items (
      read_more c.args.width c.args.line.now c.args.from c.loop-found.at c.in_ok-number.end here.after
          c.loop-found.found.items c.in_ok-number.number c.in-Ok-stored.value c.loop-found.invariant.0 c.in_ok-number.ensures is mark,
      All-push (λ v. v < 2 ^ (8 * width_bytes c.args.width)) c.loop-found.found.items c.in-Ok-stored.value c.loop-found.invariant.1 c.in-Ok-stored.ensures.in_range,
    )
