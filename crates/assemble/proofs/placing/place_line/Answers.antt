use Rattle.std.proofs.Common.{sym, ap, ◌∙◌}
use Rattle.assemble.specs.Meanings.{line_meaning}
use Rattle.assemble.specs.Labels.{noted, place_at}
use Rattle.std.proofs.lemmas.Result.{err_from_is_err_and}
use Rattle.assemble.proofs.Placed.{line_placed, line_has_none, twice_code, statement_code}
use Rattle.assemble.proofs.placing.place_line.Goals as goal

pub returns-then-has-clause-err : goal.returns-then-has-clause-err
returns-then-has-clause-err c = λ other earlier placed.
    twice_code c.args.position.now c.args.labels.now c.args.text.now (line_meaning c.in_ok-line.line) earlier
    c.in_ok-line.ensures.ok (sym c.has.ensures ∙ c.if-has.true) placed

pub returns-in_err-next-clause-err : goal.returns-in_err-next-clause-err
returns-in_err-next-clause-err c =
    let p = err_from_is_err_and c.from_residual-in_err-next.result c.from_residual-in_err-next.ensures.1 in
    rw (p.1, p.2) (λ other earlier placed.
    statement_code c.args.position.now c.args.labels.now c.args.text.now (line_meaning c.in_ok-line.line) earlier c.in_err-next.field-0.0
    c.in_ok-line.ensures.ok (sym c.after.ensures ∙ c.in_err-next.was) (sym c.has.ensures ∙ c.if-has.false) placed)

pub returns-clause-ok : goal.returns-clause-ok
returns-clause-ok c = λ earlier placed.
    line_placed c.args.position.now c.in_ok-next.next c.args.labels.now c.note.new.self c.args.text.now (line_meaning c.in_ok-line.line) earlier
    c.in_ok-line.ensures.ok (sym c.in_ok-next.ensures)
    (λ t. c.in_ok-note.ensures t ∙ ap (λ place. noted (line_meaning c.in_ok-line.line).label place (place_at c.args.labels.now) t) c.place.ensures)
    placed

pub returns-clause-none : goal.returns-clause-none
returns-clause-none c = λ earlier placed.
    line_has_none c.args.position.now c.in_ok-next.next c.args.labels.now c.args.text.now (line_meaning c.in_ok-line.line) earlier
    c.in_ok-line.ensures.ok (sym c.in_ok-next.ensures) (sym c.has.ensures ∙ c.if-has.false) placed
