use Rattle.std.proofs.lemmas.Result.{err_from_is_err_and, on_ok_weaker, MatchResult-weaker}
use Rattle.assemble.specs.Meanings.{line_meaning}
use Rattle.assemble.specs.Labels.{place_at}
use Rattle.assemble.proofs.SecondPass.{emitted_next, late_none, late_some, is_read}
use Rattle.assemble.proofs.emission.Emission.emit_line.Goals as goal

pub returns-in_err-line-clause-err : goal.returns-in_err-line-clause-err
returns-in_err-line-clause-err c =
    let p = err_from_is_err_and c.from_residual.result c.from_residual.ensures.1 in
    rw (p.1, p.2) (λ other size earlier emitted none. is_read size earlier c.args.text.now _ (c.in_err-line.ensures.err other) none)

pub returns-clause-ok : goal.returns-clause-ok
returns-clause-ok c = on_ok_weaker c.emit.result
    (λ emits size earlier emitted none.
    emitted_next (place_at c.args.labels.now) size earlier c.args.text.now (line_meaning c.in_ok-line.line) c.args.self.now c.emit.new.self c.in_ok-line.ensures.ok emits emitted none)
    c.emit.ensures.ok

pub returns-clause-none : goal.returns-clause-none
returns-clause-none c = on_ok_weaker c.emit.result
    (λ emits size earlier emitted none.
    late_none (place_at c.args.labels.now) earlier c.args.text.now (line_meaning c.in_ok-line.line) c.args.self.now c.emit.new.self c.in_ok-line.ensures.ok emits emitted)
    c.emit.ensures.ok

pub returns-clause-err : goal.returns-clause-err
returns-clause-err c = MatchResult-weaker c.emit.result c.emit.ensures.err (λ _ x. x)
    (λ code has other size earlier emitted none.
    late_some (place_at c.args.labels.now) earlier c.args.text.now (line_meaning c.in_ok-line.line) c.args.self.now code c.in_ok-line.ensures.ok (has other) emitted)
