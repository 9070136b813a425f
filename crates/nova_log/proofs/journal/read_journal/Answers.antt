use Rattle.std.proofs.Common.{◌≡◌, inl, inr, refl, sym, ◌∙◌}
use Rattle.std.proofs.lemmas.Result.{err_from_is_err_and}
use Rattle.nova_log.proofs.Journals.{journal_stopped, journal_through}
use Rattle.nova_log.proofs.journal.read_journal.Goals as goal

pub returns-clause-ok : goal.returns-clause-ok
returns-clause-ok g c =
    journal_through c.args.inodes c.args.j c.in_ok-head.head c.in_ok-head.tail (g.S.LineSource.medium c.args.source.now) (g.S.LineSource.medium c.line.new.self)
    c.in_ok-line.line (g.S.LineSource.asked c.args.source.now) (g.S.LineSource.asked c.line.new.self) (g.S.LineSource.asked c.read_records.new.source)
    c.line.ensures.same c.in_ok-line.ensures.value c.in_ok-head.ensures.ok c.in_ok-head.ensures.bounds.0 c.in_ok-head.ensures.bounds.1 c.in_ok-line.ensures.asked
    c.in_ok-records.ensures.ok

pub returns-in_err-records-clause-err : goal.returns-in_err-records-clause-err
returns-in_err-records-clause-err g c =
    let p = err_from_is_err_and c.from_residual-in_err-records.result c.from_residual-in_err-records.ensures.1 in
    rw (p.1, p.2) (elim c.in_err-records.ensures.err [
      | inl memory ↦ inl memory
      | inr stopped ↦ inr (journal_stopped c.args.inodes c.args.j c.in_ok-head.head c.in_ok-head.tail (g.S.LineSource.medium c.args.source.now)
          (g.S.LineSource.medium c.line.new.self) c.in_ok-line.line c.in_err-records.field-0.0
          (g.S.LineSource.asked c.args.source.now) (g.S.LineSource.asked c.line.new.self) (g.S.LineSource.asked c.read_records.new.source)
          c.line.ensures.same c.in_ok-line.ensures.value c.in_ok-head.ensures.ok c.in_ok-head.ensures.bounds.0 c.in_ok-head.ensures.bounds.1 c.in_ok-line.ensures.asked
          stopped)
    ])
