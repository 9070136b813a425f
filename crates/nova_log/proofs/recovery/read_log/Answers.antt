use Rattle.std.proofs.Common.{◌≡◌, inl, inr, refl, ◌∙◌, map, ap}
use Rattle.std.proofs.lemmas.Result.{err_from_is_err_and}
use Rattle.nova_log.proofs.Wholes.{links_stopped, log_stopped, log_through}
use Rattle.nova_log.proofs.recovery.read_log.Goals as goal

pub returns-in_err-read_chain-clause-err : goal.returns-in_err-read_chain-clause-err
returns-in_err-read_chain-clause-err g c =
    let p = err_from_is_err_and c.from_residual.result c.from_residual.ensures.1 in
    rw (p.1, p.2) (elim c.in_err-read_chain.ensures.err [
      | inl memory ↦ inl memory
      | inr stopped ↦ inr (links_stopped c.args.geometry.now (g.S.LineSource.medium c.args.source.now) c.args.inode c.in_err-read_chain.field-0.0
          (g.S.LineSource.asked c.args.source.now) (g.S.LineSource.asked c.read_chain.new.source) stopped)
    ])

pub returns-in_err-log-clause-err : goal.returns-in_err-log-clause-err
returns-in_err-log-clause-err g c =
    let p = err_from_is_err_and c.from_residual-in_err-log.result c.from_residual-in_err-log.ensures.1 in
    rw (p.1, p.2) (elim c.in_err-log.ensures.err [
      | inl memory ↦ inl memory
      | inr stopped ↦ inr (log_stopped c.args.geometry.now (g.S.LineSource.medium c.args.source.now) (g.S.LineSource.medium c.read_chain.new.source) c.args.inode
          c.read_chain.new.positions.items c.as_slice.result.now c.in_err-log.field-0.0
          (g.S.LineSource.asked c.args.source.now) (g.S.LineSource.asked c.read_chain.new.source) (g.S.LineSource.asked c.read_entries.new.source)
          c.read_chain.ensures.same c.as_slice.ensures.value c.in_ok-read_chain.ensures.positions c.in_ok-read_chain.ensures.ok stopped)
    ])

pub returns-clause-ok : goal.returns-clause-ok
returns-clause-ok g c =
    log_through c.args.geometry.now (g.S.LineSource.medium c.args.source.now) (g.S.LineSource.medium c.read_chain.new.source) c.args.inode
    c.read_chain.new.positions.items c.as_slice.result.now
    (g.S.LineSource.asked c.args.source.now) (g.S.LineSource.asked c.read_chain.new.source) (g.S.LineSource.asked c.read_entries.new.source)
    c.read_chain.ensures.same c.as_slice.ensures.value c.in_ok-read_chain.ensures.positions c.in_ok-read_chain.ensures.ok c.in_ok-log.ensures.ok
