use Rattle.std.proofs.Common.{◌≡◌, inl, inr, refl, ◌∙◌, get_or, map, take, arith}
use Rattle.std.proofs.lemmas.Result.{err_from_is_err_and}
use Rattle.nova_log.specs.Volumes.{log_in, log_questions}
use Rattle.nova_log.proofs.Questions.{items_mapped, items_stopped, items_through}
use Rattle.nova_log.proofs.recovery.read_logs.Goals as goal

pub returns-in_err-log-clause-err : goal.returns-in_err-log-clause-err
returns-in_err-log-clause-err g c =
    let p = err_from_is_err_and c.from_residual-in_err-log.result c.from_residual-in_err-log.ensures.1 in
    let f = log_questions c.args.geometry.now (g.S.LineSource.medium c.args.source.now) in
    let h = rw c.loop-inode.invariant.same at c.in_err-log.ensures.err in
    rw (p.1, p.2) (elim h [
      | inl memory ↦ inl memory
      | inr stopped ↦ inr (items_stopped f c.args.inodes.now c.loop-inode.inode-index _ c.in_err-log.field-0.0 (g.S.LineSource.asked c.args.source.now)
          (g.S.LineSource.asked c.loop-inode.source) (g.S.LineSource.asked c.read_log.new.source) (omega arith) c.loop-inode.invariant.through stopped)
    ])

pub loop-inode-preserved : goal.loop-inode-preserved
loop-inode-preserved g c =
    let medium = g.S.LineSource.medium c.args.source.now in
    record {
      same = c.read_log.ensures.same ∙ c.loop-inode.invariant.same;
      logs = c.in_ok-push_log.ensures.ok ∙ items_mapped (log_in c.args.geometry.now medium) c.args.inodes.now c.loop-inode.inode-index _ c.loop-inode.volume c.in_ok-log.log (omega arith)
          c.loop-inode.invariant.logs (rw c.loop-inode.invariant.same at c.in_ok-log.ensures.log);
      through = items_through (log_questions c.args.geometry.now medium) c.args.inodes.now c.loop-inode.inode-index _ (g.S.LineSource.asked c.args.source.now)
          (g.S.LineSource.asked c.loop-inode.source) (g.S.LineSource.asked c.read_log.new.source) (omega arith) c.loop-inode.invariant.through
          (rw c.loop-inode.invariant.same at c.in_ok-log.ensures.ok);
    }
