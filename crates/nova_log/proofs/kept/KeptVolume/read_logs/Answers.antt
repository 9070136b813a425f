use Rattle.std.proofs.Common.{◌≡◌, inl, inr, refl, ◌∙◌, length, arith}
use Rattle.std.proofs.lemmas.Result.{err_from_is_err_and}
use Rattle.nova_log.specs.Volumes.{log_in, log_questions}
use Rattle.nova_log.proofs.Questions.{items_stopped, items_through}
use Rattle.nova_log.proofs.Keeping.{logs_all, logs_more, through_all}
use Rattle.nova_log.proofs.kept.KeptVolume.read_logs.Goals as goal

pub read_log-requires-clause-sound : goal.read_log-requires-clause-sound
read_log-requires-clause-sound g c = rw (c.loop-n.invariant.same_geometry, c.loop-n.invariant.same) c.requires.sound

pub read_log-requires-clause-volume : goal.read_log-requires-clause-volume
read_log-requires-clause-volume g c = omega (arith, c.loop-n.invariant.volume)

pub read_log-requires-clause-readings : goal.read_log-requires-clause-readings
read_log-requires-clause-readings g c = omega (arith, c.loop-n.invariant.readings)

pub read_log-requires-clause-head : goal.read_log-requires-clause-head
read_log-requires-clause-head g c = rw (c.loop-n.invariant.same_geometry) (c.requires.heads c.loop-n.n _ (omega arith))

pub read_log-requires-clause-kept : goal.read_log-requires-clause-kept
read_log-requires-clause-kept g c =
    rw (c.loop-n.invariant.same)
    (c.loop-n.invariant.kept (g.S.LineSource.medium c.args.source.now) (record { size = refl; lines = λ l h. refl }) c.requires.kept)

pub returns-in_err-read_log-clause-err : goal.returns-in_err-read_log-clause-err
returns-in_err-read_log-clause-err g c =
    let p = err_from_is_err_and c.from_residual.result c.from_residual.ensures.1 in
    let f = log_questions c.args.self.now.geometry (g.S.LineSource.medium c.args.source.now) in
    let h = rw (c.loop-n.invariant.same_geometry, c.loop-n.invariant.same) at c.in_err-read_log.ensures.err in
    rw (p.1, p.2) (elim h [
      | inl memory ↦ inl memory
      | inr stopped ↦ inr (items_stopped f c.args.inodes.now c.loop-n.n _ c.in_err-read_log.field-0.0 (g.S.LineSource.asked c.args.source.now)
          (g.S.LineSource.asked c.loop-n.source) (g.S.LineSource.asked c.read_log.new.source) (omega arith) c.loop-n.invariant.through stopped)
    ])

pub returns-in_err-read_log-clause-kept : goal.returns-in_err-read_log-clause-kept
returns-in_err-read_log-clause-kept g c = λ other alike before.
    c.read_log.ensures.kept other (rw (c.loop-n.invariant.same) alike) (c.loop-n.invariant.kept other alike before)

pub loop-n-preserved : goal.loop-n-preserved
loop-n-preserved g c =
    let medium = g.S.LineSource.medium c.args.source.now in
    let geometry = c.args.self.now.geometry in
    record {
      same = c.read_log.ensures.same ∙ c.loop-n.invariant.same;
      same_geometry = c.read_log.ensures.geometry ∙ c.loop-n.invariant.same_geometry;
      volume = c.read_log.ensures.volume ∙ c.loop-n.invariant.volume;
      readings = c.read_log.ensures.readings ∙ c.loop-n.invariant.readings;
      logs = logs_more (log_in geometry medium) c.args.inodes.now c.loop-n.n _ c.loop-n.self.volume c.read_log.new.self.volume (omega arith)
          (omega (arith, c.loop-n.invariant.volume)) c.loop-n.invariant.logs
          (rw (c.loop-n.invariant.same_geometry, c.loop-n.invariant.same) at c.in_ok-read_log.ensures.log);
      through = items_through (log_questions geometry medium) c.args.inodes.now c.loop-n.n _ (g.S.LineSource.asked c.args.source.now)
          (g.S.LineSource.asked c.loop-n.source) (g.S.LineSource.asked c.read_log.new.source) (omega arith) c.loop-n.invariant.through
          (rw (c.loop-n.invariant.same_geometry, c.loop-n.invariant.same) at c.in_ok-read_log.ensures.ok);
      kept = λ other alike before.
          c.read_log.ensures.kept other (rw (c.loop-n.invariant.same) alike) (c.loop-n.invariant.kept other alike before);
    }

pub returns-clause-logs : goal.returns-clause-logs
returns-clause-logs g c =
    let all : c.loop-n.n ≡ length c.args.inodes.now = omega arith in
    let logs = rw all at c.loop-n.invariant.logs in
    logs_all (log_in c.args.self.now.geometry (g.S.LineSource.medium c.args.source.now)) c.args.inodes.now c.loop-n.self.volume c.loop-n.invariant.volume logs

pub returns-clause-ok : goal.returns-clause-ok
returns-clause-ok g c =
    through_all (log_questions c.args.self.now.geometry (g.S.LineSource.medium c.args.source.now)) c.args.inodes.now c.loop-n.n _ _ (omega arith)
    c.loop-n.invariant.through
