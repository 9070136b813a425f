use Rattle.std.proofs.lemmas.Result.{on_ok_weaker}
use Rattle.nova_log.proofs.Keeping.{kept_put, kept_there, put_log}
use Rattle.nova_log.proofs.kept.KeptVolume.read_log.Goals as goal

pub returns-clause-log : goal.returns-clause-log
returns-clause-log g c =
    on_ok_weaker c.read-read.result
    (λ log. put_log c.args.self.now.volume c.take_log-log.new.self c.put_log.new.self c.args.n _ _ c.take_log-log.ensures.left c.put_log.ensures log)
    c.read-read.ensures.log

pub returns-clause-kept : goal.returns-clause-kept
returns-clause-kept g c = λ other alike before.
    kept_put c.args.self.now.geometry other c.args.self.now.readings.items c.args.self.now.volume c.take_log-log.new.self c.put_log.new.self c.args.n c.read-read.new.self
    c.read-read.new.log c.requires.volume c.take_log-log.ensures.left c.put_log.ensures before
    (c.read-read.ensures.kept other alike
    (kept_there c.args.self.now.geometry other c.args.self.now.readings.items c.args.self.now.volume c.args.n c.index_mut-reading.result.now _ c.take_log-log.result
    c.requires.readings before c.index_mut-reading.ensures.value c.take_log-log.ensures.log))
