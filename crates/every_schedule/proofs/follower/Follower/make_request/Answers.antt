use Rattle.std.proofs.Common.{rules}
use Rattle.std.proofs.lemmas.Result.{on_ok_weaker}
use Rattle.every_schedule.proofs.Asking.{asks_behind}
use Rattle.every_schedule.proofs.follower.Follower.make_request.Goals as goal

pub returns : goal.returns
returns c = on_ok_weaker c.step.result (λ made. asks_behind c.args.self.now c.run_ahead.new.self c.step.new.self c.args.hart c.in_ok-run_ahead.ensures made (c.is_asking.ensures (search rules)))
    c.step.ensures
