use Rattle.schedule_states.proofs.Closing.{before_twice, closed_still, grown_twice}
use Rattle.schedule_states.proofs.Happening.{led_grown}
use Rattle.schedule_states.proofs.Onward.{were_before_same}
use Rattle.schedule_states.proofs.reached.Reached.go_on_all.Goals as goal

pub returns-in_err-turns-clause-still : goal.returns-in_err-turns-clause-still
returns-in_err-turns-clause-still g c n there closed = closed_still (g.J.StateJudge.stands c.args.judge.now) (g.J.StateJudge.allows c.args.judge.now) (g.J.StateJudge.ends c.args.judge.now) c.args.self.now c.turns_from.new.self n c.are_numbered.ensures c.turns_from.ensures.grown c.turns_from.ensures.before there closed

pub returns-in-Err-clause-still : goal.returns-in-Err-clause-still
returns-in-Err-clause-still g c n there closed = closed_still (g.J.StateJudge.stands c.args.judge.now) (g.J.StateJudge.allows c.args.judge.now) (g.J.StateJudge.ends c.args.judge.now) c.args.self.now c.turns_from.new.self n c.are_numbered.ensures c.turns_from.ensures.grown c.turns_from.ensures.before there closed

pub returns-in_err-take_all-in-Ok-clause-still : goal.returns-in_err-take_all-in-Ok-clause-still
returns-in_err-take_all-in-Ok-clause-still g c n there closed = closed_still (g.J.StateJudge.stands c.args.judge.now) (g.J.StateJudge.allows c.args.judge.now) (g.J.StateJudge.ends c.args.judge.now) c.args.self.now c.take_all.new.self n c.are_numbered.ensures
    (grown_twice c.args.self.now c.turns_from.new.self c.take_all.new.self c.turns_from.ensures.grown c.take_all.ensures.grown.0)
    (before_twice c.args.self.now.parts c.turns_from.new.self.parts c.take_all.new.self.parts c.turns_from.ensures.grown.parts c.turns_from.ensures.before
    (were_before_same c.turns_from.new.self.parts c.take_all.new.self.parts c.take_all.ensures.grown.1)) there closed

pub returns-in_ok-take_all-in-Ok-clause-still : goal.returns-in_ok-take_all-in-Ok-clause-still
returns-in_ok-take_all-in-Ok-clause-still g c n there closed = closed_still (g.J.StateJudge.stands c.args.judge.now) (g.J.StateJudge.allows c.args.judge.now) (g.J.StateJudge.ends c.args.judge.now) c.args.self.now c.take_all.new.self n c.are_numbered.ensures
    (grown_twice c.args.self.now c.turns_from.new.self c.take_all.new.self c.turns_from.ensures.grown c.take_all.ensures.grown.0)
    (before_twice c.args.self.now.parts c.turns_from.new.self.parts c.take_all.new.self.parts c.turns_from.ensures.grown.parts c.turns_from.ensures.before
    (were_before_same c.turns_from.new.self.parts c.take_all.new.self.parts c.take_all.ensures.grown.1)) there closed

pub returns-in_ok-take_all-in-Ok-clause-led : goal.returns-in_ok-take_all-in-Ok-clause-led
returns-in_ok-take_all-in-Ok-clause-led g c are = c.in_ok-take_all-in-Ok.ensures.led
    (led_grown (g.J.StateJudge.stands c.args.judge.now) (g.J.StateJudge.allows c.args.judge.now) c.args.self.now c.turns_from.new.self c.turns_from.ensures.grown c.turns_from.ensures.states are)
