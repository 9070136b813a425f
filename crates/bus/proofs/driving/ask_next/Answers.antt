use Rattle.std.proofs.Common.{sym, ap, subst, inr, ◌∙◌}
use Rattle.workers.specs.Stops.{Sitting}
use Rattle.bus.specs.declared.driving.Round.{Round}
use Rattle.bus.specs.Driving.{IsRound, badge}
use Rattle.bus.proofs.Rounds.{answered_badge, look_unseen, round_ends, round_seen}
use Rattle.bus.proofs.driving.ask_next.Goals as goal

pub returns-then-look-clause-word : goal.returns-then-look-clause-word
returns-then-look-clause-word g c = ap (λ (s : Sitting). s.table) c.look.ensures.found

pub returns-then-look-clause-round : goal.returns-then-look-clause-round
returns-then-look-clause-round g c = round_seen c.args.seat.now c.args.stop.now c.look.new.seat c.look.result c.look.ensures.found c.if-look.true

pub returns-in-Ok-clause-same : goal.returns-in-Ok-clause-same
returns-in-Ok-clause-same g c = answered_badge c.args.seat.now c.ask.new.self c.in-Ok.outcome c.in-Ok.ensures.ok

pub returns-in-Ok-clause-word : goal.returns-in-Ok-clause-word
returns-in-Ok-clause-word g c = ap (λ (s : Sitting). s.table) c.look.ensures.found

pub returns-in-Ok-clause-round : goal.returns-in-Ok-clause-round
returns-in-Ok-clause-round g c =
    subst (λ (r : Round). IsRound c.ask.new.self c.args.stop.now c.look.new.seat r) (sym c.round_after.ensures)
    (round_ends c.args.seat.now c.ask.new.self c.in-Ok.outcome c.args.stop.now c.look.new.seat (inr c.in-Ok.ensures.ok)
    (ap (λ (s : Sitting). s.raised) c.look.ensures.found)
    (look_unseen c.args.stop.now c.look.new.seat c.look.result c.look.ensures.found c.look.ensures.stays c.if-look.false))

pub raise-requires : goal.raise-requires
raise-requires g c = ap (λ (s : Sitting). s.table) c.look.ensures.found ∙ c.requires.word

pub returns-in-Err-clause-same : goal.returns-in-Err-clause-same
returns-in-Err-clause-same g c = ap badge c.in-Err.ensures.err

pub returns-in-Err-clause-word : goal.returns-in-Err-clause-word
returns-in-Err-clause-word g c = ap (λ (s : Sitting). s.table) c.raise.ensures ∙ ap (λ (s : Sitting). s.table) c.look.ensures.found

pub returns-in-Err-clause-round : goal.returns-in-Err-clause-round
returns-in-Err-clause-round g c = (c.in-Err.ensures.cause, ap (λ (s : Sitting). s.raised) c.raise.ensures)
