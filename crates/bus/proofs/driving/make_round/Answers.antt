use Rattle.std.proofs.Common.{subst, sym, ap, inl, ◌∙◌}
use Rattle.workers.specs.Stops.{Sitting}
use Rattle.bus.specs.Driving.{IsRound, badge}
use Rattle.bus.specs.Seating.{AsksNext}
use Rattle.bus.proofs.Rounds.{local_badge, local_ends}
use Rattle.bus.proofs.driving.make_round.Goals as goal

pub returns-then-is_last-clause-same : goal.returns-then-is_last-clause-same
returns-then-is_last-clause-same g c =
    local_badge c.loop-alone.seat c.step_local.new.self c.in-Some.outcome c.in-Some.ensures.some ∙ c.loop-alone.invariant.0

pub returns-then-is_last-clause-word : goal.returns-then-is_last-clause-word
returns-then-is_last-clause-word g c = ap (λ (s : Sitting). s.table) c.loop-alone.invariant.1

pub returns-then-is_last-clause-round : goal.returns-then-is_last-clause-round
returns-then-is_last-clause-round g c = (
  ap (λ (s : Sitting). s.raised) c.loop-alone.invariant.1,
  inl (local_ends c.loop-alone.seat c.step_local.new.self c.in-Some.outcome c.in-Some.ensures.some (sym c.is_last.ensures ∙ c.if-is_last.true)),
)

pub ask_next-round-requires-clause-asks : goal.ask_next-round-requires-clause-asks
ask_next-round-requires-clause-asks g c = subst AsksNext (sym c.in-None.ensures.none.0) c.in-None.ensures.none.1

pub ask_next-round-requires-clause-word : goal.ask_next-round-requires-clause-word
ask_next-round-requires-clause-word g c = ap (λ (s : Sitting). s.table) c.loop-alone.invariant.1 ∙ c.requires

pub returns-in-None-clause-same : goal.returns-in-None-clause-same
returns-in-None-clause-same g c =
    c.ask_next-round.ensures.same ∙ (ap badge c.in-None.ensures.none.0 ∙ c.loop-alone.invariant.0)

pub returns-in-None-clause-word : goal.returns-in-None-clause-word
returns-in-None-clause-word g c = c.ask_next-round.ensures.word ∙ ap (λ (s : Sitting). s.table) c.loop-alone.invariant.1

pub returns-in-None-clause-round : goal.returns-in-None-clause-round
returns-in-None-clause-round g c =
    subst (λ (s : Sitting). IsRound c.ask_next-round.new.seat s c.ask_next-round.new.stop c.ask_next-round.result) c.loop-alone.invariant.1
    c.ask_next-round.ensures.round

pub loop-alone-preserved : goal.loop-alone-preserved
loop-alone-preserved g c = (
  local_badge c.loop-alone.seat c.step_local.new.self c.in-Some.outcome c.in-Some.ensures.some ∙ c.loop-alone.invariant.0,
  c.loop-alone.invariant.1,
)

pub returns-clause-round : goal.returns-clause-round
returns-clause-round g c =
    subst (λ (s : Sitting). IsRound c.loop-alone.seat s c.round_at_look.new.stop c.round_at_look.result) c.loop-alone.invariant.1
    (c.round_at_look.ensures.round c.loop-alone.seat)
