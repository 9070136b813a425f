use Rattle.std.proofs.Common.{◌≡◌, ℕ, Bool, List, ◌++◌, ◌∷◌, [], length, ap, subst, arith, rules}
use Rattle.schedule_states.proofs.Ending.{ends_more}
use Rattle.schedule_states.specs.Ending.{AreEnds}
use Rattle.schedule_states.proofs.ways_out.ends.Goals as goal

pub loop-number-init : goal.loop-number-init
loop-number-init g c = record {
  count_is = ap (λ (marks : List Bool). length marks) c.in_ok-marks.ensures.items;
  each = λ n s t few met. absurd (omega (arith, few));
}

pub loop-number-preserved : goal.loop-number-preserved
loop-number-preserved g c =
    let pushed : c.push.new.self.items ≡ c.loop-number.marks.items ++ c.has_stopped.result ∷ [] = search rules in
    rw pushed (ends_more c.args.reached.now c.loop-number.marks.items c.loop-number.number c.has_stopped.result c.has_stopped.ensures.stopped c.has_stopped.ensures.running c.loop-number.invariant)

pub returns : goal.returns
returns g c =
    let end : c.loop-number.number ≡ length c.args.reached.now.states = search rules in
    subst (λ (n : ℕ). AreEnds c.args.reached.now c.loop-number.marks.items n) end c.loop-number.invariant
