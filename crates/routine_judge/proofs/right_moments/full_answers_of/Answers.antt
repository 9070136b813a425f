-- All moments of the run, as those of a window, and the last one.
use Rattle.std.proofs.Common.{◌≡◌, ℕ, length, subst, arith}
use Rattle.std.specs.Prelude.{◌-◌}
use Rattle.routine_judge.specs.RightAnswers.{ShowsFull}
use Rattle.routine_judge.proofs.GivenAnswers.{all_inside, full_given}
use Rattle.routine_judge.proofs.right_moments.full_answers_of.Goals as goal

pub given_by-requires-clause-inside : goal.given_by-requires-clause-inside
given_by-requires-clause-inside c =
    λ i t. let within = all_inside (c.moments-moment.result - 1) (c.moments-moment.result - 1) i t in omega (arith, within, c.moments-moment.ensures.count)

pub returns : goal.returns
returns c =
    let view = c.args.run.now in
    let n : ℕ = c.moments-moment.result - 1 in
    let last : n ≡ length view.events = omega (arith, c.moments-moment.ensures.count) in
    record {
      given = full_given view n n c.in_ok-given.given.items last c.in_ok-given.ensures;
      last = subst (λ (n : ℕ). ShowsFull view n c.in_ok-last.last) last c.in_ok-last.ensures.ok;
    }
