-- The moments of the window lie in the run.
use Rattle.std.proofs.lemmas.Result.{IfOk-weaker}
use Rattle.routine_judge.proofs.GivenAnswers.{among_within}
use Rattle.routine_judge.proofs.right_moments.answers_at.Goals as goal

pub given_by-requires-clause-inside : goal.given_by-requires-clause-inside
given_by-requires-clause-inside c =
    let view = c.args.run.now in
    λ i t. among_within view c.args.moment i c.in_ok-window.window c.requires.there c.in_ok-window.ensures.window
    (λ before after is. c.windows_lie_in_the_run.ensures.either view.events c.args.moment before after c.requires.there is)
    (λ first last is. c.windows_lie_in_the_run.ensures.through view.events c.args.moment first last c.requires.there is) t

pub returns : goal.returns
returns c = IfOk-weaker c.given_by.result _ _ (λ right given. record { window = c.in_ok-window.window; is_window = c.in_ok-window.ensures.window; given = given }) c.given_by.ensures
