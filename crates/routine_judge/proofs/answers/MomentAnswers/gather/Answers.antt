use Rattle.std.proofs.Common.{sym, subst, arith}
use Rattle.routine_judge.specs.Gathered.{AreAnswers}
use Rattle.routine_judge.specs.RightAnswers.{IsRightWindow, of_window}
use Rattle.routine_judge.proofs.Gathering.{answers_of_either, answers_of_itself, on_ok}
use Rattle.routine_judge.specs.declared.history.moments.Window.{Window}
use Rattle.routine_judge.specs.declared.history.moments.Window.TheVariants.{Through}
use Rattle.routine_judge.proofs.answers.MomentAnswers.gather.Goals as goal

pub returns-in-Itself-clause-right : goal.returns-in-Itself-clause-right
returns-in-Itself-clause-right c =
    on_ok c.take_in.result
    (answers_of_itself c.args.run.now c.args.window c.args.moment c.args.self.now.right c.take_in.new.self.right c.in-Itself.is c.requires.none)
    c.take_in.ensures.right

pub returns-in_ok-take_in-in-Either-clause-right : goal.returns-in_ok-take_in-in-Either-clause-right
returns-in_ok-take_in-in-Either-clause-right c =
    let events = c.args.run.now.events in
    let before = c.in-Either.before in
    let after = c.in-Either.after in
    let lies = c.windows_lie_in_the_run.ensures.either events c.args.moment before after c.requires.there
    (subst (λ (w : Window). IsRightWindow c.args.run.now c.args.moment w) c.in-Either.is c.requires.window) in
    on_ok c.take_in-in-Either-2.result
    (answers_of_either c.args.run.now c.args.window c.args.moment before after c.args.self.now.right c.take_in-in-Either.new.self.right c.take_in-in-Either-2.new.self.right
    c.in-Either.is (omega (arith, lies)) c.requires.none c.in_ok-take_in-in-Either.ensures.right) c.take_in-in-Either-2.ensures.right

pub between-requires-clause-few : goal.between-requires-clause-few
between-requires-clause-few c =
    let view = c.args.run.now in
    let last = c.in-Through.last in
    let is : IsRightWindow view c.args.moment (Through c.in-Through.first last) =
    subst (λ (w : Window). IsRightWindow view c.args.moment w) c.in-Through.is c.requires.window in
    let lies = c.windows_lie_in_the_run.ensures.through view.events c.args.moment is.0 last c.requires.there is.1 in
    omega (arith, lies, c.requires.few)

pub returns-in_ok-self-in-Through-clause-right : goal.returns-in_ok-self-in-Through-clause-right
returns-in_ok-self-in-Through-clause-right c =
    let view = c.args.run.now in
    subst (λ (w : Window). AreAnswers view (of_window w c.args.moment) c.in_ok-self-in-Through.field-0) (sym c.in-Through.is)
    (c.in_ok-self-in-Through.ensures view c.requires.span)
