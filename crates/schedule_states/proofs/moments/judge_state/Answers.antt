use Rattle.std.proofs.Common.{◌≡◌, ◌<◌, Some, length, slice_get, sym, ap, ◌∙◌, subst, rules}
use Rattle.std.proofs.lemmas.Option.{slice_get_within}
use Rattle.std.proofs.lemmas.Result.{IfOk-weaker}
use Rattle.schedule_states.proofs.Happening.{happened_on_medium}
use Rattle.schedule_states.proofs.Judging.{known_moment, moments_among, moments_more, moments_noted, state_of_moment}
use Rattle.schedule_states.specs.HeldLines.{on_medium}
use Rattle.schedule_states.specs.Judging.{AreGoodMoments, IsGoodMoment}
use Rattle.schedule_states.specs.Media.{AreOnMedium, IsOnMedium}
use Rattle.schedule_states.specs.Reaching.{AreThere}
use Rattle.schedule_states.specs.States.{PartsView}
use Rattle.schedule_states.specs.declared.moments.Moment.{Moment}
use Rattle.schedule_states.proofs.moments.judge_state.Goals as goal

pub returns-then-place-known-clause-good : goal.returns-then-place-known-clause-good
returns-then-place-known-clause-good g c told =
    let at : (slice_get c.args.reached.now.states c.args.number ≡ Some c.in-Some.numbers) × AreThere c.args.reached.now c.in-Some.numbers = rw c.in-Some.is at c.find.ensures.found in
    let on : IsOnMedium c.args.reached.now.parts c.number_of.new.self.lists c.in-Some.numbers.memory c.in_ok-memory.memory =
    subst (λ (p : PartsView). IsOnMedium p c.number_of.new.self.lists c.in-Some.numbers.memory c.in_ok-memory.memory) c.parts.ensures c.in_ok-memory.ensures.number in
    let known : AreOnMedium c.args.reached.now.parts c.number_of.new.self =
    subst (λ (p : PartsView). AreOnMedium p c.number_of.new.self) c.parts.ensures c.number_of.ensures.known in
    let among : AreGoodMoments (g.J.StateJudge.stands c.args.judge.now) (g.J.StateJudge.good c.args.judge.now c.args.workspace.now) c.args.reached.now c.number_of.new.self c.args.judged.now.moments =
    moments_among (g.J.StateJudge.stands c.args.judge.now) (g.J.StateJudge.good c.args.judge.now c.args.workspace.now) c.args.reached.now c.args.judged.now.media c.number_of.new.self
    c.args.judged.now.moments c.number_of.ensures.kept known c.requires.good in
    let within : c.in_ok-memory.memory < length c.number_of.new.self.lists =
    slice_get_within c.number_of.new.self.lists c.in_ok-memory.memory (on_medium on.held) on.here in
    let moment : Moment = record { memory = c.in_ok-memory.memory; standing = c.in-Some.numbers.standing } in
    let number = c.in_ok-place.ensures.number in
    let same : moment ≡ number.found = search rules in
    let there : c.in_ok-place.place < length c.args.judged.now.moments = search rules in
    let was : IsGoodMoment (g.J.StateJudge.stands c.args.judge.now) (g.J.StateJudge.good c.args.judge.now c.args.workspace.now) c.args.reached.now c.number_of.new.self.lists moment.memory moment.standing =
    known_moment (g.J.StateJudge.stands c.args.judge.now) (g.J.StateJudge.good c.args.judge.now c.args.workspace.now) c.args.reached.now c.number_of.new.self c.args.judged.now.moments c.number_of-2.new.self
    c.in_ok-place.place moment c.number_of-2.ensures.kept there (number.here ∙ ap (λ (m : Moment). Some m) (sym same)) among in (
      moments_more (g.J.StateJudge.stands c.args.judge.now) (g.J.StateJudge.good c.args.judge.now c.args.workspace.now) c.args.reached.now c.number_of.new.self c.args.judged.now.moments
          c.number_of-2.new.self moment c.number_of-2.ensures.appended among within at.1.standing was,
      state_of_moment (g.J.StateJudge.stands c.args.judge.now) (g.J.StateJudge.good c.args.judge.now c.args.workspace.now) c.args.reached.now c.number_of.new.self.lists c.args.number c.in-Some.numbers c.in_ok-memory.memory
          at.0 on was,
    )

pub returns-clause-good : goal.returns-clause-good
returns-clause-good g c = IfOk-weaker c.judge.result _ _ (λ stop is told.
    let at : (slice_get c.args.reached.now.states c.args.number ≡ Some c.in-Some.numbers) × AreThere c.args.reached.now c.in-Some.numbers = rw c.in-Some.is at c.find.ensures.found in
    let on : IsOnMedium c.args.reached.now.parts c.number_of.new.self.lists c.in-Some.numbers.memory c.in_ok-memory.memory =
    subst (λ (p : PartsView). IsOnMedium p c.number_of.new.self.lists c.in-Some.numbers.memory c.in_ok-memory.memory) c.parts.ensures c.in_ok-memory.ensures.number in
    let known : AreOnMedium c.args.reached.now.parts c.number_of.new.self =
    subst (λ (p : PartsView). AreOnMedium p c.number_of.new.self) c.parts.ensures c.number_of.ensures.known in
    let before : AreGoodMoments (g.J.StateJudge.stands c.args.judge.now) (g.J.StateJudge.good c.args.judge.now c.args.workspace.now) c.args.reached.now c.number_of.new.self c.args.judged.now.moments =
    moments_among (g.J.StateJudge.stands c.args.judge.now) (g.J.StateJudge.good c.args.judge.now c.args.workspace.now) c.args.reached.now c.args.judged.now.media c.number_of.new.self
    c.args.judged.now.moments c.number_of.ensures.kept known c.requires.good in
    let among : AreGoodMoments (g.J.StateJudge.stands c.args.judge.now) (g.J.StateJudge.good c.args.judge.now c.judge.new.workspace) c.args.reached.now c.number_of.new.self c.args.judged.now.moments =
    moments_noted (g.J.StateJudge.stands c.args.judge.now) (g.J.StateJudge.good c.args.judge.now c.args.workspace.now) (g.J.StateJudge.good c.args.judge.now c.judge.new.workspace) c.args.reached.now c.number_of.new.self c.args.judged.now.moments c.judge.ensures.kept before in
    let within : c.in_ok-memory.memory < length c.number_of.new.self.lists =
    slice_get_within c.number_of.new.self.lists c.in_ok-memory.memory (on_medium on.held) on.here in
    let moment : Moment = record { memory = c.in_ok-memory.memory; standing = c.in-Some.numbers.standing } in (
      moments_more (g.J.StateJudge.stands c.args.judge.now) (g.J.StateJudge.good c.args.judge.now c.judge.new.workspace) c.args.reached.now c.number_of.new.self c.args.judged.now.moments
          c.number_of-2.new.self moment c.number_of-2.ensures.appended among within at.1.standing (is told),
      state_of_moment (g.J.StateJudge.stands c.args.judge.now) (g.J.StateJudge.good c.args.judge.now c.judge.new.workspace) c.args.reached.now c.number_of.new.self.lists c.args.number c.in-Some.numbers c.in_ok-memory.memory
          at.0 on (is told),
    )) c.judge.ensures.good

pub judge-requires-clause-happens : goal.judge-requires-clause-happens
judge-requires-clause-happens g c κs within =
    let at : (slice_get c.args.reached.now.states c.args.number ≡ Some c.in-Some.numbers) × AreThere c.args.reached.now c.in-Some.numbers = rw c.in-Some.is at c.find.ensures.found in
    let on : IsOnMedium c.args.reached.now.parts c.number_of.new.self.lists c.in-Some.numbers.memory c.in_ok-memory.memory =
    subst (λ (p : PartsView). IsOnMedium p c.number_of.new.self.lists c.in-Some.numbers.memory c.in_ok-memory.memory) c.parts.ensures c.in_ok-memory.ensures.number in
    happened_on_medium (g.J.StateJudge.stands c.args.judge.now) (g.J.StateJudge.happens c.args.judge.now) c.args.reached.now c.number_of.new.self.lists c.in-Some.numbers.memory c.in_ok-memory.memory c.in-Some.numbers.standing on
    (c.requires.happens.happened c.in-Some.numbers at.0)
