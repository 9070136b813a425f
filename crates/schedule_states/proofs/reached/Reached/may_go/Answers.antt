use Rattle.std.proofs.Common.{◌≡◌, Some, slice_get, subst, sym, ◌∙◌}
use Rattle.std.proofs.lemmas.Option.{get_or_from_slice_get}
use Rattle.schedule_states.specs.Turns.{MayGo, MayNotGo}
use Rattle.schedule_states.proofs.reached.Reached.may_go.Goals as goal

pub returns-clause-may : goal.returns-clause-may
returns-clause-may g c told t kept =
    let kept_is : slice_get c.self.inside.standings c.args.standing ≡ Some t = rw (sym c.self.view_is) at kept in
    let same : c.index-as_slice-standing.result ≡ t = (rw c.as_slice.ensures at c.index-as_slice-standing.is)
    ∙ get_or_from_slice_get c.self.inside.standings c.args.standing t c.index-as_slice-standing.result kept_is in
    let may : MayGo (g.J.StateJudge.stands c.args.judge.now) (g.J.StateJudge.allows c.args.judge.now) c.index-as_slice-standing.result c.args.hart = c.may_go.ensures.may told in
    subst (λ (x : _). MayGo (g.J.StateJudge.stands c.args.judge.now) (g.J.StateJudge.allows c.args.judge.now) x c.args.hart) same may

pub returns-clause-not : goal.returns-clause-not
returns-clause-not g c told t kept =
    let kept_is : slice_get c.self.inside.standings c.args.standing ≡ Some t = rw (sym c.self.view_is) at kept in
    let same : c.index-as_slice-standing.result ≡ t = (rw c.as_slice.ensures at c.index-as_slice-standing.is)
    ∙ get_or_from_slice_get c.self.inside.standings c.args.standing t c.index-as_slice-standing.result kept_is in
    let other : MayNotGo (g.J.StateJudge.stands c.args.judge.now) (g.J.StateJudge.allows c.args.judge.now) c.index-as_slice-standing.result c.args.hart = c.may_go.ensures.not told in
    subst (λ (x : _). MayNotGo (g.J.StateJudge.stands c.args.judge.now) (g.J.StateJudge.allows c.args.judge.now) x c.args.hart) same other
