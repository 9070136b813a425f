use Rattle.std.proofs.Common.{◌≡◌, ◌<◌, Some, List, length, slice_get, subst, sym, ap, ◌∙◌, rules}
use Rattle.std.proofs.lemmas.Option.{get_or_from_slice_get, same_Some, slice_get-get_or}
use Rattle.schedule_states.specs.Happening.{HasHappened}
use Rattle.schedule_states.specs.Judging.{AreGoodImages}
use Rattle.schedule_states.specs.Memories.{MemoryView}
use Rattle.schedule_states.specs.declared.held_lines.HeldLine.{HeldLine}
use Rattle.schedule_states.specs.declared.state_judge.StateVerdict.TheVariants as verdicts
use Rattle.schedule_states.proofs.reached.Reached.judge.Goals as goal

pub returns-clause-good : goal.returns-clause-good
returns-clause-good g c told held t found kept =
    let verdict : c.in_ok-verdict.verdict ≡ verdicts.Good = search rules in
    let images : c.in-Some.images ≡ c.memory_of.result = search rules in
    let kept_is : slice_get c.self.inside.standings c.args.moment.standing ≡ Some t = rw (sym c.self.view_is) at kept in
    let read : c.list-held.result.now ≡ held = same_Some c.list-held.result.now held (sym c.list-held.ensures ∙ found) in
    let view : c.in-Some.images ≡ record { start = c.self.inside.parts.table.start; states = c.self.inside.parts.table.states; held = held } =
    images ∙ c.memory_of.ensures
    ∙ ap (λ (lines : List HeldLine). record { start = c.self.inside.parts.table.start; states = c.self.inside.parts.table.states; held = lines }) read in
    let same : c.index-as_slice-moment.result ≡ t = (rw c.as_slice.ensures at c.index-as_slice-moment.is)
    ∙ get_or_from_slice_get c.self.inside.standings c.args.moment.standing t c.index-as_slice-moment.result kept_is in
    let here : AreGoodImages (g.J.StateJudge.stands c.args.judge.now) (g.J.StateJudge.good c.args.judge.now c.judge.new.workspace) c.in-Some.images c.index-as_slice-moment.result = c.in_ok-verdict.ensures.good verdict in
    rw (sym c.self.view_is) (subst (λ (x : _). AreGoodImages (g.J.StateJudge.stands c.args.judge.now) (g.J.StateJudge.good c.args.judge.now c.judge.new.workspace)
    (record { start = c.self.inside.parts.table.start; states = c.self.inside.parts.table.states; held = held }) x) same
    (subst (λ (m : MemoryView). AreGoodImages (g.J.StateJudge.stands c.args.judge.now) (g.J.StateJudge.good c.args.judge.now c.judge.new.workspace) m c.index-as_slice-moment.result) view here))

pub judge-requires-clause-happens : goal.judge-requires-clause-happens
judge-requires-clause-happens g c =
    let images : c.in-Some.images ≡ c.memory_of.result = search rules in
    let there : c.args.moment.standing < length c.self.inside.standings = rw (sym c.self.view_is) at c.requires.there.1 in
    let kept : slice_get c.self.inside.standings c.args.moment.standing ≡ Some c.index-as_slice-moment.result =
    slice_get-get_or c.self.inside.standings c.args.moment.standing c.index-as_slice-moment.result there
    ∙ ap (λ (x : _). Some x) (sym (rw c.as_slice.ensures at c.index-as_slice-moment.is)) in
    let happened : HasHappened (g.J.StateJudge.stands c.args.judge.now) (g.J.StateJudge.happens c.args.judge.now)
    (record { start = c.self.inside.parts.table.start; states = c.self.inside.parts.table.states; held = c.list-held.result.now }) c.index-as_slice-moment.result =
    (rw (sym c.self.view_is) at c.requires.happens) c.list-held.result.now c.index-as_slice-moment.result c.list-held.ensures kept in
    subst (λ (m : MemoryView). HasHappened (g.J.StateJudge.stands c.args.judge.now) (g.J.StateJudge.happens c.args.judge.now) m c.index-as_slice-moment.result) (sym (images ∙ c.memory_of.ensures)) happened
