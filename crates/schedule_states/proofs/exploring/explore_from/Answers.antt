use Rattle.std.proofs.Common.{◌≡◌, ℕ, sym, ap, subst, ◌∙◌, rules}
use Rattle.machine.specs.Run.{Config, started}
use Rattle.schedule_states.specs.Covering.{CoversAt}
use Rattle.schedule_states.specs.Happening.{AreLed}
use Rattle.schedule_states.specs.States.{PartsView}
use Rattle.schedule_states.specs.Watching.{nothing}
use Rattle.schedule_states.proofs.exploring.explore_from.Goals as goal

pub search-requires-clause-start : goal.search-requires-clause-start
search-requires-clause-start g c κs within =
    let start : CoversAt (g.J.StateJudge.stands c.args.judge.now) c.meet_start.new.self 0
    (started c.args.reached.now.parts.table.start.program c.args.reached.now.parts.table.start.medium c.args.reached.now.harts) = c.in_ok-stop.ensures.start (search rules) in
    let led : AreLed (g.J.StateJudge.stands c.args.judge.now) (g.J.StateJudge.allows c.args.judge.now) c.meet_start.new.self = search rules in
    let same : started c.meet_start.new.self.parts.table.start.program c.meet_start.new.self.parts.table.start.medium c.meet_start.new.self.harts
    ≡ started c.args.reached.now.parts.table.start.program c.args.reached.now.parts.table.start.medium c.args.reached.now.harts =
    ap (λ (p : PartsView). started p.table.start.program p.table.start.medium c.meet_start.new.self.harts) c.meet_start.ensures.parts
    ∙ ap (λ (harts : ℕ). started c.args.reached.now.parts.table.start.program c.args.reached.now.parts.table.start.medium harts) c.meet_start.ensures.harts in
    (subst (λ (d : Config). CoversAt (g.J.StateJudge.stands c.args.judge.now) c.meet_start.new.self 0 d) (sym same) start, led)

pub returns-clause-good : goal.returns-clause-good
returns-clause-good g c = rw (c.meet_start.ensures.parts, c.meet_start.ensures.harts) at c.search.ensures.good

pub returns-clause-requests : goal.returns-clause-requests
returns-clause-requests g c = rw (c.meet_start.ensures.parts, c.meet_start.ensures.harts) at c.search.ensures.requests

pub returns-in_err-stop-clause-told : goal.returns-in_err-stop-clause-told
returns-in_err-stop-clause-told g c = nothing

pub returns-in-Some-clause-told : goal.returns-in-Some-clause-told
returns-in-Some-clause-told g c = nothing

pub returns-clause-kept : goal.returns-clause-kept
returns-clause-kept g c = rw c.meet_start.ensures.parts at c.search.ensures.kept

pub search-requires-clause-given : goal.search-requires-clause-given
search-requires-clause-given g c κs within = rw (c.meet_start.ensures.parts, c.meet_start.ensures.harts) c.requires.given

pub search-requires-clause-reduced : goal.search-requires-clause-reduced
search-requires-clause-reduced g c κs within = rw c.meet_start.ensures.parts c.requires.reduced
