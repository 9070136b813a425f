use Rattle.std.proofs.Common.{length}
use Rattle.std.proofs.lemmas.Option.{slice_get_within}
use Rattle.schedule_states.proofs.Putting.{below_grows, ok_of_both, put_absent, put_present}
use Rattle.schedule_states.proofs.line_table.LineTable.put.Goals as goal

pub returns-then-is_as_at_start-clause-put : goal.returns-then-is_as_at_start-clause-put
returns-then-is_as_at_start-clause-put c = ok_of_both c.without.result c.without.ensures.found c.without.ensures.below
    (λ lines found below. put_absent c.args.self.now c.args.held.now lines.items c.args.line c.args.state c.requires.below
    (c.is_as_at_start.ensures c.if-is_as_at_start.true) found (below (length c.args.self.now.states) c.requires.below))

pub returns-clause-put : goal.returns-clause-put
returns-clause-put c =
    let new = c.number_of.new.self in
    let has = c.in_ok-number.ensures.number in
    ok_of_both c.with_state.result c.with_state.ensures.found c.with_state.ensures.below
    (λ lines found below. put_present c.args.self.now new c.args.held.now lines.items c.args.line c.in_ok-number.number c.args.state has.0
    c.requires.below c.number_of.ensures.grows has.1 has.2 found
    (below (length new.states) (below_grows c.args.self.now.states new.states c.args.held.now c.number_of.ensures.grows c.requires.below)
    (slice_get_within new.states c.in_ok-number.number has.0 has.1)))
