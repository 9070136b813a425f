use Rattle.std.proofs.Common.{rules, ◌≡◌, insert}
use Rattle.schedule_states.proofs.Held.{below_inserted}
use Rattle.schedule_states.specs.HeldLines.{AreBelow}
use Rattle.schedule_states.specs.declared.held_lines.HeldLine.{HeldLine}
use Rattle.schedule_states.proofs.held_lines.with_state.Goals as goal

pub returns-clause-below : goal.returns-clause-below
returns-clause-below c = λ count all few.
    let one : HeldLine = record { line = c.args.line; state = c.args.state } in
    let put : c.insert.new.self.items ≡ insert c.in_ok-lines.lines.items c.count_below-at.result one = search rules in
    let before : AreBelow count c.in_ok-lines.lines.items = c.in_ok-lines.ensures.below count all in
    rw put (below_inserted count c.in_ok-lines.lines.items c.count_below-at.result one few before)
