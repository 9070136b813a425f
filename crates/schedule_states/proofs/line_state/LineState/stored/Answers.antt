use Rattle.std.proofs.Common.{rules, ◌≡◌}
use Rattle.word_bits.specs.Bytes.{stored}
use Rattle.schedule_states.proofs.Stepping.{ComeOf, Line, line_of, line_stored}
use Rattle.schedule_states.proofs.line_state.LineState.stored.Goals as goal

pub returns-clause-line : goal.returns-clause-line
returns-clause-line c =
    let after : Line = record { bytes = c.store_bytes.new.bytes; others = c.in_ok-others.others.items } in
    let made : after.bytes ≡ stored c.args.self.now.bytes c.args.offset c.args.width c.args.value = search rules in
    let come : ComeOf (line_of c.args.self.now) after = search rules in
    λ start l p is. line_stored start l c.args.offset c.args.width c.args.value p (line_of c.args.self.now) after is made come
