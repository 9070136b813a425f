use Rattle.std.proofs.Common.{◌≡◌, ◌∙◌, ap, rules}
use Rattle.schedule_states.specs.Fed.{with_registers}
use Rattle.schedule_states.proofs.program_state.with_registers.Goals as goal

pub returns : goal.returns
returns c =
    let all : c.loop-number.number ≡ 32 = search rules in
    c.loop-number.invariant.joined ∙ ap (λ n. with_registers c.args.sum c.args.registers.now n) all
