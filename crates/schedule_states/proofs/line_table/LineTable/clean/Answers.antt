use Rattle.std.proofs.Common.{◌≡◌, ◌/◌, ◌≤◌, Some, None, rules}
use Rattle.std.proofs.lemmas.Result.{IfOk-weaker}
use Rattle.line_memory.specs.declared.TheConstants.{PERSISTENT_BASE}
use Rattle.schedule_states.proofs.Fencing.{clean_made, clean_of_none}
use Rattle.schedule_states.specs.Memories.{state_in}
use Rattle.schedule_states.proofs.line_table.LineTable.clean.Goals as goal

pub returns-in_ok-after-in-Some-clause-cleaned : goal.returns-in_ok-after-in-Some-clause-cleaned
returns-in_ok-after-in-Some-clause-cleaned c =
    let found : state_in c.args.self.now.states c.args.held.now (c.args.address / 64) ≡ Some c.in-Some.state.now = search rules in
    let high : PERSISTENT_BASE ≤ c.args.address = search rules in
    IfOk-weaker c.put.result _ _
    (λ lines put memory p of. clean_made c.args.self.now c.put.new.self c.args.held.now lines.items c.args.hart c.args.address c.in-Some.state.now
    c.in_ok-after-in-Some.after memory p c.put.ensures.start high found c.in_ok-after-in-Some.ensures.bytes c.in_ok-after-in-Some.ensures.line put of)
    c.put.ensures.put

pub returns-in-None-clause-cleaned : goal.returns-in-None-clause-cleaned
returns-in-None-clause-cleaned c =
    let none : state_in c.args.self.now.states c.args.held.now (c.args.address / 64) ≡ None = search rules in
    let high : PERSISTENT_BASE ≤ c.args.address = search rules in
    IfOk-weaker c.from_slice-in-None.result _ _
    (λ lines same memory p of. clean_of_none c.args.self.now c.args.held.now lines.items c.args.hart c.args.address memory p same high none of)
    c.from_slice-in-None.ensures.items
