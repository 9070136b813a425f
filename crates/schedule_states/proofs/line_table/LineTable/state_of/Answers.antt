use Rattle.std.proofs.Common.{◌≡◌, ◌+◌, length, rules}
use Rattle.std.specs.Prelude.{ℕ, None, Some}
use Rattle.line_memory.specs.Lines.{line_at}
use Rattle.schedule_states.proofs.Putting.{ok_of_both}
use Rattle.schedule_states.proofs.Writing.{lacks_both, some_unless, state_copied, state_started}
use Rattle.schedule_states.specs.Memories.{state_in}
use Rattle.schedule_states.specs.StartLines.{ShowsLine, memory_at}
use Rattle.schedule_states.proofs.line_table.LineTable.state_of.Goals as goal

pub unwrap-requires : goal.unwrap-requires
unwrap-requires c =
    let none : state_in c.args.self.now.states c.args.held.now c.args.line ≡ None = search rules in
    let same : c.self.inside.start.now ≡ c.args.self.now.start = search rules in
    some_unless c.line.result c.line.ensures.none
    (λ lacks. c.requires.there (lacks_both c.args.self.now c.args.held.now c.args.line none (rw same at lacks)))

pub returns-in-Some-clause-now : goal.returns-in-Some-clause-now
returns-in-Some-clause-now c =
    let found : state_in c.args.self.now.states c.args.held.now c.args.line ≡ Some c.in-Some.state.now = search rules in
    let whole : length c.in-Some.state.now.bytes ≡ 64 = search rules in
    ok_of_both c.copy.result c.copy.ensures.bytes c.copy.ensures.others
    (λ copy bytes others. state_copied c.args.self.now c.args.held.now c.args.line c.in-Some.state.now copy found whole bytes others)

pub returns-in-None-clause-now : goal.returns-in-None-clause-now
returns-in-None-clause-now c =
    let none : state_in c.args.self.now.states c.args.held.now c.args.line ≡ None = search rules in
    let same : c.self.inside.start.now ≡ c.args.self.now.start = search rules in
    let whole : length c.unwrap.result.now ≡ 64 = search rules in
    let shown : ShowsLine (memory_at c.args.self.now.start) c.args.line c.unwrap.result.now =
    rw same at (rw c.unwrap.ensures at c.line.ensures.some) in
    let medium : (l : ℕ) → c.args.line ≡ 16777216 + l → c.unwrap.result.now ≡ line_at c.args.self.now.start.medium l =
    λ l at. rw same at (rw c.unwrap.ensures at (c.line.ensures.medium l at)) in
    state_started c.args.self.now c.args.held.now c.args.line c.unwrap.result.now c.certain.result none whole shown medium c.certain.ensures.bytes c.certain.ensures.others
