use Rattle.std.proofs.Common.{◌≡◌, ◌-◌, ◌≤◌, length, arith, rules}
use Rattle.line_memory.specs.Lines.{line_at}
use Rattle.schedule_states.proofs.Reaching.{no_persistent_line, persistent_line}
use Rattle.schedule_states.proofs.start_lines.StartLines.line.Goals as goal

pub returns-then-line-from-clause-some : goal.returns-then-line-from-clause-some
returns-then-line-from-clause-some c =
    let high : 16777216 ≤ c.args.line = search rules in
    let is : c.read_line.result.now ≡ line_at c.args.self.now.medium (c.args.line - 16777216) = search rules in
    rw is (persistent_line c.args.self.now c.args.line (c.args.line - 16777216) (omega arith))

pub returns-else-line-from-clause-none : goal.returns-else-line-from-clause-none
returns-else-line-from-clause-none c =
    let high : 16777216 ≤ c.args.line = search rules in
    let past : length c.args.self.now.medium ≤ c.args.line - 16777216 = search rules in
    no_persistent_line c.args.self.now c.args.line (c.args.line - 16777216) (omega arith) past
