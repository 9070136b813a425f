use Rattle.std.proofs.Common.{◌-◌, ◌≤◌, ◌<◌, ◌⊎◌, arith, rules}
use Rattle.schedule_states.proofs.Reaching.{data_line, no_line_below, text_line}
use Rattle.schedule_states.specs.StartLines.{AreOf}
use Rattle.schedule_states.proofs.start_lines.StartLines.line_below.Goals as goal

pub returns-then-contains-clause-some : goal.returns-then-contains-clause-some
returns-then-contains-clause-some c =
    let of : AreOf c.args.self.now.program.text 1024 c.self.inside.text = search rules in
    let low : 1024 ≤ c.args.line = search rules in
    let high : c.args.line < 2048 = search rules in
    rw c.read_line.ensures.value (text_line c.args.self.now c.self.inside.text c.args.line (c.args.line - 1024) of (omega arith) (omega arith))

pub returns-then-contains-2-clause-some : goal.returns-then-contains-2-clause-some
returns-then-contains-2-clause-some c =
    let of : AreOf c.args.self.now.program.static_data 16384 c.self.inside.«data» = search rules in
    let low : 16384 ≤ c.args.line = search rules in
    let high : c.args.line < 32768 = search rules in
    rw c.read_line-then-contains-2.ensures.value
    (data_line c.args.self.now c.self.inside.«data» c.args.line (c.args.line - 16384) of (omega arith) (omega arith))

pub returns-else-contains-2-clause-none : goal.returns-else-contains-2-clause-none
returns-else-contains-2-clause-none c =
    let text : (c.args.line < 1024) ⊎ (2048 ≤ c.args.line) = search rules in
    let bytes : (c.args.line < 16384) ⊎ (32768 ≤ c.args.line) = search rules in
    no_line_below c.args.self.now c.args.line c.requires text bytes
