use Rattle.std.proofs.Common.{arith}
use Rattle.crash_image.proofs.Naming.{absent_past, absent_other, absent_given, absent_there, place_apart, set_given}
use Rattle.crash_image.proofs.named.give.Goals as goal
use Rattle.crash_image.proofs.named.give.Goals.{then-at-entries-via-then-at-entries, then-at-entries-via-else-at-entries+then-entries-at}

pub returns-then-at-entries-clause-there : goal.returns-then-at-entries-clause-there
returns-then-at-entries-clause-there c = elim c.then-at-entries.branch [
  | then-at-entries-via-then-at-entries w ↦ (
    λ e. cc,
    λ there. absurd (absent_there c.args.entries.now c.args.line.0
        (absent_past c.args.entries.now c.args.line.0 c.place_of-at.result c.place_of-at.ensures (omega arith)) there),
  )
  | then-at-entries-via-else-at-entries+then-entries-at w ↦ (
    λ e. cc,
    λ there. absurd (absent_there c.args.entries.now c.args.line.0
        (absent_other c.args.entries.now c.args.line.0 c.place_of-at.result _ c.requires c.place_of-at.ensures (omega arith) w.if-entries-at.true) there),
  )
]

pub returns-then-at-entries-clause-given : goal.returns-then-at-entries-clause-given
returns-then-at-entries-clause-given c = elim c.then-at-entries.branch [
  | then-at-entries-via-then-at-entries w ↦
      absent_given c.args.entries.now c.args.line
      (absent_past c.args.entries.now c.args.line.0 c.place_of-at.result c.place_of-at.ensures (omega arith))
  | then-at-entries-via-else-at-entries+then-entries-at w ↦
      absent_given c.args.entries.now c.args.line
      (absent_other c.args.entries.now c.args.line.0 c.place_of-at.result _ c.requires c.place_of-at.ensures (omega arith) w.if-entries-at.true)
]

pub returns-clause-given : goal.returns-clause-given
returns-clause-given c =
    set_given c.args.entries.now c.args.line c.place_of-at.result _ c.if-at-entries.false c.if-entries-at.false
    (place_apart c.args.entries.now c.args.line.0 c.place_of-at.result c.args.line c.requires c.place_of-at.ensures c.if-at-entries.false)
