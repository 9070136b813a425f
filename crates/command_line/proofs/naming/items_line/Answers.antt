-- There is no space where there is no item.
use Rattle.std.proofs.Common.{◌≡◌, ◌∙◌, [], rules, sym}
use Rattle.report.specs.Why.{spaced}
use Rattle.command_line.proofs.ImageLines.{spaced_none}
use Rattle.command_line.proofs.naming.items_line.Goals as goal

pub returns-then-is_empty : goal.returns-then-is_empty
returns-then-is_empty c =
    let none : spaced c.args.items.now ≡ [] = spaced_none c.args.items.now (sym c.is_empty.ensures ∙ c.if-is_empty.true) in
    rw none (search rules)
