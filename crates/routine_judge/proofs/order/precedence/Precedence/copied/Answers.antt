use Rattle.std.proofs.Common.{◌∙◌, List, ap, map}
use Rattle.routine_judge.proofs.Equal.{told_entries}
use Rattle.routine_judge.specs.Order.{begun_of}
use Rattle.routine_judge.specs.declared.order.entry.Entry.{Entry}
use Rattle.routine_judge.proofs.order.precedence.Precedence.copied.Goals as goal

pub returns : goal.returns
returns c = told_entries c.in_ok-entries.entries.items c.args.self.now.entries.items
    (c.in_ok-entries.ensures ∙ ap (λ (es : List Entry). map begun_of es) c.deref.ensures.value)
