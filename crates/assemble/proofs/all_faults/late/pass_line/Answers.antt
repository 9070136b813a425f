use Rattle.std.proofs.Common.{◌∙◌, sym}
use Rattle.assemble.specs.Labels.{place_at}
use Rattle.assemble.specs.Meanings.{line_meaning}
use Rattle.assemble.proofs.Placed.{late_is, next_after}
use Rattle.assemble.proofs.all_faults.late.pass_line.Goals as goal

pub returns-in-Ok-after-clause-code : goal.returns-in-Ok-after-clause-code
returns-in-Ok-after-clause-code c = λ earlier after.
    late_is (place_at c.args.labels.now) c.args.position.now c.args.text.now (line_meaning c.in-Ok.line) earlier c.place.result c.label_code-code.result
    c.in-Ok.ensures.ok c.place.ensures c.label_code-code.ensures after

pub returns-in-Ok-after-clause-next : goal.returns-in-Ok-after-clause-next
returns-in-Ok-after-clause-next c = λ earlier after.
    next_after c.args.position.now c.in-Ok-after.next c.args.text.now (line_meaning c.in-Ok.line) earlier
    c.in-Ok.ensures.ok (sym c.after.ensures ∙ c.in-Ok-after.is) after
