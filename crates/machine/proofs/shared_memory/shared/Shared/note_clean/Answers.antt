use Rattle.std.proofs.Common.{rules, ap, ◌∙◌}
use Rattle.hart.specs.declared.need.Request.TheVariants.{Cbo}
use Rattle.machine.specs.SharedMemoryRefusals.{RefusesRequest}
use Rattle.machine.specs.SharedView.{SharedView}
use Rattle.machine.proofs.Serving.{clean_refused, cleaned_line}
use Rattle.machine.proofs.shared_memory.shared.Shared.note_clean.Goals as goal

pub returns-clause-ok : goal.returns-clause-ok
returns-clause-ok c =
    let opened = c.self.view_is ∙ c.in_ok-note.ensures.ok in
    let cache = ap (λ (s : SharedView). s.cache) opened in
    cleaned_line c.args.self.now _ c.args.op c.args.hart c.args.address c.args.offset c.requires.whole c.requires.place c.requires.there
    (ap (λ (s : SharedView). s.ram) opened) (ap (λ (s : SharedView). s.reserved) opened) (ap (λ (s : SharedView). s.trace) opened)
    (rw cache at c.operate.ensures.memory) (rw cache at c.operate.ensures.changed) (rw cache at c.operate.ensures.steps)

pub returns-in_err-note-clause-refused : goal.returns-in_err-note-clause-refused
returns-in_err-note-clause-refused c =
    let refused : RefusesRequest c.args.self.now c.args.hart (Cbo c.args.op c.args.address) c.in_err-note.field-0.0 =
    clean_refused c.args.self.now c.args.op c.args.hart c.args.address c.args.offset _ c.requires.whole c.requires.place c.requires.there
    c.in_err-note.ensures.refused in search rules
