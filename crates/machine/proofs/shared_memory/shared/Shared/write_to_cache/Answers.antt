use Rattle.std.proofs.Common.{ap, refl, sym, ◌∙◌}
use Rattle.machine.specs.SharedView.{SharedView, reserved_lines}
use Rattle.machine.proofs.Serving.{stored_more, written_in_lines}
use Rattle.machine.proofs.shared_memory.shared.Shared.write_to_cache.Goals as goal

pub returns-clause-ok : goal.returns-clause-ok
returns-clause-ok c =
    let opened = c.self.view_is ∙ c.in_ok-note.ensures.ok in
    let cache = ap (λ (s : SharedView). s.cache) opened in
    let trace = ap (λ (s : SharedView). s.trace) opened in
    written_in_lines c.args.self.now _ c.args.hart c.args.address c.args.width c.args.offset c.args.value _ c.requires.place.place
    (ap (λ (s : SharedView). s.ram) opened) (rw c.store_event.ensures at trace)
    (rw cache at c.store.ensures.bytes) (rw cache at c.store.ensures.changed) (rw cache at c.store.ensures.steps)
    (stored_more c.args.self.now.reserved (reserved_lines c.stored.new.self 0 8) c.self.inside.reservations c.stored.new.self c.args.hart
    c.args.address c.reserved_line.result (sym (ap (λ (s : SharedView). s.reserved) opened)) refl c.reserved_line.ensures
    c.stored.ensures)
