use Rattle.std.proofs.Common.{ap, refl, sym}
use Rattle.machine.specs.SharedView.{SharedView, reserved_lines}
use Rattle.machine.proofs.Serving.{ram_below, stored_more, written_in_ram}
use Rattle.machine.proofs.shared_memory.shared.Shared.write_to_ram.Goals as goal

pub returns : goal.returns
returns c =
    let ram = ap (λ (s : SharedView). s.ram) c.self.view_is in
    let below = ram_below c.args.address c.args.width c.args.place c.requires.width c.requires.placed.1 in
    written_in_ram c.args.self.now _ c.args.hart c.args.address c.args.width c.args.value c.requires.width below
    c.requires.placed.0 (rw (ram, ← c.requires.placed.1.1) at c.store_at.ensures.bytes) (ap (λ (s : SharedView). s.cache) c.self.view_is)
    (ap (λ (s : SharedView). s.trace) c.self.view_is)
    (stored_more c.args.self.now.reserved (reserved_lines c.stored.new.self 0 8) c.self.inside.reservations c.stored.new.self c.args.hart
    c.args.address c.reserved_line-written_line.result (sym (ap (λ (s : SharedView). s.reserved) c.self.view_is)) refl
    c.reserved_line-written_line.ensures c.stored.ensures)
