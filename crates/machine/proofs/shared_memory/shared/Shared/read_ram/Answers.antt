use Rattle.std.proofs.Common.{ap}
use Rattle.machine.specs.SharedView.{SharedView}
use Rattle.machine.proofs.Serving.{found_in_ram, read_in_ram, ram_below}
use Rattle.machine.proofs.shared_memory.shared.Shared.read_ram.Goals as goal

pub returns-clause-value : goal.returns-clause-value
returns-clause-value c =
    let ram = ap (λ (s : SharedView). s.ram) c.self.view_is in
    let below = ram_below c.args.address c.args.width c.args.place c.requires.width c.requires.placed.1 in
    found_in_ram c.args.self.now c.args.address c.args.width c.load_at.result c.requires.width below
    c.requires.placed.0 (rw (ram, ← c.requires.placed.1.1) at c.load_at.ensures)

pub returns-clause-reads : goal.returns-clause-reads
returns-clause-reads c =
    read_in_ram c.args.self.now c.args.address (ram_below c.args.address c.args.width c.args.place c.requires.width c.requires.placed.1)
