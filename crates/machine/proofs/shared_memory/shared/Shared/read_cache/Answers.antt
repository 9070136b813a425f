use Rattle.std.proofs.Common.{ap}
use Rattle.machine.specs.SharedView.{SharedView}
use Rattle.machine.proofs.Serving.{found_in_lines, read_in_lines}
use Rattle.machine.proofs.shared_memory.shared.Shared.read_cache.Goals as goal

pub returns-clause-value : goal.returns-clause-value
returns-clause-value c =
    let cache = ap (λ (s : SharedView). s.cache) c.self.view_is in
    found_in_lines c.args.self.now c.args.address c.args.width c.args.offset c.load.result c.requires.width c.requires.place
    (rw cache at c.load.ensures.value)

pub returns-clause-reads : goal.returns-clause-reads
returns-clause-reads c =
    let cache = ap (λ (s : SharedView). s.cache) c.self.view_is in
    read_in_lines c.args.self.now _ c.args.address c.args.offset _ c.requires.place.place
    (ap (λ (s : SharedView). s.ram) c.self.view_is) (ap (λ (s : SharedView). s.reserved) c.self.view_is)
    (ap (λ (s : SharedView). s.trace) c.self.view_is)
    (rw cache at c.load.ensures.memory) (rw cache at c.load.ensures.changed) (rw cache at c.load.ensures.steps)
