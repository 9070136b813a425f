use Rattle.std.proofs.Common.{◌≡◌, None, Some, ap, rules}
use Rattle.line_memory.specs.Memory.{fault_of}
use Rattle.machine.specs.SharedView.{SharedView, memory_of}
use Rattle.machine.proofs.Serving.{fault_in_ram, no_fault_in_lines}
use Rattle.machine.proofs.shared_memory.shared.Shared.place.Goals as goal

pub returns-in_err-place-clause-err : goal.returns-in_err-place-clause-err
returns-in_err-place-clause-err c =
    let ram = ap (λ (s : SharedView). s.ram) c.self.view_is in
    let fault : fault_of (memory_of c.args.self.now) c.args.address c.args.width ≡ Some c.in_err-place.field-0.0 =
    fault_in_ram c.args.self.now c.args.address c.args.width _ c.requires c.if-address-lt-PERSISTENT_BASE.true
    (rw ram at c.in_err-place.ensures.err) in search rules

pub returns-then-address-lt-PERSISTENT_BASE-clause-no_fault :
    goal.returns-then-address-lt-PERSISTENT_BASE-clause-no_fault
returns-then-address-lt-PERSISTENT_BASE-clause-no_fault c =
    let ram = ap (λ (s : SharedView). s.ram) c.self.view_is in
    fault_in_ram c.args.self.now c.args.address c.args.width None c.requires c.if-address-lt-PERSISTENT_BASE.true
    (rw ram at c.in_ok-place.ensures.no_fault)

pub returns-clause-no_fault : goal.returns-clause-no_fault
returns-clause-no_fault c =
    no_fault_in_lines c.args.self.now c.args.address c.args.width c.in_ok-place_in_lines.field-0 c.requires c.in_ok-place_in_lines.ensures.ok
