-- The faults of the memory are those of the place.
use Rattle.std.proofs.Common.{◌≡◌, ◌≢◌, ◌-◌, ◌%◌, rules}
use Rattle.line_memory.specs.Places.{IsOutside, IsPlace}
use Rattle.line_memory.specs.declared.TheConstants.{TEXT_BASE, DATA_BASE}
use Rattle.line_memory.specs.declared.MemFault.TheVariants.{Misaligned, Outside}
use Rattle.line_memory.specs.declared.ram.RamPlace.TheVariants.{Text, Data}
use Rattle.line_memory.proofs.Accesses.{ram_refused, ram_unfaulted}
use Rattle.line_memory.proofs.ram.Ram.place.Goals as goal

pub returns-then-not-is_aligned-clause-err : goal.returns-then-not-is_aligned-clause-err
returns-then-not-is_aligned-clause-err c =
    let odd : c.args.addr % c.args.width ≢ 0 = rw c.if-not-is_aligned.true at c.is_aligned.ensures in
    ram_refused c.args.self.now c.args.addr c.args.width Misaligned c.requires odd

pub returns-then-contains-clause-no_fault : goal.returns-then-contains-clause-no_fault
returns-then-contains-clause-no_fault c =
    let aligned : c.args.addr % c.args.width ≡ 0 = rw c.if-not-is_aligned.false at c.is_aligned.ensures in
    let at : IsPlace c.args.addr c.args.width (Text (c.args.addr - TEXT_BASE)) = search rules in
    rw (← c.self.view_is) (ram_unfaulted _ c.self.invariant c.args.addr c.args.width (Text (c.args.addr - TEXT_BASE)) at)

pub returns-then-contains-2-clause-no_fault : goal.returns-then-contains-2-clause-no_fault
returns-then-contains-2-clause-no_fault c =
    let aligned : c.args.addr % c.args.width ≡ 0 = rw c.if-not-is_aligned.false at c.is_aligned.ensures in
    let at : IsPlace c.args.addr c.args.width (Data (c.args.addr - DATA_BASE)) = search rules in
    rw (← c.self.view_is) (ram_unfaulted _ c.self.invariant c.args.addr c.args.width (Data (c.args.addr - DATA_BASE)) at)

pub returns-else-contains-2-clause-err : goal.returns-else-contains-2-clause-err
returns-else-contains-2-clause-err c =
    let aligned : c.args.addr % c.args.width ≡ 0 = rw c.if-not-is_aligned.false at c.is_aligned.ensures in
    let outside : IsOutside c.args.addr = search rules in
    ram_refused c.args.self.now c.args.addr c.args.width Outside c.requires (aligned, outside)
