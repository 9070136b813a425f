use Rattle.std.proofs.Common.{ℕ, ◌-◌, leb, sym, arith, rules}
use Rattle.std.proofs.lemmas.List.Sorted.{IsPartitionPoint-from_clause}
use Rattle.assemble.proofs.Numbers.{at_found, at_low, at_past, finds_line}
use Rattle.assemble.proofs.numbering.LineNumbers.at.Goals as goal

pub returns-then-address-base : goal.returns-then-address-base
returns-then-address-base c = sym (at_low c.args.self.now c.args.address (omega arith))

pub returns-then-before-len : goal.returns-then-before-len
returns-then-before-len c =
    let first = finds_line c.self.inside.ends.items c.deref.result.now c.args.address (c.args.address - c.from-base.result)
    c.partition_point-before.result c.deref.ensures.value (omega arith) c.self.invariant.1 c.partition_point-before.ensures.bound
    (λ parted. IsPartitionPoint-from_clause (λ (end : ℕ). leb end (c.args.address - c.from-base.result)) _ _ c.partition_point-before.ensures.partitioned parted
    (λ a r q k. search rules)) in
    rw (← c.self.view_is) (sym (at_found c.self.inside.ends.items c.args.address c.partition_point-before.result (omega arith) first (omega arith)))

pub returns-else-before-len : goal.returns-else-before-len
returns-else-before-len c =
    let first = finds_line c.self.inside.ends.items c.deref.result.now c.args.address (c.args.address - c.from-base.result)
    c.partition_point-before.result c.deref.ensures.value (omega arith) c.self.invariant.1 c.partition_point-before.ensures.bound
    (λ parted. IsPartitionPoint-from_clause (λ (end : ℕ). leb end (c.args.address - c.from-base.result)) _ _ c.partition_point-before.ensures.partitioned parted
    (λ a r q k. search rules)) in
    rw (← c.self.view_is) (sym (at_past c.self.inside.ends.items c.args.address c.partition_point-before.result (omega arith) first (omega arith)))
