use Rattle.lru_cache.proofs.Tables.{table_made}
use Rattle.lru_cache.proofs.slots.Slots.new.Goals as goal

pub invariant_of-result : goal.invariant_of-result
invariant_of-result c =
    rw (c.in_ok-slot_of.ensures, c.in_ok-line_of.ensures.items, c.in_ok-free.ensures.items) (table_made c.args.most c.args.lines _ _ c.in_ok-line_of.ensures.exact c.in_ok-free.ensures.exact)
