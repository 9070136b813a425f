use Rattle.assemble.proofs.AllFaults.{early_are_all, some_found}
use Rattle.assemble.proofs.all_faults.source_faults.Goals as goal

pub returns-else-is_empty : goal.returns-else-is_empty
returns-else-is_empty c =
    early_are_all _ _ _ c.in_ok-found.ensures (some_found _ _ _ c.is_empty.ensures c.if-is_empty.false c.in_ok-found.found.ok.0)
