use Rattle.report.proofs.redundant.waste.tell_sums.Goals as goal

pub returns-in-Json : goal.returns-in-Json
returns-in-Json c =
    let sums = c.sums_of-uses.ensures in
    rw c.in-Json.is (rw (sums.vain, sums.uses, sums.unfenced) at c.writeln-in-Json.ensures.bytes)
