use Rattle.std.proofs.Common.{[], refl, ap, arith}
use Rattle.clean_fence.specs.Rules.{PmView}
use Rattle.machine.proofs.Reserving.{lines_agree}
use Rattle.machine.proofs.shared_memory.shared.Shared.made.Goals as goal

pub returns-clause-ok : goal.returns-clause-ok
returns-clause-ok c =
    let capacity = ap (λ (v : PmView). v.cache.capacity) c.in-Ok-new.ensures.made in
    record {
      memory = rw (c.in-Ok.ensures.ok, c.text_bytes.ensures.text, c.data_bytes.ensures.static_data, c.in-Ok-new.ensures.memory) refl;
      reserved = lines_agree c.new-2.result [] c.new-2.ensures;
      trace = c.new-3.ensures;
      cached = record { steps = []; others = refl; represents = (c.in-Ok-new.ensures.represents [] (omega arith)).represents };
      unforced = λ lines few among. c.in-Ok-new.ensures.represents lines (rw capacity at few);
    }
