-- A store at a place of text or data is that to the memory.
use Rattle.std.proofs.Common.{◌≡◌, length, refl, arith}
use Rattle.std.proofs.lemmas.List.{take_at}
use Rattle.line_memory.proofs.Accesses.{text_stored, data_stored}
use Rattle.line_memory.proofs.ram.Ram.store_at.Goals as goal

pub returns-in-Text-clause-bytes : goal.returns-in-Text-clause-bytes
returns-in-Text-clause-bytes c =
    let within = rw c.in-Text.is at c.requires.within in
    let long : length c.store_bytes.new.bytes ≡ c.self.inside.text.len = omega arith in
    rw (← c.self.view_is, c.in-Text.is, take_at c.store_bytes.new.bytes _ _ long, c.store_bytes.ensures, c.deref_mut.ensures.value)
    (text_stored _ c.self.invariant _ c.args.width c.in-Text.at c.args.value refl within)

pub returns-in-Data-clause-bytes : goal.returns-in-Data-clause-bytes
returns-in-Data-clause-bytes c =
    let within = rw c.in-Data.is at c.requires.within in
    let long : length c.store_bytes-in-Data.new.bytes ≡ c.self.inside.bytes.len = omega arith in
    rw (
      ← c.self.view_is,
      c.in-Data.is,
      take_at c.store_bytes-in-Data.new.bytes _ _ long,
      c.store_bytes-in-Data.ensures,
      c.deref_mut-in-Data.ensures.value,
    )
    (data_stored _ c.self.invariant _ c.args.width c.in-Data.at c.args.value refl within)
