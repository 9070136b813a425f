-- From a reading of a word to the exact answer, since no word spells two instructions.
use Rattle.std.proofs.Common.{◌≡◌, ℕ, ◌^◌, ◌<◌, Option, Some, None, ap, refl}
use Rattle.isa_table.specs.declared.instruction.Instr.{Instr}
use Rattle.isa_table.specs.Table.{Spells}
use Rattle.isa_table.proofs.Unique.{unique}
use Rattle.decode.specs.Decoding.{Decodes, Reads}

pub decodes : (w : ℕ) (answer : Option Instr) → w < 2 ^ 32 → Reads w answer → Decodes w answer
decodes w (Some j) h r = record {
  some = λ i e. let s : Spells w j = r.some in let q : j ≡ i = cc in rw (← q) s;
  all = λ i s. ap Some (unique w h j i r.some s);
}
decodes w None h r = record {
  some = λ i e. absurd (cc);
  all = λ i s. absurd (r.none refl i s);
}
