-- The columns of a word that is the sum of its fields, each shifted to its place.
use Rattle.std.proofs.Common.{◌≡◌, ℕ, ◌+◌, ◌*◌, ◌^◌, ◌<◌, arith}
use Rattle.isa_table.specs.Columns.{HasColumns}

pub columns_of : (w o d f a b g : ℕ)
    → w ≡ o + d * 2 ^ 7 + f * 2 ^ 12 + a * 2 ^ 15 + b * 2 ^ 20 + g * 2 ^ 25
    → o < 2 ^ 7 → d < 2 ^ 5 → f < 2 ^ 3 → a < 2 ^ 5 → b < 2 ^ 5 → g < 2 ^ 7
    → HasColumns w o d f a b g
columns_of w o d f a b g e ho hd hf ha hb hg = record {
  opcode = omega arith;
  rd = omega arith;
  funct3 = omega arith;
  rs1 = omega arith;
  rs2 = omega arith;
  funct7 = omega arith;
}
