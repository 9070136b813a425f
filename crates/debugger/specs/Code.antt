-- What is known of the code of a machine's program.
use Rattle.std.specs.Prelude.{ℕ, ◌++◌, Bool, false, List, codes}
use Rattle.hart.specs.HartLines.{hexadecimal}

-- whether a word that is no number is taken for the name of an address, whether stops are told with their place, which address a word then stands
-- for, and how a pc is told, behind a blank
pub record KnownCode : Type 1 where
  pub named : List ℕ → Bool
  pub is_placed : Bool
  pub stands_for : List ℕ → ℕ → Type 0
  pub place : ℕ → List ℕ

-- ` pc=0xP`
abbrev pub plain_place : ℕ → List ℕ
plain_place pc = codes " pc=0x" ++ hexadecimal pc

-- nothing is known
abbrev pub unknown_code : KnownCode
unknown_code = record { named = λ word. false; is_placed = false; stands_for = λ word address. ⊥; place = plain_place }
