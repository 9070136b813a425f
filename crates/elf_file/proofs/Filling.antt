-- Cells that are filled, byte by byte.
use Rattle.std.proofs.Common.{◌≡◌, ◌∙◌, ◌+◌, ◌<◌, ◌≤◌, ◌↔◌, ◌&&◌, not, ℕ, zero, suc, Bool, true, false, get_or, replicate, refl, sym, ap, arith, inl, inr, Option, Some, None, unwrap_or}
use Rattle.std.proofs.lemmas.Bool.{and_from, and_right, cases_lt, le-leb, le-ltb, lt-leb, lt-ltb}
use Rattle.std.specs.Bool.{then_some}
use Rattle.std.specs.Option.{option_or}
use Rattle.std.specs.Prelude.{nat_le, nat_lt}
use Rattle.elf_file.specs.Lines.{filled, holds}
use Rattle.elf_file.specs.SourceRows.{KnownRow}

-- a cell without a number
abbrev pub no_number : Option ℕ
no_number = None

-- so is each of so many
pub none_at_each : (count at : ℕ) → get_or (replicate count no_number) at None ≡ None
none_at_each zero at = refl
none_at_each (suc count) zero = refl
none_at_each (suc count) (suc at) = none_at_each count at

pub none_more : (cell : Option ℕ) → cell ≡ option_or cell None
none_more None = refl
none_more (Some number) = refl

-- the place itself isn't among those before it
pub not_yet : (first at number : ℕ) (cell : Option ℕ) → cell ≡ filled first at number at cell
not_yet first at number cell =
    none_more cell
    ∙ sym (ap (λ (b : Bool). option_or cell (then_some b number)) (and_right (nat_le first at) (nat_lt at at) (le-ltb at at (omega arith))))

-- the cell of the next byte gets the number, unless it has one
pub one_filled : (cell : Option ℕ) (number : ℕ) → Some (unwrap_or cell number) ≡ option_or cell (Some number)
one_filled None number = refl
one_filled (Some other) number = refl

pub one_between : (first at : ℕ) → first ≤ at → (nat_le first at && nat_lt at (at + 1)) ≡ true
one_between first at from =
    and_from (nat_le first at) (nat_lt at (at + 1)) (le-leb first at from) (lt-ltb at (at + 1) (omega arith))

-- and the others stay
pub others_between : (first at other : ℕ) → (other ≡ at → ⊥) → (nat_le first other && nat_lt other (at + 1)) ≡ (nat_le first other && nat_lt other at)
others_between first at other differs =
    elim (cases_lt other at) [
      | inl below ↦ ap (λ (b : Bool). nat_le first other && b) (lt-ltb other (at + 1) (omega arith) ∙ sym (lt-ltb other at below))
      | inr behind ↦
          let past : at + 1 ≤ other = elim (cases_lt at other) [
            | inl less ↦ omega arith
            | inr same ↦ absurd (differs (omega arith))
          ] in
          ap (λ (b : Bool). nat_le first other && b) (le-ltb other (at + 1) past ∙ sym (le-ltb other at behind))
    ]

-- ---- the bytes at which a row holds

lt_same : (a b c d : ℕ) → (a < b → c < d) → (c < d → a < b) → nat_lt a b ≡ nat_lt c d
lt_same a b c d to from =
    elim (cases_lt a b) [
      | inl less ↦ lt-ltb a b less ∙ sym (lt-ltb c d (to less))
      | inr past ↦ le-ltb a b past ∙ sym (le-ltb c d (elim (cases_lt c d) [ inl less ↦ absurd (omega (arith, from less)) | inr there ↦ there ]))
    ]

le_same : (a b c d : ℕ) → (b < a → d < c) → (d < c → b < a) → nat_le a b ≡ nat_le c d
le_same a b c d to from =
    elim (cases_lt b a) [
      | inl less ↦ lt-leb a b less ∙ sym (lt-leb c d (to less))
      | inr past ↦ le-leb a b past ∙ sym (le-leb c d (elim (cases_lt d c) [ inl less ↦ absurd (omega (arith, from less)) | inr there ↦ there ]))
    ]

pub same_bytes : (row next : KnownRow) (first end number at pc : ℕ) (cell : Option ℕ) → row.ends ≡ false
    → (at < first) ↔ (pc < row.address) → (at < end) ↔ (pc < next.address)
    → filled first end number at cell ≡ option_or cell (then_some (holds row next pc) number)
same_bytes row next first end number at pc cell goes begins ends =
    ap (λ (b : Bool). option_or cell (then_some (b && nat_lt at end) number)) (le_same first at row.address pc begins.0 begins.1)
    ∙ ap (λ (b : Bool). option_or cell (then_some (nat_le row.address pc && b) number)) (lt_same at end pc next.address ends.0 ends.1)
    ∙ sym (ap (λ (b : Bool). option_or cell (then_some (not b && (nat_le row.address pc && nat_lt pc next.address)) number)) goes)
