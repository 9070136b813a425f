-- The text of an instruction is short and has no end of a line.
use Rattle.std.proofs.Common.{◌≡◌, ℕ, suc, ◌+◌, ◌*◌, ◌^◌, ◌<◌, ◌≤◌, Bool, true, false, not, ◌&&◌, List, [], ◌∷◌, ◌++◌, length, refl, arith, length-append, add-one}
use Rattle.std.specs.Prelude.{ℤ, pos, negsuc, unsigned_abs, codes, decimal, ◌==◌}
use Rattle.std.specs.List.{list_all}
use Rattle.std.specs.Fmt.{signed_decimal}
use Rattle.std.proofs.lemmas.Bool.Decides.{nat_tests}
use Rattle.std.proofs.lemmas.Fmt.{length-decimal-le}
use Rattle.std.proofs.lemmas.List.Folds.{list_all-append}
use Rattle.asm_lex.specs.Lines.{without_returns, cut_at_feeds, lines_of}
use Rattle.asm_lex.specs.Pieces.{is_word}
use Rattle.asm_lex.proofs.Spelling.{is_word-decimal}
use Rattle.isa_table.specs.declared.access.AccessSet.{AccessSet}
use Rattle.isa_table.specs.declared.register.Reg.{Reg}
use Rattle.decode.specs.Text.{register_text, address_text, place_text, distance_text, set_text, listed, operands_text}
use Rattle.assemble.proofs.Operands.{set_reads}

-- neither LF nor CR
abbrev pub in_line : ℕ → Bool
in_line b = not (b == 10) && not (b == 13)

-- a text of at most so many bytes, each within a line
pub record IsPlain (size : ℕ) (text : List ℕ) : Type 0 where
  pub fits : length text ≤ size
  pub no_end : list_all in_line text ≡ true

-- bytes of a run
word_in_line : (b : ℕ) → is_word b ≡ true → in_line b ≡ true
unfolding is_word
word_in_line b h = grind (arith, nat_tests)

words_more : (b : ℕ) (bs : List ℕ) (t : Bool) → is_word b ≡ t → (t && list_all is_word bs) ≡ true → (list_all is_word bs ≡ true → list_all in_line bs ≡ true) → list_all in_line (b ∷ bs) ≡ true
words_more b bs true h all more = rw (word_in_line b h) (more all)
words_more b bs false h all more = cc

pub words_in_line : (text : List ℕ) → list_all is_word text ≡ true → list_all in_line text ≡ true
words_in_line [] h = refl
words_in_line (b ∷ bs) h = words_more b bs (is_word b) refl h (words_in_line bs)

pub plain_append : (m n : ℕ) (s t : List ℕ) → IsPlain m s → IsPlain n t → IsPlain (m + n) (s ++ t)
plain_append m n s t p q = record {
  fits = rw (length-append s t) (omega (arith, p.fits, q.fits));
  no_end = rw (list_all-append in_line s t, p.no_end) q.no_end;
}

pub plain_within : (m n : ℕ) (text : List ℕ) → m ≤ n → IsPlain m text → IsPlain n text
plain_within m n text h p = record { fits = omega (arith, p.fits); no_end = p.no_end }

-- operands
plain_decimal : (n : ℕ) → n < 2 ^ 64 → IsPlain 20 (decimal n)
plain_decimal n fits = record { fits = length-decimal-le 20 n (omega arith) (omega arith) fits; no_end = words_in_line (decimal n) (is_word-decimal n fits) }

plain_signed : (z : ℤ) → unsigned_abs z < 2 ^ 64 → IsPlain 21 (signed_decimal z)
plain_signed (pos n) fits = plain_within 20 21 (decimal n) (omega arith) (plain_decimal n fits)
plain_signed (negsuc n) fits = plain_append 1 20 (codes "-") (decimal (suc n)) (record { fits = omega arith; no_end = refl }) (plain_decimal (suc n) fits)

plain_register : (r : Reg) → IsPlain 21 (register_text r)
plain_register r = plain_append 1 20 (codes "x") (decimal r.number) (record { fits = omega arith; no_end = refl }) (plain_decimal r.number (omega (arith, r.in_range)))

plain_address : (r : Reg) → IsPlain 23 (address_text r)
plain_address r =
    let base = plain_append 21 1 (register_text r) (codes ")") (plain_register r) (record { fits = omega arith; no_end = refl }) in
    plain_append 1 22 (codes "(") (register_text r ++ codes ")") (record { fits = omega arith; no_end = refl }) base

-- an operand
abbrev pub IsPlainOperand : List ℕ → Type 0
IsPlainOperand text = IsPlain 44 text

pub register_plain : (r : Reg) → IsPlainOperand (register_text r)
register_plain r = plain_within 21 44 (register_text r) (omega arith) (plain_register r)

pub signed_plain : (z : ℤ) → unsigned_abs z < 2 ^ 64 → IsPlainOperand (signed_decimal z)
signed_plain z fits = plain_within 21 44 (signed_decimal z) (omega arith) (plain_signed z fits)

pub address_plain : (r : Reg) → IsPlainOperand (address_text r)
address_plain r = plain_within 23 44 (address_text r) (omega arith) (plain_address r)

pub place_plain : (z : ℤ) (r : Reg) → unsigned_abs z < 2 ^ 64 → IsPlainOperand (place_text z r)
place_plain z r fits = plain_append 21 23 (signed_decimal z) (address_text r) (plain_signed z fits) (plain_address r)

pub distance_plain : (z : ℤ) → unsigned_abs z < 2 ^ 64 → IsPlainOperand (distance_text z)
distance_plain (pos n) fits = plain_within 22 44 _ (omega arith) (plain_append 2 20 (codes ".+") (decimal n) (record { fits = omega arith; no_end = refl }) (plain_decimal n fits))
distance_plain (negsuc n) fits = rw add-one (plain_within 22 44 _ (omega arith) (plain_append 2 20 (codes ".-") (decimal (suc n)) (record { fits = omega arith; no_end = refl }) (plain_decimal (suc n) fits)))

pub set_plain : (set : AccessSet) → IsPlainOperand (set_text set)
set_plain set = record { fits = (set_reads set).short; no_end = words_in_line (set_text set) (set_reads set).run }

-- operands with a comma and a blank between them, after a name and a blank
abbrev pub ArePlain : List (List ℕ) → Type 0
ArePlain [] = Unit {0}
ArePlain (t ∷ ts) = IsPlainOperand t × ArePlain ts

plain_listed : (ts : List (List ℕ)) → ArePlain ts → IsPlain (46 * length ts) (listed ts)
plain_listed [] p = record { fits = omega arith; no_end = refl }
plain_listed (t ∷ []) p = plain_within 44 46 t (omega arith) p.0
plain_listed (t ∷ u ∷ ts) p =
    let rest = plain_append 2 (46 * length (u ∷ ts)) (codes ", ") (listed (u ∷ ts)) (record { fits = omega arith; no_end = refl }) (plain_listed (u ∷ ts) p.1) in
    plain_within (44 + (2 + 46 * length (u ∷ ts))) (46 * length (t ∷ u ∷ ts)) _ (omega arith) (plain_append 44 (2 + 46 * length (u ∷ ts)) t (codes ", " ++ listed (u ∷ ts)) p.0 rest)

plain_operands : (ts : List (List ℕ)) → ArePlain ts → IsPlain (46 * length ts + 1) (operands_text ts)
plain_operands [] p = record { fits = omega arith; no_end = refl }
plain_operands (t ∷ ts) p = plain_within (1 + 46 * length (t ∷ ts)) _ _ (omega arith) (plain_append 1 (46 * length (t ∷ ts)) (codes " ") (listed (t ∷ ts)) (record { fits = omega arith; no_end = refl }) (plain_listed (t ∷ ts) p))

pub plain_text : (name : List ℕ) (ts : List (List ℕ)) → IsPlain 20 name → ArePlain ts → IsPlain (20 + (46 * length ts + 1)) (name ++ operands_text ts)
plain_text name ts p q = plain_append 20 (46 * length ts + 1) name (operands_text ts) p (plain_operands ts q)

-- such a text is one line
stays : (b : ℕ) (bs : List ℕ) → (in_line b && list_all in_line bs) ≡ true → ((b == 10) ≡ false) × ((b == 13) ≡ false) × (list_all in_line bs ≡ true)
stays b bs h = (grind (arith, nat_tests), grind (arith, nat_tests), grind (arith, nat_tests))

without_none : (text : List ℕ) → list_all in_line text ≡ true → without_returns text ≡ text
unfolding without_returns
without_none [] h = refl
without_none (b ∷ bs) h = let s = stays b bs h in rw (s.1, without_none bs s.2) refl

cut_none : (b : ℕ) (bs : List ℕ) → list_all in_line (b ∷ bs) ≡ true → cut_at_feeds (b ∷ bs) ≡ (b ∷ bs) ∷ []
unfolding cut_at_feeds
cut_none b [] h = let s = stays b [] h in rw (s.0) refl
cut_none b (c ∷ bs) h = let s = stays b (c ∷ bs) h in rw (s.0, cut_none c bs s.2) refl

pub one_line : (text : List ℕ) → 0 < length text → list_all in_line text ≡ true → lines_of text ≡ text ∷ []
unfolding lines_of
one_line [] some h = absurd (omega arith)
one_line (b ∷ bs) some h = rw (without_none (b ∷ bs) h) (cut_none b bs h)
