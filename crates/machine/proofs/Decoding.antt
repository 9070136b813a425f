-- A text that is decoded word by word.
use Rattle.std.proofs.Common.{◌≡◌, ◌≢◌, ℕ, zero, suc, ◌+◌, ◌-◌, ◌*◌, ◌<◌, ◌≤◌, List, [], ◌∷◌, ◌++◌, length, Result, Some, nat_lt, slice_index, slice_index_or, slice_set, take, drop, ap, ◌∙◌, if◌then◌else◌, refl, sym, inl, inr, arith}
use Rattle.std.proofs.lemmas.Bool.{cases_lt, cases_eq, lt-ltb, le-ltb}
use Rattle.std.proofs.lemmas.List.{get_or-drop, get_or-take, get_or-set_same, get_or-set_other, get_or_append_left, length-append, length-set}
use Rattle.std.proofs.Math.Seq.{get_or-append_seam}
use Rattle.line_memory.specs.declared.TheConstants.{TEXT_BASE, TEXT_SIZE}
use Rattle.isa_table.specs.declared.instruction.Instr.{Instr}
use Rattle.hart.specs.declared.state.Trap.{Trap}
use Rattle.hart.specs.Needs.{IsInstruction}
use Rattle.word_bits.specs.Bytes.{loaded}
use Rattle.machine.specs.Decoded.{AreDecoded, AreInstructions, AreMixed, word_of}
use Rattle.machine.specs.Represents.{text_bytes}
use Rattle.machine.specs.Run.{fetched}
use Rattle.machine.proofs.Copying.{word_fetched}

-- one word more
pub more_decoded : (bytes : List ℕ) (decoded : List (Result Instr Trap)) (instr : Result Instr Trap) → AreInstructions bytes decoded
    → IsInstruction (Some (word_of bytes (length decoded))) instr → AreInstructions bytes (decoded ++ instr ∷ [])
more_decoded bytes decoded instr each one j other inside = elim (cases_lt j (length decoded)) [
  | inl low ↦ rw (get_or_append_left decoded (instr ∷ []) other j low) (each j other low)
  | inr high ↦
      let here : j ≡ length decoded = omega (arith, length-append decoded (instr ∷ [])) in
      rw (here, get_or-append_seam decoded instr [] other) one
]

pub none_mixed : (text before : List ℕ) (decoded : List (Result Instr Trap)) → AreInstructions before decoded → AreMixed text before 0 decoded
none_mixed text before decoded each j other inside = rw (le-ltb j 0 (omega arith)) (each j other inside)

pub all_mixed : (text before : List ℕ) (n : ℕ) (decoded : List (Result Instr Trap)) → length decoded ≤ n → AreMixed text before n decoded
    → AreInstructions text decoded
all_mixed text before n decoded all each j other inside = rw (lt-ltb j n (omega arith)) at (each j other inside)

-- a word that is decoded anew, and one that is the same
same_text : (text before : List ℕ) (n j : ℕ) → j ≢ n → (if nat_lt j (n + 1) then text else before) ≡ (if nat_lt j n then text else before)
same_text text before n j apart = elim (cases_lt j n) [
  | inl low ↦ rw (lt-ltb j n low, lt-ltb j (n + 1) (omega arith)) refl
  | inr high ↦
      let past : n + 1 ≤ j = omega (arith, apart) in
      rw (le-ltb j n high, le-ltb j (n + 1) past) refl
]

pub mixed_anew : (text before : List ℕ) (n : ℕ) (decoded : List (Result Instr Trap)) (instr : Result Instr Trap) → n < length decoded
    → AreMixed text before n decoded → IsInstruction (Some (word_of text n)) instr → AreMixed text before (n + 1) (slice_set decoded n instr)
mixed_anew text before n decoded instr there each one j other inside = elim (cases_eq j n) [
  | inl e ↦ rw (e, lt-ltb n (n + 1) (omega arith), get_or-set_same decoded n instr other there) one
  | inr apart ↦
      rw (same_text text before n j apart, get_or-set_other decoded n j instr other apart)
      (each j other (rw (length-set decoded n instr) at inside))
]

-- words that are the same in both texts
pub mixed_same : (text before : List ℕ) (n m : ℕ) (decoded : List (Result Instr Trap)) → n ≤ m
    → ((j : ℕ) → n ≤ j → j < m → word_of text j ≡ word_of before j) → AreMixed text before n decoded → AreMixed text before m decoded
mixed_same text before n m decoded more same each j other inside = elim (cases_lt j n) [
  | inl low ↦ rw (lt-ltb j m (omega arith)) (rw (lt-ltb j n low) at (each j other inside))
  | inr past ↦
      let was : IsInstruction (Some (word_of before j)) (slice_index_or decoded j other) = rw (le-ltb j n past) at (each j other inside) in
      elim (cases_lt j m) [
        | inl within ↦ rw (lt-ltb j m within, same j past within) was
        | inr high ↦ rw (le-ltb j m high) was
      ]
]

-- where 64 bytes are the same, each number that they spell is
same_byte : (text before : List ℕ) (at k : ℕ) → take 64 (drop at text) ≡ take 64 (drop at before) → k < 64
    → slice_index text (at + k) ≡ slice_index before (at + k)
same_byte text before at k e few =
    sym (get_or-drop at text k 0) ∙ sym (get_or-take 64 (drop at text) k 0 few) ∙ ap (λ (l : List ℕ). slice_index l k) e
    ∙ get_or-take 64 (drop at before) k 0 few ∙ get_or-drop at before k 0

same_loaded : (text before : List ℕ) (at k n : ℕ) → take 64 (drop at text) ≡ take 64 (drop at before) → k + n ≤ 64
    → loaded text (at + k) n ≡ loaded before (at + k) n
same_loaded text before at k zero e fits = refl
same_loaded text before at k (suc n) e fits =
    let next : at + (k + 1) ≡ suc (at + k) = omega arith in
    let rest : loaded text (suc (at + k)) n ≡ loaded before (suc (at + k)) n = rw next at (same_loaded text before at (k + 1) n e (omega arith)) in
    rw (same_byte text before at k e (omega arith), rest) refl

pub same_line : (text before : List ℕ) (line : ℕ) (decoded : List (Result Instr Trap))
    → take 64 (drop (64 * line) before) ≡ take 64 (drop (64 * line) text) → AreMixed text before (16 * line) decoded
    → AreMixed text before (16 * line + 16) decoded
same_line text before line decoded e each =
    mixed_same text before (16 * line) (16 * line + 16) decoded (omega arith)
    (λ j low high.
    let place : 4 * j ≡ 64 * line + (4 * j - 64 * line) = omega arith in
    let same = same_loaded text before (64 * line) (4 * j - 64 * line) 4 (sym e) (omega arith) in
    rw place same)
    each

-- the instruction at a place of a text
pub decoded_at : (bytes : List ℕ) (decoded : List (Result Instr Trap)) (pc place : ℕ) (instr : Result Instr Trap) → length bytes ≡ TEXT_SIZE
    → AreDecoded bytes decoded → pc ≡ TEXT_BASE + 4 * place → place < length decoded → instr ≡ slice_index_or decoded place instr
    → IsInstruction (fetched (text_bytes bytes) pc) instr
decoded_at bytes decoded pc place instr whole is at fits found =
    let within : 4 * place + 4 ≤ TEXT_SIZE = omega (arith, is.whole, is.within) in
    rw (word_fetched bytes pc (4 * place) whole at within, found) (is.each place instr fits)
