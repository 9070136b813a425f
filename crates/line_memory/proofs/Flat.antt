-- The whole address space: which loads, stores and refusals are those of persistent memory, and which those of text and data.
use Rattle.std.proofs.Common.{◌≡◌, ℕ, zero, suc, ◌+◌, ◌-◌, ◌*◌, ◌/◌, ◌%◌, ◌<◌, ◌≤◌, List, [], length, Some, None, refl, sym, ◌∙◌, arith, inl, inr}
use Rattle.std.proofs.lemmas.Bool.{cases_lt, cases_eq, lt-ltb, le-ltb}
use Rattle.std.proofs.lemmas.List.{get_or_past}
use Rattle.word_bits.specs.Bytes.{loaded}
use Rattle.line_memory.specs.Lines.{line_at, line_bytes, AreLines}
use Rattle.line_memory.specs.Memory.{Memory, IsWidth, loaded_from, stored_to, fault_of}
use Rattle.line_memory.specs.Regions.{flat}
use Rattle.line_memory.specs.declared.TheConstants.{PERSISTENT_BASE}
use Rattle.line_memory.specs.declared.MemFault.TheVariants.{Outside}
use Rattle.line_memory.proofs.Maps.{loaded_none}
use Rattle.line_memory.proofs.Accesses.{cases_store, some_width, fault_none, fault_misaligned, fault_outside, line_loaded, stored_to_in, stored_to_below, stored_to_above}

-- a byte of either part
pub flat_persistent : (ram persistent : Memory) (offset : ℕ) → flat ram persistent (PERSISTENT_BASE + offset) ≡ persistent offset
unfolding flat
flat_persistent ram persistent offset =
    let place : PERSISTENT_BASE + offset - PERSISTENT_BASE ≡ offset = omega arith in
    rw (le-ltb (PERSISTENT_BASE + offset) PERSISTENT_BASE (omega arith), place) refl

pub flat_ram : (ram persistent : Memory) (address : ℕ) → address < PERSISTENT_BASE → flat ram persistent address ≡ ram address
unfolding flat
flat_ram ram persistent address low = rw (lt-ltb address PERSISTENT_BASE low) refl

-- loads
pub loaded_same : (one other : Memory) (a b width : ℕ) → ((k : ℕ) → k < width → one (a + k) ≡ other (b + k))
    → loaded_from one a width ≡ loaded_from other b width
unfolding loaded_from
loaded_same one other a b zero h = refl
loaded_same one other a b (suc width) h =
    let here : a + 0 ≡ a = omega arith in
    let there : b + 0 ≡ b = omega arith in
    let first = rw (here, there) at (h 0 (omega arith)) in
    let rest = loaded_same one other (suc a) (suc b) width (λ k l.
    let e : suc a + k ≡ a + (k + 1) = omega arith in
    let f : suc b + k ≡ b + (k + 1) = omega arith in
    rw (e, f) (h (k + 1) (omega arith))) in
    rw (first, rest) refl

pub load_persistent : (ram persistent : Memory) (offset width : ℕ)
    → loaded_from (flat ram persistent) (PERSISTENT_BASE + offset) width ≡ loaded_from persistent offset width
load_persistent ram persistent offset width = loaded_same (flat ram persistent) persistent (PERSISTENT_BASE + offset) offset width (λ k h.
    let e : PERSISTENT_BASE + offset + k ≡ PERSISTENT_BASE + (offset + k) = omega arith in
    rw e (flat_persistent ram persistent (offset + k)))

pub load_ram : (ram persistent : Memory) (address width : ℕ) → address + width ≤ PERSISTENT_BASE
    → loaded_from (flat ram persistent) address width ≡ loaded_from ram address width
load_ram ram persistent address width low = loaded_same (flat ram persistent) ram address address width (λ k h. flat_ram ram persistent (address + k) (omega arith))

-- stores
pub store_persistent : (ram persistent : Memory) (offset width value : ℕ)
    → stored_to (flat ram persistent) (PERSISTENT_BASE + offset) width value ≡ flat ram (stored_to persistent offset width value)
store_persistent ram persistent offset width value =
    let new : Memory = stored_to persistent offset width value in
    let same : (a : ℕ) → stored_to (flat ram persistent) (PERSISTENT_BASE + offset) width value a ≡ flat ram new a = λ a.
    elim (cases_lt a PERSISTENT_BASE) [
      | inl low ↦
          stored_to_below (flat ram persistent) (PERSISTENT_BASE + offset) width value a (omega arith)
          ∙ flat_ram ram persistent a low ∙ sym (flat_ram ram new a low)
      | inr high ↦
          let j : ℕ = a - PERSISTENT_BASE in
          let e : a ≡ PERSISTENT_BASE + j = omega arith in
          let there : flat ram new (PERSISTENT_BASE + j) ≡ new j = flat_persistent ram new j in
          let was : flat ram persistent (PERSISTENT_BASE + j) ≡ persistent j = flat_persistent ram persistent j in
          rw (e, there) (elim (cases_store offset width j) [
            | inl before ↦
                stored_to_below (flat ram persistent) (PERSISTENT_BASE + offset) width value (PERSISTENT_BASE + j) (omega arith)
                ∙ was ∙ sym (stored_to_below persistent offset width value j before)
            | inr (inl (k, h, p)) ↦
                let q : PERSISTENT_BASE + (offset + k) ≡ PERSISTENT_BASE + offset + k = omega arith in
                rw (p, q) (stored_to_in (flat ram persistent) (PERSISTENT_BASE + offset) width value k h
                ∙ sym (stored_to_in persistent offset width value k h))
            | inr (inr (k, p)) ↦
                stored_to_above (flat ram persistent) (PERSISTENT_BASE + offset) width value (PERSISTENT_BASE + j) (omega arith)
                ∙ was ∙ sym (stored_to_above persistent offset width value j (omega arith))
          ])
    ] in
    λ i a. same a i

pub store_ram : (ram persistent : Memory) (address width value : ℕ) → address + width ≤ PERSISTENT_BASE
    → stored_to (flat ram persistent) address width value ≡ flat (stored_to ram address width value) persistent
unfolding flat stored_to
store_ram ram persistent address width value fits =
    let same : (a : ℕ) → stored_to (flat ram persistent) address width value a ≡ flat (stored_to ram address width value) persistent a = λ a.
    elim (cases_lt a PERSISTENT_BASE) [
      | inl low ↦ rw (lt-ltb a PERSISTENT_BASE low) refl
      | inr high ↦
          stored_to_above (flat ram persistent) address width value a (omega arith)
          ∙ rw (le-ltb a PERSISTENT_BASE high) refl
    ] in
    λ i a. same a i

-- refusals
pub aligned_persistent : (offset width : ℕ) → IsWidth width → (PERSISTENT_BASE + offset) % width ≡ offset % width
aligned_persistent offset width (inl e) = rw e (omega arith)
aligned_persistent offset width (inr (inl e)) = rw e (omega arith)
aligned_persistent offset width (inr (inr (inl e))) = rw e (omega arith)
aligned_persistent offset width (inr (inr (inr e))) = rw e (omega arith)

pub aligned_below : (address width : ℕ) → IsWidth width → address % width ≡ 0 → address < PERSISTENT_BASE → address + width ≤ PERSISTENT_BASE
aligned_below address width (inl e) h low = omega arith
aligned_below address width (inr (inl e)) h low = let a = rw e at h in omega arith
aligned_below address width (inr (inr (inl e))) h low = let a = rw e at h in omega arith
aligned_below address width (inr (inr (inr e))) h low = let a = rw e at h in omega arith

pub fault_persistent : (ram persistent : Memory) (offset width : ℕ) → IsWidth width
    → fault_of (flat ram persistent) (PERSISTENT_BASE + offset) width ≡ fault_of persistent offset width
unfolding fault_of
fault_persistent ram persistent offset width w = rw (aligned_persistent offset width w, load_persistent ram persistent offset width) refl

pub fault_ram : (ram persistent : Memory) (address width : ℕ) → IsWidth width → address < PERSISTENT_BASE
    → fault_of (flat ram persistent) address width ≡ fault_of ram address width
unfolding fault_of
fault_ram ram persistent address width w low = elim (cases_eq (address % width) 0) [
  | inl aligned ↦ rw (load_ram ram persistent address width (aligned_below address width w aligned low)) refl
  | inr misaligned ↦ fault_misaligned (flat ram persistent) address width misaligned ∙ sym (fault_misaligned ram address width misaligned)
]

-- lines: an aligned access that begins within them can be made, and no other
pub fault_line : (lines : List (List ℕ)) → AreLines lines → (offset width : ℕ) → IsWidth width → offset % width ≡ 0 → offset < 64 * length lines
    → fault_of (line_bytes lines) offset width ≡ None
fault_line lines each offset width w aligned there = fault_none (line_bytes lines) offset width (loaded (line_at lines (offset / 64)) (offset % 64) width) aligned (line_loaded lines each offset width w aligned there)

pub past_lines : (lines : List (List ℕ)) (offset : ℕ) → 64 * length lines ≤ offset → line_bytes lines offset ≡ None
unfolding line_bytes
past_lines lines offset past = rw (get_or_past lines (offset / 64) [] (omega arith)) refl

pub fault_past_lines : (lines : List (List ℕ)) (offset width : ℕ) → IsWidth width → offset % width ≡ 0 → 64 * length lines ≤ offset
    → fault_of (line_bytes lines) offset width ≡ Some Outside
fault_past_lines lines offset width w aligned past =
    fault_outside (line_bytes lines) offset width aligned (loaded_none (line_bytes lines) offset width (some_width width w) (past_lines lines offset past))
