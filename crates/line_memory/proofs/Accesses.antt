-- Loads, stores and refusals of text, data and lines, as those of the memory that they are.
use Rattle.std.proofs.Common.{◌≡◌, ◌≢◌, ◌⊎◌, ℕ, ◌+◌, ◌-◌, ◌*◌, ◌/◌, ◌%◌, ◌^◌, ◌<◌, ◌≤◌, List, [], length, slice_index, slice_index_or, slice_get, slice_set, nat_lt, nat_le, Option, Some, None, refl, sym, ◌∙◌, arith, inl, inr}
use Rattle.std.proofs.lemmas.Bool.{cases_lt, lt-ltb, le-ltb, le-leb, lt-leb, eq-eqb, ne_eqb, and_right}
use Rattle.std.proofs.lemmas.List.{get_or-set_same, get_or-set_other}
use Rattle.std.proofs.lemmas.Option.{slice_get-get_or, slice_get_read}
use Rattle.word_bits.specs.Bytes.{loaded, stored}
use Rattle.line_memory.specs.Lines.{line_at, line_bytes, AreLines}
use Rattle.line_memory.specs.Memory.{Memory, IsWidth, loaded_from, stored_to, fault_of}
use Rattle.line_memory.specs.Places.{IsOutside, IsPlace, IsRefused}
use Rattle.line_memory.specs.Regions.{RamView, IsRam, region, ram_bytes}
use Rattle.line_memory.specs.declared.TheConstants.{TEXT_BASE, TEXT_SIZE, DATA_BASE, DATA_SIZE}
use Rattle.line_memory.specs.declared.ram.RamPlace.{RamPlace}
use Rattle.line_memory.specs.declared.ram.RamPlace.TheVariants.{Text, Data}
use Rattle.line_memory.specs.declared.MemFault.{MemFault}
use Rattle.line_memory.specs.declared.MemFault.TheVariants.{Misaligned, Outside}
use Rattle.line_memory.proofs.Maps.{loaded_shown, loaded_none, stored_before, stored_within, stored_after}

-- what keeps an access from being made
pub fault_none : (memory : Memory) (address width number : ℕ) → address % width ≡ 0
    → loaded_from memory address width ≡ Some number → fault_of memory address width ≡ None
unfolding fault_of
fault_none memory address width number aligned found = rw (eq-eqb (address % width) 0 aligned, found) refl

pub fault_misaligned : (memory : Memory) (address width : ℕ) → address % width ≢ 0 → fault_of memory address width ≡ Some Misaligned
unfolding fault_of
fault_misaligned memory address width h = rw (ne_eqb (address % width) 0 h) refl

pub fault_outside : (memory : Memory) (address width : ℕ) → address % width ≡ 0
    → loaded_from memory address width ≡ None → fault_of memory address width ≡ Some Outside
unfolding fault_of
fault_outside memory address width aligned none = rw (eq-eqb (address % width) 0 aligned, none) refl

pub some_width : (width : ℕ) → IsWidth width → 0 < width
some_width width h = omega arith

-- a byte that a store writes, and one that it leaves
pub stored_to_in : (memory : Memory) (address width value k : ℕ) → k < width
    → stored_to memory address width value (address + k) ≡ Some (value / 256 ^ k % 256)
unfolding stored_to
stored_to_in memory address width value k h =
    let low = le-leb address (address + k) (omega arith) in
    let high = lt-ltb (address + k) (address + width) (omega arith) in
    let place : address + k - address ≡ k = omega arith in
    rw (low, high, place) refl

pub stored_to_below : (memory : Memory) (address width value a : ℕ) → a < address → stored_to memory address width value a ≡ memory a
unfolding stored_to
stored_to_below memory address width value a h = rw (lt-leb address a h) refl

pub stored_to_above : (memory : Memory) (address width value a : ℕ) → address + width ≤ a → stored_to memory address width value a ≡ memory a
unfolding stored_to
stored_to_above memory address width value a h =
    rw (and_right (nat_le address a) (nat_lt a (address + width)) (le-ltb a (address + width) h)) refl

-- a place before, within or after a store
pub cases_store : (at n a : ℕ) → (a < at) ⊎ (((k : ℕ) × (k < n) × (a ≡ at + k)) ⊎ ((k : ℕ) × (a ≡ at + n + k)))
cases_store at n a = elim (cases_lt a at) [
  | inl before ↦ inl before
  | inr from ↦ elim (cases_lt a (at + n)) [
    | inl within ↦ inr (inl (a - at, omega arith, omega arith))
    | inr after ↦ inr (inr (a - (at + n), omega arith))
  ]
]

-- one region
pub region_byte : (base size : ℕ) (bytes : List ℕ) (at : ℕ) → at < size → region base size bytes (base + at) ≡ slice_get bytes at
unfolding region
region_byte base size bytes at h =
    let low = le-leb base (base + at) (omega arith) in
    let high = lt-ltb (base + at) (base + size) (omega arith) in
    let place : base + at - base ≡ at = omega arith in
    rw (low, high, place) refl

pub region_outside : (base size : ℕ) (bytes : List ℕ) (a : ℕ) → (a < base) ⊎ (base + size ≤ a) → region base size bytes a ≡ None
unfolding region
region_outside base size bytes a (inl before) = rw (lt-leb base a before) refl
region_outside base size bytes a (inr after) = rw (and_right (nat_le base a) (nat_lt a (base + size)) (le-ltb a (base + size) after)) refl

pub region_loaded : (base size : ℕ) (bytes : List ℕ) (address width at : ℕ) → length bytes ≡ size → address ≡ base + at → at + width ≤ size
    → loaded_from (region base size bytes) address width ≡ Some (loaded bytes at width)
region_loaded base size bytes address width at long e fits = loaded_shown (region base size bytes) bytes address at width (λ k h.
    let place : address + k ≡ base + (at + k) = omega arith in
    rw place (region_byte base size bytes (at + k) (omega arith) ∙ slice_get-get_or bytes (at + k) 0 (omega arith)))

-- text and data
pub text_byte : (ram : RamView) (at : ℕ) → at < TEXT_SIZE → ram_bytes ram (TEXT_BASE + at) ≡ slice_get ram.text at
unfolding ram_bytes
text_byte ram at h = rw (lt-ltb (TEXT_BASE + at) DATA_BASE (omega arith)) (region_byte TEXT_BASE TEXT_SIZE ram.text at h)

pub data_byte : (ram : RamView) (at : ℕ) → at < DATA_SIZE → ram_bytes ram (DATA_BASE + at) ≡ slice_get ram.bytes at
unfolding ram_bytes
data_byte ram at h = rw (le-ltb (DATA_BASE + at) DATA_BASE (omega arith)) (region_byte DATA_BASE DATA_SIZE ram.bytes at h)

pub no_byte : (ram : RamView) (address : ℕ) → IsOutside address → ram_bytes ram address ≡ None
unfolding ram_bytes
no_byte ram address out = elim (cases_lt address DATA_BASE) [
  | inl low ↦ rw (lt-ltb address DATA_BASE low) (region_outside TEXT_BASE TEXT_SIZE ram.text address out.0)
  | inr high ↦ rw (le-ltb address DATA_BASE high) (region_outside DATA_BASE DATA_SIZE ram.bytes address out.1)
]

pub text_loaded : (ram : RamView) → IsRam ram → (address width at : ℕ) → address ≡ TEXT_BASE + at → at + width ≤ TEXT_SIZE
    → loaded_from (ram_bytes ram) address width ≡ Some (loaded ram.text at width)
text_loaded ram sound address width at e fits = loaded_shown (ram_bytes ram) ram.text address at width (λ k h.
    let place : address + k ≡ TEXT_BASE + (at + k) = omega arith in
    rw place (text_byte ram (at + k) (omega arith) ∙ slice_get-get_or ram.text (at + k) 0 (omega (arith, sound.text))))

pub data_loaded : (ram : RamView) → IsRam ram → (address width at : ℕ) → address ≡ DATA_BASE + at → at + width ≤ DATA_SIZE
    → loaded_from (ram_bytes ram) address width ≡ Some (loaded ram.bytes at width)
data_loaded ram sound address width at e fits = loaded_shown (ram_bytes ram) ram.bytes address at width (λ k h.
    let place : address + k ≡ DATA_BASE + (at + k) = omega arith in
    rw place (data_byte ram (at + k) (omega arith) ∙ slice_get-get_or ram.bytes (at + k) 0 (omega (arith, sound.bytes))))

pub ram_refused : (ram : RamView) (address width : ℕ) (fault : MemFault) → IsWidth width → IsRefused address width fault
    → fault_of (ram_bytes ram) address width ≡ Some fault
ram_refused ram address width Misaligned w h = fault_misaligned (ram_bytes ram) address width h
ram_refused ram address width Outside w h =
    fault_outside (ram_bytes ram) address width h.0 (loaded_none (ram_bytes ram) address width (some_width width w) (no_byte ram address h.1))

-- a part of a memory that holds a list's bytes, before and after a store to the list
store_shown : (old new : Memory) (bytes : List ℕ) (base size at n v : ℕ) → at + n ≤ length bytes → at + n ≤ size
    → ((j : ℕ) → j < size → old (base + j) ≡ slice_get bytes j)
    → ((j : ℕ) → j < size → new (base + j) ≡ slice_get (stored bytes at n v) j)
    → ((a : ℕ) → (a < base) ⊎ (base + size ≤ a) → new a ≡ old a)
    → (a : ℕ) → new a ≡ stored_to old (base + at) n v a
store_shown old new bytes base size at n v fits inside was becomes others a = elim (cases_lt a base) [
  | inl below ↦ others a (inl below) ∙ sym (stored_to_below old (base + at) n v a (omega arith))
  | inr from ↦ elim (cases_lt a (base + size)) [
    | inr above ↦ others a (inr above) ∙ sym (stored_to_above old (base + at) n v a (omega arith))
    | inl here ↦
        let j : ℕ = a - base in
        let e : a ≡ base + j = omega arith in
        let low : j < size = omega arith in
        rw e (becomes j low ∙ elim (cases_store at n j) [
          | inl before ↦
              stored_before bytes at n v j fits before ∙ sym (was j low)
              ∙ sym (stored_to_below old (base + at) n v (base + j) (omega arith))
          | inr (inl (k, h, p)) ↦
              let q : base + (at + k) ≡ base + at + k = omega arith in
              rw (p, q) (stored_within bytes at n v k fits h ∙ sym (stored_to_in old (base + at) n v k h))
          | inr (inr (k, p)) ↦
              let byte : slice_get (stored bytes at n v) j ≡ slice_get bytes j = rw p (stored_after bytes at n v k fits) in
              byte ∙ sym (was j low) ∙ sym (stored_to_above old (base + at) n v (base + j) (omega arith))
        ])
  ]
]

text_rest : (ram : RamView) (text : List ℕ) (a : ℕ) → (a < TEXT_BASE) ⊎ (TEXT_BASE + TEXT_SIZE ≤ a)
    → ram_bytes (record ram { text = text }) a ≡ ram_bytes ram a
unfolding ram_bytes
text_rest ram text a h = elim (cases_lt a DATA_BASE) [
  | inl low ↦ rw (lt-ltb a DATA_BASE low) (region_outside TEXT_BASE TEXT_SIZE text a h ∙ sym (region_outside TEXT_BASE TEXT_SIZE ram.text a h))
  | inr high ↦ rw (le-ltb a DATA_BASE high) refl
]

data_rest : (ram : RamView) (bytes : List ℕ) (a : ℕ) → (a < DATA_BASE) ⊎ (DATA_BASE + DATA_SIZE ≤ a)
    → ram_bytes (record ram { bytes = bytes }) a ≡ ram_bytes ram a
unfolding ram_bytes
data_rest ram bytes a h = elim (cases_lt a DATA_BASE) [
  | inl low ↦ rw (lt-ltb a DATA_BASE low) refl
  | inr high ↦ rw (le-ltb a DATA_BASE high) (region_outside DATA_BASE DATA_SIZE bytes a h ∙ sym (region_outside DATA_BASE DATA_SIZE ram.bytes a h))
]

pub text_stored : (ram : RamView) → IsRam ram → (address width at value : ℕ) → address ≡ TEXT_BASE + at → at + width ≤ TEXT_SIZE
    → ram_bytes (record ram { text = stored ram.text at width value }) ≡ stored_to (ram_bytes ram) address width value
text_stored ram sound address width at value e fits =
    let fit : at + width ≤ length ram.text = omega (arith, sound.text) in
    let text : List ℕ = stored ram.text at width value in
    let same : (a : ℕ) → ram_bytes (record ram { text = text }) a ≡ stored_to (ram_bytes ram) (TEXT_BASE + at) width value a =
    store_shown (ram_bytes ram) (ram_bytes (record ram { text = text })) ram.text TEXT_BASE TEXT_SIZE at width value fit fits
    (λ j h. text_byte ram j h) (λ j h. text_byte (record ram { text = text }) j h)
    (text_rest ram text) in
    rw e (λ i a. same a i)

pub data_stored : (ram : RamView) → IsRam ram → (address width at value : ℕ) → address ≡ DATA_BASE + at → at + width ≤ DATA_SIZE
    → ram_bytes (record ram { bytes = stored ram.bytes at width value }) ≡ stored_to (ram_bytes ram) address width value
data_stored ram sound address width at value e fits =
    let fit : at + width ≤ length ram.bytes = omega (arith, sound.bytes) in
    let bytes : List ℕ = stored ram.bytes at width value in
    let same : (a : ℕ) → ram_bytes (record ram { bytes = bytes }) a ≡ stored_to (ram_bytes ram) (DATA_BASE + at) width value a =
    store_shown (ram_bytes ram) (ram_bytes (record ram { bytes = bytes })) ram.bytes DATA_BASE DATA_SIZE at width value fit fits
    (λ j h. data_byte ram j h) (λ j h. data_byte (record ram { bytes = bytes }) j h)
    (data_rest ram bytes) in
    rw e (λ i a. same a i)

-- lines
pub fits_line : (offset width : ℕ) → IsWidth width → offset % width ≡ 0 → offset % 64 + width ≤ 64
fits_line offset width (inl e) h = let a = rw e at h in omega arith
fits_line offset width (inr (inl e)) h = let a = rw e at h in omega arith
fits_line offset width (inr (inr (inl e))) h = let a = rw e at h in omega arith
fits_line offset width (inr (inr (inr e))) h = let a = rw e at h in omega arith

pub line_byte : (lines : List (List ℕ)) (line j : ℕ) → j < 64 → line_bytes lines (64 * line + j) ≡ slice_get (line_at lines line) j
unfolding line_bytes
line_byte lines line j h =
    let e : (64 * line + j) / 64 ≡ line = omega arith in
    let f : (64 * line + j) % 64 ≡ j = omega arith in
    rw (e, f) refl

pub line_rest : (lines : List (List ℕ)) (line : ℕ) (bytes : List ℕ) (a : ℕ) → (a < 64 * line) ⊎ (64 * line + 64 ≤ a)
    → line_bytes (slice_set lines line bytes) a ≡ line_bytes lines a
unfolding line_bytes
line_rest lines line bytes a h =
    let other : a / 64 ≢ line = λ e. omega arith in
    rw (get_or-set_other lines line (a / 64) bytes [] other) refl

pub line_loaded : (lines : List (List ℕ)) → AreLines lines → (offset width : ℕ) → IsWidth width → offset % width ≡ 0 → offset < 64 * length lines
    → loaded_from (line_bytes lines) offset width ≡ Some (loaded (line_at lines (offset / 64)) (offset % 64) width)
line_loaded lines each offset width w aligned there =
    let line : List ℕ = line_at lines (offset / 64) in
    let whole : length line ≡ 64 = each.whole (offset / 64) (omega arith) in
    let fits = fits_line offset width w aligned in
    loaded_shown (line_bytes lines) line offset (offset % 64) width (λ k h.
    let place : offset + k ≡ 64 * (offset / 64) + (offset % 64 + k) = omega arith in
    rw place (line_byte lines (offset / 64) (offset % 64 + k) (omega arith) ∙ slice_get-get_or line (offset % 64 + k) 0 (omega arith)))

pub line_stored : (lines : List (List ℕ)) → AreLines lines → (offset width value : ℕ) → IsWidth width → offset % width ≡ 0 → offset < 64 * length lines
    → line_bytes (slice_set lines (offset / 64) (stored (line_at lines (offset / 64)) (offset % 64) width value)) ≡ stored_to (line_bytes lines) offset width value
line_stored lines each offset width value w aligned there =
    let number : ℕ = offset / 64 in
    let line : List ℕ = line_at lines number in
    let bytes : List ℕ = stored line (offset % 64) width value in
    let whole : length line ≡ 64 = each.whole number (omega arith) in
    let fits = fits_line offset width w aligned in
    let place : 64 * number + offset % 64 ≡ offset = omega arith in
    let new : line_at (slice_set lines number bytes) number ≡ bytes = get_or-set_same lines number bytes [] (omega arith) in
    let same : (a : ℕ) → line_bytes (slice_set lines number bytes) a ≡ stored_to (line_bytes lines) (64 * number + offset % 64) width value a =
    store_shown (line_bytes lines) (line_bytes (slice_set lines number bytes)) line (64 * number) 64 (offset % 64) width value (omega arith) fits
    (λ j h. line_byte lines number j h)
    (λ j h. rw new at (line_byte (slice_set lines number bytes) number j h))
    (line_rest lines number bytes) in
    let same' = rw place at same in
    λ i a. same' a i

pub line_peeked : (lines : List (List ℕ)) → AreLines lines → (offset : ℕ) → offset < 64 * length lines
    → line_bytes lines offset ≡ Some (slice_index (line_at lines (offset / 64)) (offset % 64))
unfolding line_bytes
line_peeked lines each offset there =
    let whole : length (line_at lines (offset / 64)) ≡ 64 = each.whole (offset / 64) (omega arith) in
    slice_get-get_or (line_at lines (offset / 64)) (offset % 64) 0 (omega arith)

-- the accesses of a Ram, by the place that was found
pub text_unfaulted : (ram : RamView) → IsRam ram → (address width at : ℕ) → address % width ≡ 0 → address ≡ TEXT_BASE + at → at + width ≤ TEXT_SIZE
    → fault_of (ram_bytes ram) address width ≡ None
text_unfaulted ram sound address width at aligned e fits =
    fault_none (ram_bytes ram) address width (loaded ram.text at width) aligned (text_loaded ram sound address width at e fits)

pub data_unfaulted : (ram : RamView) → IsRam ram → (address width at : ℕ) → address % width ≡ 0 → address ≡ DATA_BASE + at → at + width ≤ DATA_SIZE
    → fault_of (ram_bytes ram) address width ≡ None
data_unfaulted ram sound address width at aligned e fits =
    fault_none (ram_bytes ram) address width (loaded ram.bytes at width) aligned (data_loaded ram sound address width at e fits)

pub ram_unfaulted : (ram : RamView) → IsRam ram → (address width : ℕ) (place : RamPlace) → IsPlace address width place
    → fault_of (ram_bytes ram) address width ≡ None
ram_unfaulted ram sound address width (Text at) h = text_unfaulted ram sound address width at h.0 h.1 h.2
ram_unfaulted ram sound address width (Data at) h = data_unfaulted ram sound address width at h.0 h.1 h.2

pub text_peeked : (ram : RamView) → IsRam ram → (address at : ℕ) → address ≡ TEXT_BASE + at → at + 1 ≤ TEXT_SIZE
    → (byte : ℕ) → byte ≡ slice_index_or ram.text at byte → Some byte ≡ ram_bytes ram address
text_peeked ram sound address at e fits byte read =
    let same = slice_get_read ram.text (length ram.text) at byte refl (omega (arith, sound.text)) read in
    rw e (sym (text_byte ram at (omega arith) ∙ same))

pub data_peeked : (ram : RamView) → IsRam ram → (address at : ℕ) → address ≡ DATA_BASE + at → at + 1 ≤ DATA_SIZE
    → (byte : ℕ) → byte ≡ slice_index_or ram.bytes at byte → Some byte ≡ ram_bytes ram address
data_peeked ram sound address at e fits byte read =
    let same = slice_get_read ram.bytes (length ram.bytes) at byte refl (omega (arith, sound.bytes)) read in
    rw e (sym (data_byte ram at (omega arith) ∙ same))

unread : (memory : Memory) (address : ℕ) (fault : MemFault) (found : Option ℕ) → memory address ≡ found
    → fault_of memory address 1 ≡ Some fault → memory address ≡ None
unfolding loaded_from
unread memory address fault None e h = e
unread memory address fault (Some byte) e h =
    let none : fault_of memory address 1 ≡ None = fault_none memory address 1 (byte + 256 * 0) (omega arith) (rw e refl) in absurd cc

-- a byte that can't be loaded is in no region
pub none_peeked : (memory : Memory) (address : ℕ) (fault : MemFault) → fault_of memory address 1 ≡ Some fault → memory address ≡ None
none_peeked memory address fault h = unread memory address fault (memory address) refl h
