-- Accesses of flat memory by the region that they begin in.
use Rattle.std.proofs.Common.{◌≡◌, ◌≢◌, ◌⊎◌, ℕ, ◌+◌, ◌-◌, ◌*◌, ◌%◌, ◌<◌, ◌≤◌, List, Option, Some, None, Result, Ok, Err, IfOk, IfErr, OnOk, length, slice_get, nat_le, nat_lt, refl, sym, ap, ◌∙◌, inl, inr, arith}
use Rattle.std.proofs.lemmas.Bool.{cases_lt, lt-ltb, le-ltb, le-leb, lt-leb, and_right}
use Rattle.std.proofs.lemmas.Result.{on_ok_weaker}
use Rattle.line_memory.specs.Lines.{IsMedium, line_bytes}
use Rattle.line_memory.specs.Memory.{IsWidth, Memory, fault_of, loaded_from, stored_to}
use Rattle.line_memory.specs.Places.{IsOutside}
use Rattle.line_memory.specs.Regions.{RamView, flat, padded, ram_bytes, region}
use Rattle.line_memory.specs.declared.MemFault.{MemFault}
use Rattle.recovery.proofs.Holding.{load_over}
use Rattle.line_memory.specs.declared.MemFault.TheVariants.{Misaligned, Outside}
use Rattle.line_memory.specs.declared.TheConstants.{TEXT_BASE, TEXT_SIZE, DATA_BASE, DATA_SIZE, PERSISTENT_BASE}
use Rattle.line_memory.proofs.Accesses.{cases_store, fault_misaligned, fault_none, fault_outside, some_width, stored_to_above, stored_to_below, stored_to_in}
use Rattle.line_memory.proofs.Flat.{flat_persistent, flat_ram, load_persistent, load_ram, loaded_same, past_lines, store_persistent, store_ram}
use Rattle.line_memory.proofs.Maps.{loaded_none}
use Rattle.lru_cache.proofs.Shows.{length_shown}
use Rattle.lru_cache.specs.Cache.{copied_over}
use Rattle.recovery.specs.Held.{IsFresh, IsOver, memory_over}
use Rattle.recovery.specs.Memory.{HeldView, IsAtStart, IsWithin, address_of, memory_of, placed, text_and_data, IsBelow, IsSound}
use Rattle.recovery.specs.Regions.{IsKept, IsRegion, RegionView, bytes_of}
use Rattle.recovery.specs.declared.overlay_memory.memory.Place.{Place}
use Rattle.recovery.specs.declared.overlay_memory.memory.Place.TheVariants.{Text, Data, Image}

-- the bytes of one region
placed_here : (base size : ℕ) (bytes : Memory) (at : ℕ) → at < size → placed base size bytes (base + at) ≡ bytes at
unfolding placed
placed_here base size bytes at h =
    let place : base + at - base ≡ at = omega arith in
    rw (le-leb base (base + at) (omega arith), lt-ltb (base + at) (base + size) (omega arith), place) refl

placed_outside : (base size : ℕ) (bytes : Memory) (a : ℕ) → (a < base) ⊎ (base + size ≤ a) → placed base size bytes a ≡ None
unfolding placed
placed_outside base size bytes a (inl before) = rw (lt-leb base a before) refl
placed_outside base size bytes a (inr after) = rw (and_right (nat_le base a) (nat_lt a (base + size)) (le-ltb a (base + size) after)) refl

placed_same : (base size : ℕ) (bytes others : Memory) (a : ℕ) → ((at : ℕ) → a ≡ base + at → others at ≡ bytes at)
    → placed base size others a ≡ placed base size bytes a
placed_same base size bytes others a same = elim (cases_lt a base) [
  | inl before ↦ placed_outside base size others a (inl before) ∙ sym (placed_outside base size bytes a (inl before))
  | inr from ↦
      let place : a ≡ base + (a - base) = omega arith in
      elim (cases_lt (a - base) size) [
        | inl here ↦ rw place (placed_here base size others (a - base) here ∙ same (a - base) place ∙ sym (placed_here base size bytes (a - base) here))
        | inr past ↦
            let after : base + size ≤ a = omega arith in
            placed_outside base size others a (inr after) ∙ sym (placed_outside base size bytes a (inr after))
      ]
]

-- a store into a region
placed_store : (base size : ℕ) (bytes : Memory) (at width value a : ℕ) → at + width ≤ size
    → stored_to (placed base size bytes) (base + at) width value a ≡ placed base size (stored_to bytes at width value) a
placed_store base size bytes at width value a fits = elim (cases_store (base + at) width a) [
  | inl before ↦
      stored_to_below (placed base size bytes) (base + at) width value a before
      ∙ sym (placed_same base size bytes (stored_to bytes at width value) a (λ j e. stored_to_below bytes at width value j (omega arith)))
  | inr (inl (k, h, e)) ↦
      let there : a ≡ base + (at + k) = omega arith in
      let here : base + (at + k) ≡ base + at + k = omega arith in
      rw there (sym (placed_here base size (stored_to bytes at width value) (at + k) (omega arith) ∙ stored_to_in bytes at width value k h
      ∙ sym (rw here (stored_to_in (placed base size bytes) (base + at) width value k h))))
  | inr (inr (k, e)) ↦
      stored_to_above (placed base size bytes) (base + at) width value a (omega arith)
      ∙ sym (placed_same base size bytes (stored_to bytes at width value) a (λ j f. stored_to_above bytes at width value j (omega arith)))
]

-- text and data
text_here : (text bytes : Memory) (at : ℕ) → at < TEXT_SIZE → text_and_data text bytes (TEXT_BASE + at) ≡ text at
unfolding text_and_data
text_here text bytes at h = rw (lt-ltb (TEXT_BASE + at) DATA_BASE (omega arith)) (placed_here TEXT_BASE TEXT_SIZE text at h)

data_here : (text bytes : Memory) (at : ℕ) → at < DATA_SIZE → text_and_data text bytes (DATA_BASE + at) ≡ bytes at
unfolding text_and_data
data_here text bytes at h = rw (le-ltb (DATA_BASE + at) DATA_BASE (omega arith)) (placed_here DATA_BASE DATA_SIZE bytes at h)

nothing_outside : (text bytes : Memory) (a : ℕ) → IsOutside a → text_and_data text bytes a ≡ None
unfolding text_and_data
nothing_outside text bytes a out = elim (cases_lt a DATA_BASE) [
  | inl low ↦ rw (lt-ltb a DATA_BASE low) (placed_outside TEXT_BASE TEXT_SIZE text a out.0)
  | inr high ↦ rw (le-ltb a DATA_BASE high) (placed_outside DATA_BASE DATA_SIZE bytes a out.1)
]

text_stored : (text bytes : Memory) (at width value : ℕ) → at + width ≤ TEXT_SIZE
    → stored_to (text_and_data text bytes) (TEXT_BASE + at) width value ≡ text_and_data (stored_to text at width value) bytes
unfolding text_and_data stored_to
text_stored text bytes at width value fits =
    let same : (a : ℕ) → stored_to (text_and_data text bytes) (TEXT_BASE + at) width value a ≡ text_and_data (stored_to text at width value) bytes a = λ a.
    elim (cases_lt a DATA_BASE) [
      | inl low ↦ rw (lt-ltb a DATA_BASE low) (placed_store TEXT_BASE TEXT_SIZE text at width value a fits)
      | inr high ↦
          stored_to_above (text_and_data text bytes) (TEXT_BASE + at) width value a (omega arith)
          ∙ rw (le-ltb a DATA_BASE high) refl
    ] in
    λ i a. same a i

data_stored : (text bytes : Memory) (at width value : ℕ) → at + width ≤ DATA_SIZE
    → stored_to (text_and_data text bytes) (DATA_BASE + at) width value ≡ text_and_data text (stored_to bytes at width value)
unfolding text_and_data stored_to
data_stored text bytes at width value fits =
    let same : (a : ℕ) → stored_to (text_and_data text bytes) (DATA_BASE + at) width value a ≡ text_and_data text (stored_to bytes at width value) a = λ a.
    elim (cases_lt a DATA_BASE) [
      | inl low ↦
          stored_to_below (text_and_data text bytes) (DATA_BASE + at) width value a (omega arith)
          ∙ rw (lt-ltb a DATA_BASE low) refl
      | inr high ↦ rw (le-ltb a DATA_BASE high) (placed_store DATA_BASE DATA_SIZE bytes at width value a fits)
    ] in
    λ i a. same a i

-- an aligned access that begins in a region of whole words ends in it
fits_region : (offset width size : ℕ) → IsWidth width → offset % width ≡ 0 → offset < size → size % 64 ≡ 0 → offset + width ≤ size
fits_region offset width size (inl e) aligned there whole = omega arith
fits_region offset width size (inr (inl e)) aligned there whole = let a = rw e at aligned in omega arith
fits_region offset width size (inr (inr (inl e))) aligned there whole = let a = rw e at aligned in omega arith
fits_region offset width size (inr (inr (inr e))) aligned there whole = let a = rw e at aligned in omega arith

-- loads, by the region
pub text_load : (held : HeldView) (image : List (List ℕ)) (offset width : ℕ) (found : Option ℕ) → IsWidth width → offset % width ≡ 0 → offset < TEXT_SIZE
    → loaded_from (bytes_of held.text) offset width ≡ found → loaded_from (memory_of held image) (TEXT_BASE + offset) width ≡ found
text_load held image offset width found w aligned there e =
    let fits = fits_region offset width TEXT_SIZE w aligned there (omega arith) in
    load_ram (text_and_data (bytes_of held.text) (bytes_of held.bytes)) (memory_over held.image image) (TEXT_BASE + offset) width (omega arith)
    ∙ loaded_same (text_and_data (bytes_of held.text) (bytes_of held.bytes)) (bytes_of held.text) (TEXT_BASE + offset) offset width (λ k h.
    let place : TEXT_BASE + offset + k ≡ TEXT_BASE + (offset + k) = omega arith in
    rw place (text_here (bytes_of held.text) (bytes_of held.bytes) (offset + k) (omega arith)))
    ∙ e

pub data_load : (held : HeldView) (image : List (List ℕ)) (offset width : ℕ) (found : Option ℕ) → IsWidth width → offset % width ≡ 0 → offset < DATA_SIZE
    → loaded_from (bytes_of held.bytes) offset width ≡ found → loaded_from (memory_of held image) (DATA_BASE + offset) width ≡ found
data_load held image offset width found w aligned there e =
    let fits = fits_region offset width DATA_SIZE w aligned there (omega arith) in
    load_ram (text_and_data (bytes_of held.text) (bytes_of held.bytes)) (memory_over held.image image) (DATA_BASE + offset) width (omega arith)
    ∙ loaded_same (text_and_data (bytes_of held.text) (bytes_of held.bytes)) (bytes_of held.bytes) (DATA_BASE + offset) offset width (λ k h.
    let place : DATA_BASE + offset + k ≡ DATA_BASE + (offset + k) = omega arith in
    rw place (data_here (bytes_of held.text) (bytes_of held.bytes) (offset + k) (omega arith)))
    ∙ e

pub image_load : (held : HeldView) (image : List (List ℕ)) (offset width : ℕ) (found : Option ℕ)
    → loaded_from (memory_over held.image image) offset width ≡ found → loaded_from (memory_of held image) (PERSISTENT_BASE + offset) width ≡ found
image_load held image offset width found e =
    load_persistent (text_and_data (bytes_of held.text) (bytes_of held.bytes)) (memory_over held.image image) offset width ∙ e

-- stores, by the region
pub text_store : (old new : HeldView) (image : List (List ℕ)) (offset width value : ℕ) → IsWidth width → offset % width ≡ 0 → offset < TEXT_SIZE
    → bytes_of new.text ≡ stored_to (bytes_of old.text) offset width value → new.bytes ≡ old.bytes → new.image ≡ old.image
    → memory_of new image ≡ stored_to (memory_of old image) (TEXT_BASE + offset) width value
text_store old new image offset width value w aligned there made others kept =
    let fits = fits_region offset width TEXT_SIZE w aligned there (omega arith) in
    rw (made, others, kept)
    (ap (λ (m : Memory). flat m (memory_over old.image image)) (sym (text_stored (bytes_of old.text) (bytes_of old.bytes) offset width value fits))
    ∙ sym (store_ram (text_and_data (bytes_of old.text) (bytes_of old.bytes)) (memory_over old.image image) (TEXT_BASE + offset) width value (omega arith)))

pub data_store : (old new : HeldView) (image : List (List ℕ)) (offset width value : ℕ) → IsWidth width → offset % width ≡ 0 → offset < DATA_SIZE
    → bytes_of new.bytes ≡ stored_to (bytes_of old.bytes) offset width value → new.text ≡ old.text → new.image ≡ old.image
    → memory_of new image ≡ stored_to (memory_of old image) (DATA_BASE + offset) width value
data_store old new image offset width value w aligned there made others kept =
    let fits = fits_region offset width DATA_SIZE w aligned there (omega arith) in
    rw (made, others, kept)
    (ap (λ (m : Memory). flat m (memory_over old.image image)) (sym (data_stored (bytes_of old.text) (bytes_of old.bytes) offset width value fits))
    ∙ sym (store_ram (text_and_data (bytes_of old.text) (bytes_of old.bytes)) (memory_over old.image image) (DATA_BASE + offset) width value (omega arith)))

pub image_store : (old new : HeldView) (image : List (List ℕ)) (offset width value : ℕ)
    → memory_over new.image image ≡ stored_to (memory_over old.image image) offset width value → new.text ≡ old.text → new.bytes ≡ old.bytes
    → memory_of new image ≡ stored_to (memory_of old image) (PERSISTENT_BASE + offset) width value
image_store old new image offset width value made texts others =
    rw (made, texts, others)
    (sym (store_persistent (text_and_data (bytes_of old.text) (bytes_of old.bytes)) (memory_over old.image image) offset width value))

-- and where a store may be refused
pub text_store_if : {T E : Type 0} (r : Result T E) (old new : HeldView) (image : List (List ℕ)) (offset width value : ℕ) → IsWidth width → offset % width ≡ 0
    → offset < TEXT_SIZE → OnOk r (bytes_of new.text ≡ stored_to (bytes_of old.text) offset width value) → new.bytes ≡ old.bytes → new.image ≡ old.image
    → OnOk r (memory_of new image ≡ stored_to (memory_of old image) (TEXT_BASE + offset) width value)
text_store_if r old new image offset width value w aligned there made others kept =
    on_ok_weaker {P = bytes_of new.text ≡ stored_to (bytes_of old.text) offset width value} r
    (λ now. text_store old new image offset width value w aligned there now others kept) made

pub data_store_if : {T E : Type 0} (r : Result T E) (old new : HeldView) (image : List (List ℕ)) (offset width value : ℕ) → IsWidth width → offset % width ≡ 0
    → offset < DATA_SIZE → OnOk r (bytes_of new.bytes ≡ stored_to (bytes_of old.bytes) offset width value) → new.text ≡ old.text → new.image ≡ old.image
    → OnOk r (memory_of new image ≡ stored_to (memory_of old image) (DATA_BASE + offset) width value)
data_store_if r old new image offset width value w aligned there made others kept =
    on_ok_weaker {P = bytes_of new.bytes ≡ stored_to (bytes_of old.bytes) offset width value} r
    (λ now. data_store old new image offset width value w aligned there now others kept) made

pub image_store_if : {T E : Type 0} (r : Result T E) (old new : HeldView) (image : List (List ℕ)) (offset width value : ℕ)
    → OnOk r (memory_over new.image image ≡ stored_to (memory_over old.image image) offset width value) → new.text ≡ old.text → new.bytes ≡ old.bytes
    → OnOk r (memory_of new image ≡ stored_to (memory_of old image) (PERSISTENT_BASE + offset) width value)
image_store_if r old new image offset width value made texts others =
    on_ok_weaker {P = memory_over new.image image ≡ stored_to (memory_over old.image image) offset width value} r
    (λ now. image_store old new image offset width value now texts others) made

-- bytes, by the region
pub text_byte : (held : HeldView) (image : List (List ℕ)) (offset : ℕ) → offset < TEXT_SIZE
    → memory_of held image (TEXT_BASE + offset) ≡ bytes_of held.text offset
text_byte held image offset there =
    flat_ram (text_and_data (bytes_of held.text) (bytes_of held.bytes)) (memory_over held.image image) (TEXT_BASE + offset) (omega arith)
    ∙ text_here (bytes_of held.text) (bytes_of held.bytes) offset there

pub data_byte : (held : HeldView) (image : List (List ℕ)) (offset : ℕ) → offset < DATA_SIZE
    → memory_of held image (DATA_BASE + offset) ≡ bytes_of held.bytes offset
data_byte held image offset there =
    flat_ram (text_and_data (bytes_of held.text) (bytes_of held.bytes)) (memory_over held.image image) (DATA_BASE + offset) (omega arith)
    ∙ data_here (bytes_of held.text) (bytes_of held.bytes) offset there

pub image_byte : (held : HeldView) (image : List (List ℕ)) (offset : ℕ)
    → memory_of held image (PERSISTENT_BASE + offset) ≡ memory_over held.image image offset
image_byte held image offset =
    flat_persistent (text_and_data (bytes_of held.text) (bytes_of held.bytes)) (memory_over held.image image) offset

-- which accesses can't be made
pub is_misaligned : (held : HeldView) (image : List (List ℕ)) (address width : ℕ) → address % width ≢ 0
    → fault_of (memory_of held image) address width ≡ Some Misaligned
is_misaligned held image address width odd = fault_misaligned (memory_of held image) address width odd

pub is_outside : (held : HeldView) (image : List (List ℕ)) (address width : ℕ) → IsWidth width → address % width ≡ 0 → address < PERSISTENT_BASE
    → IsOutside address → fault_of (memory_of held image) address width ≡ Some Outside
is_outside held image address width w aligned low out =
    let none : memory_of held image address ≡ None =
    flat_ram (text_and_data (bytes_of held.text) (bytes_of held.bytes)) (memory_over held.image image) address low
    ∙ nothing_outside (bytes_of held.text) (bytes_of held.bytes) address out in
    fault_outside (memory_of held image) address width aligned (loaded_none (memory_of held image) address width (some_width width w) none)

pub is_past : (held : HeldView) (image : List (List ℕ)) (address width : ℕ) → IsWidth width → address % width ≡ 0 → PERSISTENT_BASE ≤ address
    → 64 * length image ≤ address - PERSISTENT_BASE → fault_of (memory_of held image) address width ≡ Some Outside
is_past held image address width w aligned above past =
    let place : address ≡ PERSISTENT_BASE + (address - PERSISTENT_BASE) = omega arith in
    let count = length_shown held.image image in
    let none : memory_of held image address ≡ None =
    rw place (image_byte held image (address - PERSISTENT_BASE) ∙ past_lines (copied_over held.image image) (address - PERSISTENT_BASE) (omega arith)) in
    fault_outside (memory_of held image) address width aligned (loaded_none (memory_of held image) address width (some_width width w) none)

-- an aligned address is an aligned offset
aligned_after : (base offset width : ℕ) → IsWidth width → base % 8 ≡ 0 → (base + offset) % width ≡ 0 → offset % width ≡ 0
aligned_after base offset width (inl e) whole h = rw e (omega arith)
aligned_after base offset width (inr (inl e)) whole h = let a = rw e at h in rw e (omega arith)
aligned_after base offset width (inr (inr (inl e))) whole h = let a = rw e at h in rw e (omega arith)
aligned_after base offset width (inr (inr (inr e))) whole h = let a = rw e at h in rw e (omega arith)

-- where an access can begin, and that it can be made there
pub within_below : (held : HeldView) (address width : ℕ) (place : Place) → IsWidth width → address % width ≡ 0 → address ≡ address_of place
    → IsBelow place → IsWithin held width place
within_below held address width (Text offset) w aligned e there =
    record { aligned = aligned_after TEXT_BASE offset width w (omega arith) (rw e at aligned); there = there }
within_below held address width (Data offset) w aligned e there =
    record { aligned = aligned_after DATA_BASE offset width w (omega arith) (rw e at aligned); there = there }
within_below held address width (Image offset) w aligned e there = absurd there

pub within_image : (held : HeldView) (image : List (List ℕ)) (address width offset : ℕ) → IsOver held.image image → IsWidth width
    → address % width ≡ 0 → address ≡ PERSISTENT_BASE + offset → offset < 64 * length image → IsWithin held width (Image offset)
within_image held image address width offset over w aligned e there = record {
  aligned = aligned_after PERSISTENT_BASE offset width w (omega arith) (rw e at aligned);
  there = let count = over.count in omega arith;
}

region_found : (region : RegionView) (bytes : List ℕ) (size offset width : ℕ) → IsRegion region bytes size → IsWidth width → offset % width ≡ 0 → offset < size
    → (value : ℕ) × (loaded_from (bytes_of region) offset width ≡ Some value)
region_found region bytes size offset width sound w aligned there =
    let count = sound.count in
    (_, load_over region.copies region.start offset width sound.over w aligned (omega arith))

pub found_there : (held : HeldView) (image : List (List ℕ)) (width : ℕ) (place : Place) → IsSound held → IsOver held.image image → IsWidth width
    → IsWithin held width place → (value : ℕ) × (loaded_from (memory_of held image) (address_of place) width ≡ Some value)
found_there held image width (Text offset) sound over w within =
    let (value, found) = region_found held.text held.program.text TEXT_SIZE offset width sound.text w within.aligned within.there in
    (value, text_load held image offset width (Some value) w within.aligned within.there found)
found_there held image width (Data offset) sound over w within =
    let (value, found) = region_found held.bytes held.program.static_data DATA_SIZE offset width sound.bytes w within.aligned within.there in
    (value, data_load held image offset width (Some value) w within.aligned within.there found)
found_there held image width (Image offset) sound over w within =
    (_, image_load held image offset width _ (load_over held.image image offset width over w within.aligned within.there))

pub no_fault_there : (held : HeldView) (image : List (List ℕ)) (address width : ℕ) (place : Place) → IsSound held → IsOver held.image image → IsWidth width
    → address % width ≡ 0 → address ≡ address_of place → IsWithin held width place → fault_of (memory_of held image) address width ≡ None
no_fault_there held image address width place sound over w aligned e within =
    let found = found_there held image width place sound over w within in
    fault_none (memory_of held image) address width found.0 aligned (rw e found.1)

-- what is found below persistent memory
pub below_made : (held : HeldView) (image : List (List ℕ)) (address width : ℕ) (result : Result Place MemFault) → IsSound held → IsOver held.image image
    → IsWidth width → address % width ≡ 0 → IfOk result (λ place. address ≡ address_of place) → IfOk result (λ place. IsBelow place)
    → OnOk result (fault_of (memory_of held image) address width ≡ None)
below_made held image address width (Ok place) sound over w aligned e there =
    no_fault_there held image address width place sound over w aligned e (within_below held address width place w aligned e there)
below_made held image address width (Err fault) sound over w aligned e there = tt

pub below_refused : (held : HeldView) (image : List (List ℕ)) (address width : ℕ) (result : Result Place MemFault) → IsWidth width
    → address % width ≡ 0 → address < PERSISTENT_BASE → IfErr result (λ fault. (fault ≡ Outside) × IsOutside address)
    → IfErr result (λ fault. fault_of (memory_of held image) address width ≡ Some fault)
below_refused held image address width (Ok place) w aligned low h = tt
below_refused held image address width (Err fault) w aligned low h = rw h.0 (is_outside held image address width w aligned low h.1)

-- a region that was stored to, or set back
pub region_kept : (old new : RegionView) (bytes : List ℕ) (size : ℕ) → IsRegion old bytes size → IsKept old new → IsRegion new bytes size
region_kept old new bytes size sound kept = record {
  count = let same = kept.count in let was = sound.count in omega arith;
  over = kept.over;
  shown = rw kept.start sound.shown;
}

-- the memory at the start
start_ram : (text bytes : Memory) (ram : RamView) → ((offset : ℕ) → text offset ≡ slice_get ram.text offset)
    → ((offset : ℕ) → bytes offset ≡ slice_get ram.bytes offset) → text_and_data text bytes ≡ ram_bytes ram
unfolding text_and_data placed ram_bytes region
start_ram text bytes ram texts others =
    let first : text ≡ (λ (offset : ℕ). slice_get ram.text offset) = λ i offset. texts offset i in
    let second : bytes ≡ (λ (offset : ℕ). slice_get ram.bytes offset) = λ i offset. others offset i in
    rw (first, second) refl

pub at_start : (held : HeldView) (lines : ℕ) → IsRegion held.text held.program.text TEXT_SIZE → IsRegion held.bytes held.program.static_data DATA_SIZE
    → bytes_of held.text ≡ line_bytes held.text.start → bytes_of held.bytes ≡ line_bytes held.bytes.start → IsFresh held.image lines
    → IsAtStart held lines
at_start held lines text bytes texts others fresh = record {
  count = fresh.count;
  over = fresh.over;
  memory = λ image.
      ap (λ (ram : Memory). flat ram (memory_over held.image image))
      (start_ram (bytes_of held.text) (bytes_of held.bytes)
      (record { text = padded held.program.text TEXT_SIZE; bytes = padded held.program.static_data DATA_SIZE })
      (λ offset. ap (λ (m : Memory). m offset) texts ∙ text.shown offset)
      (λ offset. ap (λ (m : Memory). m offset) others ∙ bytes.shown offset))
      ∙ ap (λ (persistent : Memory). flat (ram_bytes (record { text = padded held.program.text TEXT_SIZE; bytes = padded held.program.static_data DATA_SIZE })) persistent)
      (fresh.own image);
}

-- over any medium of as many lines
pub over_at_start : (held : HeldView) (lines : ℕ) (image : List (List ℕ)) → IsAtStart held lines → IsMedium image → length image ≡ lines → IsOver held.image image
over_at_start held lines image start medium count = start.over image medium.each count
