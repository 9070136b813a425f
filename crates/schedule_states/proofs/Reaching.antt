-- Memory at the start, line by line.
use Rattle.std.proofs.Common.{◌≡◌, ◌⊎◌, ℕ, ◌+◌, ◌*◌, ◌/◌, ◌%◌, ◌<◌, ◌≤◌, List, [], length, slice_get, inl, inr, refl, sym, ap, ◌∙◌, arith}
use Rattle.std.proofs.lemmas.List.{get_or_past}
use Rattle.line_memory.proofs.Accesses.{data_byte, no_byte, text_byte}
use Rattle.line_memory.proofs.Flat.{flat_persistent, flat_ram}
use Rattle.line_memory.specs.Lines.{line_at, line_bytes}
use Rattle.line_memory.specs.Places.{IsOutside}
use Rattle.line_memory.specs.Regions.{RamView, padded, ram_bytes}
use Rattle.line_memory.specs.declared.TheConstants.{DATA_BASE, DATA_SIZE, PERSISTENT_BASE, TEXT_BASE, TEXT_SIZE}
use Rattle.schedule_states.specs.StartLines.{AreOf, LacksLine, ShowsLine, StartView, memory_at}

abbrev ram_of : StartView → RamView
ram_of start = record { text = padded start.program.text TEXT_SIZE; bytes = padded start.program.static_data DATA_SIZE }

in_line : (lines : List (List ℕ)) (i offset : ℕ) → offset < 64 → line_bytes lines (64 * i + offset) ≡ slice_get (line_at lines i) offset
unfolding line_bytes
in_line lines i offset h =
    let line : (64 * i + offset) / 64 ≡ i = omega arith in
    let place : (64 * i + offset) % 64 ≡ offset = omega arith in
    rw (line, place) refl

pub text_line : (start : StartView) (lines : List (List ℕ)) (l i : ℕ) → AreOf start.program.text 1024 lines → l ≡ 1024 + i → i < 1024 →
    ShowsLine (memory_at start) l (line_at lines i)
text_line start lines l i of is few offset h =
    let address : 64 * l + offset ≡ TEXT_BASE + (64 * i + offset) = omega arith in
    rw address (flat_ram (ram_bytes (ram_of start)) (line_bytes start.medium) (TEXT_BASE + (64 * i + offset)) (omega arith)
    ∙ text_byte (ram_of start) (64 * i + offset) (omega arith) ∙ sym (of.shown (64 * i + offset)) ∙ in_line lines i offset h)

pub data_line : (start : StartView) (lines : List (List ℕ)) (l i : ℕ) → AreOf start.program.static_data 16384 lines → l ≡ 16384 + i → i < 16384 →
    ShowsLine (memory_at start) l (line_at lines i)
data_line start lines l i of is few offset h =
    let address : 64 * l + offset ≡ DATA_BASE + (64 * i + offset) = omega arith in
    rw address (flat_ram (ram_bytes (ram_of start)) (line_bytes start.medium) (DATA_BASE + (64 * i + offset)) (omega arith)
    ∙ data_byte (ram_of start) (64 * i + offset) (omega arith) ∙ sym (of.shown (64 * i + offset)) ∙ in_line lines i offset h)

pub no_line_below : (start : StartView) (l : ℕ) → l < 16777216 → (l < 1024) ⊎ (2048 ≤ l) → (l < 16384) ⊎ (32768 ≤ l) → LacksLine (memory_at start) l
no_line_below start l low text bytes offset h =
    let out : IsOutside (64 * l + offset) = (
      elim text [ inl a ↦ inl (omega arith) | inr a ↦ inr (omega arith) ],
      elim bytes [ inl a ↦ inl (omega arith) | inr a ↦ inr (omega arith) ],
    ) in
    flat_ram (ram_bytes (ram_of start)) (line_bytes start.medium) (64 * l + offset) (omega arith) ∙ no_byte (ram_of start) (64 * l + offset) out

pub persistent_line : (start : StartView) (l i : ℕ) → l ≡ 16777216 + i → ShowsLine (memory_at start) l (line_at start.medium i)
persistent_line start l i is offset h =
    let address : 64 * l + offset ≡ PERSISTENT_BASE + (64 * i + offset) = omega arith in
    rw address (flat_persistent (ram_bytes (ram_of start)) (line_bytes start.medium) (64 * i + offset) ∙ in_line start.medium i offset h)

pub no_persistent_line : (start : StartView) (l i : ℕ) → l ≡ 16777216 + i → length start.medium ≤ i → LacksLine (memory_at start) l
no_persistent_line start l i is past offset h =
    persistent_line start l i is offset h ∙ ap (λ (bytes : List ℕ). slice_get bytes offset) (get_or_past start.medium i [] past)
