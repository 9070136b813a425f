-- A line of a state's memory, and a load from it.
use Rattle.std.proofs.Common.{◌≡◌, ◌≢◌, inl, inr, ℕ, ◌+◌, ◌*◌, ◌/◌, ◌%◌, ◌<◌, List, None, Some, length, refl, sym, ◌∙◌, arith}
use Rattle.std.proofs.lemmas.Option.{slice_get-get_or}
use Rattle.word_bits.specs.Bytes.{loaded}
use Rattle.line_memory.proofs.Accesses.{fault_misaligned, fault_none, fault_outside, some_width}
use Rattle.line_memory.proofs.Maps.{loaded_none, loaded_shown}
use Rattle.line_memory.specs.Memory.{IsWidth, Memory, fault_of, loaded_from}
use Rattle.line_memory.specs.declared.MemFault.TheVariants.{Misaligned, Outside}
use Rattle.schedule_states.specs.Memories.{memory_over, state_in}
use Rattle.schedule_states.specs.StartLines.{LacksLine, ShowsLine}
use Rattle.schedule_states.specs.declared.held_lines.HeldLine.{HeldLine}
use Rattle.schedule_states.specs.declared.line_state.LineState.{LineState}

pub line_held : (states : List LineState) (held : List HeldLine) (start : Memory) (l : ℕ) (s : LineState) → state_in states held l ≡ Some s →
    ShowsLine (memory_over states held start) l s.bytes
unfolding memory_over
line_held states held start l s is offset h =
    let line : (64 * l + offset) / 64 ≡ l = omega arith in
    let place : (64 * l + offset) % 64 ≡ offset = omega arith in
    rw (line, is, place) refl

pub line_not_held : (states : List LineState) (held : List HeldLine) (start : Memory) (l offset : ℕ) → offset < 64 → state_in states held l ≡ None →
    memory_over states held start (64 * l + offset) ≡ start (64 * l + offset)
unfolding memory_over
line_not_held states held start l offset h is =
    let line : (64 * l + offset) / 64 ≡ l = omega arith in
    rw (line, is) refl

-- an aligned access lies in its line
pub within_line : (address width k : ℕ) → IsWidth width → address % width ≡ 0 → k < width → address % 64 + k < 64
within_line address width k (inl one) aligned h = let b : k < 1 = rw one at h in omega arith
within_line address width k (inr (inl two)) aligned h =
    let a : address % 2 ≡ 0 = rw two at aligned in
    let b : k < 2 = rw two at h in
    omega arith
within_line address width k (inr (inr (inl four))) aligned h =
    let a : address % 4 ≡ 0 = rw four at aligned in
    let b : k < 4 = rw four at h in
    omega arith
within_line address width k (inr (inr (inr eight))) aligned h =
    let a : address % 8 ≡ 0 = rw eight at aligned in
    let b : k < 8 = rw eight at h in
    omega arith

pub loads : (memory : Memory) (address width : ℕ) (bytes : List ℕ) → IsWidth width → address % width ≡ 0 → length bytes ≡ 64 →
    ShowsLine memory (address / 64) bytes → loaded_from memory address width ≡ Some (loaded bytes (address % 64) width)
loads memory address width bytes is aligned long shown = loaded_shown memory bytes address (address % 64) width (λ k h.
    let few : address % 64 + k < 64 = within_line address width k is aligned h in
    let place : 64 * (address / 64) + (address % 64 + k) ≡ address + k = omega arith in
    rw (sym place) (shown (address % 64 + k) few ∙ slice_get-get_or bytes (address % 64 + k) 0 (omega arith)))

pub loads_faultless : (memory : Memory) (address width : ℕ) (bytes : List ℕ) → IsWidth width → address % width ≡ 0 → length bytes ≡ 64 →
    ShowsLine memory (address / 64) bytes → fault_of memory address width ≡ None
loads_faultless memory address width bytes is aligned long shown =
    fault_none memory address width (loaded bytes (address % 64) width) aligned (loads memory address width bytes is aligned long shown)

pub loads_none : (memory : Memory) (address width : ℕ) → IsWidth width → address % width ≡ 0 → LacksLine memory (address / 64) →
    fault_of memory address width ≡ Some Outside
loads_none memory address width is aligned lacks =
    let place : 64 * (address / 64) + address % 64 ≡ address = omega arith in
    let none : memory address ≡ None = rw place at (lacks (address % 64) (omega arith)) in
    fault_outside memory address width aligned (loaded_none memory address width (some_width width is) none)

pub loads_misaligned : (memory : Memory) (address width : ℕ) → address % width ≢ 0 → fault_of memory address width ≡ Some Misaligned
loads_misaligned memory address width h = fault_misaligned memory address width h
