-- A word of a text, byte by byte.
use Rattle.std.proofs.Common.{◌≡◌, ℕ, suc, ◌+◌, ◌-◌, ◌*◌, ◌/◌, ◌%◌, ◌<◌, ◌≤◌, nat_le, nat_lt, List, [], Option, Some, None, length, slice_get, slice_index, refl, sym, ap, ◌∙◌, inl, inr, arith}
use Rattle.std.proofs.lemmas.Bool.{and_right, cases_lt, le-leb, le-ltb, lt-ltb}
use Rattle.std.proofs.lemmas.List.{append-nil}
use Rattle.std.proofs.lemmas.Option.{slice_get-get_or}
use Rattle.line_memory.specs.Lines.{line_bytes}
use Rattle.line_memory.specs.Memory.{Memory, loaded_from, with_byte}
use Rattle.line_memory.specs.Regions.{padded}
use Rattle.line_memory.specs.declared.TheConstants.{DATA_SIZE, TEXT_BASE, TEXT_SIZE}
use Rattle.machine.proofs.Copying.{text_there}
use Rattle.machine.specs.Histories.{text_of}
use Rattle.machine.specs.Represents.{text_bytes}
use Rattle.machine.specs.Run.{fetched}
use Rattle.schedule_states.specs.Memories.{memory_over, state_in}
use Rattle.schedule_states.specs.StartLines.{LacksLine, ShowsLine, StartView, memory_at}
use Rattle.std.specs.Prelude.{option_and_then}
use Rattle.schedule_states.specs.HeldLines.{number_of}
use Rattle.schedule_states.specs.declared.held_lines.HeldLine.{HeldLine}
use Rattle.schedule_states.specs.declared.line_state.LineState.{LineState}

pub byte_of_line : (memory : Memory) (address : ℕ) (bytes : List ℕ) → length bytes ≡ 64 → ShowsLine memory (address / 64) bytes →
    memory address ≡ Some (slice_index bytes (address % 64))
byte_of_line memory address bytes long shown =
    let place : 64 * (address / 64) + address % 64 ≡ address = omega arith in
    let at : memory address ≡ slice_get bytes (address % 64) = rw place at (shown (address % 64) (omega arith)) in
    at ∙ slice_get-get_or bytes (address % 64) 0 (omega arith)

pub no_byte_of_line : (memory : Memory) (address : ℕ) → LacksLine memory (address / 64) → memory address ≡ None
no_byte_of_line memory address lacks =
    let place : 64 * (address / 64) + address % 64 ≡ address = omega arith in
    rw place at (lacks (address % 64) (omega arith))

text_byte_is : (memory : Memory) (a : ℕ) → TEXT_BASE ≤ a → a < TEXT_BASE + TEXT_SIZE → text_of memory a ≡ memory a
text_byte_is memory a low high = rw (le-leb TEXT_BASE a low, lt-ltb a (TEXT_BASE + TEXT_SIZE) high) refl

fetched_in : (text : Memory) (pc : ℕ) → TEXT_BASE ≤ pc → pc + 4 ≤ TEXT_BASE + TEXT_SIZE → fetched text pc ≡ loaded_from text pc 4
fetched_in text pc low high = rw (le-leb TEXT_BASE pc low, le-leb (pc + 4) (TEXT_BASE + TEXT_SIZE) high) refl

four_bytes : (text : Memory) (pc : ℕ) →
    loaded_from text pc 4 ≡ with_byte (text pc) (with_byte (text (pc + 1)) (with_byte (text (pc + 2)) (with_byte (text (pc + 3)) (Some 0))))
unfolding loaded_from
four_bytes text pc =
    let one : suc pc ≡ pc + 1 = omega arith in
    let two : suc (suc pc) ≡ pc + 2 = omega arith in
    let three : suc (suc (suc pc)) ≡ pc + 3 = omega arith in
    ap (λ (a : ℕ). with_byte (text pc) (with_byte (text a) (with_byte (text (suc (suc pc))) (with_byte (text (suc (suc (suc pc)))) (Some 0))))) one
    ∙ ap (λ (a : ℕ). with_byte (text pc) (with_byte (text (pc + 1)) (with_byte (text a) (with_byte (text (suc (suc (suc pc)))) (Some 0))))) two
    ∙ ap (λ (a : ℕ). with_byte (text pc) (with_byte (text (pc + 1)) (with_byte (text (pc + 2)) (with_byte (text a) (Some 0))))) three

pub fetched_is : (memory : Memory) (pc : ℕ) → TEXT_BASE ≤ pc → pc + 4 ≤ TEXT_BASE + TEXT_SIZE →
    fetched (text_of memory) pc ≡ with_byte (memory pc) (with_byte (memory (pc + 1)) (with_byte (memory (pc + 2)) (with_byte (memory (pc + 3)) (Some 0))))
fetched_is memory pc low high =
    fetched_in (text_of memory) pc low high ∙ four_bytes (text_of memory) pc
    ∙ ap (λ (x : Option ℕ). with_byte x (with_byte (text_of memory (pc + 1)) (with_byte (text_of memory (pc + 2)) (with_byte (text_of memory (pc + 3)) (Some 0)))))
    (text_byte_is memory pc low (omega arith))
    ∙ ap (λ (x : Option ℕ). with_byte (memory pc) (with_byte x (with_byte (text_of memory (pc + 2)) (with_byte (text_of memory (pc + 3)) (Some 0)))))
    (text_byte_is memory (pc + 1) (omega arith) (omega arith))
    ∙ ap (λ (x : Option ℕ). with_byte (memory pc) (with_byte (memory (pc + 1)) (with_byte x (with_byte (text_of memory (pc + 3)) (Some 0)))))
    (text_byte_is memory (pc + 2) (omega arith) (omega arith))
    ∙ ap (λ (x : Option ℕ). with_byte (memory pc) (with_byte (memory (pc + 1)) (with_byte (memory (pc + 2)) (with_byte x (Some 0)))))
    (text_byte_is memory (pc + 3) (omega arith) (omega arith))

-- the text at the start
padded_whole : (bytes : List ℕ) (size : ℕ) → length bytes ≡ size → padded bytes size ≡ bytes
unfolding padded
padded_whole bytes size whole =
    let none : size - length bytes ≡ 0 = omega (arith, whole) in
    rw none (append-nil bytes)

pub text_at_start : (start : StartView) → length start.program.text ≡ TEXT_SIZE → text_bytes start.program.text ≡ text_of (memory_at start)
text_at_start start whole =
    ap (λ (bytes : List ℕ). text_bytes bytes) (sym (padded_whole start.program.text TEXT_SIZE whole))
    ∙ text_there (record { text = padded start.program.text TEXT_SIZE; bytes = padded start.program.static_data DATA_SIZE }) (line_bytes start.medium)

pub nothing_over : (states : List LineState) (start : Memory) → memory_over states [] start ≡ start
unfolding memory_over
nothing_over states start = refl

-- lines past the text region don't show in the text
text_byte_same : (states : List LineState) (low lines : List HeldLine) (start : Memory) → ((l : ℕ) → l < 2048 → number_of low l ≡ number_of lines l) →
    (a : ℕ) → text_of (memory_over states low start) a ≡ text_of (memory_over states lines start) a
unfolding memory_over
text_byte_same states low lines start same a = elim (cases_lt a (TEXT_BASE + TEXT_SIZE)) [
  | inl below ↦
      let few : a / 64 < 2048 = omega arith in
      let is : state_in states low (a / 64) ≡ state_in states lines (a / 64) = ap (option_and_then (slice_get states)) (same (a / 64) few) in
      rw is refl
  | inr above ↦ rw (and_right (nat_le TEXT_BASE a) (nat_lt a (TEXT_BASE + TEXT_SIZE)) (le-ltb a (TEXT_BASE + TEXT_SIZE) above)) refl
]

pub text_same : (states : List LineState) (low lines : List HeldLine) (start : Memory) → ((l : ℕ) → l < 2048 → number_of low l ≡ number_of lines l) →
    text_of (memory_over states low start) ≡ text_of (memory_over states lines start)
text_same states low lines start same = λ i a. text_byte_same states low lines start same a i
