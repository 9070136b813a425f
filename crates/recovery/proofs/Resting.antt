-- A routine at rest begins as Run does, and comes to what Run comes to.
use Rattle.std.proofs.Common.{◌≡◌, ℕ, zero, suc, ◌+◌, ◌-◌, List, [], ◌++◌, Bool, true, false, None, Result, length, slice_index, refl, sym, ap, ◌∙◌, append_assoc, arith}
use Rattle.std.proofs.lemmas.List.{append-nil}
use Rattle.hart.specs.Effect.{start}
use Rattle.line_memory.specs.Lines.{line_bytes}
use Rattle.line_memory.specs.Memory.{Memory}
use Rattle.line_memory.specs.Regions.{padded}
use Rattle.line_memory.specs.declared.TheConstants.{DATA_SIZE, TEXT_SIZE}
use Rattle.program.specs.Sections.{Sections}
use Rattle.store_trace.specs.declared.event.Event.{Event}
use Rattle.machine.specs.Histories.{text_of}
use Rattle.machine.specs.Replies.{starting_memory}
use Rattle.machine.specs.Run.{Config, started}
use Rattle.machine.specs.Represents.{text_bytes}
use Rattle.machine.proofs.Copying.{text_there}
use Rattle.recovery.specs.declared.recovery_run.Cause.{Cause}
use Rattle.recovery.specs.Answers.{answer, byte_list, bytes_from}
use Rattle.recovery.specs.Engine.{Comes, Represents, ending}
use Rattle.recovery.specs.Routine.{IsAtRest, Recovers, RecoversWith}
use Rattle.recovery.specs.declared.engine.Engine.{Engine}
use Rattle.verdict.specs.declared.branches.question.Question.{Question}

-- the whole text region is padded by nothing
padded_whole : (bytes : List ℕ) (size : ℕ) → length bytes ≡ size → padded bytes size ≡ bytes
unfolding padded
padded_whole bytes size whole =
    let none : size - length bytes ≡ 0 = omega arith in
    rw none (append-nil bytes)

starting_text : (program : Sections) (image : List (List ℕ)) → length program.text ≡ TEXT_SIZE
    → text_bytes program.text ≡ text_of (starting_memory program image)
starting_text program image whole =
    ap (λ (bytes : List ℕ). text_bytes bytes) (sym (padded_whole program.text TEXT_SIZE whole))
    ∙ text_there (record { text = padded program.text TEXT_SIZE; bytes = padded program.static_data DATA_SIZE }) (line_bytes image)

pub begins : (old new : Engine) (image : List (List ℕ)) → IsAtRest old → new.hart ≡ start 0 → new.text ≡ old.text → new.world.held ≡ old.world.held
    → new.world.reserved ≡ None → new.world.events ≡ 0 → new.world.trace ≡ [] → ((l : ℕ) → slice_index new.world.own l ≡ 0) → new.world.asked ≡ []
    → Represents new image (started old.world.held.program image 1)
begins old new image rest hart text held reserved events trace own asked = record {
  harts = rw hart refl;
  memory = rw held (rest.memory.memory image);
  text = rw (text, rest.fetched, rest.start) (starting_text old.world.held.program image rest.size);
  reserved = rw reserved (λ l. refl);
  events = events;
  few = omega arith;
  trace = λ kept. trace;
  own = own;
  asked = asked;
}

-- what a run came to
ends : (engine : Engine) (image : List (List ℕ)) (d : Config) (full : Bool) → Represents engine image d → ending engine image full ≡ answer d full
ends engine image d true stands = refl
ends engine image d false stands = rw (stands.harts, ← stands.memory) refl

pub recovers : (begun new : Engine) (image : List (List ℕ)) (steps : ℕ) (program : Sections) (questions : List Question) (found : Result (List ℕ) Cause)
    → Represents begun image (started program image 1) → Comes begun new image steps found → questions ≡ new.world.asked
    → Recovers program image steps questions found
recovers begun new image steps program questions found stands comes asked =
    let (d, runs, ended) = comes.runs.runs (started program image 1) stands in
    record {
      end = d;
      full = comes.full;
      runs = runs;
      asks = asked ∙ ended.asked;
      comes = comes.comes ∙ ends new image d comes.full ended;
    }

pub recovers_with : (begun new : Engine) (image : List (List ℕ)) (steps : ℕ) (program : Sections) (questions : List Question) (events : List Event)
    (found : Result (List ℕ) Cause) → Represents begun image (started program image 1) → begun.world.keeps ≡ true → Comes begun new image steps found
    → questions ≡ new.world.asked → events ≡ new.world.trace → RecoversWith program image steps questions events found
recovers_with begun new image steps program questions events found stands kept comes asked traced =
    let (d, runs, ended) = comes.runs.runs (started program image 1) stands in
    record {
      end = d;
      full = comes.full;
      runs = runs;
      asks = asked ∙ ended.asked;
      traces = traced ∙ ended.trace (comes.runs.keeps ∙ kept);
      comes = comes.comes ∙ ends new image d comes.full ended;
    }

-- bytes, one more
pub bytes_more : (memory : Memory) (address count : ℕ) → bytes_from memory address (count + 1) ≡ bytes_from memory address count ++ byte_list (memory (address + count))
unfolding bytes_from
bytes_more memory address zero =
    let here : address + 0 ≡ address = omega arith in
    rw here (append-nil (byte_list (memory address)))
bytes_more memory address (suc count) =
    let one : suc count + 1 ≡ suc (count + 1) = omega arith in
    let place : address + suc count ≡ suc address + count = omega arith in
    rw (one, place)
    (ap (λ (rest : List ℕ). byte_list (memory address) ++ rest) (bytes_more memory (suc address) count)
    ∙ sym (append_assoc (byte_list (memory address)) (bytes_from memory (suc address) count) (byte_list (memory (suc address + count)))))
