-- A core at its start is the replay of no history, and its seats agree.
use Rattle.std.proofs.Common.{◌≤◌, All, reverse, ◌≡◌, ℕ, zero, suc, ◌+◌, List, [], ◌∷◌, ◌++◌, Some, length, map, slice_get, refl, sym, ap, subst, ◌∙◌, arith}
use Rattle.std.proofs.lemmas.List.FromFn.{length-map-range_with_len}
use Rattle.std.specs.List.{range_with_len}
use Rattle.program.specs.Sections.{Sections}
use Rattle.line_memory.specs.Lines.{line_bytes}
use Rattle.line_memory.specs.Memory.{Memory}
use Rattle.machine.specs.Represents.{text_bytes}
use Rattle.machine.proofs.Copying.{text_there}
use Rattle.machine.specs.Histories.{text_of}
use Rattle.machine.specs.Replies.{shared_at_start, starting_memory}
use Rattle.machine.specs.SharedView.{IsExact, RepresentsShared, SharedView, lines_shown}
use Rattle.bus.specs.Agreeing.{Agrees}
use Rattle.bus.specs.Begun.{AreNew, IsNew}
use Rattle.bus.specs.Finished.{AllAgree}
use Rattle.bus.specs.Following.{IsFreshOf}
use Rattle.machine.specs.declared.shared_memory.history.Entry.{Entry}
use Rattle.store_trace.specs.declared.event.Event.{Event}
use Rattle.store_trace.specs.TraceView.{NamesLine}
use Rattle.bus.specs.Replays.{AreBelow, CoreView, IsReplay, LinesBelow, replay}
use Rattle.bus.specs.Seats.{SeatView}
use Rattle.bus.specs.Starting.{AreAtStart, seat_at_start}

pub starts_replay : (program : Sections) (start : List (List ℕ)) (shared : SharedView) → RepresentsShared shared (shared_at_start program start)
    → IsReplay program start [] shared
unfolding replay
starts_replay program start shared shows = record { told = refl; shows = shows }

-- what stands at a place of such a list
at_place : (f : ℕ → SeatView) (k n i : ℕ) (s : SeatView) → slice_get (map f (range_with_len k n)) i ≡ Some s → s ≡ f (k + i)
at_place f k zero i s got = absurd (cc)
at_place f k (suc n) zero s got =
    let same : f k ≡ s = cc in sym same ∙ ap f (omega arith)
at_place f k (suc n) (suc i) s got = at_place f (k + 1) n i s got ∙ ap f (omega arith)

agrees_at_start : (core : CoreView) (budget h : ℕ) (copy : List ℕ) → core.history ≡ [] → text_bytes copy ≡ text_of (starting_memory core.program core.start)
    → Agrees core (seat_at_start core.program.text budget copy h)
agrees_at_start core budget h copy none loaded = record {
  text = refl;
  copy = rw none loaded;
  from = _;
  part = rw none (refl, refl);
  alone = refl;
}

-- the text of what is shared at the start
pub are_at_start : (program : Sections) (lines : List (List ℕ)) (shared : SharedView) (harts budget : ℕ) (seats : List SeatView)
    → RepresentsShared shared (shared_at_start program lines) → seats ≡ map (seat_at_start program.text budget shared.ram.text) (range_with_len 0 harts)
    → AreAtStart program lines harts budget seats
are_at_start program lines shared harts budget seats shows are = record {
  copy = shared.ram.text;
  loaded = text_there shared.ram (line_bytes (lines_shown shared)) ∙ ap (λ (m : Memory). text_of m) shows.memory;
  seats_are = are;
}

pub all_agree_at_start : (core : CoreView) (seats : List SeatView) (budget : ℕ) → core.history ≡ []
    → AreAtStart core.program core.start core.harts budget seats → AllAgree core seats
all_agree_at_start core seats budget none start =
    let f : ℕ → SeatView = seat_at_start core.program.text budget start.copy in
    let at : (h : ℕ) (seat : SeatView) → slice_get seats h ≡ Some seat → seat ≡ f h = λ h seat got.
    at_place f 0 core.harts h seat (rw start.seats_are at got) ∙ ap f (omega arith) in
    record {
      count = ap (λ (l : List SeatView). length l) start.seats_are ∙ length-map-range_with_len f 0 core.harts;
      numbered = λ h seat got. ap (λ (s : SeatView). s.hart) (at h seat got);
      each = λ h seat got. subst (λ (s : SeatView). Agrees core s) (sym (at h seat got)) (agrees_at_start core budget h start.copy none start.loaded);
    }

-- a core that is new is fresh
pub fresh_of_new : (core fresh : CoreView) → IsNew core.program core.start core.harts core.capacity fresh → IsFreshOf core fresh
fresh_of_new core fresh new = record {
  program = new.program_is;
  start_is = new.start_is;
  harts = new.harts_are;
  none = new.none;
  replay_is = rw (new.program_is, new.start_is, new.none) (starts_replay core.program core.start fresh.shared new.shows);
}

starts_exact : (program : Sections) (start : List (List ℕ)) (shared : SharedView) → IsExact shared (shared_at_start program start)
    → IsExact shared (replay program start [])
unfolding replay
starts_exact program start shared exact = exact

-- what is said of each core, of one with no history
pub new_invariant : (program : Sections) (start : List (List ℕ)) (harts capacity : ℕ) (shared : SharedView) (entries : List Entry) → harts ≤ 8
    → RepresentsShared shared (shared_at_start program start) → IsExact shared (shared_at_start program start) → shared.cache.lines ≡ start
    → shared.cache.cache.capacity ≡ capacity → shared.trace ≡ [] → entries ≡ []
    → IsReplay program start (reverse entries) shared × AreBelow harts (reverse entries) × (length shared.cache.lines ≡ length start)
    × (shared.cache.cache.capacity ≡ capacity) × (harts ≤ 8) × (length shared.trace ≤ 65536) × LinesBelow (length start) (reverse entries)
    × All (NamesLine (length shared.cache.lines)) shared.trace × IsExact shared (replay program start (reverse entries))
new_invariant program start harts capacity shared entries few shows exact lines room trace none =
    let short : length shared.trace ≡ 0 = ap (λ (l : List Event). length l) trace in (
      rw none (starts_replay program start shared shows),
      rw none tt,
      ap (λ (l : List (List ℕ)). length l) lines,
      room,
      few,
      omega (arith, short),
      rw none tt,
      (λ k d less. absurd (omega (arith, less, short))),
      rw none (starts_exact program start shared exact),
    )

-- with its seats
pub are_new : (program : Sections) (start : List (List ℕ)) (harts capacity budget : ℕ) (core : CoreView) (seats : List SeatView)
    → IsNew program start harts capacity core
    → seats ≡ map (seat_at_start program.text budget core.shared.ram.text) (range_with_len 0 harts)
    → AreNew program start harts capacity budget core seats
are_new program start harts capacity budget core seats new are =
    let at_start = are_at_start program start core.shared harts budget seats new.shows are in
    record {
      new = new;
      at_start = at_start;
      agree = all_agree_at_start core seats budget new.none (rw (new.program_is, new.start_is, new.harts_are) at_start);
    }

-- one seat more
map_more : (f : ℕ → SeatView) (k n : ℕ) → map f (range_with_len k (suc n)) ≡ map f (range_with_len k n) ++ f (k + n) ∷ []
map_more f k zero = ap (λ (j : ℕ). f j ∷ []) (omega arith)
map_more f k (suc n) =
    let place : k + 1 + n ≡ k + suc n = omega arith in
    ap (λ (t : List SeatView). f k ∷ t) (map_more f (k + 1) n ∙ ap (λ (j : ℕ). map f (range_with_len (k + 1) n) ++ f j ∷ []) place)

pub seats_more : (f : ℕ → SeatView) (n : ℕ) (xs ys : List SeatView) (s : SeatView) → xs ≡ map f (range_with_len 0 n) → ys ≡ xs ++ s ∷ []
    → s ≡ f n → ys ≡ map f (range_with_len 0 (n + 1))
seats_more f n xs ys s before added is =
    let count : suc n ≡ n + 1 = omega arith in
    let last : s ≡ f (0 + n) = is ∙ ap f (omega arith) in
    added ∙ ap (λ (l : List SeatView). l ++ s ∷ []) before ∙ ap (λ (x : SeatView). map f (range_with_len 0 n) ++ x ∷ []) last
    ∙ sym (map_more f 0 n) ∙ ap (λ (k : ℕ). map f (range_with_len 0 k)) count
