-- What seats have made, recorded.
use Rattle.std.proofs.Common.{Result, Ok, Err, IfErr, IfOk, ◌≡◌, ◌⊎◌, ◌<◌, ◌≤◌, ◌+◌, ◌++◌, ◌^◌, ℕ, zero, suc, List, [], ◌∷◌, Some, All, length, map, replicate, slice_get, slice_index_or, slice_set, refl, sym, ap, subst, ◌∙◌, inl, inr, arith}
use Rattle.std.proofs.lemmas.List.Elements.{All-append, All-replicate}
use Rattle.line_memory.specs.Memory.{Memory}
use Rattle.machine.specs.Run.{Config, RunsTo, started}
use Rattle.machine.specs.Represents.{MachineView, Represents, text_bytes}
use Rattle.machine.specs.Recorded.{AreNumbers, IsAmong, RecordedView, Records}
use Rattle.machine.proofs.RecordingLeaving.{left_at}
use Rattle.machine.specs.Left.{IsLeftBy}
use Rattle.machine.proofs.Leaving.{left_at_end}
use Rattle.machine.specs.SharedView.{IsExact}
use Rattle.machine.specs.Grammar.{hart_steps}
use Rattle.machine.specs.Steps.{all_steps}
use Rattle.machine.specs.declared.schedule.items.Item.{Item}
use Rattle.machine.specs.declared.schedule.items.Step.{Step}
use Rattle.machine.specs.declared.schedule.items.Step.TheVariants.{Hart, Evict}
use Rattle.machine.specs.declared.shared_memory.history.Entry.{Entry}
use Rattle.machine.specs.declared.shared_memory.history.Entry.TheVariants.{Asked, Evicted}
use Rattle.machine.specs.Histories.{fetched_text}
use Rattle.machine.specs.Replies.{starting_memory}
use Rattle.store_trace.specs.declared.event.Event.{Event}
use Rattle.bus.specs.declared.exchange.Exchange.{Exchange}
use Rattle.bus.specs.declared.finish_fault.FinishFault.{FinishFault}
use Rattle.bus.specs.declared.finish_fault.FinishFault.TheVariants.{SeatMissing, SeatNumber, Foreign, Memory as NoMemory}
use Rattle.bus.specs.Ending.{IsGathered, RefusesGathering}
use Rattle.bus.specs.Finished.{AllAgree, all_of, last_steps}
use Rattle.bus.specs.Following.{AreRecorded, IsCoreOf}
use Rattle.bus.specs.Gathered.{earlier, gathered, steps_to}
use Rattle.bus.specs.Listed.{IsAccountOf, numbered}
use Rattle.bus.specs.Numbering.{ArePlaced, RefusesNumbers}
use Rattle.bus.specs.Replays.{AreBelow, CoreView, IsReplay, LinesBelow, common_of}
use Rattle.bus.specs.Seats.{SeatView}
use Rattle.bus.specs.Stepping.{BusView}
use Rattle.bus.specs.Together.{IsFinished, RefusesFinish}
use Rattle.bus.proofs.Finishing.{agreeing_numbers, agreeing_runs}
use Rattle.bus.proofs.Places.{there_is}
use Rattle.bus.proofs.Replaying.{initial_is}

-- each step is there
gathered_among : (harts lines : ℕ) (history : List Entry) (lists : List (List Exchange)) → AreBelow harts history → LinesBelow lines history
    → All (IsAmong harts lines) (gathered history lists)
unfolding gathered
gathered_among harts lines [] lists below there = λ k d inside. absurd (omega (arith, inside))
gathered_among harts lines (Evicted line ∷ before) lists below there =
    All-append (IsAmong harts lines) (gathered before lists) (Evict line ∷ []) (gathered_among harts lines before lists below there.1)
    (All-replicate (IsAmong harts lines) 1 (Evict line) there.0)
gathered_among harts lines (Asked h request reply ∷ before) lists below there =
    let others : List (List Exchange) = slice_set lists h (earlier (slice_index_or lists h [])) in
    let n : ℕ = steps_to (slice_index_or lists h []) in
    All-append (IsAmong harts lines) (gathered before others) (replicate n (Hart h) ++ Hart h ∷ [])
    (gathered_among harts lines before others below.1 there)
    (All-append (IsAmong harts lines) (replicate n (Hart h)) (Hart h ∷ []) (All-replicate (IsAmong harts lines) n (Hart h) below.0)
    (All-replicate (IsAmong harts lines) 1 (Hart h) below.0))

last_among : (harts lines h : ℕ) (seats : List SeatView) → h + length seats ≤ harts → All (IsAmong harts lines) (last_steps h seats)
unfolding last_steps
last_among harts lines h [] fits = λ k d inside. absurd (omega (arith, inside))
last_among harts lines h (seat ∷ seats) fits =
    let inside : h < harts = omega (arith, fits) in
    All-append (IsAmong harts lines) (replicate seat.since (Hart h)) (last_steps (h + 1) seats)
    (All-replicate (IsAmong harts lines) seat.since (Hart h) inside)
    (last_among harts lines (h + 1) seats (omega (arith, fits)))

-- what each hart fetches
copy_at : (seats : List SeatView) (h : ℕ) (s : SeatView) → slice_get seats h ≡ Some s
    → slice_index_or (map (λ (seat : SeatView). seat.copy) seats) h [] ≡ s.copy
copy_at [] h s got = absurd (cc)
copy_at (x ∷ seats) zero s got =
    let same : x ≡ s = cc in ap (λ (y : SeatView). y.copy) same
copy_at (x ∷ seats) (suc h) s got = copy_at seats h s got

states_long : (seats : List SeatView) → length (map (λ (seat : SeatView). seat.state) seats) ≡ length seats
states_long [] = refl
states_long (seat ∷ seats) = ap suc (states_long seats)

-- where all have come to
abbrev end_of : CoreView → List SeatView → Config
end_of core seats = record { harts = map (λ (seat : SeatView). seat.state) seats; common = common_of core }

abbrev machine_of : CoreView → List SeatView → MachineView
machine_of core seats = record {
  harts = map (λ (seat : SeatView). seat.state) seats;
  copies = map (λ (seat : SeatView). seat.copy) seats;
  shared = core.shared;
}

stands_at : (core : CoreView) (seats : List SeatView) → IsReplay core.program core.start core.history core.shared → AllAgree core seats
    → Represents (machine_of core seats) (end_of core seats)
stands_at core seats is all = record {
  harts = refl;
  shared = is.shows;
  copies = λ h less.
      let seat = there_is seats h (omega (arith, less, states_long seats)) in
      let a = all.each h seat.0 seat.1 in
      let initial : Memory = starting_memory core.program core.start in
      ap (λ (bytes : List ℕ). text_bytes bytes) (copy_at seats h seat.0 seat.1) ∙ a.copy
      ∙ ap (λ (k : ℕ). fetched_text initial k core.history) (all.numbered h seat.0 seat.1)
      ∙ ap (λ (m : Memory). fetched_text m h core.history) (sym (initial_is core.program core.start core.history))
      ∙ ap (λ (l : List Entry). fetched_text (common_of core).initial h l) (sym is.told);
}

-- what is recorded of seats that agree
abbrev pub recorded_of : CoreView → List SeatView → List Item → List ℕ → RecordedView
recorded_of core seats items numbers = record {
  start = core.start;
  capacity = core.capacity;
  items = items;
  trace = core.shared.trace;
  harts = map (λ (seat : SeatView). seat.state) seats;
  left = core.shared.cache.lines;
  steps = numbers;
}

records_so : (core : CoreView) (seats : List SeatView) (items : List Item) (numbers : List ℕ)
    → IsReplay core.program core.start core.history core.shared → AreBelow core.harts core.history → LinesBelow (length core.start) core.history
    → core.shared.cache.cache.capacity ≡ core.capacity → AllAgree core seats → IsAccountOf core seats items numbers
    → Records (started core.program core.start core.harts) (recorded_of core seats items numbers)
records_so core seats items numbers is below lines capacity all account =
    let c : Config = started core.program core.start core.harts in
    let steps : all_of core seats ≡ all_steps items = sym account.schedule.steps in
    let numbered_so = agreeing_numbers core seats is below all in
    let count = all.count in
    let size : length (map (λ (seat : SeatView). seat.state) seats) ≡ core.harts = states_long seats ∙ count in
    let among : All (IsAmong core.harts (length core.start)) (all_of core seats) =
    All-append (IsAmong core.harts (length core.start)) (gathered core.history (map (λ (seat : SeatView). seat.exchanges) seats)) (last_steps 0 seats)
    (gathered_among core.harts (length core.start) core.history (map (λ (seat : SeatView). seat.exchanges) seats) below lines)
    (last_among core.harts (length core.start) 0 seats (omega (arith, count))) in
    record {
      end = end_of core seats;
      there = subst (λ (n : ℕ). All (IsAmong n (length core.start)) (all_steps items)) (sym size)
          (subst (λ (l : List Step). All (IsAmong core.harts (length core.start)) l) steps among);
      runs = subst (λ (l : List Step). RunsTo c l (end_of core seats)) steps (agreeing_runs core seats is below all);
      harts = refl;
      trace = is.shows.trace;
      numbers = subst (λ (l : List ℕ). AreNumbers c (all_steps items) l) (sym account.numbers_are)
          (subst (λ (l : List Step). AreNumbers c l (numbered core.history (map (λ (seat : SeatView). seat.exchanges) seats))) steps numbered_so.numbers);
      left = left_at _ (machine_of core seats) _ _ (stands_at core seats is all) capacity refl;
    }

-- what is left is what the cache of the whole run leaves
left_so : (core : CoreView) (seats : List SeatView) (items : List Item) (numbers : List ℕ)
    → IsReplay core.program core.start core.history core.shared → IsExact core.shared (common_of core) → AreBelow core.harts core.history
    → core.shared.cache.cache.capacity ≡ core.capacity → AllAgree core seats → IsAccountOf core seats items numbers
    → IsLeftBy (started core.program core.start core.harts) (all_steps items) core.capacity core.shared.cache.lines
left_so core seats items numbers is exact below capacity all account =
    let c : Config = started core.program core.start core.harts in
    let runs : RunsTo c (all_steps items) (end_of core seats) =
    subst (λ (l : List Step). RunsTo c l (end_of core seats)) (sym account.schedule.steps) (agreeing_runs core seats is below all) in
    left_at_end c (all_steps items) (end_of core seats) core.shared core.capacity core.shared.cache.lines runs exact capacity refl

-- there is a number for each event
pub numbers_each : (core : CoreView) (seats : List SeatView) (items : List Item) (numbers : List ℕ) (trace : List Event)
    → IsReplay core.program core.start core.history core.shared → AreBelow core.harts core.history → AllAgree core seats
    → IsAccountOf core seats items numbers → trace ≡ core.shared.trace → length numbers ≡ length trace
numbers_each core seats items numbers trace is below all account same =
    let n = agreeing_numbers core seats is below all in
    ap (λ (l : List ℕ). length l) account.numbers_are ∙ n.each ∙ ap (λ (l : List Event). length l) (sym is.shows.trace ∙ sym same)

pub are_recorded : (core : CoreView) (seats : List SeatView) (items : List Item) (numbers : List ℕ) (recorded : RecordedView)
    → IsReplay core.program core.start core.history core.shared → IsExact core.shared (common_of core) → AreBelow core.harts core.history
    → LinesBelow (length core.start) core.history
    → core.shared.cache.cache.capacity ≡ core.capacity → AllAgree core seats → IsAccountOf core seats items numbers
    → recorded ≡ recorded_of core seats items numbers → AreRecorded core seats recorded
are_recorded core seats items numbers recorded is exact below lines capacity all account same = rw same (record {
  agree = all;
  start_is = refl;
  capacity = refl;
  steps = account.schedule.steps;
  harts = refl;
  trace = refl;
  made = account.schedule.made;
  within = account.schedule.within;
  records = records_so core seats items numbers is below lines capacity all account;
  left_is = left_so core seats items numbers is exact below capacity all account;
})

pub few_recorded : (core : CoreView) (seats : List SeatView) (items : List Item) (numbers : List ℕ) (recorded : RecordedView)
    → IsAccountOf core seats items numbers → recorded ≡ recorded_of core seats items numbers → hart_steps recorded.items < 2 ^ 32
few_recorded core seats items numbers recorded account same = rw same account.schedule.few

pub is_gathered : (core : CoreView) (old new : List SeatView) (recorded : RecordedView) → ArePlaced core.harts old new
    → AreRecorded core new recorded → IsGathered core old recorded
is_gathered core old new recorded placed r = record {
  by_number = new;
  same = placed.same;
  agree = r.agree;
  start = r.start_is;
  capacity = r.capacity;
  steps = r.steps;
  harts = r.harts;
  trace = r.trace;
  records = r.records;
  left_is = r.left_is;
}

-- the core of a bus
pub is_finished : (bus : BusView) (core : CoreView) (old new : List SeatView) (recorded : RecordedView) → IsCoreOf bus core
    → ArePlaced bus.harts old new → AreRecorded core new recorded → IsFinished bus old recorded
is_finished bus core old new recorded is placed r = record {
  by_number = new;
  same = placed.same;
  count = placed.count;
  numbered = placed.numbered;
  start = r.start_is ∙ is.start_is;
  capacity = r.capacity ∙ is.capacity;
  harts = r.harts;
  made = r.made;
  within = r.within;
  records = rw (← is.program, ← is.start_is, ← is.harts) r.records;
  left_is = rw (← is.program, ← is.start_is, ← is.harts) r.left_is;
}

pub refuses_finish : (harts : ℕ) (seats : List SeatView) (fault : FinishFault) → RefusesNumbers harts seats fault → RefusesFinish harts seats fault
refuses_finish harts seats SeatMissing refused = refused
refuses_finish harts seats SeatNumber refused = refused.1
refuses_finish harts seats Foreign refused = absurd refused
refuses_finish harts seats NoMemory refused = absurd refused

pub refuses_later : (harts : ℕ) (seats : List SeatView) (fault : FinishFault) → (fault ≡ NoMemory) ⊎ (fault ≡ Foreign) → RefusesFinish harts seats fault
refuses_later harts seats fault which = elim which [ inl memory ↦ rw memory tt | inr foreign ↦ rw foreign tt ]

pub refuses_numbers : (core : CoreView) (seats : List SeatView) (fault : FinishFault) → RefusesNumbers core.harts seats fault
    → RefusesGathering core seats fault
refuses_numbers core seats SeatMissing refused = refused
refuses_numbers core seats SeatNumber refused = refused
refuses_numbers core seats Foreign refused = absurd refused
refuses_numbers core seats NoMemory refused = absurd refused

-- what is known beside the value of a result that is no fault
pub known_of : {X E : Type 0} (r : Result X E) (P : Type 0) (Q : X → Type 0) → IfErr r (λ _. ⊥) → IfOk r (λ (x : X). P × Q x) → P × IfOk r Q
known_of (Ok x) P Q none both = both
known_of (Err e) P Q none both = absurd none
