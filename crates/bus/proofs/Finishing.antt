-- The run of all that agreeing seats made comes to the replay of the history, and each hart to its seat's state.
use Rattle.std.proofs.Common.{◌≡◌, ℕ, zero, suc, ◌+◌, List, [], ◌∷◌, ◌++◌, Some, length, map, replicate, slice_get, slice_set, slice_index_or, refl, sym, ap, subst, ◌∙◌, arith}
use Rattle.std.proofs.lemmas.List.{length-append}
use Rattle.hart.specs.declared.state.HartState.{HartState}
use Rattle.line_memory.specs.Memory.{Memory}
use Rattle.machine.specs.Run.{Config, RunsTo, started, with_hart}
use Rattle.machine.proofs.RunParts.{run_joined}
use Rattle.machine.specs.declared.schedule.items.Step.TheVariants.{Hart}
use Rattle.machine.specs.declared.shared_memory.history.Entry.{Entry}
use Rattle.machine.specs.Histories.{fetched_text}
use Rattle.machine.specs.Replies.{SharedState, starting_memory, trace_in}
use Rattle.bus.specs.declared.exchange.Exchange.{Exchange}
use Rattle.bus.specs.Agreeing.{Agrees, IsPart}
use Rattle.bus.specs.Alone.{GoesAlone}
use Rattle.bus.specs.Finished.{AllAgree, all_of, last_steps}
use Rattle.bus.specs.Gathered.{AreParts, gathered}
use Rattle.bus.specs.Replays.{AreBelow, CoreView, IsReplay, common_of, replay}
use Rattle.bus.specs.Seats.{SeatView}
use Rattle.bus.specs.Listed.{numbered}
use Rattle.machine.proofs.Numbering.{numbers_kept}
use Rattle.bus.proofs.EventNumbers.{AreNumbered, events_numbered}
use Rattle.bus.proofs.Gathering.{alone_runs, gathered_runs}
use Rattle.bus.proofs.Replaying.{initial_is}

-- a state in a list, between others
got_between : (done fs : List HartState) (f : HartState) → slice_get (done ++ f ∷ fs) (length done) ≡ Some f
got_between [] fs f = refl
got_between (d ∷ done) fs f = got_between done fs f

set_between : (done fs : List HartState) (f t : HartState) → slice_set (done ++ f ∷ fs) (length done) t ≡ done ++ t ∷ fs
set_between [] fs f t = refl
set_between (d ∷ done) fs f t = ap (λ (l : List HartState). d ∷ l) (set_between done fs f t)

moved : (done fs : List HartState) (t : HartState) → done ++ t ∷ fs ≡ (done ++ t ∷ []) ++ fs
moved [] fs t = refl
moved (d ∷ done) fs t = ap (λ (l : List HartState). d ∷ l) (moved done fs t)

-- each seat goes on alone from its state in the list
abbrev pub GoOn : Memory → List Entry → ℕ → List SeatView → List HartState → Type 0
GoOn initial history h [] [] = Unit {0}
GoOn initial history h [] (f ∷ fs) = ⊥
GoOn initial history h (seat ∷ seats) [] = ⊥
GoOn initial history h (seat ∷ seats) (f ∷ fs) = GoesAlone (fetched_text initial h history) seat.since f seat.state × GoOn initial history (h + 1) seats fs

pub last_run : (common : SharedState) (h : ℕ) (done : List HartState) (seats : List SeatView) (froms : List HartState) → h ≡ length done
    → GoOn common.initial common.history h seats froms
    → RunsTo (record { harts = done ++ froms; common = common }) (last_steps h seats) (record { harts = done ++ map (λ (s : SeatView). s.state) seats; common = common })
unfolding last_steps
last_run common h done [] [] place goes = refl
last_run common h done [] (f ∷ fs) place goes = absurd goes
last_run common h done (seat ∷ seats) [] place goes = absurd goes
last_run common h done (seat ∷ seats) (f ∷ fs) place goes =
    let now : Config = record { harts = done ++ f ∷ fs; common = common } in
    let there : slice_get (done ++ f ∷ fs) h ≡ Some f = ap (λ (k : ℕ). slice_get (done ++ f ∷ fs) k) place ∙ got_between done fs f in
    let first : RunsTo now (replicate seat.since (Hart h)) (with_hart now h seat.state) = alone_runs now h seat.since f seat.state there goes.0 in
    let set : slice_set (done ++ f ∷ fs) h seat.state ≡ (done ++ seat.state ∷ []) ++ fs =
    ap (λ (k : ℕ). slice_set (done ++ f ∷ fs) k seat.state) place ∙ set_between done fs f seat.state ∙ moved done fs seat.state in
    let middle : Config = record { harts = (done ++ seat.state ∷ []) ++ fs; common = common } in
    let first_too : RunsTo now (replicate seat.since (Hart h)) middle =
    subst (λ (l : List HartState). RunsTo now (replicate seat.since (Hart h)) (record { harts = l; common = common })) set first in
    let next : h + 1 ≡ length (done ++ seat.state ∷ []) = sym (length-append done (seat.state ∷ []) ∙ ap (λ (k : ℕ). k + 1) (sym place)) in
    let rest = last_run common (h + 1) (done ++ seat.state ∷ []) seats fs next goes.1 in
    let ends : (done ++ seat.state ∷ []) ++ map (λ (s : SeatView). s.state) seats ≡ done ++ seat.state ∷ map (λ (s : SeatView). s.state) seats =
    sym (moved done (map (λ (s : SeatView). s.state) seats) seat.state) in
    let joined = run_joined now middle (record { harts = (done ++ seat.state ∷ []) ++ map (λ (s : SeatView). s.state) seats; common = common })
    (replicate seat.since (Hart h)) (last_steps (h + 1) seats) first_too rest in
    subst (λ (l : List HartState). RunsTo now (replicate seat.since (Hart h) ++ last_steps (h + 1) seats) (record { harts = l; common = common })) ends joined

-- where each seat was right after its last request
pub record Froms (initial : Memory) (history : List Entry) (h : ℕ) (seats : List SeatView) : Type 0 where
  pub froms : List HartState
  pub count : length froms ≡ length seats
  pub goes : GoOn initial history h seats froms
  pub parts : (i : ℕ) (s : HartState) → slice_get froms i ≡ Some s
      → IsPart initial (h + i) history (slice_index_or (map (λ (seat : SeatView). seat.exchanges) seats) i []) s

parts_more : (initial : Memory) (history : List Entry) (h : ℕ) (list : List Exchange) (lists : List (List Exchange)) (f : HartState) (fs : List HartState)
    → IsPart initial h history list f
    → ((i : ℕ) (s : HartState) → slice_get fs i ≡ Some s → IsPart initial (h + 1 + i) history (slice_index_or lists i []) s)
    → (i : ℕ) (s : HartState) → slice_get (f ∷ fs) i ≡ Some s → IsPart initial (h + i) history (slice_index_or (list ∷ lists) i []) s
parts_more initial history h list lists f fs here rest zero s got =
    let same : f ≡ s = cc in
    let place : h ≡ h + 0 = omega arith in
    subst (λ (k : ℕ). IsPart initial k history list s) place (rw same at here)
parts_more initial history h list lists f fs here rest (suc i) s got =
    let place : h + 1 + i ≡ h + suc i = omega arith in
    subst (λ (k : ℕ). IsPart initial k history (slice_index_or lists i []) s) place (rest i s got)

pub froms_of : (core : CoreView) (h : ℕ) (seats : List SeatView)
    → ((i : ℕ) (seat : SeatView) → slice_get seats i ≡ Some seat → (seat.hart ≡ h + i) × Agrees core seat)
    → Froms (starting_memory core.program core.start) core.history h seats
froms_of core h [] each = record { froms = []; count = refl; goes = tt; parts = λ i s got. absurd (cc) }
froms_of core h (seat ∷ seats) each =
    let own = each 0 seat refl in
    let a = own.1 in
    let initial : Memory = starting_memory core.program core.start in
    let here : seat.hart ≡ h = own.0 ∙ omega arith in
    let rest = froms_of core (h + 1) seats (λ i s got. let e = each (suc i) s got in (e.0 ∙ omega arith, e.1)) in
    let goes : GoesAlone (fetched_text initial h core.history) seat.since a.from seat.state =
    subst (λ (k : ℕ). GoesAlone (fetched_text initial k core.history) seat.since a.from seat.state) here
    (subst (λ (m : Memory). GoesAlone m seat.since a.from seat.state) a.copy a.alone) in
    let part : IsPart initial h core.history seat.exchanges a.from =
    subst (λ (k : ℕ). IsPart initial k core.history seat.exchanges a.from) here a.part in
    record {
      froms = a.from ∷ rest.froms;
      count = ap suc rest.count;
      goes = (goes, rest.goes);
      parts = parts_more initial core.history h seat.exchanges (map (λ (s : SeatView). s.exchanges) seats) a.from rest.froms part rest.parts;
    }

lists_long : (seats : List SeatView) → length (map (λ (seat : SeatView). seat.exchanges) seats) ≡ length seats
lists_long [] = refl
lists_long (seat ∷ seats) = ap suc (lists_long seats)

-- the parts of agreeing seats
pub record AgreeingParts (core : CoreView) (seats : List SeatView) : Type 0 where
  pub found : Froms (starting_memory core.program core.start) core.history 0 seats
  pub parts : AreParts (starting_memory core.program core.start) core.harts core.history (map (λ (seat : SeatView). seat.exchanges) seats) found.froms
  pub first : starting_memory core.program core.start ≡ (replay core.program core.start []).initial

agreeing_parts : (core : CoreView) (seats : List SeatView) → AllAgree core seats → AgreeingParts core seats
agreeing_parts core seats all =
    let initial : Memory = starting_memory core.program core.start in
    let lists : List (List Exchange) = map (λ (seat : SeatView). seat.exchanges) seats in
    let from_each = froms_of core 0 seats (λ i seat got. (all.numbered i seat got ∙ omega arith, all.each i seat got)) in
    record {
      found = from_each;
      parts = record {
        lists_of = lists_long seats ∙ all.count;
        states_of = from_each.count ∙ all.count;
        part = λ h s got. subst (λ (k : ℕ). IsPart initial k core.history (slice_index_or lists h []) s) (omega arith) (from_each.parts h s got);
      };
      first = sym (initial_is core.program core.start []);
    }

-- the theorem
pub agreeing_runs : (core : CoreView) (seats : List SeatView) → IsReplay core.program core.start core.history core.shared
    → AreBelow core.harts core.history → AllAgree core seats
    → RunsTo (started core.program core.start core.harts) (all_of core seats)
    (record { harts = map (λ (seat : SeatView). seat.state) seats; common = common_of core })
agreeing_runs core seats is below all =
    let initial : Memory = starting_memory core.program core.start in
    let lists : List (List Exchange) = map (λ (seat : SeatView). seat.exchanges) seats in
    let p = agreeing_parts core seats all in
    let found = p.found in
    let runs = gathered_runs core.program core.start initial core.harts core.history lists found.froms p.first is.told below p.parts in
    let common : SharedState = common_of core in
    let first_memory : common.initial ≡ initial = initial_is core.program core.start core.history in
    let goes : GoOn common.initial common.history 0 seats found.froms = rw (first_memory, is.told) found.goes in
    let rest = last_run common 0 [] seats found.froms refl goes in
    run_joined (started core.program core.start core.harts) (record { harts = found.froms; common = common })
    (record { harts = map (λ (seat : SeatView). seat.state) seats; common = common }) (gathered core.history lists) (last_steps 0 seats) runs rest

-- the numbers of their events
pub agreeing_numbers : (core : CoreView) (seats : List SeatView) → IsReplay core.program core.start core.history core.shared
    → AreBelow core.harts core.history → AllAgree core seats
    → AreNumbered (started core.program core.start core.harts) (all_of core seats)
    (numbered core.history (map (λ (seat : SeatView). seat.exchanges) seats)) (trace_in (common_of core))
agreeing_numbers core seats is below all =
    let lists : List (List Exchange) = map (λ (seat : SeatView). seat.exchanges) seats in
    let p = agreeing_parts core seats all in
    let n = events_numbered core.program core.start (starting_memory core.program core.start) core.harts core.history lists p.found.froms p.first is.told
    below p.parts in
    record {
      numbers = numbers_kept (started core.program core.start core.harts) (gathered core.history lists) (last_steps 0 seats) (numbered core.history lists)
          n.numbers;
      each = n.each;
    }
