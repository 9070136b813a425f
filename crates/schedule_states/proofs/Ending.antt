-- From which states of a program an end can be reached.
use Rattle.std.proofs.Common.{◌≡◌, ◌≢◌, ◌⊎◌, ◌↔◌, inl, inr, ℕ, zero, suc, ◌+◌, ◌<◌, ◌≤◌, Bool, true, false, List, [], ◌∷◌, ◌++◌, Some, length, slice_get, slice_index_or, refl, sym, ap, ◌∙◌, subst, arith}
use Rattle.std.proofs.lemmas.Bool.{cases_eq}
use Rattle.std.proofs.lemmas.List.{length-append}
use Rattle.std.proofs.lemmas.Option.{get_or_from_slice_get, same_Some, slice_get_within}
use Rattle.bus.proofs.Places.{got_else, got_set, there_is}
use Rattle.bus.specs.Alone.{GoesAlone, StepsAlone}
use Rattle.hart.specs.declared.state.HartState.{HartState}
use Rattle.hart.specs.declared.state.Status.{Status}
use Rattle.hart.specs.declared.state.Status.TheVariants.{Running}
use Rattle.machine.proofs.RunParts.{run_joined}
use Rattle.machine.specs.Replies.{trace_in}
use Rattle.machine.specs.Run.{Config, RunsTo, StepsTo, started, with_hart}
use Rattle.machine.specs.declared.schedule.items.Step.{Step}
use Rattle.machine.specs.declared.schedule.items.Step.TheVariants.{Hart}
use Rattle.program.specs.Sections.{Sections}
use Rattle.store_trace.specs.declared.event.Event.{Event}
use Rattle.schedule_states.proofs.Covering.{covers_run}
use Rattle.schedule_states.proofs.Happening.{same_hart, steps_alone}
use Rattle.schedule_states.proofs.Looking.{got_left}
use Rattle.schedule_states.proofs.Standing.{first_alone, stands_alone, stands_or_asks, stopped_itself}
use Rattle.schedule_states.specs.Covering.{Covers, CoversAt, IsClosed, IsMet, IsTaken, ReachedView}
use Rattle.schedule_states.specs.Ending.{AlwaysEnds, AnyMayGo, AreEnds, AreTurns, AreTurnsBelow, CanEnd, GoesAsking, GoesBy, GoesQuietly, HasNoWayOut, HavePartsStopped, HaveStopped, LeadsTo}
use Rattle.schedule_states.specs.Leads.{AreOfHarts}
use Rattle.schedule_states.specs.States.{AsksTo, IsHartOf, PartsView, StandsFor, text_for}
use Rattle.schedule_states.specs.Ways.{IsMarked, LeadsOut, walked}
use Rattle.schedule_states.specs.WaysOut.{AreAllTurns, EachCanEnd, HasNone, HasWayOut, LeadToNone, LeadsNowhere}
use Rattle.schedule_states.specs.declared.program_state.HartPart.{HartPart}
use Rattle.schedule_states.specs.declared.program_state.ProgramState.{ProgramState}
use Rattle.schedule_states.specs.declared.program_state.StateNumbers.{StateNumbers}

-- whether the harts of a state have stopped, by the numbers of their parts
pub stopped_more : (known : List HartPart) (numbers : List ℕ) (count : ℕ) (part : HartPart) →
    ((h : ℕ) (one : HartPart) → h < count → slice_get known (slice_index_or numbers h 0) ≡ Some one → one.state.status ≢ Running) →
    slice_get known (slice_index_or numbers count 0) ≡ Some part → part.state.status ≢ Running →
    (h : ℕ) (one : HartPart) → h < count + 1 → slice_get known (slice_index_or numbers h 0) ≡ Some one → one.state.status ≢ Running
stopped_more known numbers count part before here stopped h one few got = elim (cases_eq h count) [
  | inl same ↦
      let is : part ≡ one = same_Some part one (sym here ∙ ap (λ (k : ℕ). slice_get known (slice_index_or numbers k 0)) (sym same) ∙ got) in
      subst (λ (p : HartPart). p.state.status ≢ Running) is stopped
  | inr other ↦ before h one (omega (arith, few, other)) got
]

pub stopped_parts : {T : Type 0} (r : ReachedView T) (n : ℕ) (numbers : StateNumbers) (s : ProgramState) (t : T) → slice_get r.states n ≡ Some numbers → IsMet r n s t →
    ((h : ℕ) (one : HartPart) → h < r.harts → slice_get r.hart_parts (slice_index_or numbers.harts h 0) ≡ Some one → one.state.status ≢ Running) →
    HavePartsStopped s.harts.items
stopped_parts r n numbers s t found met all h part here =
    let same : met.numbers ≡ numbers = same_Some met.numbers numbers (sym met.found ∙ found) in
    let few : h < r.harts = omega (arith, slice_get_within s.harts.items h part here, met.count) in
    all h part few (ap (λ (x : StateNumbers). slice_get r.hart_parts (slice_index_or x.harts h 0)) (sym same) ∙ met.each h part here)

pub running_part : {T : Type 0} (r : ReachedView T) (n : ℕ) (numbers : StateNumbers) (s : ProgramState) (t : T) (h : ℕ) (part : HartPart) → slice_get r.states n ≡ Some numbers → IsMet r n s t →
    h < r.harts → slice_get r.hart_parts (slice_index_or numbers.harts h 0) ≡ Some part → part.state.status ≡ Running → HavePartsStopped s.harts.items → ⊥
running_part r n numbers s t h part found met few got running stopped =
    let same : met.numbers ≡ numbers = same_Some met.numbers numbers (sym met.found ∙ found) in
    let mine : (one : HartPart) × (slice_get s.harts.items h ≡ Some one) = there_is s.harts.items h (omega (arith, few, met.count)) in
    let is : mine.0 ≡ part = same_Some mine.0 part
    (sym (met.each h mine.0 mine.1) ∙ ap (λ (x : StateNumbers). slice_get r.hart_parts (slice_index_or x.harts h 0)) same ∙ got) in
    stopped h mine.0 mine.1 (ap (λ (p : HartPart). p.state.status) is ∙ running)

-- a hart makes its steps up to where it stops
record HartStops (parts : PartsView) (s : ProgramState) (c : Config) (h : ℕ) : Type 0 where
  pub ready : Config
  pub steps : List Step
  pub runs : RunsTo c steps ready
  pub stands : StandsFor parts s ready
  pub stopped : (own : HartState) → slice_get ready.harts h ≡ Some own → own.status ≢ Running
  pub others : (g : ℕ) (own : HartState) → g ≢ h → slice_get ready.harts g ≡ Some own → slice_get c.harts g ≡ Some own

hart_stops : (parts : PartsView) (s : ProgramState) (c : Config) (h n : ℕ) (own ahead : HartState) → StandsFor parts s c → slice_get c.harts h ≡ Some own →
    GoesAlone (text_for c.common h) n own ahead → ahead.status ≢ Running → HartStops parts s c h
hart_stops parts s c h zero own ahead stands here goes stopped = record {
  ready = c;
  steps = [];
  runs = refl;
  stands = stands;
  stopped = λ one got.
      let same : own ≡ one = same_Some own one (sym here ∙ got) in
      subst (λ (t : HartState). t.status ≢ Running) (goes ∙ same) stopped;
  others = λ g one apart got. got;
}
hart_stops parts s c h (suc n) own ahead stands here goes stopped =
    let first : (f : HartState) × StepsAlone (text_for c.common h) own f × GoesAlone (text_for c.common h) n f ahead = first_alone (text_for c.common h) n own ahead goes in
    let next : Config = with_hart c h first.0 in
    let on : HartStops parts s next h = hart_stops parts s next h n first.0 ahead (stands_alone parts s c h own first.0 stands here first.1)
    (got_set c.harts h first.0 (slice_get_within c.harts h own here)) first.2 stopped in record {
      ready = on.ready;
      steps = Hart h ∷ on.steps;
      runs = (next, steps_alone c h own first.0 here first.1, on.runs);
      stands = on.stands;
      stopped = on.stopped;
      others = λ g one apart got. sym (got_else c.harts h g first.0 apart) ∙ on.others g one apart got;
    }

-- so do the first harts
record HartsStop (parts : PartsView) (s : ProgramState) (c : Config) (count : ℕ) : Type 0 where
  pub ready : Config
  pub steps : List Step
  pub runs : RunsTo c steps ready
  pub stands : StandsFor parts s ready
  pub stopped : (h : ℕ) (own : HartState) → h < count → slice_get ready.harts h ≡ Some own → own.status ≢ Running

harts_stop : (parts : PartsView) (s : ProgramState) (c : Config) (count : ℕ) → StandsFor parts s c → HavePartsStopped s.harts.items → count ≤ length s.harts.items →
    HartsStop parts s c count
harts_stop parts s c zero stands all few = record {
  ready = c;
  steps = [];
  runs = refl;
  stands = stands;
  stopped = λ h own below. absurd (omega (arith, below));
}
harts_stop parts s c (suc count) stands all few =
    let before : HartsStop parts s c count = harts_stop parts s c count stands all (omega (arith, few)) in
    let part : (part : HartPart) × (slice_get s.harts.items count ≡ Some part) = there_is s.harts.items count (omega (arith, few)) in
    let own : (own : HartState) × (slice_get before.ready.harts count ≡ Some own) = there_is before.ready.harts count (omega (arith, few, before.stands.count)) in
    let is : IsHartOf parts before.ready.common count part.0 own.0 = before.stands.harts count part.0 own.0 part.1 own.1 in
    let on : HartStops parts s before.ready count = hart_stops parts s before.ready count is.ahead.0 own.0 part.0.state before.stands own.1 is.ahead.1 (all count part.0 part.1) in record {
      ready = on.ready;
      steps = before.steps ++ on.steps;
      runs = run_joined c before.ready on.ready before.steps on.steps before.runs on.runs;
      stands = on.stands;
      stopped = λ h one below got. elim (cases_eq h count) [
        | inl same ↦ on.stopped one (subst (λ (k : ℕ). slice_get on.ready.harts k ≡ Some one) same got)
        | inr other ↦ before.stopped h one (omega (arith, below, other)) (on.others h one other got)
      ];
    }

-- what a state stands for whose harts have stopped comes to an end
state_ends : (parts : PartsView) (s : ProgramState) (c : Config) → StandsFor parts s c → HavePartsStopped s.harts.items → CanEnd c
state_ends parts s c stands all =
    let ready : HartsStop parts s c (length s.harts.items) = harts_stop parts s c (length s.harts.items) stands all (omega arith) in record {
      steps = ready.steps;
      end = ready.ready;
      runs = ready.runs;
      stopped = λ h own got. ready.stopped h own (omega (arith, slice_get_within ready.ready.harts h own got, ready.stands.count)) got;
    }

met_at : {T : Type 0} (stands : T → List Event → Type 0) (r : ReachedView T) (n : ℕ) (c : Config) (at : CoversAt stands r n c) → IsMet r n at.0.state at.0.standing
met_at stands r n c at = subst (λ (k : ℕ). IsMet r k at.0.state at.0.standing) at.1 at.0.met

-- so does what a state stands for from which ways lead to one
can_end : {T : Type 0} (stands : T → List Event → Type 0) (allows : List Event → ℕ → Type 0) (r : ReachedView T) (next : List (List ℕ)) (marks : List Bool) →
    AreTurnsBelow stands allows r next (length r.states) → AreEnds r marks (length r.states) → (n : ℕ) → LeadsOut next marks n → (c : Config) → CoversAt stands r n c → CanEnd c
can_end {T} stands allows r next marks below ends _ (LeadsOut.here n marked) c at =
    let met : IsMet r n at.0.state at.0.standing = met_at stands r n c at in
    let there : n < length r.states = slice_get_within r.states n met.numbers met.found in
    state_ends r.parts at.0.state c at.0.stands_as.0 ((ends.each n at.0.state at.0.standing there met).0 marked)
can_end {T} stands allows r next marks below ends _ (LeadsOut.further n hart m way leads) c at =
    let met : IsMet r n at.0.state at.0.standing = met_at stands r n c at in
    let turns : AreTurns stands allows r at.0.state at.0.standing r.harts way.to = (below.each n way.to way.found).turns at.0.state at.0.standing met in
    let on : LeadsTo stands r c (slice_index_or way.to hart 0) = (turns.ways hart way.few).leads c at.0.stands_as in
    let covers : CoversAt stands r m on.end = subst (λ (k : ℕ). CoversAt stands r k on.end) (sym way.is) on.covers in
    let rest : CanEnd on.end = can_end stands allows r next marks below ends m leads on.end covers in record {
      steps = on.steps ++ rest.steps;
      end = rest.end;
      runs = run_joined c on.end rest.end on.steps rest.steps on.runs rest.runs;
      stopped = rest.stopped;
    }

pub each_can_end : {T : Type 0} (stands : T → List Event → Type 0) (allows : List Event → ℕ → Type 0) (r : ReachedView T) (next : List (List ℕ)) → AreAllTurns stands allows r next →
    ((n : ℕ) → n < length r.states → HasWayOut r next n) → EachCanEnd stands r
each_can_end stands allows r next all out c covers =
    let way : HasWayOut r next covers.number = out covers.number (slice_get_within r.states covers.number covers.met.numbers covers.met.found) in
    can_end stands allows r next way.marks all.turns way.ends covers.number way.leads c (covers, refl)

pub always_ends : {T : Type 0} (stands : T → List Event → Type 0) (allows : List Event → ℕ → Type 0) (ends : Status → Type 0) (r : ReachedView T) (program : Sections)
    (medium : List (List ℕ)) (harts : ℕ) → r.parts.claims ≡ [] → IsClosed stands allows ends r → Covers stands r (started program medium harts) → AnyMayGo allows → EachCanEnd stands r →
    AlwaysEnds program medium harts
always_ends stands allows ends r program medium harts none closed start free each steps c runs =
    each c (covers_run stands allows ends r (started program medium harts) c steps none closed start runs (λ before after h d is led. free (trace_in d.common) h))

-- a step leads from what a state stands for to what the same state stands for, or is a request of a hart
record StepsFrom {T : Type 0} (stands : T → List Event → Type 0) (r : ReachedView T) (n : ℕ) (c d : Config) (step : Step) : Type 0 where
  pub hart : ℕ
  pub is : step ≡ Hart hart
  pub there : hart < r.harts
  pub few : hart < 8
  pub asks : AsksTo c hart d

steps_from : {T : Type 0} (stands : T → List Event → Type 0) (r : ReachedView T) (n : ℕ) (c d : Config) (step : Step) → CoversAt stands r n c → StepsTo c step d →
    CoversAt stands r n d ⊎ StepsFrom stands r n c d step
steps_from stands r n c d step at steps = elim (stands_or_asks r.parts at.0.state c d step at.0.stands_as.0 steps) [
  | inl still ↦ inl (
    record {
      state = at.0.state;
      standing = at.0.standing;
      number = at.0.number;
      met = at.0.met;
      stands_as = (still.0, subst (λ (events : List Event). stands at.0.standing events) (sym still.1) at.0.stands_as.1);
    },
    at.1,
  )
  | inr asks ↦
      let there : asks.0 < length c.harts = slice_get_within c.harts asks.0 asks.1.own asks.1.here in
      inr (record {
        hart = asks.0;
        is = asks.2;
        there = subst (λ (k : ℕ). asks.0 < k) (sym at.0.stands_as.0.count ∙ at.0.met.count) there;
        few = omega (arith, there, at.0.stands_as.0.few);
        asks = asks.1;
      })
]

-- the request of a hart leads to the state that is noted
asking_covers : {T : Type 0} (stands : T → List Event → Type 0) (allows : List Event → ℕ → Type 0) (r : ReachedView T) (next : List (List ℕ)) (n h : ℕ) (to : List ℕ) (c d : Config) →
    r.parts.claims ≡ [] → AreAllTurns stands allows r next → CoversAt stands r n c → h < r.harts → slice_get next n ≡ Some to → AsksTo c h d → CoversAt stands r (slice_index_or to h 0) d
asking_covers stands allows r next n h to c d none all at few found asks =
    let taken : IsTaken stands r at.0.standing h (slice_index_or to h 0) c d asks.request =
    ((all.turns.each n to found).turns at.0.state at.0.standing (met_at stands r n c at)).taken h few c d at.0.stands_as (all.free (trace_in c.common) h) asks in
    subst (λ (e : Config). CoversAt stands r (slice_index_or to h 0) e) (taken.none none) taken.at

noted_at : {T : Type 0} (stands : T → List Event → Type 0) (allows : List Event → ℕ → Type 0) (r : ReachedView T) (next : List (List ℕ)) (n : ℕ) (c : Config) →
    AreAllTurns stands allows r next → CoversAt stands r n c → (to : List ℕ) × (slice_get next n ≡ Some to)
noted_at stands allows r next n c all at =
    let met : IsMet r n at.0.state at.0.standing = met_at stands r n c at in
    there_is next n (omega (arith, slice_get_within r.states n met.numbers met.found, all.turns.count_is))

-- it is covered by a state from which one can't come to an end
record IsOut {T : Type 0} (stands : T → List Event → Type 0) (r : ReachedView T) (next : List (List ℕ)) (ends : List Bool) (c : Config) : Type 0 where
  pub number : ℕ
  pub at : CoversAt stands r number c
  pub out : LeadsOut next ends number → ⊥

out_step : {T : Type 0} (stands : T → List Event → Type 0) (allows : List Event → ℕ → Type 0) (r : ReachedView T) (next : List (List ℕ)) (ends : List Bool) (c d : Config) (step : Step) →
    r.parts.claims ≡ [] → AreAllTurns stands allows r next → IsOut stands r next ends c → StepsTo c step d → IsOut stands r next ends d
out_step stands allows r next ends c d step none all is steps = elim (steps_from stands r is.number c d step is.at steps) [
  | inl still ↦ record { number = is.number; at = still; out = is.out }
  | inr from ↦
      let to : (to : List ℕ) × (slice_get next is.number ≡ Some to) = noted_at stands allows r next is.number c all is.at in record {
        number = slice_index_or to.0 from.hart 0;
        at = asking_covers stands allows r next is.number from.hart to.0 c d none all is.at from.there to.1 from.asks;
        out = λ leads. is.out (LeadsOut.further is.number from.hart (slice_index_or to.0 from.hart 0) (record { to = to.0; found = to.1; few = from.few; is = refl }) leads);
      }
]

out_run : {T : Type 0} (stands : T → List Event → Type 0) (allows : List Event → ℕ → Type 0) (r : ReachedView T) (next : List (List ℕ)) (ends : List Bool) (c d : Config) (steps : List Step) →
    r.parts.claims ≡ [] → AreAllTurns stands allows r next → IsOut stands r next ends c → RunsTo c steps d → IsOut stands r next ends d
out_run stands allows r next ends c d [] none all is runs = subst (λ (e : Config). IsOut stands r next ends e) (sym runs) is
out_run stands allows r next ends c d (step ∷ steps) none all is runs =
    out_run stands allows r next ends runs.0 d steps none all (out_step stands allows r next ends c runs.0 step none all is runs.1) runs.2

-- the harts of a state have stopped if those have that it stands for
parts_stopped : (parts : PartsView) (s : ProgramState) (c : Config) → StandsFor parts s c → HaveStopped c.harts → HavePartsStopped s.harts.items
parts_stopped parts s c stands stopped h part here =
    let own : (own : HartState) × (slice_get c.harts h ≡ Some own) = there_is c.harts h (omega (arith, slice_get_within s.harts.items h part here, stands.count)) in
    let same : part.state ≡ own.0 = stopped_itself parts c.common h part own.0 (stands.harts h part own.0 here own.1) (stopped h own.0 own.1) in
    subst (λ (t : HartState). t.status ≢ Running) (sym same) (stopped h own.0 own.1)

no_way_out : {T : Type 0} (stands : T → List Event → Type 0) (allows : List Event → ℕ → Type 0) (r : ReachedView T) (next : List (List ℕ)) (n : ℕ) (c : Config) → r.parts.claims ≡ [] → AreAllTurns stands allows r next →
    HasNone r next n → CoversAt stands r n c → HasNoWayOut c
no_way_out stands allows r next n c unclaimed all none at steps end runs stopped =
    let is : IsOut stands r next none.marks c = record { number = n; at = at; out = none.leads } in
    let last : IsOut stands r next none.marks end = out_run stands allows r next none.marks c end steps unclaimed all is runs in
    let met : IsMet r last.number last.at.0.state last.at.0.standing = met_at stands r last.number end last.at in
    let there : last.number < length r.states = slice_get_within r.states last.number met.numbers met.found in
    last.out (LeadsOut.here last.number ((none.ends.each last.number last.at.0.state last.at.0.standing there met).1
    (parts_stopped r.parts last.at.0.state end last.at.0.stands_as.0 stopped)))

-- where the requests of harts lead from what a state stands for
steps_covers : {T : Type 0} (stands : T → List Event → Type 0) (r : ReachedView T) (n count : ℕ) (c d : Config) → CoversAt stands r n c → GoesQuietly count c d → CoversAt stands r n d
steps_covers stands r n zero c d at goes = subst (λ (e : Config). CoversAt stands r n e) (sym goes) at
steps_covers stands r n (suc count) c d at goes =
    let middle : CoversAt stands r n goes.0 = steps_covers stands r n count c goes.0 at goes.2 in
    elim (steps_from stands r n goes.0 d (Hart goes.1) middle goes.3) [
      | inl still ↦ still
      | inr from ↦ absurd (goes.4 (subst (λ (k : ℕ). AsksTo goes.0 k d) (sym (same_hart goes.1 from.hart from.is)) from.asks))
    ]

walk_covers : {T : Type 0} (stands : T → List Event → Type 0) (allows : List Event → ℕ → Type 0) (r : ReachedView T) (next : List (List ℕ)) (requests : List ℕ) (n : ℕ) (c d : Config) →
    r.parts.claims ≡ [] → AreAllTurns stands allows r next → AreOfHarts r.harts requests → CoversAt stands r n c → GoesBy requests c d → CoversAt stands r (walked next n requests) d
walk_covers stands allows r next [] n c d none all harts at goes = steps_covers stands r n goes.0 c d at goes.1
walk_covers stands allows r next (h ∷ requests) n c d none all harts at goes =
    let asking : GoesAsking h c goes.0 = goes.1 in
    let ready : CoversAt stands r n asking.ready = steps_covers stands r n asking.quiet.0 c asking.ready at asking.quiet.1 in
    let to : (to : List ℕ) × (slice_get next n ≡ Some to) = noted_at stands allows r next n c all at in
    let read : slice_index_or next n [] ≡ to.0 = get_or_from_slice_get next n to.0 [] to.1 in
    let few : h < r.harts = harts 0 0 (omega arith) in
    let there : CoversAt stands r (slice_index_or to.0 h 0) goes.0 = asking_covers stands allows r next n h to.0 asking.ready goes.0 none all ready few to.1 asking.asks in
    walk_covers stands allows r next requests (slice_index_or (slice_index_or next n []) h 0) goes.0 d none all (λ k x less. harts (suc k) x (omega (arith, less)))
    (subst (λ (list : List ℕ). CoversAt stands r (slice_index_or list h 0) goes.0) (sym read) there) goes.2

pub leads_nowhere : {T : Type 0} (stands : T → List Event → Type 0) (allows : List Event → ℕ → Type 0) (r : ReachedView T) (next : List (List ℕ)) (requests : List ℕ) →
    r.parts.claims ≡ [] → AreAllTurns stands allows r next → LeadToNone r next requests → LeadsNowhere stands r requests
leads_nowhere stands allows r next requests none all lead start at d goes =
    no_way_out stands allows r next (walked next 0 requests) d none all lead.none (walk_covers stands allows r next requests 0 start d none all lead.harts at goes)

-- marks of ends, one more of them
got_last : (marks : List Bool) (mark : Bool) → slice_get (marks ++ mark ∷ []) (length marks) ≡ Some mark
got_last [] mark = refl
got_last (first ∷ marks) mark = got_last marks mark

marked_if : (marks : List Bool) (n : ℕ) (mark : Bool) (claim : Type 0) → slice_get marks n ≡ Some mark → (mark ≡ true → claim) → (mark ≡ false → claim → ⊥) → IsMarked marks n ↔ claim
marked_if marks n true claim got is_so not_so = (λ marked. is_so refl, λ is. got)
marked_if marks n false claim got is_so not_so = (λ marked. let both : Some false ≡ Some true = sym got ∙ marked in absurd cc, λ is. absurd (not_so refl is))

pub ends_more : {T : Type 0} (r : ReachedView T) (marks : List Bool) (count : ℕ) (mark : Bool) →
    (mark ≡ true → (s : ProgramState) (t : T) → IsMet r count s t → HavePartsStopped s.harts.items) →
    (mark ≡ false → (s : ProgramState) (t : T) → IsMet r count s t → HavePartsStopped s.harts.items → ⊥) → AreEnds r marks count → AreEnds r (marks ++ mark ∷ []) (count + 1)
ends_more r marks count mark is_so not_so ends = record {
  count_is = let more : length (marks ++ mark ∷ []) ≡ length marks + 1 = length-append marks (mark ∷ []) in more ∙ ap (λ (n : ℕ). n + 1) ends.count_is;
  each = λ n s t few met. elim (cases_eq n count) [
    | inl same ↦
        let last : slice_get (marks ++ mark ∷ []) n ≡ Some mark =
        ap (λ (k : ℕ). slice_get (marks ++ mark ∷ []) k) (same ∙ sym ends.count_is) ∙ got_last marks mark in
        let here : IsMet r count s t = subst (λ (k : ℕ). IsMet r k s t) same met in
        marked_if (marks ++ mark ∷ []) n mark (HavePartsStopped s.harts.items) last (λ is. is_so is s t here) (λ is. not_so is s t here)
    | inr other ↦
        let below : n < count = omega (arith, few, other) in
        let front : slice_get (marks ++ mark ∷ []) n ≡ slice_get marks n = got_left marks (mark ∷ []) n (omega (arith, below, ends.count_is)) in
        let was : IsMarked marks n ↔ HavePartsStopped s.harts.items = ends.each n s t below met in
        (λ marked. was.0 (sym front ∙ marked), λ stopped. front ∙ was.1 stopped)
  ];
}
