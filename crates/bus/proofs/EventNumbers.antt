-- The numbers of a history's events are those of the hart steps that made them.
use Rattle.std.proofs.Common.{◌≡◌, ℕ, suc, ◌+◌, ◌≤◌, List, [], ◌∷◌, ◌++◌, Some, length, map, replicate, slice_get, slice_set, slice_index_or, refl, sym, ap, subst, ◌∙◌, append_assoc, arith}
use Rattle.std.proofs.lemmas.List.{append-nil, length-append, length-map}
use Rattle.std.proofs.lemmas.Option.{slice_get_within}
use Rattle.program.specs.Sections.{Sections}
use Rattle.hart.specs.declared.state.HartState.{HartState}
use Rattle.hart.specs.declared.need.Need.TheVariants.{Ask}
use Rattle.hart.specs.declared.need.Reply.{Reply}
use Rattle.hart.specs.declared.need.Request.{Request}
use Rattle.line_memory.specs.Memory.{Memory}
use Rattle.machine.specs.Evicting.{hart_steps as only_hart_steps}
use Rattle.machine.specs.Run.{Config, RunsTo, StepsTo, after_request, started, with_hart}
use Rattle.machine.proofs.RunParts.{grows, run_joined}
use Rattle.machine.proofs.Stepping.{hart_steps}
use Rattle.machine.specs.Recorded.{AreNumbers, IsMadeBy}
use Rattle.machine.proofs.Numbering.{numbers_kept, numbers_pushed}
use Rattle.machine.specs.declared.schedule.items.Step.{Step}
use Rattle.machine.specs.declared.schedule.items.Step.TheVariants.{Hart, Evict}
use Rattle.machine.specs.declared.shared_memory.history.Entry.{Entry}
use Rattle.machine.specs.declared.shared_memory.history.Entry.TheVariants.{Asked, Evicted}
use Rattle.machine.specs.Histories.{fetched_text}
use Rattle.machine.specs.Replies.{SharedState, events_of, reply_after, shared_after, trace_in}
use Rattle.store_trace.specs.declared.event.Event.{Event}
use Rattle.bus.specs.declared.exchange.Exchange.{Exchange}
use Rattle.bus.specs.Agreeing.{Exchanges}
use Rattle.bus.specs.Following.{hart_count}
use Rattle.bus.specs.Gathered.{AreParts, earlier, gathered}
use Rattle.bus.specs.Listed.{numbered}
use Rattle.bus.specs.Replays.{AreBelow, replay}
use Rattle.bus.proofs.Following.{total_append}
use Rattle.bus.proofs.Gathering.{alone_runs, asked_here, evicted_here, eviction_here, gathered_runs, latest}
use Rattle.bus.proofs.Places.{got_set}

-- hart steps are counted as recordings count them
count_is : (steps : List Step) → hart_count steps ≡ length (only_hart_steps steps)
count_is [] = refl
count_is (Hart h ∷ steps) =
    let rest = count_is steps in
    let one : length (only_hart_steps (Hart h ∷ steps)) ≡ suc (length (only_hart_steps steps)) = refl in
    omega (arith, rest, one)
count_is (Evict line ∷ steps) = count_is steps

-- an exchange makes one event at most
few_made : (c : Config) (h : ℕ) (s t : HartState) (x : Exchange) → slice_get c.harts h ≡ Some s
    → Exchanges (fetched_text c.common.initial h c.common.history) s x t → length (events_of h x.request (reply_after c.common h x.request)) ≤ 1
few_made c h s t x there e =
    let inside = slice_get_within c.harts h s there in
    let now : Config = with_hart c h e.at in
    let end : Config = after_request now h e.at e.instr x.request in
    let step : StepsTo now (Hart h) end =
    hart_steps now end h e.at (got_set c.harts h e.at inside) e.asks.running (Ask x.request, e.asks.needs, (e.instr, e.spelled, refl)) in
    let g = grows now end (Hart h) step in
    let events : List Event = events_of h x.request (reply_after c.common h x.request) in
    let all : length (trace_in c.common ++ events) ≡ length (trace_in c.common ++ g.more) = ap (λ (l : List Event). length l) g.trace in
    let sum = length-append (trace_in c.common) g.more in
    let own = length-append (trace_in c.common) events in
    let few = g.few in
    omega (arith, all, sum, own, few)

-- and that is its last step's
event_made : (c middle : Config) (before : List Step) (h : ℕ) (s t : HartState) (x : Exchange) → RunsTo c before middle
    → slice_get middle.harts h ≡ Some s → Exchanges (fetched_text middle.common.initial h middle.common.history) s x t
    → length (events_of h x.request (reply_after middle.common h x.request)) ≡ 1
    → IsMadeBy c (before ++ (replicate x.steps (Hart h) ++ Hart h ∷ [])) (length (trace_in middle.common))
    (hart_count (before ++ (replicate x.steps (Hart h) ++ Hart h ∷ [])))
event_made c middle before h s t x runs there e one =
    let inside = slice_get_within middle.harts h s there in
    let now : Config = with_hart middle h e.at in
    let end : Config = after_request now h e.at e.instr x.request in
    let alone : RunsTo middle (replicate x.steps (Hart h)) now = alone_runs middle h x.steps s e.at there e.alone in
    let step : StepsTo now (Hart h) end =
    hart_steps now end h e.at (got_set middle.harts h e.at inside) e.asks.running (Ask x.request, e.asks.needs, (e.instr, e.spelled, refl)) in
    let steps : List Step = before ++ replicate x.steps (Hart h) in
    let split : before ++ (replicate x.steps (Hart h) ++ Hart h ∷ []) ≡ steps ++ Hart h ∷ [] =
    sym (append_assoc before (replicate x.steps (Hart h)) (Hart h ∷ [])) in
    let events : List Event = events_of h x.request (reply_after middle.common h x.request) in
    record {
      before = steps;
      hart = h;
      after = [];
      old = now;
      new = end;
      split = split;
      number = ap hart_count split ∙ total_append steps (Hart h ∷ []) ∙ ap (λ (k : ℕ). k + 1) (count_is steps);
      runs = run_joined c middle now before (replicate x.steps (Hart h)) runs alone;
      makes = step;
      earlier = refl;
      event = length-append (trace_in middle.common) events ∙ ap (λ (k : ℕ). length (trace_in middle.common) + k) one;
    }

numbers_more : (c : Config) (steps : List Step) (numbers : List ℕ) (events : List Event) (total : ℕ) → length events ≤ 1
    → AreNumbers c steps numbers → (length events ≡ 1 → IsMadeBy c steps (length numbers) total)
    → AreNumbers c steps (numbers ++ map (λ (event : Event). total) events)
numbers_more c steps numbers [] total few all made = rw (append-nil numbers) all
numbers_more c steps numbers (event ∷ []) total few all made = numbers_pushed c steps numbers total all (made refl)
numbers_more c steps numbers (event ∷ other ∷ events) total few all made = absurd (omega (arith, few))

-- where nothing was asked
no_numbers : (c : Config) (steps : List Step) → AreNumbers c steps []
no_numbers c steps i n got = absurd (cc)

no_events : (program : Sections) (lines : List (List ℕ)) → 0 ≡ length (trace_in (replay program lines []))
unfolding replay
no_events program lines = refl

-- the numbers of a history, and how many there are
pub record AreNumbered (c : Config) (steps : List Step) (list : List ℕ) (trace : List Event) : Type 0 where
  pub numbers : AreNumbers c steps list
  pub each : length list ≡ length trace

-- the theorem
pub events_numbered : (program : Sections) (lines : List (List ℕ)) (initial : Memory) (harts : ℕ) (history : List Entry)
    (lists : List (List Exchange)) (states : List HartState) → initial ≡ (replay program lines []).initial
    → (replay program lines history).history ≡ history → AreBelow harts history → AreParts initial harts history lists states
    → AreNumbered (started program lines harts) (gathered history lists) (numbered history lists) (trace_in (replay program lines history))
unfolding gathered numbered
events_numbered program lines initial harts [] lists states first told below parts =
    record { numbers = no_numbers (started program lines harts) []; each = no_events program lines }
events_numbered program lines initial harts (Evicted line ∷ before) lists states first told below parts =
    let told_before = evicted_here program lines before line told in
    let was : AreParts initial harts before lists states = record { lists_of = parts.lists_of; states_of = parts.states_of; part = parts.part } in
    let rest = events_numbered program lines initial harts before lists states first told_before below was in
    rw (eviction_here program lines before line) (record {
      numbers = numbers_kept (started program lines harts) (gathered before lists) (Evict line ∷ []) (numbered before lists) rest.numbers;
      each = rest.each;
    })
events_numbered program lines initial harts (Asked h request reply ∷ before) lists states first told below parts =
    let c : Config = started program lines harts in
    let last = latest program lines initial harts before h request reply lists states first told below.0 parts in
    let x : Exchange = last.first in
    let others : List (List Exchange) = slice_set lists h (earlier (slice_index_or lists h [])) in
    let common : SharedState = replay program lines before in
    let middle : Config = record { harts = last.froms; common = common } in
    let runs = gathered_runs program lines initial harts before others last.froms first last.told_before below.1 last.parts in
    let rest = events_numbered program lines initial harts before others last.froms first last.told_before below.1 last.parts in
    let own : List Step = replicate x.steps (Hart h) ++ Hart h ∷ [] in
    let steps : List Step = gathered before others ++ own in
    let events : List Event = events_of h request (reply_after common h request) in
    let few : length events ≤ 1 = subst (λ (q : Request). length (events_of h q (reply_after common h q)) ≤ 1) last.asks
    (few_made middle h last.from last.after x last.there last.exchanges) in
    let made : length events ≡ 1 → IsMadeBy c steps (length (numbered before others)) (hart_count steps) = λ one.
    subst (λ (k : ℕ). IsMadeBy c steps k (hart_count steps)) (sym rest.each)
    (event_made c middle (gathered before others) h last.from last.after x runs last.there last.exchanges
    (subst (λ (q : Request). length (events_of h q (reply_after common h q)) ≡ 1) (sym last.asks) one)) in
    let kept = numbers_kept c (gathered before others) own (numbered before others) rest.numbers in
    let later : List ℕ = map (λ (event : Event). hart_count steps) events in
    let made_so : AreNumbered c steps (numbered before others ++ later) (trace_in (shared_after common h request)) = record {
      numbers = numbers_more c steps (numbered before others) events (hart_count steps) few kept made;
      each = length-append (numbered before others) later ∙ ap (λ (k : ℕ). length (numbered before others) + k) (length-map events (λ (event : Event). hart_count steps))
          ∙ ap (λ (k : ℕ). k + length events) rest.each ∙ sym (length-append (trace_in common) events);
    } in
    let By : Reply → Type 0 = λ r.
    AreNumbered c steps (numbered before others ++ map (λ (event : Event). hart_count steps) (events_of h request r)) (trace_in (shared_after common h request)) in
    rw (asked_here program lines before h request reply, last.steps) (subst By (sym last.reply_is) made_so)
