-- The run of the steps of a history comes to the replay of the history, and each hart to where its exchanges lead.
use Rattle.std.proofs.Common.{◌≡◌, ℕ, zero, suc, ◌+◌, ◌<◌, List, [], ◌∷◌, ◌++◌, Some, false, eqb, length, replicate, slice_get, slice_set, slice_index_or, map, refl, sym, ap, subst, ◌∙◌, inl, inr, arith}
use Rattle.std.proofs.lemmas.Bool.{cases_eq, eq-eqb, ne_eqb}
use Rattle.std.proofs.lemmas.List.{length-set, replicate_more}
use Rattle.std.proofs.lemmas.Option.{slice_get_within}
use Rattle.std.specs.List.{range_with_len}
use Rattle.program.specs.Sections.{Sections}
use Rattle.hart.specs.Effect.{start}
use Rattle.hart.specs.declared.state.HartState.{HartState}
use Rattle.hart.specs.declared.need.Need.{Need}
use Rattle.hart.specs.declared.need.Need.TheVariants.{Local, Ask, Stop}
use Rattle.hart.specs.declared.need.Request.{Request}
use Rattle.hart.specs.declared.need.Reply.{Reply}
use Rattle.line_memory.specs.Memory.{Memory}
use Rattle.machine.specs.declared.schedule.items.Step.{Step}
use Rattle.machine.specs.declared.schedule.items.Step.TheVariants.{Hart, Evict}
use Rattle.machine.specs.declared.shared_memory.history.Entry.{Entry}
use Rattle.machine.specs.declared.shared_memory.history.Entry.TheVariants.{Asked, Evicted}
use Rattle.machine.specs.Histories.{fetched_text}
use Rattle.machine.specs.Replies.{SharedState, reply_after, shared_after}
use Rattle.machine.specs.Run.{Config, Meets, RunsTo, StepsTo, after_request, fetched_by, started, with_hart}
use Rattle.machine.proofs.RunParts.{run_joined}
use Rattle.machine.proofs.Stepping.{hart_steps}
use Rattle.bus.specs.declared.exchange.Exchange.{Exchange}
use Rattle.bus.specs.Agreeing.{Exchanges, IsPart, LastIs}
use Rattle.bus.specs.Alone.{GoesAlone, LeavesAlone, StepsAlone}
use Rattle.bus.specs.Gathered.{AreParts, earlier, gathered, steps_to}
use Rattle.bus.specs.Replays.{AreBelow, replay, with_eviction}
use Rattle.bus.proofs.Places.{all_from, get_of, got_else, got_set, read_else, read_set, set_got, set_set}

-- a step that needs no request is one of Run
leaves_meets : (c : Config) (h : ℕ) (s t : HartState) (word : List ℕ) (need : Need) → LeavesAlone s need t → (d : Config) → d ≡ with_hart c h t
    → (w : Rattle.std.specs.Prelude.Option ℕ) → Meets c h s w need d
leaves_meets c h s t word (Local after) leaves d e w = e ∙ ap (λ (x : HartState). with_hart c h x) leaves
leaves_meets c h s t word (Stop trap) leaves d e w = e ∙ ap (λ (x : HartState). with_hart c h x) leaves
leaves_meets c h s t word (Ask request) leaves d e w = absurd leaves

pub alone_steps : (c : Config) (h : ℕ) (s t : HartState) → slice_get c.harts h ≡ Some s
    → StepsAlone (fetched_text c.common.initial h c.common.history) s t → StepsTo c (Hart h) (with_hart c h t)
alone_steps c h s t there step =
    hart_steps c (with_hart c h t) h s there step.running
    (step.need, step.needs, leaves_meets c h s t [] step.need step.leaves (with_hart c h t) refl (fetched_by c h s.pc))

-- so are several of them
pub alone_runs : (c : Config) (h n : ℕ) (s t : HartState) → slice_get c.harts h ≡ Some s
    → GoesAlone (fetched_text c.common.initial h c.common.history) n s t → RunsTo c (replicate n (Hart h)) (with_hart c h t)
alone_runs c h zero s t there goes =
    rw goes (ap (λ (harts : List HartState). record c { harts = harts }) (set_got c.harts h s there))
alone_runs c h (suc n) s t there goes =
    let middle : HartState = goes.0 in
    let first = alone_runs c h n s middle there goes.1 in
    let inside = slice_get_within c.harts h s there in
    let step = alone_steps (with_hart c h middle) h middle t (got_set c.harts h middle inside) goes.2 in
    let joined = run_joined c (with_hart c h middle) (with_hart (with_hart c h middle) h t) (replicate n (Hart h)) (Hart h ∷ []) first (_, step, refl) in
    let count : n + 1 ≡ suc n = omega arith in
    let steps : replicate n (Hart h) ++ Hart h ∷ [] ≡ replicate (suc n) (Hart h) =
    replicate_more n (Hart h) ∙ ap (λ (k : ℕ). replicate k (Hart h)) count in
    subst (λ (l : List Step). RunsTo c l (with_hart c h t)) steps (rw (set_set c.harts h middle t) at joined)

-- an exchange is its register steps and the request
pub exchange_runs : (c : Config) (h : ℕ) (s t : HartState) (x : Exchange) → slice_get c.harts h ≡ Some s
    → x.reply ≡ reply_after c.common h x.request → Exchanges (fetched_text c.common.initial h c.common.history) s x t
    → RunsTo c (replicate x.steps (Hart h) ++ Hart h ∷ []) (record { harts = slice_set c.harts h t; common = shared_after c.common h x.request })
exchange_runs c h s t x there told e =
    let first = alone_runs c h x.steps s e.at there e.alone in
    let inside = slice_get_within c.harts h s there in
    let now : Config = with_hart c h e.at in
    let end : Config = after_request now h e.at e.instr x.request in
    let step : StepsTo now (Hart h) end =
    hart_steps now end h e.at (got_set c.harts h e.at inside) e.asks.running (Ask x.request, e.asks.needs, (e.instr, e.spelled, refl)) in
    let joined = run_joined c now end (replicate x.steps (Hart h)) (Hart h ∷ []) first (end, step, refl) in
    rw (e.answered, told) (rw (set_set c.harts h e.at) at joined)

-- what the replies of a replay are
pub told_here : (program : Sections) (lines : List (List ℕ)) (before : List Entry) (h : ℕ) (request : Request) (reply : Reply)
    → (replay program lines (Asked h request reply ∷ before)).history ≡ Asked h request reply ∷ before
    → (reply ≡ reply_after (replay program lines before) h request) × ((replay program lines before).history ≡ before)
unfolding replay
told_here program lines before h request reply told =
    let c : SharedState = replay program lines before in
    let all : Asked h request (reply_after c h request) ∷ c.history ≡ Asked h request reply ∷ before = told in (cc, cc)

pub evicted_here : (program : Sections) (lines : List (List ℕ)) (before : List Entry) (line : ℕ)
    → (replay program lines (Evicted line ∷ before)).history ≡ Evicted line ∷ before
    → (replay program lines before).history ≡ before
unfolding replay
evicted_here program lines before line told =
    let c : SharedState = replay program lines before in
    let all : Evicted line ∷ c.history ≡ Evicted line ∷ before = told in cc

pub asked_here : (program : Sections) (lines : List (List ℕ)) (before : List Entry) (h : ℕ) (request : Request) (reply : Reply)
    → replay program lines (Asked h request reply ∷ before) ≡ shared_after (replay program lines before) h request
unfolding replay
asked_here program lines before h request reply = refl

pub eviction_here : (program : Sections) (lines : List (List ℕ)) (before : List Entry) (line : ℕ)
    → replay program lines (Evicted line ∷ before) ≡ with_eviction (replay program lines before) line
unfolding replay
eviction_here program lines before line = refl

pub initial_of : (program : Sections) (lines : List (List ℕ)) (history : List Entry)
    → (replay program lines history).initial ≡ (replay program lines []).initial
unfolding replay
initial_of program lines [] = refl
initial_of program lines (Asked h request reply ∷ before) = initial_of program lines before
initial_of program lines (Evicted line ∷ before) = initial_of program lines before

-- where nothing was asked
start_parts : (program : Sections) (lines : List (List ℕ)) (initial : Memory) (harts : ℕ) (lists : List (List Exchange)) (states : List HartState)
    → AreParts initial harts [] lists states → record { harts = states; common = replay program lines [] } ≡ started program lines harts
unfolding replay
start_parts program lines initial harts lists states parts =
    let each : states ≡ map start (range_with_len 0 (length states)) =
    all_from start 0 states (λ i s got. (parts.part i s got).1 ∙ ap start (omega arith)) in
    let states_are : states ≡ map start (range_with_len 0 harts) = each ∙ ap (λ (n : ℕ). map start (range_with_len 0 n)) parts.states_of in
    rw states_are refl

-- the newest exchange of hart h, in its list
pub record Newest (initial : Memory) (h : ℕ) (before : List Entry) (request : Request) (reply : Reply) (list : List Exchange) (t : HartState) : Type 0 where
  pub first : Exchange
  pub from : HartState
  pub list_is : list ≡ first ∷ earlier list
  pub asks : first.request ≡ request
  pub told : first.reply ≡ reply
  pub part : IsPart initial h before (earlier list) from
  pub exchanges : Exchanges (fetched_text initial h before) from first t

newest_is : (initial : Memory) (h : ℕ) (before : List Entry) (request : Request) (reply : Reply) (list : List Exchange) (t : HartState)
    → LastIs (fetched_text initial h before) request reply (IsPart initial h before) list t → Newest initial h before request reply list t
newest_is initial h before request reply [] t last = absurd last
newest_is initial h before request reply (x ∷ xs) t last = record {
  first = x;
  from = last.2.0;
  list_is = refl;
  asks = last.0;
  told = last.1;
  part = last.2.1;
  exchanges = last.2.2;
}

pub newest : (initial : Memory) (h : ℕ) (before : List Entry) (request : Request) (reply : Reply) (list : List Exchange) (t : HartState)
    → IsPart initial h (Asked h request reply ∷ before) list t → Newest initial h before request reply list t
newest initial h before request reply list t part = newest_is initial h before request reply list t (rw (eq-eqb h h refl) at part)

-- the parts of the history before a request of hart h
parts_before : (initial : Memory) (harts h : ℕ) (before : List Entry) (request : Request) (reply : Reply) (lists : List (List Exchange))
    (states : List HartState) (from : HartState) → h < harts → AreParts initial harts (Asked h request reply ∷ before) lists states
    → IsPart initial h before (earlier (slice_index_or lists h [])) from
    → AreParts initial harts before (slice_set lists h (earlier (slice_index_or lists h []))) (slice_set states h from)
parts_before initial harts h before request reply lists states from inside parts own =
    let in_lists : h < length lists = rw parts.lists_of inside in
    let in_states : h < length states = rw parts.states_of inside in
    record {
      lists_of = length-set lists h _ ∙ parts.lists_of;
      states_of = length-set states h from ∙ parts.states_of;
      part = λ k s got. elim (cases_eq k h) [
        | inl here ↦
            let same : Some from ≡ Some s = sym (got_set states h from in_states) ∙ ap (λ (i : ℕ). slice_get (slice_set states h from) i) (sym here) ∙ got in
            let is : from ≡ s = cc in
            rw (here, read_set lists h (earlier (slice_index_or lists h [])) [] in_lists, ← is) own
        | inr apart ↦
            let differs : eqb h k ≡ false = ne_eqb h k (λ e. apart (sym e)) in
            let was = parts.part k s (sym (got_else states h k from apart) ∙ got) in
            rw (read_else lists h k (earlier (slice_index_or lists h [])) [] apart) (rw differs at was)
      ];
    }

-- the run up to the newest request, and the exchange that it is
pub record Latest (program : Sections) (lines : List (List ℕ)) (initial : Memory) (harts : ℕ) (before : List Entry) (h : ℕ) (request : Request)
    (reply : Reply) (lists : List (List Exchange)) (states : List HartState) : Type 0 where
  pub first : Exchange
  pub from : HartState
  pub after : HartState
  pub froms : List HartState
  pub steps : steps_to (slice_index_or lists h []) ≡ first.steps
  pub asks : first.request ≡ request
  pub told : first.reply ≡ reply_after (replay program lines before) h first.request
  pub reply_is : reply ≡ reply_after (replay program lines before) h request
  pub told_before : (replay program lines before).history ≡ before
  pub parts : AreParts initial harts before (slice_set lists h (earlier (slice_index_or lists h []))) froms
  pub there : slice_get froms h ≡ Some from
  pub exchanges : Exchanges (fetched_text (replay program lines before).initial h (replay program lines before).history) from first after
  pub back : slice_set froms h after ≡ states

pub latest : (program : Sections) (lines : List (List ℕ)) (initial : Memory) (harts : ℕ) (before : List Entry) (h : ℕ) (request : Request)
    (reply : Reply) (lists : List (List Exchange)) (states : List HartState) → initial ≡ (replay program lines []).initial
    → (replay program lines (Asked h request reply ∷ before)).history ≡ Asked h request reply ∷ before → h < harts
    → AreParts initial harts (Asked h request reply ∷ before) lists states
    → Latest program lines initial harts before h request reply lists states
latest program lines initial harts before h request reply lists states first told inside parts =
    let told_both = told_here program lines before h request reply told in
    let in_states : h < length states = rw parts.states_of inside in
    let t : HartState = slice_index_or states h (start h) in
    let got : slice_get states h ≡ Some t = get_of states h (start h) in_states in
    let list : List Exchange = slice_index_or lists h [] in
    let last = newest initial h before request reply list t (parts.part h t got) in
    let x : Exchange = last.first in
    let common : SharedState = replay program lines before in
    let text : fetched_text initial h before ≡ fetched_text common.initial h common.history = rw (initial_of program lines before, ← first, told_both.1) refl in
    record {
      first = x;
      from = last.from;
      after = t;
      froms = slice_set states h last.from;
      steps = ap steps_to last.list_is;
      asks = last.asks;
      told = last.told ∙ told_both.0 ∙ ap (λ (r : Request). reply_after common h r) (sym last.asks);
      reply_is = told_both.0;
      told_before = told_both.1;
      parts = parts_before initial harts h before request reply lists states last.from inside parts last.part;
      there = got_set states h last.from in_states;
      exchanges = rw text at last.exchanges;
      back = set_set states h last.from t ∙ set_got states h t got;
    }

-- the theorem
pub gathered_runs : (program : Sections) (lines : List (List ℕ)) (initial : Memory) (harts : ℕ) (history : List Entry) (lists : List (List Exchange))
    (states : List HartState) → initial ≡ (replay program lines []).initial → (replay program lines history).history ≡ history → AreBelow harts history
    → AreParts initial harts history lists states
    → RunsTo (started program lines harts) (gathered history lists) (record { harts = states; common = replay program lines history })
unfolding gathered
gathered_runs program lines initial harts [] lists states first told below parts = start_parts program lines initial harts lists states parts
gathered_runs program lines initial harts (Evicted line ∷ before) lists states first told below parts =
    let earlier_told = evicted_here program lines before line told in
    let was : AreParts initial harts before lists states = record { lists_of = parts.lists_of; states_of = parts.states_of; part = parts.part } in
    let runs = gathered_runs program lines initial harts before lists states first earlier_told below was in
    let middle : Config = record { harts = states; common = replay program lines before } in
    let end : Config = record { harts = states; common = with_eviction (replay program lines before) line } in
    rw (eviction_here program lines before line)
    (run_joined (started program lines harts) middle end (gathered before lists) (Evict line ∷ []) runs (end, refl, refl))
gathered_runs program lines initial harts (Asked h request reply ∷ before) lists states first told below parts =
    let last = latest program lines initial harts before h request reply lists states first told below.0 parts in
    let others : List (List Exchange) = slice_set lists h (earlier (slice_index_or lists h [])) in
    let common : SharedState = replay program lines before in
    let middle : Config = record { harts = last.froms; common = common } in
    let runs = gathered_runs program lines initial harts before others last.froms first last.told_before below.1 last.parts in
    let made = exchange_runs middle h last.from last.after last.first last.there last.told last.exchanges in
    rw (asked_here program lines before h request reply, last.steps)
    (run_joined (started program lines harts) middle (record { harts = states; common = shared_after common h request }) (gathered before others)
    (replicate last.first.steps (Hart h) ++ Hart h ∷ []) runs (rw (last.back, last.asks) at made))
