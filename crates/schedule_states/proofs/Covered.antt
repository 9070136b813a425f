-- Whatever a schedule leads to is behind what a state stands for.
use Rattle.std.proofs.Common.{◌≡◌, ◌⊎◌, inl, inr, ℕ, suc, ◌+◌, ◌++◌, ◌<◌, ◌≤◌, List, [], ◌∷◌, nat_le, Option, Some, None, length, slice_get, refl, sym, ap, ◌∙◌, subst, arith}
use Rattle.std.proofs.lemmas.Bool.{cases_Bool}
use Rattle.std.proofs.lemmas.Bool.Decides.{nat_tests}
use Rattle.std.proofs.lemmas.Option.{slice_get_within}
use Rattle.hart.specs.Needs.{Needs}
use Rattle.hart.specs.declared.need.Need.{Need}
use Rattle.hart.specs.declared.need.Need.TheVariants.{Local, Ask, Stop}
use Rattle.hart.specs.declared.need.Request.{Request}
use Rattle.hart.specs.declared.state.HartState.{HartState}
use Rattle.hart.specs.declared.state.Status.{Status}
use Rattle.hart.specs.declared.state.Status.TheVariants.{Running, Exited, Trapped}
use Rattle.line_memory.specs.declared.TheConstants.{PERSISTENT_BASE}
use Rattle.machine.proofs.RunParts.{run_joined}
use Rattle.machine.specs.Replies.{events_of, line_of, memory_in, offset_of, trace_in}
use Rattle.machine.specs.Run.{Config, HartSteps, HartStepsIfThere, Meets, RunsTo, StepsTo, fetched, started}
use Rattle.machine.specs.declared.schedule.items.Step.{Step}
use Rattle.machine.specs.declared.schedule.items.Step.TheVariants.{Hart, Evict}
use Rattle.program.specs.Sections.{Sections}
use Rattle.store_trace.specs.Cut.{IsWithin}
use Rattle.store_trace.specs.History.{history}
use Rattle.store_trace.specs.Image.{image, line_after, lines_after}
use Rattle.store_trace.specs.declared.event.Event.{Event}
use Rattle.store_trace.specs.declared.crash_model.step.PersistenceStep.{PersistenceStep}
use Rattle.store_trace.specs.declared.crash_model.step.PersistenceStep.TheVariants as step
use Rattle.schedule_states.proofs.Behind.{AreFit, Follows, HasSameReply, MovesAlike, alike_back, alike_behind, alike_itself, alike_moves, behind_by, behind_fits, behind_step, behind_stopped, move_steps}
use Rattle.schedule_states.proofs.Commuting.{Effect, HasEffect, cleans, local_effect, none, stores, with_effect}
use Rattle.schedule_states.proofs.Covering.{ended_well}
use Rattle.schedule_states.proofs.Going.{KeepsUnmarked, kept_own}
use Rattle.schedule_states.proofs.Ending.{always_ends}
use Rattle.schedule_states.proofs.Judging.{all_good, content_left, same_lines, view_of}
use Rattle.schedule_states.proofs.Seen.{seen_shared}
use Rattle.schedule_states.proofs.Standing.{stands_alone}
use Rattle.schedule_states.specs.Behind.{AreAlike, GoesOwn, IsBehind, IsFitMove, Moves}
use Rattle.schedule_states.specs.Claims.{claim_in}
use Rattle.schedule_states.specs.Covering.{Covers, IsClosed, IsCovered, IsTaken, ReachedView}
use Rattle.schedule_states.specs.Ending.{AlwaysEnds, AnyMayGo, CanEnd, HaveStopped}
use Rattle.schedule_states.specs.Exploring.{MayReduce}
use Rattle.schedule_states.specs.Happening.{full_image}
use Rattle.schedule_states.specs.Images.{content_of, highest_in, image_in, line_in}
use Rattle.schedule_states.specs.Judging.{AlwaysGood, AreGoodBelow, AreGoodImages, HaveEndedWell, IgnoresFull, LeavesGood}
use Rattle.schedule_states.specs.Memories.{IsMemoryOf, MemoryView}
use Rattle.line_memory.specs.Lines.{line_at}
use Rattle.line_memory.specs.Memory.{Memory}
use Rattle.schedule_states.specs.Persisting.{Persisted, persisted, with_step}
use Rattle.schedule_states.specs.Seen.{Seen, reply_seen, seen}
use Rattle.schedule_states.specs.States.{AsksTo, StandsFor, text_for}
use Rattle.schedule_states.specs.Turns.{MayClaim}
use Rattle.schedule_states.specs.WaysOut.{EachCanEnd}
use Rattle.schedule_states.specs.declared.claims.ClaimedLine.{ClaimedLine}
use Rattle.schedule_states.specs.declared.claims.Claim.{Claim}
use Rattle.schedule_states.specs.declared.held_lines.HeldLine.{HeldLine}
use Rattle.schedule_states.specs.declared.program_state.StateNumbers.{StateNumbers}

-- a step of a schedule is a hart's, or leads to what is alike
record IsStep (c d : Config) (step : Step) : Type 0 where
  pub hart : ℕ
  pub request : Option Request
  pub moves : Moves c hart request d
  pub is : step ≡ Hart hart

abbrev IsKind : Config → Config → Step → Type 0
IsKind c d step = (AreAlike c d × (trace_in d.common ≡ trace_in c.common)) ⊎ IsStep c d step

still_kind : (c d : Config) (step : Step) → d ≡ c → IsKind c d step
still_kind c d step same = subst (λ (e : Config). IsKind c e step) (sym same) (inl (alike_itself c, refl))

needs_kind : (c d : Config) (h : ℕ) (own : HartState) (need : Need) → slice_get c.harts h ≡ Some own → own.status ≡ Running → Needs own (fetched (text_for c.common h) own.pc) need →
    Meets c h own (fetched (text_for c.common h) own.pc) need d → IsKind c d (Hart h)
needs_kind c d h own (Local after) here running needs meets = inr (record {
  hart = h;
  request = None;
  moves = record { own = own; next = after; here = here; step = record { need = Local after; running = running; needs = needs; leaves = refl }; is = meets };
  is = refl;
})
needs_kind c d h own (Stop trap) here running needs meets = inr (record {
  hart = h;
  request = None;
  moves = record {
    own = own;
    next = record own { status = Trapped trap };
    here = here;
    step = record { need = Stop trap; running = running; needs = needs; leaves = refl };
    is = meets;
  };
  is = refl;
})
needs_kind c d h own (Ask request) here running needs meets = inr (record {
  hart = h;
  request = Some request;
  moves = record { own = own; instr = meets.0; here = here; asks = record { running = running; needs = needs }; spelled = meets.1; is = meets.2 };
  is = refl;
})

status_kind : (c d : Config) (h : ℕ) (own : HartState) (status : Status) → slice_get c.harts h ≡ Some own → own.status ≡ status → HartSteps c h own status d → IsKind c d (Hart h)
status_kind c d h own Running here is steps = needs_kind c d h own steps.0 here is steps.1 steps.2
status_kind c d h own (Exited code) here is steps = still_kind c d (Hart h) steps
status_kind c d h own (Trapped trap) here is steps = still_kind c d (Hart h) steps

there_kind : (c d : Config) (h : ℕ) (there : Option HartState) → slice_get c.harts h ≡ there → HartStepsIfThere c h there d → IsKind c d (Hart h)
there_kind c d h None here steps = absurd steps
there_kind c d h (Some own) here steps = status_kind c d h own own.status here refl steps

evicted_kind : (c d : Config) (line : ℕ) → StepsTo c (Evict line) d → IsKind c d (Evict line)
evicted_kind c d line steps = rw steps (inl (record { harts = refl; seen = refl }, refl))

kind_of : (c d : Config) (step : Step) → StepsTo c step d → IsKind c d step
kind_of c d (Hart h) steps = there_kind c d h (slice_get c.harts h) refl steps
kind_of c d (Evict line) steps = evicted_kind c d line steps

-- a request of a hart
asks_of : (c d : Config) (h : ℕ) (request : Request) → Moves c h (Some request) d → AsksTo c h d
asks_of c d h request move = record { own = move.own; instr = move.instr; request = request; here = move.here; asks = move.asks; spelled = move.spelled; is = move.is }

-- whatever a hart asks next in what a state stands for
taken_by : {T : Type 0} (stands : T → List Event → Type 0) (allows : List Event → ℕ → Type 0) (ends : Status → Type 0) (r : ReachedView T) (c e : Config) (h : ℕ) (request : Request) →
    AnyMayGo allows → IsClosed stands allows ends r → (covered : IsCovered stands r c) → Moves covered.ahead h (Some request) e → (n : ℕ) × IsTaken stands r covered.standing h n covered.ahead e request
unfolding asks_of
taken_by stands allows ends r c e h request free closed covered move =
    let there : h < length covered.ahead.harts = slice_get_within covered.ahead.harts h move.own move.here in
    let few : h < r.harts = subst (λ (n : ℕ). h < n) (sym covered.stands_as.0.count ∙ covered.met.count) there in
    (closed covered.number (slice_get_within r.states covered.number covered.met.numbers covered.met.found)).covered h covered.state covered.standing covered.ahead e
    covered.met few covered.stands_as (free (trace_in covered.ahead.common) h) (asks_of covered.ahead e h request move)

are_fit : {T : Type 0} (stands : T → List Event → Type 0) (allows : List Event → ℕ → Type 0) (ends : Status → Type 0) (r : ReachedView T) (c : Config) (h : ℕ) →
    AnyMayGo allows → IsClosed stands allows ends r → (covered : IsCovered stands r c) → AreFit (claim_in r.parts.claims) covered.ahead h
are_fit stands allows ends r c h free closed covered None e move = tt
are_fit stands allows ends r c h free closed covered (Some request) e move = (taken_by stands allows ends r c e h request free closed covered move).1.fits

-- what is covered stays so
still_covered : {T : Type 0} (stands : T → List Event → Type 0) (r : ReachedView T) (c d : Config) (harts : List ℕ) (covered : IsCovered stands r c) →
    IsBehind (claim_in r.parts.claims) harts d covered.ahead → stands covered.standing (trace_in d.common) → IsCovered stands r d
still_covered stands r c d harts covered behind kept = record {
  state = covered.state;
  standing = covered.standing;
  number = covered.number;
  met = covered.met;
  ahead = covered.ahead;
  stands_as = covered.stands_as;
  harts = harts;
  behind = behind;
  kept = kept;
}

covered_along : {T : Type 0} (stands : T → List Event → Type 0) (allows : List Event → ℕ → Type 0) (ends : Status → Type 0) (r : ReachedView T) (c d e : Config) (h : ℕ) (request : Option Request)
    (harts : List ℕ) → AnyMayGo allows → IsClosed stands allows ends r → (covered : IsCovered stands r c) → Moves c h request d → Moves covered.ahead h request e →
    IsBehind (claim_in r.parts.claims) harts d e → HasSameReply c covered.ahead h request → IsCovered stands r d
covered_along stands allows ends r c d e h None harts free closed covered move on behind same = record {
  state = covered.state;
  standing = covered.standing;
  number = covered.number;
  met = covered.met;
  ahead = e;
  stands_as = (
    subst (λ (x : Config). StandsFor r.parts covered.state x) (sym on.is) (stands_alone r.parts covered.state covered.ahead h on.own on.next covered.stands_as.0 on.here on.step),
    subst (λ (x : Config). stands covered.standing (trace_in x.common)) (sym on.is) covered.stands_as.1,
  );
  harts = harts;
  behind = behind;
  kept = subst (λ (x : Config). stands covered.standing (trace_in x.common)) (sym move.is) covered.kept;
}
covered_along stands allows ends r c d e h (Some q) harts free closed covered move on behind same =
    let taken : (n : ℕ) × IsTaken stands r covered.standing h n covered.ahead e q = taken_by stands allows ends r c e h q free closed covered on in
    let at : Covers stands r taken.1.end = taken.1.at.0 in
    let more : (harts : List ℕ) × IsBehind (claim_in r.parts.claims) harts d taken.1.end =
    behind_by (claim_in r.parts.claims) harts d e taken.1.end h taken.1.steps behind taken.1.goes in record {
      state = at.state;
      standing = at.standing;
      number = at.number;
      met = at.met;
      ahead = taken.1.end;
      stands_as = at.stands_as;
      harts = more.0;
      behind = more.1;
      kept = subst (λ (x : Config). stands at.standing (trace_in x.common)) (sym move.is)
          (subst (λ (reply : _). stands at.standing (trace_in c.common ++ events_of h q reply)) same (taken.1.kept (trace_in c.common) covered.kept));
    }

covered_follows : {T : Type 0} (stands : T → List Event → Type 0) (allows : List Event → ℕ → Type 0) (ends : Status → Type 0) (r : ReachedView T) (c d : Config) (h : ℕ) (request : Option Request) →
    KeepsUnmarked stands → AnyMayGo allows → IsClosed stands allows ends r → (covered : IsCovered stands r c) → Moves c h request d →
    Follows (claim_in r.parts.claims) c covered.ahead d h request → IsCovered stands r d
covered_follows stands allows ends r c d h request keeps free closed covered move (Follows.still harts behind own) =
    still_covered stands r c d harts covered behind (kept_own stands (claim_in r.parts.claims) covered.standing h c d keeps (request, move, own) covered.kept)
covered_follows stands allows ends r c d h request keeps free closed covered move (Follows.along harts e on behind same) =
    covered_along stands allows ends r c d e h request harts free closed covered move on behind same

covered_step : {T : Type 0} (stands : T → List Event → Type 0) (allows : List Event → ℕ → Type 0) (ends : Status → Type 0) (r : ReachedView T) (c d : Config) (step : Step) →
    KeepsUnmarked stands → AnyMayGo allows → IsClosed stands allows ends r → IsCovered stands r c → StepsTo c step d → IsCovered stands r d
covered_step stands allows ends r c d step keeps free closed covered steps = elim (kind_of c d step steps) [
  | inl alike ↦ still_covered stands r c d covered.harts covered (alike_behind (claim_in r.parts.claims) covered.harts c d covered.ahead alike.0 covered.behind)
      (subst (λ (es : List Event). stands covered.standing es) (sym alike.1) covered.kept)
  | inr move ↦
      let fit : IsFitMove (claim_in r.parts.claims) move.hart move.request = behind_fits (claim_in r.parts.claims) covered.harts c covered.ahead d move.hart move.request covered.behind
      (are_fit stands allows ends r c move.hart free closed covered) move.moves in
      covered_follows stands allows ends r c d move.hart move.request keeps free closed covered move.moves
      (behind_step (claim_in r.parts.claims) covered.harts c covered.ahead d move.hart move.request covered.behind move.moves fit)
]

pub covered_run : {T : Type 0} (stands : T → List Event → Type 0) (allows : List Event → ℕ → Type 0) (ends : Status → Type 0) (r : ReachedView T) (c d : Config) (steps : List Step) →
    KeepsUnmarked stands → AnyMayGo allows → IsClosed stands allows ends r → IsCovered stands r c → RunsTo c steps d → IsCovered stands r d
covered_run stands allows ends r c d [] keeps free closed covered runs = subst (λ (e : Config). IsCovered stands r e) (sym runs) covered
covered_run stands allows ends r c d (step ∷ steps) keeps free closed covered runs =
    covered_run stands allows ends r runs.0 d steps keeps free closed (covered_step stands allows ends r c runs.0 step keeps free closed covered runs.1) runs.2

pub covered_start : {T : Type 0} (stands : T → List Event → Type 0) (r : ReachedView T) (c : Config) → Covers stands r c → IsCovered stands r c
covered_start stands r c covers = record {
  state = covers.state;
  standing = covers.standing;
  number = covers.number;
  met = covers.met;
  ahead = c;
  stands_as = covers.stands_as;
  harts = [];
  behind = alike_itself c;
  kept = covers.stands_as.1;
}

-- A power cut leaves of a line what it may leave of it further on, where no fence was made: floors are the same, and stores no fewer.
record IsBelow (v w : Persisted) : Type 0 where
  pub floor : (l : ℕ) → w.floor l ≡ v.floor l
  pub stores : (l : ℕ) → v.stores l ≤ w.stores l
  pub line : (start : List ℕ) (l k : ℕ) → k ≤ v.stores l → w.line start l k ≡ v.line start l k

below_itself : (v : Persisted) → IsBelow v v
below_itself v = record { floor = λ l. refl; stores = λ l. omega arith; line = λ start l k few. refl }

below_then : (u v w : Persisted) → IsBelow u v → IsBelow v w → IsBelow u w
below_then u v w one two = record {
  floor = λ l. two.floor l ∙ one.floor l;
  stores = λ l. omega (arith, one.stores l, two.stores l);
  line = λ start l k few. two.line start l k (omega (arith, few, one.stores l)) ∙ one.line start l k few;
}

below_store : (v : Persisted) (m o w x : ℕ) → IsBelow v (with_step v (step.Store m o w x))
below_store v m o w x = record {
  floor = λ l. refl;
  stores = λ l. grind (arith, nat_tests);
  line = λ start l k few. grind (arith, nat_tests, few);
}

below_clean : (v : Persisted) (g m : ℕ) → IsBelow v (with_step v (step.Clean g m))
below_clean v g m = record { floor = λ l. refl; stores = λ l. omega arith; line = λ start l k few. refl }

below_effect : (h : ℕ) (e : Effect) (v : Seen) → IsBelow v.persisted (with_effect h e v).persisted
below_effect h none v = below_itself v.persisted
below_effect h (stores a w x) v = elim (cases_Bool (nat_le PERSISTENT_BASE a)) [
  | inl high ↦ rw high (below_store v.persisted (line_of a) (offset_of a) w x)
  | inr not_high ↦ rw not_high (below_itself v.persisted)
]
below_effect h (cleans a) v = elim (cases_Bool (nat_le PERSISTENT_BASE a)) [
  | inl high ↦ rw high (below_clean v.persisted h (line_of a))
  | inr not_high ↦ rw not_high (below_itself v.persisted)
]

below_own : (claims : ℕ → Option Claim) (c d : Config) (h : ℕ) → GoesOwn claims c h d → IsBelow (seen c.common).persisted (seen d.common).persisted
below_own claims c d h (None, move, own) = subst (λ (e : Config). IsBelow (seen c.common).persisted (seen e.common).persisted) (sym move.is) (below_itself (seen c.common).persisted)
below_own claims c d h (Some r, move, own) =
    let has : HasEffect claims h r (reply_seen (seen c.common) h r) = local_effect claims h (seen c.common).memory ((seen c.common).reserved h) r own.0 own.1 in
    let after : seen d.common ≡ with_effect h has.effect (seen c.common) = ap (λ (e : Config). seen e.common) move.is ∙ seen_shared c.common h r ∙ has.is (seen c.common) in
    subst (λ (v : Seen). IsBelow (seen c.common).persisted v.persisted) (sym after) (below_effect h has.effect (seen c.common))

below_behind : (claims : ℕ → Option Claim) (harts : List ℕ) (c d : Config) → IsBehind claims harts c d → IsBelow (persisted (history (trace_in c.common))) (persisted (history (trace_in d.common)))
below_behind claims [] c d behind = subst (λ (v : Seen). IsBelow (seen c.common).persisted v.persisted) (sym behind.seen) (below_itself (seen c.common).persisted)
below_behind claims (h ∷ harts) c d behind = below_then (seen c.common).persisted (seen behind.0.common).persisted (seen d.common).persisted (below_own claims c behind.0 h behind.1)
    (below_behind claims harts behind.0 d behind.2)

within_below : (p q : List PersistenceStep) (k : ℕ → ℕ) → IsBelow (persisted p) (persisted q) → IsWithin p k → IsWithin q k
within_below p q k below bounds = record {
  low = λ l. subst (λ (n : ℕ). n ≤ k l) (sym (below.floor l)) (bounds.low l);
  high = λ l. omega (arith, bounds.high l, below.stores l);
}

image_below : (p q : List PersistenceStep) (k : ℕ → ℕ) (i : ℕ) (lines : List (List ℕ)) → IsBelow (persisted p) (persisted q) → IsWithin p k → lines_after i lines k q ≡ lines_after i lines k p
image_below p q k i [] below bounds = refl
image_below p q k i (line ∷ lines) below bounds =
    ap (λ (x : List ℕ). x ∷ lines_after (suc i) lines k q) (below.line line i (k i) (bounds.high i))
    ∙ ap (λ (xs : List (List ℕ)). line_after line i (k i) p ∷ xs) (image_below p q k (suc i) lines below bounds)

-- what a power cut leaves behind some events is good where each image of a memory is that stands further on
left_good : {T : Type 0} (stands : T → List Event → Type 0) (good : List Event → List (List ℕ) → List (List ℕ) → Type 0) (m : MemoryView) (memory : Memory) (t : T) (es on : List Event) →
    IgnoresFull good → IsMemoryOf m.start m.states m.held memory (history on) → IsBelow (persisted (history es)) (persisted (history on)) → AreGoodImages stands good m t → stands t es →
    LeavesGood good m.start.medium es
left_good stands good m memory t es on ignores of below are kept k bounds =
    let within : IsWithin (history on) k = within_below (history es) (history on) k below bounds in
    let choice : (l : ℕ) → (n : ℕ) × (n ≤ highest_in m l)
    × (l < length m.start.medium → line_after (line_at m.start.medium l) l (k l) (history on) ≡ content_of (line_at m.start.medium l) (line_in m l) n) =
    content_left m memory (history on) k of within in
    let same : image m.start.medium k (history on) ≡ image_in m (λ l. (choice l).0) =
    same_lines m k (λ l. (choice l).0) (history on) 0 m.start.medium (λ l there.
    let same : 0 + l ≡ l = omega arith in
    rw same ((choice l).2 there)) in
    let left : image m.start.medium k (history on) ≡ image m.start.medium k (history es) = image_below (history es) (history on) k 0 m.start.medium below bounds in
    ignores es (image_in m (λ l. 0)) (full_image m.start.medium es) (image m.start.medium k (history es))
    (subst (λ (x : List (List ℕ)). good es (image_in m (λ l. 0)) x) (sym same ∙ left) (are es (λ l. (choice l).0) kept (λ l. (choice l).1)))

-- harts have stopped as they may where those have that they are behind of
ended_behind : (ends : Status → Type 0) (claims : ℕ → Option Claim) (harts : List ℕ) (c d : Config) → IsBehind claims harts c d → HaveEndedWell ends d.harts → HaveEndedWell ends c.harts
ended_behind ends claims harts c d behind well h own here stopped = well h own (behind_stopped claims harts c d h own behind here stopped) stopped

-- whatever a schedule leads to is good
pub all_good_by_claims : {T : Type 0} (stands : T → List Event → Type 0) (allows : List Event → ℕ → Type 0) (good : List Event → List (List ℕ) → List (List ℕ) → Type 0) (ends : Status → Type 0)
    (r : ReachedView T) (program : Sections) (medium : List (List ℕ)) (harts : ℕ) → KeepsUnmarked stands → AnyMayGo allows → IgnoresFull good → r.parts.table.start.medium ≡ medium →
    Covers stands r (started program medium harts) → IsClosed stands allows ends r → AreGoodBelow stands good r (length r.states) → AlwaysGood stands allows good ends program medium harts
all_good_by_claims stands allows good ends r program medium harts keeps free ignores same start closed are steps end runs turns =
    let covered : IsCovered stands r end =
    covered_run stands allows ends r (started program medium harts) end steps keeps free closed (covered_start stands r (started program medium harts) start) runs in
    let numbers : StateNumbers = covered.met.numbers in
    let within : covered.number < length r.states = slice_get_within r.states covered.number numbers covered.met.found in
    let held : List HeldLine = covered.stands_as.0.held in
    let found : slice_get r.parts.lists numbers.memory ≡ Some held = ap (λ (n : ℕ). slice_get r.parts.lists n) (sym covered.met.memory) ∙ covered.stands_as.0.found in
    let images : AreGoodImages stands good (view_of r.parts held) covered.standing =
    are covered.number within numbers covered.met.found held covered.standing found covered.met.standing in (
      (covered.standing, covered.kept),
      subst (λ (lines : List (List ℕ)). LeavesGood good lines (trace_in end.common)) same
          (left_good stands good (view_of r.parts held) (memory_in covered.ahead.common) covered.standing (trace_in end.common) (trace_in covered.ahead.common) ignores
          covered.stands_as.0.memory (below_behind (claim_in r.parts.claims) covered.harts end covered.ahead covered.behind) images covered.kept),
      ended_behind ends (claim_in r.parts.claims) covered.harts end covered.ahead covered.behind
          (ended_well ends r.parts covered.state covered.ahead covered.stands_as.0 ((closed covered.number within).ended covered.state covered.standing covered.met)),
    )

-- where what a configuration is behind of comes to an end it does too
behind_runs : (claims : ℕ → Option Claim) (harts : List ℕ) (c d : Config) → IsBehind claims harts c d → (steps : List Step) × ((e : Config) × RunsTo c steps e × AreAlike e d)
behind_runs claims [] c d behind = ([], (c, refl, behind))
behind_runs claims (h ∷ harts) c d behind =
    let on : (steps : List Step) × ((e : Config) × RunsTo behind.0 steps e × AreAlike e d) = behind_runs claims harts behind.0 d behind.2 in
    (Hart h ∷ on.0, (on.1.0, (behind.0, move_steps c behind.0 h behind.1.0 behind.1.1, on.1.1), on.1.2))

alike_runs_step : (c d e : Config) (step : Step) → AreAlike c d → IsKind c e step → (steps : List Step) × ((f : Config) × RunsTo d steps f × AreAlike e f)
alike_runs_step c d e step alike (inl same) = ([], (d, refl, record { harts = alike.harts ∙ sym same.0.harts; seen = alike.seen ∙ sym same.0.seen }))
alike_runs_step c d e step alike (inr move) =
    let on : MovesAlike d move.hart move.request e = alike_moves c d e move.hart move.request alike move.moves in
    (Hart move.hart ∷ [], (on.0, (on.0, move_steps d on.0 move.hart move.request on.1, refl), on.2))

alike_runs : (c d e : Config) (steps : List Step) → AreAlike c d → RunsTo c steps e → (others : List Step) × ((f : Config) × RunsTo d others f × AreAlike e f)
alike_runs c d e [] alike runs = ([], (d, refl, subst (λ (x : Config). AreAlike x d) (sym runs) alike))
alike_runs c d e (step ∷ steps) alike runs =
    let first : (others : List Step) × ((f : Config) × RunsTo d others f × AreAlike runs.0 f) = alike_runs_step c d runs.0 step alike (kind_of c runs.0 step runs.1) in
    let rest : (others : List Step) × ((f : Config) × RunsTo first.1.0 others f × AreAlike e f) = alike_runs runs.0 first.1.0 e steps first.1.2 runs.2 in
    (first.0 ++ rest.0, (rest.1.0, run_joined d first.1.0 rest.1.0 first.0 rest.0 first.1.1 rest.1.1, rest.1.2))

end_behind : (claims : ℕ → Option Claim) (harts : List ℕ) (c d : Config) → IsBehind claims harts c d → CanEnd d → CanEnd c
end_behind claims harts c d behind ends =
    let to : (steps : List Step) × ((e : Config) × RunsTo c steps e × AreAlike e d) = behind_runs claims harts c d behind in
    let on : (others : List Step) × ((f : Config) × RunsTo to.1.0 others f × AreAlike ends.end f) = alike_runs d to.1.0 ends.end ends.steps (alike_back to.1.0 d to.1.2) ends.runs in record {
      steps = to.0 ++ on.0;
      end = on.1.0;
      runs = run_joined c to.1.0 on.1.0 to.0 on.0 to.1.1 on.1.1;
      stopped = subst (λ (all : List HartState). HaveStopped all) (sym on.1.2.harts) ends.stopped;
    }

pub always_ends_by_claims : {T : Type 0} (stands : T → List Event → Type 0) (allows : List Event → ℕ → Type 0) (ends : Status → Type 0) (r : ReachedView T) (program : Sections)
    (medium : List (List ℕ)) (harts : ℕ) → KeepsUnmarked stands → IsClosed stands allows ends r → Covers stands r (started program medium harts) → AnyMayGo allows →
    ((c : Config) → Covers stands r c → CanEnd c) → AlwaysEnds program medium harts
always_ends_by_claims stands allows ends r program medium harts keeps closed start free each steps c runs =
    let covered : IsCovered stands r c =
    covered_run stands allows ends r (started program medium harts) c steps keeps free closed (covered_start stands r (started program medium harts) start) runs in
    end_behind (claim_in r.parts.claims) covered.harts c covered.ahead covered.behind
    (each covered.ahead (record { state = covered.state; standing = covered.standing; number = covered.number; met = covered.met; stands_as = covered.stands_as }))

-- so it is with claims and without
pub good_either : {T : Type 0} (stands : T → List Event → Type 0) (allows : List Event → ℕ → Type 0) (good : List Event → List (List ℕ) → List (List ℕ) → Type 0) (ends : Status → Type 0)
    (r : ReachedView T) (program : Sections) (medium : List (List ℕ)) (harts : ℕ) → KeepsUnmarked stands → MayReduce allows (IgnoresFull good) r.parts.claims → r.parts.table.start.medium ≡ medium →
    Covers stands r (started program medium harts) → IsClosed stands allows ends r → AreGoodBelow stands good r (length r.states) → AlwaysGood stands allows good ends program medium harts
good_either stands allows good ends r program medium harts keeps (inl nothing) same start closed are = all_good stands allows good ends r program medium harts nothing same start closed are
good_either stands allows good ends r program medium harts keeps (inr free) same start closed are =
    all_good_by_claims stands allows good ends r program medium harts keeps free.0 free.1 same start closed are

pub ends_either : {T : Type 0} (stands : T → List Event → Type 0) (allows : List Event → ℕ → Type 0) (ends : Status → Type 0) (r : ReachedView T) (program : Sections)
    (medium : List (List ℕ)) (harts : ℕ) → KeepsUnmarked stands → (r.parts.claims ≡ []) ⊎ AnyMayGo allows → IsClosed stands allows ends r → Covers stands r (started program medium harts) →
    AnyMayGo allows → EachCanEnd stands r → AlwaysEnds program medium harts
ends_either stands allows ends r program medium harts keeps (inl nothing) closed start free each = always_ends stands allows ends r program medium harts nothing closed start free each
ends_either stands allows ends r program medium harts keeps (inr any) closed start free each = always_ends_by_claims stands allows ends r program medium harts keeps closed start free each

pub reduce_at : {W : Type 0} (allows : List Event → ℕ → Type 0) (good : W → List Event → List (List ℕ) → List (List ℕ) → Type 0) (w : W) (claims : List ClaimedLine) →
    MayReduce allows ((v : W) → IgnoresFull (good v)) claims → MayReduce allows (IgnoresFull (good w)) claims
reduce_at allows good w claims (inl nothing) = inl nothing
reduce_at allows good w claims (inr free) = inr (free.0, free.1 w)

pub may_claim : (allows : List Event → ℕ → Type 0) (ignored : Type 0) (claims : List ClaimedLine) → MayReduce allows ignored claims → MayClaim allows claims
may_claim allows ignored claims (inl nothing) = inl nothing
may_claim allows ignored claims (inr free) = inr free.0
