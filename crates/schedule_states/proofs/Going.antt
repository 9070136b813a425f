-- Steps of a hart that are its own affair.
use Rattle.std.proofs.Common.{◌≡◌, ◌⊎◌, inl, inr, ℕ, zero, suc, ◌<◌, ◌++◌, List, [], ◌∷◌, Bool, true, false, nat_le, Option, Some, None, length, slice_get, refl, sym, ap, ◌∙◌, subst}
use Rattle.std.specs.Prelude.{if◌then◌else◌}
use Rattle.std.proofs.lemmas.Option.{slice_get_within}
use Rattle.bus.proofs.Places.{got_set, there_is}
use Rattle.bus.specs.Alone.{Asks, GoesAlone, StepsAlone}
use Rattle.isa_table.specs.declared.instruction.CacheOp.{CacheOp}
use Rattle.hart.specs.Needs.{IsSpelledBy}
use Rattle.hart.specs.declared.need.Request.{Request}
use Rattle.hart.specs.declared.need.Request.TheVariants.{Load, Store, Lr, Sc, Amo, Cbo, Fence, FenceI, Begin, End}
use Rattle.hart.specs.declared.need.Reply.{Reply}
use Rattle.hart.specs.declared.need.Reply.TheVariants.{Value, Done, Fault}
use Rattle.hart.specs.declared.state.HartState.{HartState}
use Rattle.line_memory.specs.Memory.{Memory}
use Rattle.line_memory.specs.declared.TheConstants.{PERSISTENT_BASE}
use Rattle.machine.proofs.RunParts.{run_joined}
use Rattle.machine.specs.Replies.{SharedState, events_of, reply_after, trace_in}
use Rattle.machine.specs.Run.{Config, RunsTo, after_request, fetched, with_hart}
use Rattle.machine.specs.declared.schedule.items.Step.{Step}
use Rattle.machine.specs.declared.schedule.items.Step.TheVariants.{Hart}
use Rattle.store_trace.specs.declared.event.Event.{Event}
use Rattle.schedule_states.proofs.Behind.{asks_once, move_steps}
use Rattle.schedule_states.proofs.Happening.{led_step, text_read}
use Rattle.schedule_states.proofs.Standing.{asks_itself, stands_alone}
use Rattle.schedule_states.specs.Behind.{GoesOwn, GoesOwnBy, IsFit}
use Rattle.schedule_states.specs.Claims.{IsLocal, claim_in}
use Rattle.schedule_states.specs.Covering.{IsMet, IsTaken, ReachedView, StandsAs}
use Rattle.schedule_states.specs.Ending.{LeadsTo}
use Rattle.schedule_states.specs.Happening.{IsAtFitRequest, IsLed}
use Rattle.schedule_states.specs.Marks.{IsMarkedBy, IsUnmarked}
use Rattle.schedule_states.specs.States.{AsksTo, IsHartOf, PartsView, StandsFor, text_for}
use Rattle.schedule_states.specs.Successors.{HasGoneOn, IsOwnRequest, IsSettled, IsSuccessor, IsTurnOf, IsTurned}
use Rattle.schedule_states.specs.Turns.{MayClaim}
use Rattle.schedule_states.specs.declared.claims.Claim.{Claim}
use Rattle.schedule_states.specs.declared.claims.Claim.TheVariants.{Alone, Unwritten}
use Rattle.schedule_states.specs.declared.claims.ClaimedLine.{ClaimedLine}
use Rattle.schedule_states.specs.declared.parts.Asking.{Asking}
use Rattle.schedule_states.specs.declared.program_state.ProgramState.{ProgramState}
use Rattle.schedule_states.specs.declared.successor.Successor.TheVariants as successors

-- they are steps of a run
pub own_runs : (claims : ℕ → Option Claim) (h n : ℕ) (c d : Config) → GoesOwnBy claims h n c d → (steps : List Step) × RunsTo c steps d
own_runs claims h zero c d goes = ([], goes)
own_runs claims h (suc n) c d goes =
    let before : (steps : List Step) × RunsTo c steps goes.0 = own_runs claims h n c goes.0 goes.1 in
    (before.0 ++ Hart h ∷ [], run_joined c goes.0 d before.0 (Hart h ∷ []) before.1 (d, move_steps goes.0 d h goes.2.0 goes.2.1, refl))

led_own : (allows : List Event → ℕ → Type 0) (claims : ℕ → Option Claim) (start : Config) (h n : ℕ) (c d : Config) → ((es : List Event) (g : ℕ) → allows es g) → IsLed allows start c →
    GoesOwnBy claims h n c d → IsLed allows start d
led_own allows claims start h zero c d free led goes = subst (λ (e : Config). IsLed allows start e) (sym goes) led
led_own allows claims start h (suc n) c d free led goes =
    led_step allows start goes.0 d h (led_own allows claims start h n c goes.0 free led goes.1) (free (trace_in goes.0.common) h) (move_steps goes.0 d h goes.2.0 goes.2.1)

-- they keep to the rule of turns
pub led_on_own : (allows : List Event → ℕ → Type 0) (claims : List ClaimedLine) (start : Config) (h n : ℕ) (c d : Config) → MayClaim allows claims → (claims ≡ [] → d ≡ c) → IsLed allows start c →
    GoesOwnBy (claim_in claims) h n c d → IsLed allows start d
led_on_own allows claims start h n c d (inl none) same led goes = subst (λ (e : Config). IsLed allows start e) (sym (same none)) led
led_on_own allows claims start h n c d (inr free) same led goes = led_own allows (claim_in claims) start h n c d free led goes

-- what is kept of the operations is kept behind them
abbrev IsNoMark : List Event → Type 0
IsNoMark es = (es ≡ []) ⊎ ((event : Event) × IsUnmarked event × (es ≡ event ∷ []))

event_if : (test : Bool) (event : Event) → IsUnmarked event → IsNoMark (if test then event ∷ [] else [])
event_if true event plain = inr (event, plain, refl)
event_if false event plain = inl refl

store_events : (h a w v : ℕ) (reply : Reply) → IsNoMark (events_of h (Store a w v) reply)
store_events h a w v Done = event_if (nat_le PERSISTENT_BASE a) _ (record { begun = refl; ended = refl })
store_events h a w v (Value n) = inl refl
store_events h a w v (Fault f) = inl refl

clean_events : (h : ℕ) (op : CacheOp) (a : ℕ) (reply : Reply) → IsNoMark (events_of h (Cbo op a) reply)
clean_events h op a Done = event_if (nat_le PERSISTENT_BASE a) _ (record { begun = refl; ended = refl })
clean_events h op a (Value n) = inl refl
clean_events h op a (Fault f) = inl refl

local_events : (claims : ℕ → Option Claim) (h : ℕ) (r : Request) (reply : Reply) → IsLocal claims h r → IsNoMark (events_of h r reply)
local_events claims h (Load a w) reply local = inl refl
local_events claims h (Store a w v) reply local = store_events h a w v reply
local_events claims h (Cbo op a) reply local = clean_events h op a reply
local_events claims h (Lr a w) reply local = absurd local
local_events claims h (Sc a w v) reply local = absurd local
local_events claims h (Amo op a w v) reply local = absurd local
local_events claims h Fence reply local = absurd local
local_events claims h FenceI reply local = absurd local
local_events claims h (Begin op) reply local = absurd local
local_events claims h (End op) reply local = absurd local

append_none : (xs : List Event) → xs ++ [] ≡ xs
append_none [] = refl
append_none (x ∷ xs) = ap (λ (rest : List Event). x ∷ rest) (append_none xs)

-- what marks no operation changes nothing of what is kept
abbrev pub KeepsUnmarked : {T : Type 0} → (T → List Event → Type 0) → Type 0
KeepsUnmarked stands = (t : _) (es : List Event) (event : Event) → IsUnmarked event → stands t es → stands t (es ++ event ∷ [])

kept_more : {T : Type 0} (stands : T → List Event → Type 0) (t : T) (es more : List Event) → KeepsUnmarked stands → IsNoMark more → stands t es → stands t (es ++ more)
kept_more stands t es more keeps (inl none) stood = subst (λ (xs : List Event). stands t (es ++ xs)) (sym none) (subst (λ (xs : List Event). stands t xs) (sym (append_none es)) stood)
kept_more stands t es more keeps (inr one) stood = subst (λ (xs : List Event). stands t (es ++ xs)) (sym one.2) (keeps t es one.0 one.1 stood)

pub kept_own : {T : Type 0} (stands : T → List Event → Type 0) (claims : ℕ → Option Claim) (t : T) (h : ℕ) (c d : Config) → KeepsUnmarked stands → GoesOwn claims c h d → stands t (trace_in c.common) →
    stands t (trace_in d.common)
kept_own stands claims t h c d keeps (None, move, own) stood = subst (λ (e : Config). stands t (trace_in e.common)) (sym move.is) stood
kept_own stands claims t h c d keeps (Some r, move, own) stood = subst (λ (e : Config). stands t (trace_in e.common)) (sym move.is)
    (kept_more stands t (trace_in c.common) (events_of h r (reply_after c.common h r)) keeps (local_events claims h r (reply_after c.common h r) own.0) stood)

pub kept_by : {T : Type 0} (stands : T → List Event → Type 0) (claims : ℕ → Option Claim) (t : T) (h n : ℕ) (c d : Config) → KeepsUnmarked stands → GoesOwnBy claims h n c d → stands t (trace_in c.common) →
    stands t (trace_in d.common)
kept_by stands claims t h zero c d keeps goes stood = subst (λ (e : Config). stands t (trace_in e.common)) (sym goes) stood
kept_by stands claims t h (suc n) c d keeps goes stood = kept_own stands claims t h goes.0 d keeps goes.2 (kept_by stands claims t h n c goes.0 keeps goes.1 stood)

-- one behind the other
own_then : (claims : ℕ → Option Claim) (h n m : ℕ) (c d e : Config) → GoesOwnBy claims h n c d → GoesOwnBy claims h m d e → (k : ℕ) × GoesOwnBy claims h k c e
own_then claims h n zero c d e one two = (n, subst (λ (x : Config). GoesOwnBy claims h n c x) (sym two) one)
own_then claims h n (suc m) c d e one two =
    let before : (k : ℕ) × GoesOwnBy claims h k c two.0 = own_then claims h n m c d two.0 one two.1 in
    (suc before.0, (two.0, before.1, two.2))

-- a hart makes its steps up to where the state has it
record IsOwnAhead (claims : ℕ → Option Claim) (parts : PartsView) (s : ProgramState) (c : Config) (h : ℕ) (ahead : HartState) : Type 0 where
  pub steps : ℕ
  pub ready : Config
  pub goes : GoesOwnBy claims h steps c ready
  pub still : ready.common ≡ c.common
  pub stands : StandsFor parts s ready
  pub here : slice_get ready.harts h ≡ Some ahead

own_ahead : (claims : ℕ → Option Claim) (parts : PartsView) (s : ProgramState) (c : Config) (h n : ℕ) (own ahead : HartState) → StandsFor parts s c → slice_get c.harts h ≡ Some own →
    GoesAlone (text_for c.common h) n own ahead → IsOwnAhead claims parts s c h ahead
own_ahead claims parts s c h zero own ahead stands here goes = record {
  steps = 0;
  ready = c;
  goes = refl;
  still = refl;
  stands = stands;
  here = here ∙ ap (λ (t : HartState). Some t) (sym goes);
}
own_ahead claims parts s c h (suc n) own ahead stands here goes =
    let before : IsOwnAhead claims parts s c h goes.0 = own_ahead claims parts s c h n own goes.0 stands here goes.1 in
    let step : StepsAlone (text_for before.ready.common h) goes.0 ahead =
    subst (λ (common : SharedState). StepsAlone (text_for common h) goes.0 ahead) (sym before.still) goes.2 in
    let next : Config = with_hart before.ready h ahead in record {
      steps = suc before.steps;
      ready = next;
      goes = (before.ready, before.goes, (None, record { own = goes.0; next = ahead; here = before.here; step = step; is = refl }, tt));
      still = before.still;
      stands = stands_alone parts s before.ready h goes.0 ahead before.stands before.here step;
      here = got_set before.ready.harts h ahead (slice_get_within before.ready.harts h goes.0 before.here);
    }

-- where nothing is claimed no request is its hart's own affair
not_claimed : (claims : List ClaimedLine) (l : ℕ) (claim : Claim) → claims ≡ [] → claim_in claims l ≡ Some claim → ⊥
not_claimed claims l claim none claimed = let both : None ≡ Some claim = sym (ap (λ (cs : List ClaimedLine). claim_in cs l) none) ∙ claimed in cc

none_local : (claims : List ClaimedLine) (h : ℕ) (r : Request) → claims ≡ [] → IsLocal (claim_in claims) h r → ⊥
none_local claims h (Load a w) none (inl own) = not_claimed claims _ (Alone h) none own.0
none_local claims h (Load a w) none (inr unwritten) = not_claimed claims _ Unwritten none unwritten
none_local claims h (Store a w v) none local = not_claimed claims _ (Alone h) none local.0
none_local claims h (Cbo op a) none local = not_claimed claims _ (Alone h) none local.0
none_local claims h (Lr a w) none local = local
none_local claims h (Sc a w v) none local = local
none_local claims h (Amo op a w v) none local = local
none_local claims h Fence none local = local
none_local claims h FenceI none local = local
none_local claims h (Begin op) none local = local
none_local claims h (End op) none local = local

-- a state that no hart has left
pub settled_still : (parts : PartsView) (s : ProgramState) (h : ℕ) → IsSettled parts parts s h s
settled_still parts s h c stands = record { steps = 0; end = c; goes = refl; none = λ none. refl; stands = stands }

-- one request more
pub settled_more : (old middle new : PartsView) (s t next : ProgramState) (h : ℕ) (asking : Asking) (mark : Option Event) → middle.claims ≡ old.claims → IsSettled old middle s h t →
    IsOwnRequest middle t h asking → IsSuccessor middle new t h (successors.State next mark) → IsSettled old new s h next
settled_more old middle new s t next h asking mark same settled own successor c stands =
    let before : HasGoneOn old middle h t c = settled c stands in
    let mine : slice_get t.harts.items h ≡ Some asking.part = subst (λ (k : ℕ). slice_get t.harts.items k ≡ Some asking.part) own.0 own.1.part in
    let there : h < length before.end.harts = subst (λ (k : ℕ). h < k) before.stands.count (slice_get_within t.harts.items h asking.part mine) in
    let at : (at : HartState) × (slice_get before.end.harts h ≡ Some at) = there_is before.end.harts h there in
    let is : IsHartOf middle before.end.common h asking.part at.0 = before.stands.harts h asking.part at.0 mine at.1 in
    let on : IsOwnAhead (claim_in old.claims) middle t before.end h asking.part.state =
    own_ahead (claim_in old.claims) middle t before.end h is.ahead.0 at.0 asking.part.state before.stands at.1 is.ahead.1 in
    let end : Config = after_request on.ready h asking.part.state asking.instr asking.request in
    let asks : Asks (text_for on.ready.common h) asking.part.state asking.request = subst (λ (common : SharedState). Asks (text_for common h) asking.part.state asking.request) (sym on.still)
    (subst (λ (m : Memory). Asks m asking.part.state asking.request) (text_read middle asking.part.text (text_for before.end.common h) is.text) own.1.asks) in
    let spelled : IsSpelledBy (fetched (text_for on.ready.common h) asking.part.state.pc) asking.instr =
    subst (λ (common : SharedState). IsSpelledBy (fetched (text_for common h) asking.part.state.pc) asking.instr) (sym on.still)
    (subst (λ (m : Memory). IsSpelledBy (fetched m asking.part.state.pc) asking.instr) (text_read middle asking.part.text (text_for before.end.common h) is.text) own.1.spelled) in
    let request : AsksTo on.ready h end = record {
      own = asking.part.state;
      instr = asking.instr;
      request = asking.request;
      here = on.here;
      asks = asks;
      spelled = spelled;
      is = refl;
    } in
    let local : IsLocal (claim_in old.claims) h asking.request = subst (λ (claims : List ClaimedLine). IsLocal (claim_in claims) h asking.request) same own.2 in
    let ready : (k : ℕ) × GoesOwnBy (claim_in old.claims) h k c on.ready = own_then (claim_in old.claims) h before.steps on.steps c before.end on.ready before.goes on.goes in record {
      steps = suc ready.0;
      end = end;
      goes = (
        on.ready,
        ready.1,
        (Some asking.request, record { own = asking.part.state; instr = asking.instr; here = on.here; asks = asks; spelled = spelled; is = refl }, (local, own.1.request)),
      );
      none = λ none. absurd (none_local old.claims h asking.request none local);
      stands = (successor on.ready end on.stands request).0;
    }

-- the same mark behind other events
tail_same : (x : Event) (ys zs : List Event) → x ∷ ys ≡ x ∷ zs → ys ≡ zs
tail_same x ys zs same = cc

same_rest : (xs ys zs : List Event) → xs ++ ys ≡ xs ++ zs → ys ≡ zs
same_rest [] ys zs same = same
same_rest (x ∷ xs) ys zs same = same_rest xs ys zs (tail_same x (xs ++ ys) (xs ++ zs) same)

marked_any : (mark : Option Event) (p q more : List Event) → IsMarkedBy mark p (p ++ more) → IsMarkedBy mark q (q ++ more)
marked_any (Some m) p q more marked = (marked.0, ap (λ (es : List Event). q ++ es) (same_rest p more (m ∷ []) marked.1))
marked_any None p q more (inl none) = inl (ap (λ (es : List Event). q ++ es) (same_rest p more [] (none ∙ sym (append_none p))) ∙ append_none q)
marked_any None p q more (inr one) = inr (record { event = one.event; unmarked = one.unmarked; is = ap (λ (es : List Event). q ++ es) (same_rest p more (one.event ∷ []) one.is) })

-- a request, and what comes of the state behind it
pub turn_of : (old middle new : PartsView) (s first next : ProgramState) (h : ℕ) (mark : Option Event) → middle.claims ≡ old.claims → IsSuccessor old middle s h (successors.State first mark) →
    IsAtFitRequest old s h → IsSettled middle new first h next → IsTurnOf old new s h (successors.State next mark)
turn_of old middle new s first next h mark same successor at settled c d stands asks =
    let asking : Asking = at.0.0 in
    let mine : slice_get s.harts.items h ≡ Some asking.part = subst (λ (k : ℕ). slice_get s.harts.items k ≡ Some asking.part) at.0.1 at.0.2.part in
    let is : IsHartOf old c.common h asking.part asks.own = stands.harts h asking.part asks.own mine asks.here in
    let itself : asking.part.state ≡ asks.own = asks_itself old c.common h asking.part asks.own asks.request is asks.asks in
    let asked : Asks (text_for c.common h) asks.own asking.request = subst (λ (own : HartState). Asks (text_for c.common h) own asking.request) itself
    (subst (λ (m : Memory). Asks m asking.part.state asking.request) (text_read old asking.part.text (text_for c.common h) is.text) at.0.2.asks) in
    let one : asking.request ≡ asks.request = asks_once (text_for c.common h) asks.own asking.request asks.request asked asks.asks in
    let to : StandsFor middle first d × IsMarkedBy mark (trace_in c.common) (trace_in d.common) = successor c d stands asks in
    let on : HasGoneOn middle new h next d = settled d to.0 in record {
      fits = subst (λ (request : Request). IsFit (claim_in old.claims) h request) one (record { keeps = at.1; is = at.0.2.request });
      steps = on.steps;
      end = on.end;
      goes = subst (λ (claims : List ClaimedLine). GoesOwnBy (claim_in claims) h on.steps d on.end) same on.goes;
      none = λ none. on.none (same ∙ none);
      stands = on.stands;
      marked = λ es. marked_any mark (trace_in c.common) es (events_of h asks.request (reply_after c.common h asks.request))
          (subst (λ (e : Config). IsMarkedBy mark (trace_in c.common) (trace_in e.common)) asks.is to.1);
    }

-- what is kept of the operations is kept of what the next state stands for
pub turned_as : {T : Type 0} (stands : T → List Event → Type 0) (old parts : PartsView) (r : ReachedView T) (next : ProgramState) (t after : T) (h : ℕ) (mark : Option Event) (c d : Config)
    (asks : AsksTo c h d) → KeepsUnmarked stands → r.parts ≡ parts → ((events more : List Event) → IsMarkedBy mark events more → stands t events → stands after more) →
    stands t (trace_in c.common) → (turned : IsTurned old parts h next mark c d asks.request) → StandsAs stands r.parts next after turned.end
turned_as stands old parts r next t after h mark c d asks keeps same on stood turned =
    let marked : stands after (trace_in c.common ++ events_of h asks.request (reply_after c.common h asks.request)) =
    on (trace_in c.common) (trace_in c.common ++ events_of h asks.request (reply_after c.common h asks.request)) (turned.marked (trace_in c.common)) stood in
    let behind : stands after (trace_in d.common) = subst (λ (e : Config). stands after (trace_in e.common)) (sym asks.is) marked in (
      subst (λ (p : PartsView). StandsFor p next turned.end) (sym same) turned.stands,
      kept_by stands (claim_in old.claims) after h turned.steps d turned.end keeps turned.goes behind,
    )

-- what comes of a state by a request is taken to the state that has its number
pub taken_of : {T : Type 0} (stands : T → List Event → Type 0) (old parts : PartsView) (r : ReachedView T) (next : ProgramState) (t after : T) (h n : ℕ) (mark : Option Event) (c d : Config)
    (asks : AsksTo c h d) → KeepsUnmarked stands → r.parts.claims ≡ old.claims → r.parts ≡ parts → IsMet r n next after →
    ((events more : List Event) → IsMarkedBy mark events more → stands t events → stands after more) → stands t (trace_in c.common) → IsTurned old parts h next mark c d asks.request →
    IsTaken stands r t h n c d asks.request
taken_of stands old parts r next t after h n mark c d asks keeps claims same met on stood turned = record {
  fits = subst (λ (lines : List ClaimedLine). IsFit (claim_in lines) h asks.request) (sym claims) turned.fits;
  steps = turned.steps;
  end = turned.end;
  goes = subst (λ (lines : List ClaimedLine). GoesOwnBy (claim_in lines) h turned.steps d turned.end) (sym claims) turned.goes;
  none = λ none. turned.none (sym claims ∙ none);
  at = (
    record {
      state = next;
      standing = after;
      number = n;
      met = met;
      stands_as = turned_as stands old parts r next t after h mark c d asks keeps same on stood turned;
    },
    refl,
  );
  kept = λ es kept. on es (es ++ events_of h asks.request (reply_after c.common h asks.request)) (turned.marked es) kept;
}

-- a schedule leads there
pub leads_by : {T : Type 0} (stands : T → List Event → Type 0) (r : ReachedView T) (start c d : Config) (t : T) (h n : ℕ) (request : Request) (steps : List Step) → RunsTo start steps d →
    IsTaken stands r t h n c d request → LeadsTo stands r start n
leads_by stands r start c d t h n request steps runs taken =
    let more : (more : List Step) × RunsTo d more taken.end = own_runs (claim_in r.parts.claims) h taken.steps d taken.end taken.goes in record {
      steps = steps ++ more.0;
      end = taken.end;
      runs = run_joined start d taken.end steps more.0 runs more.1;
      covers = taken.at;
    }
