-- The turns of harts, before the states to which they lead have numbers.
use Rattle.std.proofs.Common.{◌≡◌, inl, inr, ℕ, zero, suc, ◌+◌, ◌<◌, ◌≤◌, List, [], ◌∷◌, Option, Some, None, length, slice_get, slice_index_or, slice_set, refl, sym, ap, ◌∙◌, subst, arith}
use Rattle.std.specs.Prelude.{IfOk, IfSome, IsSome, Ok, Result}
use Rattle.std.proofs.lemmas.Bool.{cases_eq}
use Rattle.std.proofs.lemmas.Option.{same_Some, slice_get_within}
use Rattle.bus.proofs.Places.{read_else, read_set, there_is}
use Rattle.hart.specs.declared.need.Request.{Request}
use Rattle.hart.specs.declared.state.Status.{Status}
use Rattle.machine.specs.Run.{Config, started}
use Rattle.store_trace.specs.declared.event.Event.{Event}
use Rattle.schedule_states.proofs.Closing.{met_before, same_standing, taken_kept}
use Rattle.schedule_states.proofs.Covering.{stands_grown}
use Rattle.schedule_states.proofs.Happening.{led_as_kept, led_grown, led_to_kept}
use Rattle.schedule_states.proofs.Looking.{got_appended}
use Rattle.schedule_states.proofs.Numbering.{lists_of_met, met_kept, numbers_there}
use Rattle.schedule_states.proofs.Turning.{same_stands, way_kept}
use Rattle.schedule_states.specs.Behind.{GoesOwnBy, IsFit}
use Rattle.schedule_states.specs.Claims.{claim_in}
use Rattle.schedule_states.specs.Covering.{CoversAt, IsMet, IsTaken, ReachedView}
use Rattle.schedule_states.specs.Ending.{IsTurn, IsWayTo, LeadsTo}
use Rattle.schedule_states.specs.Happening.{AreLed, IsLed, IsLedAs, IsLedTo}
use Rattle.schedule_states.specs.Onward.{AreAllKnown, AreTurnsFrom, AreTurnsTo, HasParts, HasPlace, IsKnownTurn, IsPlaced, IsTurnOfParts, IsTurnTo, MayHaveOneMore, only}
use Rattle.schedule_states.specs.Reaching.{AreNumbered, AreThere, HaveGrown, WereBefore}
use Rattle.schedule_states.specs.StartLines.{StartView}
use Rattle.schedule_states.specs.States.{PartsView, StandsFor}
use Rattle.schedule_states.specs.Successors.{HasLists}
use Rattle.schedule_states.specs.declared.claims.ClaimedLine.{ClaimedLine}
use Rattle.schedule_states.specs.declared.program_state.HartPart.{HartPart}
use Rattle.schedule_states.specs.declared.program_state.ProgramState.{ProgramState}
use Rattle.schedule_states.specs.declared.program_state.StateNumbers.{StateNumbers}
use Rattle.schedule_states.specs.declared.reached.Turn.{Turn}
use Rattle.schedule_states.specs.declared.reached.Turn.TheVariants as to

-- one state alone
pub only_grown : {T : Type 0} (old new : ReachedView T) (numbers : StateNumbers) → HaveGrown old new → HaveGrown (only old numbers) (only new numbers)
only_grown old new numbers grown = record {
  parts = grown.parts;
  hart_parts = grown.hart_parts;
  standings = grown.standings;
  states = λ n value found. found;
  harts = grown.harts;
}

only_each : {T : Type 0} (r : ReachedView T) (numbers : StateNumbers) → AreThere r numbers → (n : ℕ) (one : StateNumbers) → slice_get (numbers ∷ []) n ≡ Some one →
    AreThere (only r numbers) one
only_each r numbers there zero one found = subst (λ (x : StateNumbers). AreThere (only r numbers) x) (same_Some numbers one found)
    (record { memory = there.memory; standing = there.standing; harts = there.harts })
only_each r numbers there (suc n) one found = absurd cc

pub only_numbered : {T : Type 0} (r : ReachedView T) (numbers : StateNumbers) → r.harts ≤ 8 → AreThere r numbers → AreNumbered (only r numbers)
only_numbered r numbers few there = record { few = few; each = only_each r numbers there }

-- what the states of grown parts stand for they stood for before, where they were there
pub covers_at_before : {T : Type 0} (stands : T → List Event → Type 0) (old new : ReachedView T) (n : ℕ) (d : Config) → AreNumbered old → HaveGrown old new →
    WereBefore old.parts new.parts → n < length old.states → CoversAt stands new n d → CoversAt stands old n d
covers_at_before stands old new n d are grown before there at =
    let number : at.0.number < length old.states = subst (λ (k : ℕ). k < length old.states) (sym at.1) there in
    let met : IsMet old at.0.number at.0.state at.0.standing = met_before old new at.0.number at.0.state at.0.standing are grown number at.0.met in
    let lists : HasLists old.parts at.0.state = lists_of_met old at.0.number at.0.state at.0.standing met (are.each at.0.number met.numbers met.found) in (
      record {
        state = at.0.state;
        standing = at.0.standing;
        number = at.0.number;
        met = met;
        stands_as = (before at.0.state d lists at.0.stands_as.0, at.0.stands_as.1);
      },
      at.1,
    )

taken_before : {T : Type 0} (stands : T → List Event → Type 0) (old new : ReachedView T) (t : T) (h n : ℕ) (c d : Config) (request : Request) → AreNumbered old → HaveGrown old new →
    WereBefore old.parts new.parts → n < length old.states → IsTaken stands new t h n c d request → IsTaken stands old t h n c d request
unfolding covers_at_before
taken_before stands old new t h n c d request are grown before there taken = record {
  fits = subst (λ (claims : List ClaimedLine). IsFit (claim_in claims) h request) grown.parts.claims taken.fits;
  steps = taken.steps;
  end = taken.end;
  goes = subst (λ (claims : List ClaimedLine). GoesOwnBy (claim_in claims) h taken.steps d taken.end) grown.parts.claims taken.goes;
  none = λ none. taken.none (grown.parts.claims ∙ none);
  at = covers_at_before stands old new n taken.end are grown before there taken.at;
  kept = taken.kept;
}

way_before : {T : Type 0} (stands : T → List Event → Type 0) (old new : ReachedView T) (s : ProgramState) (t : T) (n : ℕ) → AreNumbered old → HaveGrown old new →
    WereBefore old.parts new.parts → n < length old.states → IsWayTo stands new s t n → IsWayTo stands old s t n
way_before stands old new s t n are grown before there way = record {
  there = there;
  leads = λ c stands_as.
      let on : LeadsTo stands new c n = way.leads c (stands_grown old.parts new.parts s c grown.parts stands_as.0, stands_as.1) in
      record { steps = on.steps; end = on.end; runs = on.runs; covers = covers_at_before stands old new n on.end are grown before there on.covers };
}

pub led_as_before : {T : Type 0} (stands : T → List Event → Type 0) (allows : List Event → ℕ → Type 0) (old new : ReachedView T) (s : ProgramState) (t : T) → HasLists old.parts s →
    HaveGrown old new → WereBefore old.parts new.parts → IsLedAs stands allows new s t → IsLedAs stands allows old s t
led_as_before stands allows old new s t lists grown before is =
    let same : started new.parts.table.start.program new.parts.table.start.medium new.harts ≡ started old.parts.table.start.program old.parts.table.start.medium old.harts =
    ap (λ (start : StartView). started start.program start.medium new.harts) grown.parts.table.start
    ∙ ap (λ (harts : ℕ). started old.parts.table.start.program old.parts.table.start.medium harts) grown.harts in record {
      end = is.end;
      led = subst (λ (start : Config). IsLed allows start is.end) same is.led;
      stands_as = (before s is.end lists is.stands_as.0, is.stands_as.1);
    }

led_to_before : {T : Type 0} (stands : T → List Event → Type 0) (allows : List Event → ℕ → Type 0) (old new : ReachedView T) (n : ℕ) → AreNumbered old → HaveGrown old new →
    WereBefore old.parts new.parts → n < length old.states → IsLedTo stands allows new n → IsLedTo stands allows old n
led_to_before stands allows old new n are grown before there is =
    let met : IsMet old n is.state is.standing = met_before old new n is.state is.standing are grown there is.met in
    let lists : HasLists old.parts is.state = lists_of_met old n is.state is.standing met (are.each n met.numbers met.found) in record {
      state = is.state;
      standing = is.standing;
      met = met;
      led_as = led_as_before stands allows old new is.state is.standing lists grown before is.led_as;
    }

-- the parts of the first harts are there
pub parts_there_next : {T : Type 0} (r : ReachedView T) (numbers : List ℕ) (count : ℕ) →
    (part : HartPart) × (slice_get r.hart_parts (slice_index_or numbers count 0) ≡ Some part) × (part.text < length r.parts.lists) →
    ((h : ℕ) → h < count → (part : HartPart) × (slice_get r.hart_parts (slice_index_or numbers h 0) ≡ Some part) × (part.text < length r.parts.lists)) →
    (h : ℕ) → h < count + 1 → (part : HartPart) × (slice_get r.hart_parts (slice_index_or numbers h 0) ≡ Some part) × (part.text < length r.parts.lists)
parts_there_next r numbers count here are h few = elim (cases_eq h count) [
  | inl same ↦ subst (λ (k : ℕ). (part : HartPart) × (slice_get r.hart_parts (slice_index_or numbers k 0) ≡ Some part) × (part.text < length r.parts.lists)) (sym same) here
  | inr other ↦ are h (omega (arith, few, other))
]

-- turns, as the parts grow
pub turn_to_kept : {T : Type 0} (stands : T → List Event → Type 0) (allows : List Event → ℕ → Type 0) (old new : ReachedView T) (s : ProgramState) (t : T) (h : ℕ)
    (next : Option StateNumbers) → HasLists old.parts s → HaveGrown old new → WereBefore old.parts new.parts → IsTurnTo stands allows old s t h next →
    IsTurnTo stands allows new s t h next
turn_to_kept stands allows old new s t h (Some numbers) lists grown before turn =
    let more : HaveGrown (only old numbers) (only new numbers) = only_grown old new numbers grown in record {
      there = numbers_there old new numbers grown turn.there;
      turn = (
        λ c d stands_as may asks. taken_kept stands (only old numbers) (only new numbers) t h 0 c d asks.request more
            (turn.turn.0 c d (before s c lists stands_as.0, stands_as.1) may asks),
        way_kept stands (only old numbers) (only new numbers) s t 0 lists more before turn.turn.1,
      );
      led = λ led. led_to_kept stands allows (only old numbers) (only new numbers) 0 more (turn.led (led_as_before stands allows old new s t lists grown before led));
    }
turn_to_kept stands allows old new s t h None lists grown before turn = λ c d stands_as may asks. turn c d (before s c lists stands_as.0, stands_as.1) may asks

-- turns that lead to parts that were there before
pub turn_to_before : {T : Type 0} (stands : T → List Event → Type 0) (allows : List Event → ℕ → Type 0) (old new : ReachedView T) (s : ProgramState) (t : T) (h : ℕ)
    (next : Option StateNumbers) → old.harts ≤ 8 → ((numbers : StateNumbers) → next ≡ Some numbers → AreThere old numbers) → HaveGrown old new → WereBefore old.parts new.parts →
    IsTurnTo stands allows new s t h next → IsTurnTo stands allows old s t h next
turn_to_before stands allows old new s t h (Some numbers) few there grown before turn =
    let here : AreThere old numbers = there numbers refl in
    let are : AreNumbered (only old numbers) = only_numbered old numbers few here in
    let more : HaveGrown (only old numbers) (only new numbers) = only_grown old new numbers grown in
    let first : 0 < length (numbers ∷ []) = omega arith in record {
      there = here;
      turn = (
        λ c d stands_as may asks. taken_before stands (only old numbers) (only new numbers) t h 0 c d asks.request are more before first
            (turn.turn.0 c d (stands_grown old.parts new.parts s c grown.parts stands_as.0, stands_as.1) may asks),
        way_before stands (only old numbers) (only new numbers) s t 0 are more before first turn.turn.1,
      );
      led = λ led. led_to_before stands allows (only old numbers) (only new numbers) 0 are more before first (turn.led (led_as_kept stands allows old new s t grown led));
    }
turn_to_before stands allows old new s t h None few there grown before turn =
    λ c d stands_as may asks. turn c d (stands_grown old.parts new.parts s c grown.parts stands_as.0, stands_as.1) may asks

-- parts that stay
pub were_before_same : (old new : PartsView) → new ≡ old → WereBefore old new
were_before_same old new same s k lists stands = subst (λ (parts : PartsView). StandsFor parts s k) same stands

-- the state alone has a number among others
pub met_numbered : {T : Type 0} (r : ReachedView T) (numbers : StateNumbers) (n : ℕ) (s : ProgramState) (t : T) → slice_get r.states n ≡ Some numbers → IsMet (only r numbers) 0 s t →
    IsMet r n s t
met_numbered r numbers n s t here met = record {
  numbers = met.numbers;
  found = here ∙ met.found;
  memory = met.memory;
  standing = met.standing;
  count = met.count;
  each = met.each;
}

covers_numbered : {T : Type 0} (stands : T → List Event → Type 0) (r : ReachedView T) (numbers : StateNumbers) (n : ℕ) (d : Config) → slice_get r.states n ≡ Some numbers →
    CoversAt stands (only r numbers) 0 d → CoversAt stands r n d
covers_numbered stands r numbers n d here at = (
  record {
    state = at.0.state;
    standing = at.0.standing;
    number = n;
    met = met_numbered r numbers n at.0.state at.0.standing here (subst (λ (k : ℕ). IsMet (only r numbers) k at.0.state at.0.standing) at.1 at.0.met);
    stands_as = at.0.stands_as;
  },
  refl,
)

taken_numbered : {T : Type 0} (stands : T → List Event → Type 0) (r : ReachedView T) (numbers : StateNumbers) (t : T) (h n : ℕ) (c d : Config) (request : Request) →
    slice_get r.states n ≡ Some numbers → IsTaken stands (only r numbers) t h 0 c d request → IsTaken stands r t h n c d request
unfolding covers_numbered
taken_numbered stands r numbers t h n c d request here taken = record {
  fits = taken.fits;
  steps = taken.steps;
  end = taken.end;
  goes = taken.goes;
  none = taken.none;
  at = covers_numbered stands r numbers n taken.end here taken.at;
  kept = taken.kept;
}

way_numbered : {T : Type 0} (stands : T → List Event → Type 0) (r : ReachedView T) (numbers : StateNumbers) (s : ProgramState) (t : T) (n : ℕ) → slice_get r.states n ≡ Some numbers →
    IsWayTo stands (only r numbers) s t 0 → IsWayTo stands r s t n
way_numbered stands r numbers s t n here way = record {
  there = slice_get_within r.states n numbers here;
  leads = λ c stands_as.
      let on : LeadsTo stands (only r numbers) c 0 = way.leads c stands_as in
      record { steps = on.steps; end = on.end; runs = on.runs; covers = covers_numbered stands r numbers n on.end here on.covers };
}

-- to a state that has a number
turn_numbered : {T : Type 0} (stands : T → List Event → Type 0) (allows : List Event → ℕ → Type 0) (r : ReachedView T) (s : ProgramState) (t : T) (h : ℕ) (numbers : StateNumbers) (n : ℕ) →
    slice_get r.states n ≡ Some numbers → IsTurnTo stands allows r s t h (Some numbers) → IsTurn stands allows r s t h (Some n)
turn_numbered stands allows r s t h numbers n here turn = (
  λ c d stands_as may asks. taken_numbered stands r numbers t h n c d asks.request here (turn.turn.0 c d stands_as may asks),
  way_numbered stands r numbers s t n here turn.turn.1,
)

-- turns that are known, as the parts grow
pub known_turn_kept : {T : Type 0} (stands : T → List Event → Type 0) (allows : List Event → ℕ → Type 0) (old new : ReachedView T) (s : ProgramState) (t : T) (h : ℕ) (turn : Turn) →
    HasLists old.parts s → HaveGrown old new → WereBefore old.parts new.parts → IsKnownTurn stands allows old s t h turn → IsKnownTurn stands allows new s t h turn
known_turn_kept stands allows old new s t h to.Stays lists grown before is = turn_to_kept stands allows old new s t h None lists grown before is
known_turn_kept stands allows old new s t h (to.Parts numbers) lists grown before is = turn_to_kept stands allows old new s t h (Some numbers) lists grown before is
known_turn_kept stands allows old new s t h (to.Reached n) lists grown before is = (
  λ c d stands_as may asks. taken_kept stands old new t h n c d asks.request grown (is.0 c d (before s c lists stands_as.0, stands_as.1) may asks),
  way_kept stands old new s t n lists grown before is.1,
)

-- one that a look has found is known where its parts were there before
pub known_of_placed : {T : Type 0} (stands : T → List Event → Type 0) (allows : List Event → ℕ → Type 0) (old new : ReachedView T) (s : ProgramState) (t : T) (h : ℕ)
    (next : Option StateNumbers) (turn : Turn) → AreNumbered old → HaveGrown old new → WereBefore old.parts new.parts → IsPlaced old next turn →
    IsTurnTo stands allows new s t h next → IsKnownTurn stands allows old s t h turn
known_of_placed stands allows old new s t h (Some numbers) (to.Parts same) are grown before placed is =
    subst (λ (one : StateNumbers). IsTurnTo stands allows old s t h (Some one)) (sym placed.0)
    (turn_to_before stands allows old new s t h (Some numbers) are.few (λ one e. subst (λ (x : StateNumbers). AreThere old x) (same_Some numbers one e) placed.1) grown before is)
known_of_placed stands allows old new s t h (Some numbers) (to.Reached n) are grown before placed is =
    turn_numbered stands allows old s t h numbers n placed
    (turn_to_before stands allows old new s t h (Some numbers) are.few (λ one e. subst (λ (x : StateNumbers). AreThere old x) (same_Some numbers one e) (are.each n numbers placed))
    grown before is)
known_of_placed stands allows old new s t h (Some numbers) to.Stays are grown before placed is = absurd placed
known_of_placed stands allows old new s t h None turn are grown before placed is =
    subst (λ (x : Turn). IsKnownTurn stands allows old s t h x) (sym placed)
    (turn_to_before stands allows old new s t h None are.few (λ one e. absurd cc) grown before is)

-- so it is where it leads to parts
pub known_of_parts : {T : Type 0} (stands : T → List Event → Type 0) (allows : List Event → ℕ → Type 0) (r : ReachedView T) (s : ProgramState) (t : T) (h : ℕ)
    (next : Option StateNumbers) (turn : Turn) → IsTurnOfParts next turn → IsTurnTo stands allows r s t h next → IsKnownTurn stands allows r s t h turn
known_of_parts stands allows r s t h (Some numbers) turn same is = subst (λ (x : Turn). IsKnownTurn stands allows r s t h x) (sym same) is
known_of_parts stands allows r s t h None turn same is = subst (λ (x : Turn). IsKnownTurn stands allows r s t h x) (sym same) is

-- its parts are there
pub turn_has_parts : {T : Type 0} (stands : T → List Event → Type 0) (allows : List Event → ℕ → Type 0) (r : ReachedView T) (s : ProgramState) (t : T) (h : ℕ) (turn : Turn) →
    IsKnownTurn stands allows r s t h turn → HasParts r turn
turn_has_parts stands allows r s t h to.Stays is = tt
turn_has_parts stands allows r s t h (to.Reached n) is = tt
turn_has_parts stands allows r s t h (to.Parts numbers) is = is.there

-- it leads to the state that has its number
pub turn_taken : {T : Type 0} (stands : T → List Event → Type 0) (allows : List Event → ℕ → Type 0) (r : ReachedView T) (s : ProgramState) (t : T) (h : ℕ) (turn : Turn)
    (number : Option ℕ) → HasPlace r.states turn number → IsKnownTurn stands allows r s t h turn → IsTurn stands allows r s t h number
turn_taken stands allows r s t h (to.Parts numbers) (Some n) here is = turn_numbered stands allows r s t h numbers n here is
turn_taken stands allows r s t h (to.Parts numbers) None here is = absurd here
turn_taken stands allows r s t h (to.Reached m) number here is = subst (λ (x : Option ℕ). IsTurn stands allows r s t h x) (sym here) is
turn_taken stands allows r s t h to.Stays number here is = subst (λ (x : Option ℕ). IsTurn stands allows r s t h x) (sym here) is

-- the state that is met so is led to
pub led_taken : {T : Type 0} (stands : T → List Event → Type 0) (allows : List Event → ℕ → Type 0) (old new : ReachedView T) (s : ProgramState) (t : T) (h : ℕ)
    (turn : Turn) → HaveGrown old new → MayHaveOneMore old.states new.states turn → IsLedAs stands allows old s t → IsKnownTurn stands allows old s t h turn →
    AreLed stands allows old → AreLed stands allows new
led_taken stands allows old new s t h (to.Parts numbers) grown more led is are n there =
    let here : (x : StateNumbers) × (slice_get new.states n ≡ Some x) = there_is new.states n there in
    elim (got_appended old.states new.states numbers more n here.0 here.1) [
      | inl before ↦ led_to_kept stands allows old new n grown (are n (slice_get_within old.states n here.0 before))
      | inr same ↦
          let at : slice_get new.states n ≡ Some numbers = here.1 ∙ ap (λ (x : StateNumbers). Some x) same in
          let to : IsLedTo stands allows (only new numbers) 0 =
          led_to_kept stands allows (only old numbers) (only new numbers) 0 (only_grown old new numbers grown) (is.led led) in record {
            state = to.state;
            standing = to.standing;
            met = met_numbered new numbers n to.state to.standing at to.met;
            led_as = record { end = to.led_as.end; led = to.led_as.led; stands_as = to.led_as.stands_as };
          }
    ]
led_taken stands allows old new s t h (to.Reached m) grown same led is are n there = led_grown stands allows old new grown same are n there
led_taken stands allows old new s t h to.Stays grown same led is are n there = led_grown stands allows old new grown same are n there

-- by the number of a state, whatever its parts are called
known_of_same : {T : Type 0} (stands : T → List Event → Type 0) (allows : List Event → ℕ → Type 0) (r : ReachedView T) (n : ℕ) (s u : ProgramState) (t v : T) (h : ℕ) (turn : Turn) →
    IsMet r n s t → IsMet r n u v → IsKnownTurn stands allows r s t h turn → IsKnownTurn stands allows r u v h turn
known_of_same stands allows r n s u t v h to.Stays met other is = λ c d stands_as may asks. is c d (same_stands stands r n s u t v c met other stands_as) may asks
known_of_same stands allows r n s u t v h (to.Reached m) met other is = (
  λ c d stands_as may asks. subst (λ (x : _). IsTaken stands r x h m c d asks.request) (sym (same_standing r n s u t v met other))
      (is.0 c d (same_stands stands r n s u t v c met other stands_as) may asks),
  record { there = is.1.there; leads = λ c stands_as. is.1.leads c (same_stands stands r n s u t v c met other stands_as) },
)
known_of_same stands allows r n s u t v h (to.Parts numbers) met other is = record {
  there = is.there;
  turn = (
    λ c d stands_as may asks. subst (λ (x : _). IsTaken stands (only r numbers) x h 0 c d asks.request) (sym (same_standing r n s u t v met other))
        (is.turn.0 c d (same_stands stands r n s u t v c met other stands_as) may asks),
    record { there = is.turn.1.there; leads = λ c stands_as. is.turn.1.leads c (same_stands stands r n s u t v c met other stands_as) },
  );
  led = λ led. is.led (record { end = led.end; led = led.led; stands_as = same_stands stands r n s u t v led.end met other led.stands_as });
}

pub both_ok : {A E F : Type 0} (P : A → Type 0) (found : Result (Result A E) F) (looked : Result A E) (next : A) → found ≡ Ok looked → looked ≡ Ok next →
    IfOk found (λ one. IfOk one P) → P next
both_ok {A} {E} {F} P found looked next outer inner is =
    subst (λ (one : Result A E). IfOk one P) inner (subst (λ (all : Result (Result A E) F). IfOk all (λ one. IfOk one P)) outer is)

pub some_then : {A : Type 0} (P Q : A → Type 0) (found : Option A) → ((x : A) → P x → Q x) → IfSome found P → IfSome found Q
some_then P Q (Some x) then is = then x is
some_then P Q None then is = tt

-- a turn that is known whatever is kept, where this is
pub some_at : {T : Type 0} (kept : T → Type 0) (is : T → Turn → Type 0) (turn : Option Turn) (t : T) → kept t → IfSome turn (λ one. (x : T) → kept x → is x one) → IfSome turn (is t)
some_at kept is (Some one) t here known = known t here
some_at kept is None t here known = tt

-- turns of the first harts
pub some_kept : {T : Type 0} (stands : T → List Event → Type 0) (allows : List Event → ℕ → Type 0) (old new : ReachedView T) (s : ProgramState) (t : T) (h : ℕ) (turn : Option Turn) →
    HasLists old.parts s → HaveGrown old new → WereBefore old.parts new.parts → IfSome turn (IsKnownTurn stands allows old s t h) → IfSome turn (IsKnownTurn stands allows new s t h)
some_kept stands allows old new s t h (Some turn) lists grown before is = known_turn_kept stands allows old new s t h turn lists grown before is
some_kept stands allows old new s t h None lists grown before is = tt

-- so whatever is kept under this number
pub some_as_kept : {T : Type 0} (stands : T → List Event → Type 0) (allows : List Event → ℕ → Type 0) (old new : ReachedView T) (s : ProgramState) (standing : ℕ) (h : ℕ)
    (turn : Option Turn) → standing < length old.standings → HasLists old.parts s → HaveGrown old new → WereBefore old.parts new.parts →
    ((t : T) → slice_get old.standings standing ≡ Some t → IfSome turn (IsKnownTurn stands allows old s t h)) →
    IfSome turn (λ one. (t : T) → slice_get new.standings standing ≡ Some t → IsKnownTurn stands allows new s t h one)
some_as_kept {T} stands allows old new s standing h (Some turn) there lists grown before is = λ t kept.
    let was : (x : T) × (slice_get old.standings standing ≡ Some x) = there_is old.standings standing there in
    let same : was.0 ≡ t = same_Some was.0 t (sym (grown.standings standing was.0 was.1) ∙ kept) in
    known_turn_kept stands allows old new s t h turn lists grown before (is t (was.1 ∙ ap (λ (x : T). Some x) same))
some_as_kept stands allows old new s standing h None there lists grown before is = tt

pub turns_to_kept : {T : Type 0} (stands : T → List Event → Type 0) (allows : List Event → ℕ → Type 0) (old new : ReachedView T) (s : ProgramState) (t : T) (count : ℕ)
    (turns : List (Option Turn)) → HasLists old.parts s → HaveGrown old new → WereBefore old.parts new.parts → AreTurnsTo stands allows old s t count turns →
    AreTurnsTo stands allows new s t count turns
turns_to_kept stands allows old new s t count turns lists grown before are h few =
    some_kept stands allows old new s t h (slice_index_or turns h None) lists grown before (are h few)

-- with the turn of one hart set
pub turns_to_set : {T : Type 0} (stands : T → List Event → Type 0) (allows : List Event → ℕ → Type 0) (r : ReachedView T) (s : ProgramState) (t : T) (count hart : ℕ)
    (turn : Turn) (turns : List (Option Turn)) → hart < length turns → IsKnownTurn stands allows r s t hart turn → AreTurnsTo stands allows r s t count turns →
    AreTurnsTo stands allows r s t count (slice_set turns hart (Some turn))
turns_to_set stands allows r s t count hart turn turns there is are h few = elim (cases_eq h hart) [
  | inl same ↦
      let here : slice_index_or (slice_set turns hart (Some turn)) h None ≡ Some turn =
      ap (λ (k : ℕ). slice_index_or (slice_set turns hart (Some turn)) k None) same ∙ read_set turns hart (Some turn) None there in
      subst (λ (one : Option Turn). IfSome one (IsKnownTurn stands allows r s t h)) (sym here)
      (subst (λ (k : ℕ). IsKnownTurn stands allows r s t k turn) (sym same) is)
  | inr other ↦ subst (λ (one : Option Turn). IfSome one (IsKnownTurn stands allows r s t h)) (sym (read_else turns hart h (Some turn) None other)) (are h few)
]

-- with the turn of one hart more
pub turns_to_more : {T : Type 0} (stands : T → List Event → Type 0) (allows : List Event → ℕ → Type 0) (r : ReachedView T) (s : ProgramState) (t : T) (count : ℕ)
    (turn : Option Turn) (turns : List (Option Turn)) → count < length turns → IfSome turn (IsKnownTurn stands allows r s t count) →
    AreTurnsTo stands allows r s t count turns → AreTurnsTo stands allows r s t (count + 1) (slice_set turns count turn)
turns_to_more stands allows r s t count turn turns there is are h few = elim (cases_eq h count) [
  | inl same ↦
      let here : slice_index_or (slice_set turns count turn) h None ≡ turn =
      ap (λ (k : ℕ). slice_index_or (slice_set turns count turn) k None) same ∙ read_set turns count turn None there in
      subst (λ (one : Option Turn). IfSome one (IsKnownTurn stands allows r s t h)) (sym here)
      (subst (λ (k : ℕ). IfSome turn (IsKnownTurn stands allows r s t k)) (sym same) is)
  | inr other ↦ subst (λ (one : Option Turn). IfSome one (IsKnownTurn stands allows r s t h)) (sym (read_else turns count h turn None other))
      (are h (omega (arith, few, other)))
]

-- the turns of the first harts are known
pub all_known_next : (count : ℕ) (turns : List (Option Turn)) → IsSome (slice_index_or turns count None) → AreAllKnown count turns → AreAllKnown (count + 1) turns
all_known_next count turns here are h few = elim (cases_eq h count) [
  | inl same ↦ subst (λ (k : ℕ). IsSome (slice_index_or turns k None)) (sym same) here
  | inr other ↦ are h (omega (arith, few, other))
]

pub all_known_set : (count : ℕ) (turn : Turn) (turns : List (Option Turn)) → count < length turns → AreAllKnown count turns → AreAllKnown (count + 1) (slice_set turns count (Some turn))
all_known_set count turn turns there are h few = elim (cases_eq h count) [
  | inl same ↦
      let here : slice_index_or (slice_set turns count (Some turn)) h None ≡ Some turn =
      ap (λ (k : ℕ). slice_index_or (slice_set turns count (Some turn)) k None) same ∙ read_set turns count (Some turn) None there in
      subst (λ (one : Option Turn). IsSome one) (sym here) cc
  | inr other ↦ subst (λ (one : Option Turn). IsSome one) (sym (read_else turns count h (Some turn) None other)) (are h (omega (arith, few, other)))
]

-- turns from the state of a number
unfoldable pub turns_from_kept : {T : Type 0} (stands : T → List Event → Type 0) (allows : List Event → ℕ → Type 0) (ends : Status → Type 0) (old new : ReachedView T) (n : ℕ)
    (turns : List (Option Turn)) → AreNumbered old → HaveGrown old new → WereBefore old.parts new.parts → AreTurnsFrom stands allows ends old n turns →
    AreTurnsFrom stands allows ends new n turns
turns_from_kept stands allows ends old new n turns are grown before from =
    let lists : HasLists old.parts from.state = lists_of_met old n from.state from.standing from.met (are.each n from.met.numbers from.met.found) in record {
      state = from.state;
      standing = from.standing;
      met = met_kept old new n from.state from.standing grown from.met;
      well = from.well;
      turns_are = λ h few. some_kept stands allows old new from.state from.standing h (slice_index_or turns h None) lists grown before
          (from.turns_are h (omega (arith, few, grown.harts)));
    }

some_of_same : {T : Type 0} (stands : T → List Event → Type 0) (allows : List Event → ℕ → Type 0) (r : ReachedView T) (n : ℕ) (s u : ProgramState) (t v : T) (h : ℕ)
    (turn : Option Turn) → IsMet r n s t → IsMet r n u v → IfSome turn (IsKnownTurn stands allows r s t h) → IfSome turn (IsKnownTurn stands allows r u v h)
some_of_same stands allows r n s u t v h (Some turn) met other is = known_of_same stands allows r n s u t v h turn met other is
some_of_same stands allows r n s u t v h None met other is = tt

pub turns_at_number : {T : Type 0} (stands : T → List Event → Type 0) (allows : List Event → ℕ → Type 0) (ends : Status → Type 0) (r : ReachedView T) (n : ℕ)
    (turns : List (Option Turn)) (u : ProgramState) (v : T) → AreTurnsFrom stands allows ends r n turns → IsMet r n u v → AreTurnsTo stands allows r u v r.harts turns
turns_at_number stands allows ends r n turns u v from other h few =
    some_of_same stands allows r n from.state u from.standing v h (slice_index_or turns h None) from.met other (from.turns_are h few)
