-- Where the turns of harts lead from states, as the parts grow.
use Rattle.std.proofs.Common.{◌≡◌, inl, inr, ℕ, ◌+◌, ◌<◌, List, [], ◌∷◌, ◌++◌, Option, Some, None, length, slice_index_or, slice_set, refl, sym, ap, ◌∙◌, subst, arith}
use Rattle.std.specs.Option.{unwrap_or}
use Rattle.std.proofs.lemmas.Bool.{cases_eq}
use Rattle.std.proofs.lemmas.List.{length-append}
use Rattle.std.proofs.lemmas.Option.{slice_get_within}
use Rattle.bus.proofs.Places.{read_else, read_set}
use Rattle.machine.specs.Replies.{trace_in}
use Rattle.machine.specs.Run.{Config}
use Rattle.store_trace.specs.declared.event.Event.{Event}
use Rattle.schedule_states.proofs.Closing.{covers_at_kept, met_before, same_harts, same_memory, same_standing, taken_kept}
use Rattle.schedule_states.proofs.Covering.{stands_same}
use Rattle.schedule_states.proofs.Looking.{each_pushed, within_kept}
use Rattle.schedule_states.proofs.Numbering.{lists_of_met}
use Rattle.schedule_states.specs.Covering.{IsMet, IsTaken, ReachedView, StandsAs}
use Rattle.schedule_states.specs.Ending.{AreTurns, AreTurnsAt, AreTurnsBelow, IsTakenTo, IsTurn, IsWayTo, LeadsTo}
use Rattle.schedule_states.specs.Reaching.{AreNumbered, HaveGrown, IsClosedFor, WereBefore}
use Rattle.schedule_states.specs.Successors.{HasLists}
use Rattle.schedule_states.specs.Ways.{AreInside}
use Rattle.schedule_states.specs.declared.program_state.ProgramState.{ProgramState}

pub way_kept : {T : Type 0} (stands : T → List Event → Type 0) (old new : ReachedView T) (s : ProgramState) (t : T) (n : ℕ) → HasLists old.parts s → HaveGrown old new →
    WereBefore old.parts new.parts → IsWayTo stands old s t n → IsWayTo stands new s t n
way_kept stands old new s t n lists grown before way = record {
  there = within_kept old.states new.states n grown.states way.there;
  leads = λ c stands_as.
      let on : LeadsTo stands old c n = way.leads c (before s c lists stands_as.0, stands_as.1) in
      record { steps = on.steps; end = on.end; runs = on.runs; covers = covers_at_kept stands old new n on.end grown on.covers };
}

pub turns_kept : {T : Type 0} (stands : T → List Event → Type 0) (allows : List Event → ℕ → Type 0) (old new : ReachedView T) (s : ProgramState) (t : T) (count : ℕ) (to : List ℕ) →
    HasLists old.parts s → HaveGrown old new → WereBefore old.parts new.parts → AreTurns stands allows old s t count to → AreTurns stands allows new s t count to
turns_kept stands allows old new s t count to lists grown before turns = record {
  taken = λ h few c d stands_as may asks. taken_kept stands old new t h (slice_index_or to h 0) c d asks.request grown
      (turns.taken h few c d (before s c lists stands_as.0, stands_as.1) may asks);
  ways = λ h few. way_kept stands old new s t (slice_index_or to h 0) lists grown before (turns.ways h few);
}

-- from a state one comes to it by no step
pub way_itself : {T : Type 0} (stands : T → List Event → Type 0) (r : ReachedView T) (n : ℕ) (s : ProgramState) (t : T) → IsMet r n s t → IsWayTo stands r s t n
way_itself stands r n s t met = record {
  there = slice_get_within r.states n met.numbers met.found;
  leads = λ c stands_as. record {
    steps = [];
    end = c;
    runs = refl;
    covers = (record { state = s; standing = t; number = n; met = met; stands_as = stands_as }, refl);
  };
}

-- no hart has been tried yet
pub no_turns : {T : Type 0} (stands : T → List Event → Type 0) (allows : List Event → ℕ → Type 0) (r : ReachedView T) (s : ProgramState) (t : T) (n : ℕ) (to : List ℕ) → IsMet r n s t →
    ((h : ℕ) → h < 8 → slice_index_or to h 0 ≡ n) → AreTurns stands allows r s t 0 to
no_turns stands allows r s t n to met same = record {
  taken = λ h few. absurd (omega (arith, few));
  ways = λ h few. subst (λ (k : ℕ). IsWayTo stands r s t k) (sym (same h few)) (way_itself stands r n s t met);
}

-- the turn of one hart more
taken_here : {T : Type 0} (stands : T → List Event → Type 0) (allows : List Event → ℕ → Type 0) (r : ReachedView T) (s : ProgramState) (t : T) (h n : ℕ) (next : Option ℕ) →
    IsTurn stands allows r s t h next → IsTakenTo stands allows r s t h (unwrap_or next n)
taken_here stands allows r s t h n (Some m) turn = turn.0
taken_here stands allows r s t h n None turn = λ c d stands_as may asks. absurd (turn c d stands_as may asks)

way_here : {T : Type 0} (stands : T → List Event → Type 0) (allows : List Event → ℕ → Type 0) (r : ReachedView T) (s : ProgramState) (t : T) (h n : ℕ) (next : Option ℕ) →
    IsWayTo stands r s t n → IsTurn stands allows r s t h next → IsWayTo stands r s t (unwrap_or next n)
way_here stands allows r s t h n (Some m) way turn = turn.1
way_here stands allows r s t h n None way turn = way

pub turns_more : {T : Type 0} (stands : T → List Event → Type 0) (allows : List Event → ℕ → Type 0) (r : ReachedView T) (s : ProgramState) (t : T) (count n : ℕ) (next : Option ℕ) (to : List ℕ) →
    count < length to → IsMet r n s t → IsTurn stands allows r s t count next → AreTurns stands allows r s t count to →
    AreTurns stands allows r s t (count + 1) (slice_set to count (unwrap_or next n))
turns_more stands allows r s t count n next to there met turn turns =
    let more : List ℕ = slice_set to count (unwrap_or next n) in record {
      taken = λ h few. elim (cases_eq h count) [
        | inl same ↦
            let here : slice_index_or more h 0 ≡ unwrap_or next n = ap (λ (k : ℕ). slice_index_or more k 0) same ∙ read_set to count (unwrap_or next n) 0 there in
            subst (λ (k : ℕ). IsTakenTo stands allows r s t h k) (sym here)
            (subst (λ (k : ℕ). IsTakenTo stands allows r s t k (unwrap_or next n)) (sym same) (taken_here stands allows r s t count n next turn))
        | inr other ↦ subst (λ (k : ℕ). IsTakenTo stands allows r s t h k) (sym (read_else to count h (unwrap_or next n) 0 other))
            (turns.taken h (omega (arith, few, other)))
      ];
      ways = λ h few. elim (cases_eq h count) [
        | inl same ↦
            let here : slice_index_or more h 0 ≡ unwrap_or next n = ap (λ (k : ℕ). slice_index_or more k 0) same ∙ read_set to count (unwrap_or next n) 0 there in
            subst (λ (k : ℕ). IsWayTo stands r s t k) (sym here) (way_here stands allows r s t count n next (way_itself stands r n s t met) turn)
        | inr other ↦ subst (λ (k : ℕ). IsWayTo stands r s t k) (sym (read_else to count h (unwrap_or next n) 0 other)) (turns.ways h few)
      ];
    }

-- what the turns lead to is covered
pub closed_by_turns : {T : Type 0} (stands : T → List Event → Type 0) (allows : List Event → ℕ → Type 0) (r : ReachedView T) (s : ProgramState) (t : T) (count : ℕ) (to : List ℕ) →
    AreTurns stands allows r s t count to → IsClosedFor stands allows r s t count
closed_by_turns stands allows r s t count to turns h few c d stands_as may asks = (slice_index_or to h 0, turns.taken h few c d stands_as may asks)

-- by the number of a state, whatever its parts are called
pub same_stands : {T : Type 0} (stands : T → List Event → Type 0) (r : ReachedView T) (n : ℕ) (s u : ProgramState) (t v : T) (c : Config) → IsMet r n s t → IsMet r n u v →
    StandsAs stands r.parts u v c → StandsAs stands r.parts s t c
same_stands stands r n s u t v c met other stands_as = (
  stands_same r.parts u s c (same_harts r n u s v t other met) (same_memory r n u s v t other met) stands_as.0,
  subst (λ (x : _). stands x (trace_in c.common)) (sym (same_standing r n u s v t other met)) stands_as.1,
)

pub turns_at : {T : Type 0} (stands : T → List Event → Type 0) (allows : List Event → ℕ → Type 0) (r : ReachedView T) (n : ℕ) (s : ProgramState) (t : T) (to : List ℕ) → IsMet r n s t →
    AreTurns stands allows r s t r.harts to → AreTurnsAt stands allows r n to
turns_at stands allows r n s t to met turns = record {
  there = λ h few. (turns.ways h few).there;
  turns = λ u v other. record {
    taken = λ h few c d stands_as may asks. subst (λ (x : _). IsTaken stands r x h (slice_index_or to h 0) c d asks.request) (sym (same_standing r n s u t v met other))
        (turns.taken h few c d (same_stands stands r n s u t v c met other stands_as) may asks);
    ways = λ h few. record {
      there = (turns.ways h few).there;
      leads = λ c stands_as. (turns.ways h few).leads c (same_stands stands r n s u t v c met other stands_as);
    };
  };
}

turns_at_kept : {T : Type 0} (stands : T → List Event → Type 0) (allows : List Event → ℕ → Type 0) (old new : ReachedView T) (n : ℕ) (to : List ℕ) → AreNumbered old → HaveGrown old new →
    WereBefore old.parts new.parts → n < length old.states → AreTurnsAt stands allows old n to → AreTurnsAt stands allows new n to
turns_at_kept stands allows old new n to are grown before there at = record {
  there = λ h few. within_kept old.states new.states (slice_index_or to h 0) grown.states (at.there h few);
  turns = λ s t met.
      let was : IsMet old n s t = met_before old new n s t are grown there met in
      let lists : HasLists old.parts s = lists_of_met old n s t was (are.each n was.numbers was.found) in
      subst (λ (count : ℕ). AreTurns stands allows new s t count to) (sym grown.harts)
      (turns_kept stands allows old new s t old.harts to lists grown before (at.turns s t was));
}

pub turns_next : {T : Type 0} (stands : T → List Event → Type 0) (allows : List Event → ℕ → Type 0) (old new : ReachedView T) (next : List (List ℕ)) (count : ℕ) (to : List ℕ) →
    AreNumbered old → HaveGrown old new → WereBefore old.parts new.parts → count < length old.states → AreTurnsAt stands allows new count to →
    AreTurnsBelow stands allows old next count → AreTurnsBelow stands allows new (next ++ to ∷ []) (count + 1)
turns_next stands allows old new next count to are grown before there here below = record {
  count_is = let more : length (next ++ to ∷ []) ≡ length next + 1 = length-append next (to ∷ []) in more ∙ ap (λ (n : ℕ). n + 1) below.count_is;
  each = each_pushed (λ n one. AreTurnsAt stands allows new n one) next to
      (λ n one found. turns_at_kept stands allows old new n one are grown before
      (omega (arith, slice_get_within next n one found, below.count_is, there)) (below.each n one found))
      (subst (λ (n : ℕ). AreTurnsAt stands allows new n to) (sym below.count_is) here);
}

-- turns lead to states that are there
pub turns_inside : {T : Type 0} (stands : T → List Event → Type 0) (allows : List Event → ℕ → Type 0) (r : ReachedView T) (next : List (List ℕ)) →
    AreTurnsBelow stands allows r next (length r.states) → AreInside next
turns_inside stands allows r next below n hart m way =
    let there : slice_index_or way.to hart 0 < length r.states = (below.each n way.to way.found).there hart way.few in
    omega (arith, there, way.is, below.count_is)
