-- Turns to states of whose parts a list of held lines is to have a number.
use Rattle.std.proofs.Common.{◌≡◌, ℕ, ◌+◌, ◌++◌, ◌<◌, List, [], ◌∷◌, Option, Some, None, length, slice_get, slice_index_or, refl, sym, ap, ◌∙◌, subst, arith}
use Rattle.std.specs.Prelude.{IfSome}
use Rattle.std.proofs.lemmas.Option.{same_Some, slice_get_within}
use Rattle.hart.specs.declared.need.Request.{Request}
use Rattle.hart.specs.declared.state.Status.{Status}
use Rattle.machine.specs.Replies.{memory_in, trace_in}
use Rattle.machine.specs.Run.{Config, started}
use Rattle.store_trace.specs.History.{history}
use Rattle.store_trace.specs.declared.event.Event.{Event}
use Rattle.schedule_states.proofs.Answered.{text_grown}
use Rattle.schedule_states.proofs.Closing.{before_twice, grown_twice}
use Rattle.schedule_states.proofs.Covering.{stands_grown}
use Rattle.schedule_states.proofs.Happening.{led_as_kept}
use Rattle.schedule_states.proofs.Looking.{each_pushed, got_kept}
use Rattle.schedule_states.proofs.Numbering.{numbers_there}
use Rattle.schedule_states.proofs.Onward.{known_of_placed, led_as_before, turns_from_kept}
use Rattle.schedule_states.proofs.Putting.{below_grows, memory_of_grown}
use Rattle.schedule_states.proofs.Returning.{memory_before, text_before}
use Rattle.schedule_states.specs.Behind.{GoesOwnBy, IsFit}
use Rattle.schedule_states.specs.Claims.{claim_in}
use Rattle.schedule_states.specs.Covering.{CoversAt, IsMet, IsTaken, ReachedView, StandsAs}
use Rattle.schedule_states.specs.Ending.{LeadsTo}
use Rattle.schedule_states.specs.Happening.{IsLed, IsLedTo}
use Rattle.schedule_states.specs.HeldLines.{AreBelow}
use Rattle.schedule_states.specs.Memories.{IsMemoryOf}
use Rattle.schedule_states.specs.Onward.{AreKnownFrom, AreListedTurns, AreLookedFrom, IsFoundOf, IsFoundTurn, IsKnownTurn, IsListedTurn, IsTurnTo, only, with_memory}
use Rattle.schedule_states.specs.Reaching.{AreNumbered, AreThere, HaveGrown, WereBefore}
use Rattle.schedule_states.specs.StartLines.{StartView}
use Rattle.schedule_states.specs.States.{AreLists, IsHartOf, StandsFor, text_for}
use Rattle.schedule_states.specs.Successors.{HasLists}
use Rattle.schedule_states.specs.declared.claims.ClaimedLine.{ClaimedLine}
use Rattle.schedule_states.specs.declared.held_lines.HeldLine.{HeldLine}
use Rattle.schedule_states.specs.declared.program_state.HartPart.{HartPart}
use Rattle.schedule_states.specs.declared.program_state.ProgramState.{ProgramState}
use Rattle.schedule_states.specs.declared.program_state.StateNumbers.{StateNumbers}
use Rattle.schedule_states.specs.declared.looked.FoundTurn.{FoundTurn}
use Rattle.schedule_states.specs.declared.looked.FoundTurn.TheVariants as found
use Rattle.schedule_states.specs.declared.looked.ListedTurn.{ListedTurn}
use Rattle.schedule_states.specs.declared.looked.Looked.{Looked}
use Rattle.schedule_states.specs.declared.reached.Turn.{Turn}

-- Of the same states two others have grown: in the first one the list has the number of the memory, in the second one number n.
record AreOfList {T : Type 0} (old look new : ReachedView T) (numbers : StateNumbers) (n : ℕ) (held : List HeldLine) : Type 0 where
  pub lists : AreLists old.parts.table.states old.parts.lists
  pub looked : HaveGrown old look
  pub was_looked : WereBefore old.parts look.parts
  pub grown : HaveGrown old new
  pub was_grown : WereBefore old.parts new.parts
  pub others : (memory : ℕ) → memory < length old.parts.lists → AreThere old (with_memory numbers memory)
  pub found : slice_get look.parts.lists numbers.memory ≡ Some held
  pub below : AreBelow (length old.parts.table.states) held
  pub here : slice_get new.parts.lists n ≡ Some held

-- the state with the list of number n
abbrev with_list : ProgramState → ℕ → ProgramState
with_list s n = record { harts = s.harts; memory = n }

others_there : {T : Type 0} (old look new : ReachedView T) (numbers : StateNumbers) (n : ℕ) (held : List HeldLine) → AreOfList old look new numbers n held →
    AreThere old (with_memory numbers 0)
others_there old look new numbers n held are = are.others 0 (slice_get_within old.parts.lists 0 [] are.lists.first)

-- the part of a hart was there
part_before : {T : Type 0} (old look new : ReachedView T) (numbers : StateNumbers) (n : ℕ) (held : List HeldLine) (s : ProgramState) (t : T) (h : ℕ) (part : HartPart) →
    AreOfList old look new numbers n held → IsMet (only look numbers) 0 s t → slice_get s.harts.items h ≡ Some part →
    (slice_get old.hart_parts (slice_index_or numbers.harts h 0) ≡ Some part) × (part.text < length old.parts.lists)
part_before old look new numbers n held s t h part are met here =
    let there : AreThere old (with_memory numbers 0) = others_there old look new numbers n held are in
    let few : h < old.harts = omega (arith, slice_get_within s.harts.items h part here, met.count, are.looked.harts) in
    let known : (p : HartPart) × (slice_get old.hart_parts (slice_index_or numbers.harts h 0) ≡ Some p) × (p.text < length old.parts.lists) = there.harts h few in
    let mine : slice_get look.hart_parts (slice_index_or numbers.harts h 0) ≡ Some part =
    subst (λ (x : StateNumbers). slice_get look.hart_parts (slice_index_or x.harts h 0) ≡ Some part) (sym (same_Some numbers met.numbers met.found)) (met.each h part here) in
    let got : slice_get old.hart_parts (slice_index_or numbers.harts h 0) ≡ Some part =
    got_kept old.hart_parts look.hart_parts (slice_index_or numbers.harts h 0) part are.looked.hart_parts
    (slice_get_within old.hart_parts (slice_index_or numbers.harts h 0) known.0 known.1) mine in
    (got, subst (λ (p : HartPart). p.text < length old.parts.lists) (same_Some known.0 part (sym known.1 ∙ got)) known.2)

met_listed : {T : Type 0} (old look new : ReachedView T) (numbers : StateNumbers) (n : ℕ) (held : List HeldLine) (s : ProgramState) (t : T) → AreOfList old look new numbers n held →
    IsMet (only look numbers) 0 s t → IsMet (only new (with_memory numbers n)) 0 (with_list s n) t
met_listed old look new numbers n held s t are met =
    let there : AreThere old (with_memory numbers 0) = others_there old look new numbers n held are in
    let kept : slice_get look.standings numbers.standing ≡ Some t =
    subst (λ (x : StateNumbers). slice_get look.standings x.standing ≡ Some t) (sym (same_Some numbers met.numbers met.found)) met.standing in record {
      numbers = with_memory numbers n;
      found = refl;
      memory = refl;
      standing = are.grown.standings numbers.standing t (got_kept old.standings look.standings numbers.standing t are.looked.standings there.standing kept);
      count = met.count ∙ are.looked.harts ∙ sym are.grown.harts;
      each = λ h part here.
          let was : (slice_get old.hart_parts (slice_index_or numbers.harts h 0) ≡ Some part) × (part.text < length old.parts.lists) =
          part_before old look new numbers n held s t h part are met here in
          are.grown.hart_parts (slice_index_or numbers.harts h 0) part was.0;
    }

-- a state stands for the same by the number that its list has
stands_listed : {T : Type 0} (old look new : ReachedView T) (numbers : StateNumbers) (n : ℕ) (held : List HeldLine) (s : ProgramState) (t : T) (c : Config) →
    AreOfList old look new numbers n held → IsMet (only look numbers) 0 s t → StandsFor look.parts s c → StandsFor new.parts (with_list s n) c
stands_listed old look new numbers n held s t c are met stands =
    let memory : s.memory ≡ numbers.memory = met.memory ∙ ap (λ (x : StateNumbers). x.memory) (sym (same_Some numbers met.numbers met.found)) in
    let same : stands.held ≡ held = same_Some stands.held held (sym stands.found ∙ ap (λ (k : ℕ). slice_get look.parts.lists k) memory ∙ are.found) in
    let was : IsMemoryOf old.parts.table.start old.parts.table.states held (memory_in c.common) (history (trace_in c.common)) =
    memory_before old.parts.table.start old.parts.table.states look.parts.table.states held (memory_in c.common) (history (trace_in c.common)) are.looked.parts.table.grows are.below
    (subst (λ (start : StartView). IsMemoryOf start look.parts.table.states held (memory_in c.common) (history (trace_in c.common))) are.looked.parts.table.start
    (subst (λ (lines : List HeldLine). IsMemoryOf look.parts.table.start look.parts.table.states lines (memory_in c.common) (history (trace_in c.common))) same stands.memory)) in record {
      count = stands.count;
      few = stands.few;
      harts = λ h part own mine here.
          let of : IsHartOf look.parts c.common h part own = stands.harts h part own mine here in
          let low : (slice_get old.hart_parts (slice_index_or numbers.harts h 0) ≡ Some part) × (part.text < length old.parts.lists) =
          part_before old look new numbers n held s t h part are met mine in record {
            text = text_grown old.parts new.parts part.text (text_for c.common h) are.grown.parts
                (text_before old.parts look.parts part.text (text_for c.common h) are.looked.parts are.lists low.1 of.text);
            ahead = of.ahead;
            ready = of.ready;
            reserved = of.reserved;
          };
      held = held;
      found = are.here;
      memory = subst (λ (start : StartView). IsMemoryOf start new.parts.table.states held (memory_in c.common) (history (trace_in c.common))) (sym are.grown.parts.table.start)
          (memory_of_grown old.parts.table.start old.parts.table.states new.parts.table.states held (memory_in c.common) (history (trace_in c.common)) are.grown.parts.table.grows was);
    }

covers_listed : {T : Type 0} (stands : T → List Event → Type 0) (old look new : ReachedView T) (numbers : StateNumbers) (n : ℕ) (held : List HeldLine) (d : Config) →
    AreOfList old look new numbers n held → CoversAt stands (only look numbers) 0 d → CoversAt stands (only new (with_memory numbers n)) 0 d
covers_listed stands old look new numbers n held d are at =
    let met : IsMet (only look numbers) 0 at.0.state at.0.standing = subst (λ (k : ℕ). IsMet (only look numbers) k at.0.state at.0.standing) at.1 at.0.met in (
      record {
        state = with_list at.0.state n;
        standing = at.0.standing;
        number = 0;
        met = met_listed old look new numbers n held at.0.state at.0.standing are met;
        stands_as = (stands_listed old look new numbers n held at.0.state at.0.standing d are met at.0.stands_as.0, at.0.stands_as.1);
      },
      refl,
    )

taken_listed : {T : Type 0} (stands : T → List Event → Type 0) (old look new : ReachedView T) (numbers : StateNumbers) (n : ℕ) (held : List HeldLine) (t : T) (h : ℕ) (c d : Config)
    (request : Request) → AreOfList old look new numbers n held → IsTaken stands (only look numbers) t h 0 c d request → IsTaken stands (only new (with_memory numbers n)) t h 0 c d request
unfolding covers_listed
taken_listed stands old look new numbers n held t h c d request are taken =
    let same : look.parts.claims ≡ new.parts.claims = are.looked.parts.claims ∙ sym are.grown.parts.claims in record {
      fits = subst (λ (claims : List ClaimedLine). IsFit (claim_in claims) h request) same taken.fits;
      steps = taken.steps;
      end = taken.end;
      goes = subst (λ (claims : List ClaimedLine). GoesOwnBy (claim_in claims) h taken.steps d taken.end) same taken.goes;
      none = λ none. taken.none (same ∙ none);
      at = covers_listed stands old look new numbers n held taken.end are taken.at;
      kept = taken.kept;
    }

-- what the state stands for by what has grown it stands for in the tables of the look
stands_looked : {T : Type 0} (stands : T → List Event → Type 0) (old look new : ReachedView T) (numbers : StateNumbers) (n : ℕ) (held : List HeldLine) (s : ProgramState) (t : T) (c : Config) →
    AreOfList old look new numbers n held → HasLists old.parts s → StandsAs stands new.parts s t c → StandsAs stands look.parts s t c
stands_looked stands old look new numbers n held s t c are lists stands_as =
    (stands_grown old.parts look.parts s c are.looked.parts (are.was_grown s c lists stands_as.0), stands_as.1)

led_listed : {T : Type 0} (stands : T → List Event → Type 0) (allows : List Event → ℕ → Type 0) (old look new : ReachedView T) (numbers : StateNumbers) (n : ℕ) (held : List HeldLine) →
    AreOfList old look new numbers n held → IsLedTo stands allows (only look numbers) 0 → IsLedTo stands allows (only new (with_memory numbers n)) 0
led_listed stands allows old look new numbers n held are is =
    let start : look.parts.table.start ≡ new.parts.table.start = are.looked.parts.table.start ∙ sym are.grown.parts.table.start in
    let harts : look.harts ≡ new.harts = are.looked.harts ∙ sym are.grown.harts in
    let same : started look.parts.table.start.program look.parts.table.start.medium look.harts ≡ started new.parts.table.start.program new.parts.table.start.medium new.harts =
    ap (λ (start : StartView). started start.program start.medium look.harts) start
    ∙ ap (λ (harts : ℕ). started new.parts.table.start.program new.parts.table.start.medium harts) harts in record {
      state = with_list is.state n;
      standing = is.standing;
      met = met_listed old look new numbers n held is.state is.standing are is.met;
      led_as = record {
        end = is.led_as.end;
        led = subst (λ (start : Config). IsLed allows start is.led_as.end) same is.led_as.led;
        stands_as = (stands_listed old look new numbers n held is.state is.standing is.led_as.end are is.met is.led_as.stands_as.0, is.led_as.stands_as.1);
      };
    }

there_listed : {T : Type 0} (old look new : ReachedView T) (numbers : StateNumbers) (n : ℕ) (held : List HeldLine) → AreOfList old look new numbers n held →
    AreThere new (with_memory numbers n)
there_listed old look new numbers n held are =
    let there : AreThere old (with_memory numbers 0) = others_there old look new numbers n held are in
    let kept : AreThere new (with_memory numbers 0) = numbers_there old new (with_memory numbers 0) are.grown there in record {
      memory = slice_get_within new.parts.lists n held are.here;
      standing = kept.standing;
      harts = kept.harts;
    }

-- so a turn leads there
turn_listed : {T : Type 0} (stands : T → List Event → Type 0) (allows : List Event → ℕ → Type 0) (old look new : ReachedView T) (numbers : StateNumbers) (n : ℕ) (held : List HeldLine)
    (s : ProgramState) (t : T) (h : ℕ) → AreOfList old look new numbers n held → HasLists old.parts s → IsTurnTo stands allows look s t h (Some numbers) →
    IsTurnTo stands allows new s t h (Some (with_memory numbers n))
turn_listed stands allows old look new numbers n held s t h are lists turn = record {
  there = there_listed old look new numbers n held are;
  turn = (
    λ c d stands_as may asks. taken_listed stands old look new numbers n held t h c d asks.request are
        (turn.turn.0 c d (stands_looked stands old look new numbers n held s t c are lists stands_as) may asks),
    record {
      there = omega arith;
      leads = λ c stands_as.
          let on : LeadsTo stands (only look numbers) c 0 = turn.turn.1.leads c (stands_looked stands old look new numbers n held s t c are lists stands_as) in
          record { steps = on.steps; end = on.end; runs = on.runs; covers = covers_listed stands old look new numbers n held on.end are on.covers };
    },
  );
  led = λ led. led_listed stands allows old look new numbers n held are
      (turn.led (led_as_kept stands allows old look s t are.looked (led_as_before stands allows old new s t lists are.grown are.was_grown led)));
}

-- the memory to which a turn leads is there
pub turn_there : {T : Type 0} (stands : T → List Event → Type 0) (allows : List Event → ℕ → Type 0) (r : ReachedView T) (s : ProgramState) (t : T) (h : ℕ) (next : Option StateNumbers) →
    IsTurnTo stands allows r s t h next → IfSome next (λ numbers. numbers.memory < length r.parts.lists)
turn_there stands allows r s t h (Some numbers) turn = turn.there.memory
turn_there stands allows r s t h None turn = tt

-- what a look finds of a turn
pub known_found : {T : Type 0} (stands : T → List Event → Type 0) (allows : List Event → ℕ → Type 0) (old look : ReachedView T) (s : ProgramState) (t : T) (h : ℕ)
    (next : Option StateNumbers) (turn : FoundTurn) → AreNumbered old → AreLists old.parts.table.states old.parts.lists → HasLists old.parts s → HaveGrown old look →
    WereBefore old.parts look.parts → IsFoundOf old look.parts h next turn → IsTurnTo stands allows look s t h next → IsFoundTurn stands allows old s t h turn
known_found stands allows old look s t h next (found.Known turn) are lists has grown before placed is = known_of_placed stands allows old look s t h next turn are grown before placed is
known_found stands allows old look s t h (Some numbers) (found.Listed listed) are lists has looked was_looked of is = (
  of.0.hart,
  record {
    below = of.0.below;
    leads = λ new n grown before here.
        let both : AreOfList old look new numbers n listed.list.items = record {
          lists = lists;
          looked = looked;
          was_looked = was_looked;
          grown = grown;
          was_grown = before;
          others = of.0.others;
          found = of.0.list;
          below = of.0.below;
          here = here;
        } in
        subst (λ (k : ℕ). IsTurnTo stands allows new s t k (Some (with_memory listed.numbers n))) (sym of.0.hart)
        (subst (λ (x : StateNumbers). IsTurnTo stands allows new s t h (Some (with_memory x n))) (sym of.0.numbers_are)
        (turn_listed stands allows old look new numbers n listed.list.items s t h both has is));
  },
)
known_found stands allows old look s t h None (found.Listed listed) are lists has grown before of is = absurd cc

-- what is found of a turn, by its form
pub found_known : {T : Type 0} (stands : T → List Event → Type 0) (allows : List Event → ℕ → Type 0) (r : ReachedView T) (s : ProgramState) (t : T) (h : ℕ) (turn : FoundTurn) (known : Turn) →
    turn ≡ found.Known known → IsFoundTurn stands allows r s t h turn → IsKnownTurn stands allows r s t h known
found_known stands allows r s t h turn known same is = subst (λ (x : FoundTurn). IsFoundTurn stands allows r s t h x) same is

-- one more is such a turn
pub listed_pushed : {T : Type 0} (stands : T → List Event → Type 0) (allows : List Event → ℕ → Type 0) (r : ReachedView T) (s : ProgramState) (t : T) (h : ℕ) (turn : FoundTurn) (listed : ListedTurn)
    (turns : List ListedTurn) → turn ≡ found.Listed listed → IsFoundTurn stands allows r s t h turn → AreListedTurns stands allows r s t turns →
    AreListedTurns stands allows r s t (turns ++ listed ∷ [])
listed_pushed stands allows r s t h turn listed turns same is are =
    let one : IsFoundTurn stands allows r s t h (found.Listed listed) = subst (λ (x : FoundTurn). IsFoundTurn stands allows r s t h x) same is in
    each_pushed (λ n x. IsListedTurn stands allows r s t x) turns listed are one.1

-- it stays so as the parts grow
pub listed_kept : {T : Type 0} (stands : T → List Event → Type 0) (allows : List Event → ℕ → Type 0) (old new : ReachedView T) (s : ProgramState) (t : T) (listed : ListedTurn) →
    HaveGrown old new → WereBefore old.parts new.parts → IsListedTurn stands allows old s t listed → IsListedTurn stands allows new s t listed
listed_kept stands allows old new s t listed grown before is = record {
  below = below_grows old.parts.table.states new.parts.table.states listed.list.items grown.parts.table.grows is.below;
  leads = λ later n more still here. is.leads later n (grown_twice old new later grown more) (before_twice old.parts new.parts later.parts grown.parts before still) here;
}

looked_kept : {T : Type 0} (stands : T → List Event → Type 0) (allows : List Event → ℕ → Type 0) (ends : Status → Type 0) (old new : ReachedView T) (n : ℕ) (looked : Looked) →
    AreNumbered old → HaveGrown old new → WereBefore old.parts new.parts → AreLookedFrom stands allows ends old n looked → AreLookedFrom stands allows ends new n looked
unfolding turns_from_kept
looked_kept stands allows ends old new n looked are grown before is = record {
  turns = turns_from_kept stands allows ends old new n looked.turns are grown before is.turns;
  listed = λ k one found. listed_kept stands allows old new is.turns.state is.turns.standing one grown before (is.listed k one found);
}

-- turns that are known of states behind one another
pub known_none : {T : Type 0} (stands : T → List Event → Type 0) (allows : List Event → ℕ → Type 0) (ends : Status → Type 0) (r : ReachedView T) (first : ℕ)
    (known : List (Option Looked)) → known ≡ [] → AreKnownFrom stands allows ends r first known
known_none stands allows ends r first known none n looked found =
    let here : slice_get [] n ≡ Some (Some looked) = rw none at found in absurd cc

pub known_kept : {T : Type 0} (stands : T → List Event → Type 0) (allows : List Event → ℕ → Type 0) (ends : Status → Type 0) (old new : ReachedView T) (first : ℕ)
    (known : List (Option Looked)) → AreNumbered old → HaveGrown old new → WereBefore old.parts new.parts → AreKnownFrom stands allows ends old first known →
    AreKnownFrom stands allows ends new first known
known_kept stands allows ends old new first known are grown before is n looked found = looked_kept stands allows ends old new (first + n) looked are grown before (is n looked found)

pub known_of : {T : Type 0} (stands : T → List Event → Type 0) (allows : List Event → ℕ → Type 0) (ends : Status → Type 0) (r : ReachedView T) (first number : ℕ)
    (known : List (Option Looked)) (looked : Looked) → AreKnownFrom stands allows ends r first known →
    (n : ℕ) × (first + n ≡ number) × (slice_get known n ≡ Some (Some looked)) → AreLookedFrom stands allows ends r number looked
known_of stands allows ends r first number known looked is at =
    subst (λ (k : ℕ). AreLookedFrom stands allows ends r k looked) at.1 (is at.0 looked at.2)
