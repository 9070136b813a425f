-- States from which what each request leads to is covered.
use Rattle.std.proofs.Common.{◌≡◌, inl, inr, ℕ, ◌+◌, ◌<◌, ◌≤◌, List, Some, length, slice_get, slice_index_or, sym, ap, ◌∙◌, subst, arith}
use Rattle.std.proofs.lemmas.Bool.{cases_eq}
use Rattle.std.proofs.lemmas.List.{same_lists}
use Rattle.std.proofs.lemmas.Option.{same_Some, slice_get-get_or, slice_get_within}
use Rattle.hart.specs.declared.need.Request.{Request}
use Rattle.hart.specs.declared.state.Status.{Status}
use Rattle.machine.specs.Replies.{trace_in}
use Rattle.machine.specs.Run.{Config}
use Rattle.store_trace.specs.declared.event.Event.{Event}
use Rattle.schedule_states.proofs.Covering.{stands_grown, stands_same}
use Rattle.schedule_states.proofs.Growing.{grown_then}
use Rattle.schedule_states.proofs.Looking.{got_kept}
use Rattle.schedule_states.proofs.Numbering.{lists_kept, lists_of_met, met_kept}
use Rattle.schedule_states.specs.Behind.{GoesOwnBy, IsFit}
use Rattle.schedule_states.specs.Claims.{claim_in}
use Rattle.schedule_states.specs.Covering.{CoversAt, IsClosed, IsClosedAt, IsClosedBelow, IsMet, IsTaken, PartsEndWell, ReachedView}
use Rattle.schedule_states.specs.Reaching.{AreNumbered, AreThere, HaveGrown, IsClosedBy, IsClosedFor, WereBefore}
use Rattle.schedule_states.specs.States.{AreGrown, PartsView}
use Rattle.schedule_states.specs.Successors.{HasLists}
use Rattle.schedule_states.specs.declared.claims.ClaimedLine.{ClaimedLine}
use Rattle.schedule_states.specs.declared.program_state.HartPart.{HartPart}
use Rattle.schedule_states.specs.declared.program_state.ProgramState.{ProgramState}
use Rattle.schedule_states.specs.declared.program_state.StateNumbers.{StateNumbers}

pub grown_twice : {T : Type 0} (a b c : ReachedView T) → HaveGrown a b → HaveGrown b c → HaveGrown a c
grown_twice a b c one two = record {
  parts = grown_then a.parts b.parts c.parts one.parts two.parts;
  hart_parts = λ n value found. two.hart_parts n value (one.hart_parts n value found);
  standings = λ n value found. two.standings n value (one.standings n value found);
  states = λ n value found. two.states n value (one.states n value found);
  harts = two.harts ∙ one.harts;
}

pub before_twice : (a b c : PartsView) → AreGrown a b → WereBefore a b → WereBefore b c → WereBefore a c
before_twice a b c grown one two s k lists stands = one s k lists (two s k (lists_kept a b s grown lists) stands)

-- what the state of a number stands for
pub covers_at_kept : {T : Type 0} (stands : T → List Event → Type 0) (old new : ReachedView T) (n : ℕ) (d : Config) → HaveGrown old new → CoversAt stands old n d → CoversAt stands new n d
covers_at_kept stands old new n d grown at = (
  record {
    state = at.0.state;
    standing = at.0.standing;
    number = at.0.number;
    met = met_kept old new at.0.number at.0.state at.0.standing grown at.0.met;
    stands_as = (stands_grown old.parts new.parts at.0.state d grown.parts at.0.stands_as.0, at.0.stands_as.1);
  },
  at.1,
)

pub taken_kept : {T : Type 0} (stands : T → List Event → Type 0) (old new : ReachedView T) (t : T) (h n : ℕ) (c d : Config) (request : Request) → HaveGrown old new →
    IsTaken stands old t h n c d request → IsTaken stands new t h n c d request
unfolding covers_at_kept
taken_kept stands old new t h n c d request grown taken = record {
  fits = subst (λ (claims : List ClaimedLine). IsFit (claim_in claims) h request) (sym grown.parts.claims) taken.fits;
  steps = taken.steps;
  end = taken.end;
  goes = subst (λ (claims : List ClaimedLine). GoesOwnBy (claim_in claims) h taken.steps d taken.end) (sym grown.parts.claims) taken.goes;
  none = λ none. taken.none (sym grown.parts.claims ∙ none);
  at = covers_at_kept stands old new n taken.end grown taken.at;
  kept = taken.kept;
}

pub closed_more : {T : Type 0} (stands : T → List Event → Type 0) (allows : List Event → ℕ → Type 0) (old new : ReachedView T) (s : ProgramState) (t : T) (count : ℕ) →
    IsClosedFor stands allows old s t count → HasLists old.parts s → HaveGrown old new → WereBefore old.parts new.parts → IsClosedBy stands allows new s t count →
    IsClosedFor stands allows new s t (count + 1)
closed_more stands allows old new s t count closed lists grown before here h few = elim (cases_eq h count) [
  | inl same ↦ subst (λ (k : ℕ). IsClosedBy stands allows new s t k) (sym same) here
  | inr other ↦ λ c d stands_as may asks.
      let was : (n : ℕ) × IsTaken stands old t h n c d asks.request = closed h (omega (arith, few, other)) c d (before s c lists stands_as.0, stands_as.1) may asks in
      (was.0, taken_kept stands old new t h was.0 c d asks.request grown was.1)
]

-- two states of the same number have the same parts
numbers_once : {T : Type 0} (r : ReachedView T) (n : ℕ) (s u : ProgramState) (t v : T) (a : IsMet r n s t) (b : IsMet r n u v) → a.numbers ≡ b.numbers
numbers_once r n s u t v a b = same_Some a.numbers b.numbers (sym a.found ∙ b.found)

pub same_harts : {T : Type 0} (r : ReachedView T) (n : ℕ) (s u : ProgramState) (t v : T) → IsMet r n s t → IsMet r n u v → u.harts.items ≡ s.harts.items
same_harts r n s u t v a b = same_lists u.harts.items s.harts.items (b.count ∙ sym a.count) (λ h d few.
    let one : slice_get r.hart_parts (slice_index_or b.numbers.harts h 0) ≡ Some (slice_index_or u.harts.items h d) =
    b.each h (slice_index_or u.harts.items h d) (slice_get-get_or u.harts.items h d few) in
    let other : slice_get r.hart_parts (slice_index_or b.numbers.harts h 0) ≡ Some (slice_index_or s.harts.items h d) =
    ap (λ (x : StateNumbers). slice_get r.hart_parts (slice_index_or x.harts h 0)) (sym (numbers_once r n s u t v a b))
    ∙ a.each h (slice_index_or s.harts.items h d) (slice_get-get_or s.harts.items h d (omega (arith, few, a.count, b.count))) in
    same_Some (slice_index_or u.harts.items h d) (slice_index_or s.harts.items h d) (sym one ∙ other))

pub same_memory : {T : Type 0} (r : ReachedView T) (n : ℕ) (s u : ProgramState) (t v : T) → IsMet r n s t → IsMet r n u v → u.memory ≡ s.memory
same_memory r n s u t v a b = b.memory ∙ ap (λ (x : StateNumbers). x.memory) (sym (numbers_once r n s u t v a b)) ∙ sym a.memory

pub same_standing : {T : Type 0} (r : ReachedView T) (n : ℕ) (s u : ProgramState) (t v : T) → IsMet r n s t → IsMet r n u v → v ≡ t
same_standing r n s u t v a b =
    let one : slice_get r.standings a.numbers.standing ≡ Some v =
    ap (λ (x : StateNumbers). slice_get r.standings x.standing) (numbers_once r n s u t v a b) ∙ b.standing in
    same_Some v t (sym one ∙ a.standing)

pub closed_at : {T : Type 0} (stands : T → List Event → Type 0) (allows : List Event → ℕ → Type 0) (ends : Status → Type 0) (r : ReachedView T) (n : ℕ)
    (s : ProgramState) (t : T) → IsMet r n s t → IsClosedFor stands allows r s t r.harts → PartsEndWell ends s.harts.items → IsClosedAt stands allows ends r n
closed_at {T} stands allows ends r n s t met closed well = record {
  covered = λ h u v c d other few stands_as may asks.
      subst (λ (x : T). (k : ℕ) × IsTaken stands r x h k c d asks.request) (sym (same_standing r n s u t v met other)) (closed h few c d (
        stands_same r.parts u s c (same_harts r n u s v t other met) (same_memory r n u s v t other met) stands_as.0,
        subst (λ (x : T). stands x (trace_in c.common)) (sym (same_standing r n u s v t other met)) stands_as.1,
      ) may asks);
  ended = λ u v other. subst (λ (parts : List HartPart). PartsEndWell ends parts) (sym (same_harts r n s u t v met other)) well;
}

pub met_before : {T : Type 0} (old new : ReachedView T) (n : ℕ) (s : ProgramState) (t : T) → AreNumbered old → HaveGrown old new → n < length old.states →
    IsMet new n s t → IsMet old n s t
met_before old new n s t are grown there met =
    let found : slice_get old.states n ≡ Some met.numbers = got_kept old.states new.states n met.numbers grown.states there met.found in
    let parts : AreThere old met.numbers = are.each n met.numbers found in record {
      numbers = met.numbers;
      found = found;
      memory = met.memory;
      standing = got_kept old.standings new.standings met.numbers.standing t grown.standings parts.standing met.standing;
      count = met.count ∙ grown.harts;
      each = λ h part here.
          let few : h < old.harts = omega (arith, slice_get_within s.harts.items h part here, met.count, grown.harts) in
          let known : (p : HartPart) × (slice_get old.hart_parts (slice_index_or met.numbers.harts h 0) ≡ Some p) × (p.text < length old.parts.lists) = parts.harts h few in
          let mine : slice_get new.hart_parts (slice_index_or met.numbers.harts h 0) ≡ Some known.0 =
          grown.hart_parts (slice_index_or met.numbers.harts h 0) known.0 known.1 in
          known.1 ∙ sym mine ∙ met.each h part here;
    }

pub closed_still : {T : Type 0} (stands : T → List Event → Type 0) (allows : List Event → ℕ → Type 0) (ends : Status → Type 0) (old new : ReachedView T) (n : ℕ) →
    AreNumbered old → HaveGrown old new → WereBefore old.parts new.parts → n < length old.states → IsClosedAt stands allows ends old n → IsClosedAt stands allows ends new n
closed_still stands allows ends old new n are grown before there closed = record {
  covered = λ h s t c d met few stands_as may asks.
      let was : IsMet old n s t = met_before old new n s t are grown there met in
      let lists : HasLists old.parts s = lists_of_met old n s t was (are.each n was.numbers was.found) in
      let near : h < old.harts = omega (arith, few, grown.harts) in
      let taken : (k : ℕ) × IsTaken stands old t h k c d asks.request = closed.covered h s t c d was near (before s c lists stands_as.0, stands_as.1) may asks in
      (taken.0, taken_kept stands old new t h taken.0 c d asks.request grown taken.1);
  ended = λ s t met. closed.ended s t (met_before old new n s t are grown there met);
}

pub closed_next : {T : Type 0} (stands : T → List Event → Type 0) (allows : List Event → ℕ → Type 0) (ends : Status → Type 0) (old new : ReachedView T) (count : ℕ) →
    IsClosedBelow stands allows ends old count → count < length old.states → IsClosedAt stands allows ends new count →
    ((n : ℕ) → n < length old.states → IsClosedAt stands allows ends old n → IsClosedAt stands allows ends new n) → IsClosedBelow stands allows ends new (count + 1)
closed_next stands allows ends old new count closed there here still n few = elim (cases_eq n count) [
  | inl same ↦ subst (λ (k : ℕ). IsClosedAt stands allows ends new k) (sym same) here
  | inr other ↦ still n (omega (arith, few, there)) (closed n (omega (arith, few, other)))
]

pub closed_all : {T : Type 0} (stands : T → List Event → Type 0) (allows : List Event → ℕ → Type 0) (ends : Status → Type 0) (r : ReachedView T) (count : ℕ) →
    IsClosedBelow stands allows ends r count → length r.states ≤ count → IsClosed stands allows ends r
closed_all stands allows ends r count closed few n there = closed n (omega (arith, few, there))
