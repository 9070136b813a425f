-- Whatever a power cut leaves is an image of a state.
use Rattle.std.proofs.Common.{◌≡◌, ◌⊎◌, inl, inr, ℕ, suc, ◌+◌, ◌<◌, ◌≤◌, List, [], ◌∷◌, ◌++◌, Option, Some, None, option_and_then, length, slice_get, slice_index_or, refl, sym, ap, ◌∙◌, subst, arith}
use Rattle.std.specs.Prelude.{get_or}
use Rattle.std.specs.List.{Contains}
use Rattle.std.proofs.lemmas.Bool.{cases_lt}
use Rattle.std.proofs.lemmas.Option.{same_Some, slice_get_within}
use Rattle.hart.specs.declared.state.Status.{Status}
use Rattle.line_memory.specs.Lines.{line_at}
use Rattle.line_memory.specs.Memory.{Memory}
use Rattle.machine.specs.Replies.{memory_in, trace_in}
use Rattle.machine.specs.Run.{started}
use Rattle.program.specs.Sections.{Sections}
use Rattle.store_trace.proofs.Members.{contains_cases, no_members}
use Rattle.store_trace.specs.Cut.{IsWithin}
use Rattle.store_trace.specs.History.{history}
use Rattle.store_trace.specs.Image.{image, line_after, lines_after}
use Rattle.store_trace.specs.Stores.{stores}
use Rattle.store_trace.specs.declared.event.Event.{Event}
use Rattle.store_trace.specs.declared.crash_model.step.PersistenceStep.{PersistenceStep}
use Rattle.schedule_states.proofs.Covering.{covers_run, ended_well}
use Rattle.schedule_states.proofs.Looking.{got_appended, got_kept, longer_kept, within_kept}
use Rattle.schedule_states.proofs.Held.{number_on_medium}
use Rattle.schedule_states.proofs.Media.{media_kept}
use Rattle.schedule_states.proofs.Putting.{state_kept}
use Rattle.schedule_states.specs.Contents.{MayHold}
use Rattle.schedule_states.specs.Covering.{Covers, IsClosed, ReachedView}
use Rattle.schedule_states.specs.Exploring.{IfAll, IfNoWayOut, IsAll, IsFinal, IsFound, LeadByHarts}
use Rattle.schedule_states.specs.Happening.{full_image}
use Rattle.schedule_states.specs.HeldLines.{AreBelow, on_medium}
use Rattle.schedule_states.specs.Images.{content_of, highest_in, image_from, image_in, line_in, others_of}
use Rattle.schedule_states.specs.Judged.{AreJudged}
use Rattle.schedule_states.specs.Judging.{AlwaysGood, AreGoodBelow, AreGoodImages, AreGoodMoments, IsGoodMoment, IsGoodState, LeavesGood, StaysGood}
use Rattle.schedule_states.specs.LineStates.{unfenced}
use Rattle.schedule_states.specs.Media.{AreOnMedium, IsOnMedium, MediaView}
use Rattle.schedule_states.specs.Memories.{IsLineOf, IsMemoryOf, MemoryView}
use Rattle.schedule_states.specs.Numbers.{AreKept}
use Rattle.schedule_states.specs.Reaching.{AreNumbered, AreThere, HaveGrown}
use Rattle.schedule_states.specs.StartLines.{StartView}
use Rattle.schedule_states.specs.States.{AreGrown, AreLists, PartsView}
use Rattle.schedule_states.specs.declared.exploring.Explored.{Explored}
use Rattle.schedule_states.specs.declared.exploring.Explored.TheVariants as known
use Rattle.schedule_states.specs.declared.held_lines.HeldLine.{HeldLine}
use Rattle.schedule_states.specs.declared.line_state.Content.{Content}
use Rattle.schedule_states.specs.declared.line_state.LineState.{LineState}
use Rattle.schedule_states.specs.declared.moments.Judged.{Judged}
use Rattle.schedule_states.specs.declared.moments.Moment.{Moment}
use Rattle.schedule_states.specs.declared.program_state.StateNumbers.{StateNumbers}

-- a content has a number among the others
place_of : (others : List Content) (content d : Content) → Contains others content → (n : ℕ) × (n < length others) × (slice_index_or others n d ≡ content)
place_of [] content d among = absurd (no_members content among)
place_of (c ∷ others) content d among = elim (contains_cases c others content among) [
  | inl first ↦ (0, omega arith, first)
  | inr later ↦ let rest : (n : ℕ) × (n < length others) × (slice_index_or others n d ≡ content) = place_of others content d later in
      (suc rest.0, omega (arith, rest.1), rest.2)
]

-- what the medium may hold in a line is one of its contents
content_held : (start : List ℕ) (l : ℕ) (p : List PersistenceStep) (held : Option LineState) (bytes : List ℕ) → IsLineOf start l p held → MayHold start l p bytes →
    (n : ℕ) × (n ≤ length (others_of held)) × (bytes ≡ content_of start held n)
content_held start l p (Some s) bytes is may = elim ((is.now bytes).0 may) [
  | inl current ↦ (0, omega arith, current)
  | inr kept ↦
      let place : (n : ℕ) × (n < length s.others.items) × (slice_index_or s.others.items n (unfenced s.bytes) ≡ kept.content) =
      place_of s.others.items kept.content (unfenced s.bytes) kept.among in
      (suc place.0, omega (arith, place.1), sym kept.is ∙ ap (λ (c : Content). c.bytes) (sym place.2))
]
content_held start l p None bytes is may = elim ((is.now bytes).0 may) [
  | inl current ↦ (0, omega arith, current)
  | inr kept ↦ absurd (no_members kept.content kept.among)
]

-- so is what a power cut leaves of it
pub content_left : (m : MemoryView) (memory : Memory) (p : List PersistenceStep) (k : ℕ → ℕ) → IsMemoryOf m.start m.states m.held memory p → IsWithin p k → (l : ℕ) →
    (n : ℕ) × (n ≤ highest_in m l) × (l < length m.start.medium → line_after (line_at m.start.medium l) l (k l) p ≡ content_of (line_at m.start.medium l) (line_in m l) n)
content_left m memory p k of bounds l = elim (cases_lt l (length m.start.medium)) [
  | inl there ↦
      let found : (n : ℕ) × (n ≤ length (others_of (line_in m l))) × (line_after (line_at m.start.medium l) l (k l) p ≡ content_of (line_at m.start.medium l) (line_in m l) n) =
      content_held (line_at m.start.medium l) l p (line_in m l) (line_after (line_at m.start.medium l) l (k l) p) (of.lines l there)
      (record { count = k l; low = bounds.low l; high = bounds.high l; bytes = refl }) in
      (found.0, found.1, λ h. found.2)
  | inr past ↦ (0, omega arith, λ h. absurd (omega (arith, h, past)))
]

pub same_lines : (m : MemoryView) (k n : ℕ → ℕ) (p : List PersistenceStep) (i : ℕ) (lines : List (List ℕ)) →
    ((l : ℕ) → l < length lines → line_after (get_or lines l []) (i + l) (k (i + l)) p ≡ content_of (get_or lines l []) (line_in m (i + l)) (n (i + l))) →
    lines_after i lines k p ≡ image_from m n i lines
same_lines m k n p i [] same = refl
same_lines m k n p i (line ∷ lines) same =
    let here : i + 0 ≡ i = omega arith in
    let first : line_after line i (k i) p ≡ content_of line (line_in m i) (n i) = rw here at (same 0 (omega arith)) in
    let rest : lines_after (suc i) lines k p ≡ image_from m n (suc i) lines = same_lines m k n p (suc i) lines (λ l there.
    let next : i + suc l ≡ suc i + l = omega arith in
    rw next at (same (suc l) (omega (arith, there)))) in
    ap (λ (x : List ℕ). x ∷ lines_after (suc i) lines k p) first ∙ ap (λ (xs : List (List ℕ)). content_of line (line_in m i) (n i) ∷ xs) rest

-- the full image of a state is that of the run that leads to it
full_line : (m : MemoryView) (l : ℕ) (p : List PersistenceStep) (held : Option LineState) (start : List ℕ) → IsLineOf start l p held →
    content_of start held 0 ≡ line_after start l (stores l p) p
full_line m l p (Some s) start is = is.bytes
full_line m l p None start is = is.bytes

full_lines : (m : MemoryView) (p : List PersistenceStep) (i : ℕ) (lines : List (List ℕ)) →
    ((l : ℕ) → l < length lines → IsLineOf (get_or lines l []) (i + l) p (line_in m (i + l))) →
    lines_after i lines (λ l. stores l p) p ≡ image_from m (λ l. 0) i lines
full_lines m p i [] are = refl
full_lines m p i (line ∷ lines) are =
    let here : i + 0 ≡ i = omega arith in
    let first : IsLineOf line i p (line_in m i) = rw here at (are 0 (omega arith)) in
    let rest : lines_after (suc i) lines (λ l. stores l p) p ≡ image_from m (λ l. 0) (suc i) lines = full_lines m p (suc i) lines (λ l there.
    let next : i + suc l ≡ suc i + l = omega arith in
    rw next at (are (suc l) (omega (arith, there)))) in
    ap (λ (x : List ℕ). x ∷ lines_after (suc i) lines (λ l. stores l p) p) (sym (full_line m i p (line_in m i) line first))
    ∙ ap (λ (xs : List (List ℕ)). content_of line (line_in m i) 0 ∷ xs) rest

pub full_is : (m : MemoryView) (memory : Memory) (events : List Event) → IsMemoryOf m.start m.states m.held memory (history events) →
    full_image m.start.medium events ≡ image_in m (λ l. 0)
full_is m memory events of = full_lines m (history events) 0 m.start.medium (λ l there.
    let same : 0 + l ≡ l = omega arith in
    rw same (of.lines l there))

-- what a power cut leaves of the memory is good where each image is
pub leaves_good : {T : Type 0} (stands : T → List Event → Type 0) (good : List Event → List (List ℕ) → List (List ℕ) → Type 0) (m : MemoryView) (memory : Memory) (t : T) (events : List Event) →
    IsMemoryOf m.start m.states m.held memory (history events) → AreGoodImages stands good m t → stands t events → LeavesGood good m.start.medium events
leaves_good stands good m memory t events of are kept k bounds =
    let choice : (l : ℕ) → (n : ℕ) × (n ≤ highest_in m l)
    × (l < length m.start.medium → line_after (line_at m.start.medium l) l (k l) (history events) ≡ content_of (line_at m.start.medium l) (line_in m l) n) =
    content_left m memory (history events) k of bounds in
    let same : image m.start.medium k (history events) ≡ image_in m (λ l. (choice l).0) =
    same_lines m k (λ l. (choice l).0) (history events) 0 m.start.medium (λ l there.
    let same : 0 + l ≡ l = omega arith in
    rw same ((choice l).2 there)) in
    subst (λ (full : List (List ℕ)). good events full (image m.start.medium k (history events))) (sym (full_is m memory events of))
    (subst (λ (left : List (List ℕ)). good events (image_in m (λ l. 0)) left) (sym same) (are events (λ l. (choice l).0) kept (λ l. (choice l).1)))

-- a moment stays good as the parts grow
abbrev pub view_of : PartsView → List HeldLine → MemoryView
view_of parts held = record { start = parts.table.start; states = parts.table.states; held = held }

same_images : (m n : MemoryView) (k : ℕ → ℕ) (i : ℕ) (lines : List (List ℕ)) → ((l : ℕ) → line_in n l ≡ line_in m l) → image_from n k i lines ≡ image_from m k i lines
same_images m n k i [] same = refl
same_images m n k i (line ∷ lines) same =
    ap (λ (s : Option LineState). content_of line s (k i) ∷ image_from n k (suc i) lines) (same i)
    ∙ ap (λ (xs : List (List ℕ)). content_of line (line_in m i) (k i) ∷ xs) (same_images m n k (suc i) lines same)

-- an image of one memory is good where it is as an image of another that has the same images
good_same : (good : List Event → List (List ℕ) → List (List ℕ) → Type 0) (events : List Event) (one other : MemoryView) (k : ℕ → ℕ) →
    ((k : ℕ → ℕ) → image_in other k ≡ image_in one k) → good events (image_in one (λ l. 0)) (image_in one k) → good events (image_in other (λ l. 0)) (image_in other k)
good_same good events one other k same is =
    subst (λ (full : List (List ℕ)). good events full (image_in other k)) (sym (same (λ l. 0)))
    (subst (λ (left : List (List ℕ)). good events (image_in one (λ l. 0)) left) (sym (same k)) is)

images_kept : {T : Type 0} (stands : T → List Event → Type 0) (good : List Event → List (List ℕ) → List (List ℕ) → Type 0) (old new : PartsView) (held : List HeldLine) (t : T) → AreGrown old new →
    AreBelow (length old.table.states) held → AreGoodImages stands good (view_of old held) t → AreGoodImages stands good (view_of new held) t
images_kept stands good old new held t grown below are events k kept choice =
    let same : (l : ℕ) → line_in (view_of new held) l ≡ line_in (view_of old held) l =
    λ l. state_kept old.table.states new.table.states held (16777216 + l) grown.table.grows below in
    let image_is : (k : ℕ → ℕ) → image_in (view_of new held) k ≡ image_in (view_of old held) k =
    λ k. ap (λ (s : StartView). image_from (view_of new held) k 0 s.medium) grown.table.start
    ∙ same_images (view_of old held) (view_of new held) k 0 old.table.start.medium same in
    good_same good events (view_of old held) (view_of new held) k image_is
    (are events k kept (λ l. subst (λ (s : Option LineState). k l ≤ length (others_of s)) (same l) (choice l)))

moment_kept : {T : Type 0} (stands : T → List Event → Type 0) (good : List Event → List (List ℕ) → List (List ℕ) → Type 0) (old new : ReachedView T) (before after : List (List HeldLine))
    (memory standing : ℕ) → HaveGrown old new → AreKept before after → ((n : ℕ) (held : List HeldLine) → slice_get before n ≡ Some held → AreBelow (length old.parts.table.states) held) →
    memory < length before → standing < length old.standings → IsGoodMoment stands good old before memory standing → IsGoodMoment stands good new after memory standing
moment_kept stands good old new before after memory standing grown more below there known is held t found kept =
    let was : slice_get before memory ≡ Some held = got_kept before after memory held more there found in
    images_kept stands good old.parts new.parts held t grown.parts (below memory held was)
    (is held t was (got_kept old.standings new.standings standing t grown.standings known kept))

pub moments_kept : {T : Type 0} (stands : T → List Event → Type 0) (good : List Event → List (List ℕ) → List (List ℕ) → Type 0) (old new : ReachedView T) (media : MediaView) (moments : List Moment) →
    HaveGrown old new → AreGoodMoments stands good old media moments → AreGoodMoments stands good new media moments
moments_kept stands good old new media moments grown are = record {
  held = media_kept old.parts new.parts media grown.parts are.held;
  each = λ n moment found.
      let was : (moment.memory < length media.lists) × (moment.standing < length old.standings) × IsGoodMoment stands good old media.lists moment.memory moment.standing =
      are.each n moment found in (
        was.0,
        within_kept old.standings new.standings moment.standing grown.standings was.1,
        moment_kept stands good old new media.lists media.lists moment.memory moment.standing grown (λ n held found. found) are.held.below was.0 was.1 was.2,
      );
}

-- the images of what is held of the medium are those of all that is held
line_of_medium : (parts : PartsView) (held : List HeldLine) (l : ℕ) → line_in (view_of parts held) l ≡ line_in (view_of parts (on_medium held)) l
line_of_medium parts held l = ap (λ (number : Option ℕ). option_and_then (slice_get parts.table.states) number) (sym (number_on_medium held l))

pub image_of_medium : (parts : PartsView) (held : List HeldLine) (k : ℕ → ℕ) → image_in (view_of parts held) k ≡ image_in (view_of parts (on_medium held)) k
image_of_medium parts held k =
    same_images (view_of parts (on_medium held)) (view_of parts held) k 0 parts.table.start.medium (λ l. line_of_medium parts held l)

images_of_medium : {T : Type 0} (stands : T → List Event → Type 0) (good : List Event → List (List ℕ) → List (List ℕ) → Type 0) (parts : PartsView) (held : List HeldLine) (t : T) →
    AreGoodImages stands good (view_of parts (on_medium held)) t → AreGoodImages stands good (view_of parts held) t
images_of_medium stands good parts held t are events k kept choice =
    good_same good events (view_of parts (on_medium held)) (view_of parts held) k (λ k. image_of_medium parts held k)
    (are events k kept (λ l. subst (λ (s : Option LineState). k l ≤ length (others_of s)) (line_of_medium parts held l) (choice l)))

moment_of_medium : {T : Type 0} (stands : T → List Event → Type 0) (good : List Event → List (List ℕ) → List (List ℕ) → Type 0) (r : ReachedView T) (lists : List (List HeldLine))
    (memory number standing : ℕ) → IsOnMedium r.parts lists memory number → IsGoodMoment stands good r lists number standing → IsGoodMoment stands good r r.parts.lists memory standing
moment_of_medium stands good r lists memory number standing on is held t found kept =
    let same : on.held ≡ held = same_Some on.held held (sym on.found ∙ found) in
    images_of_medium stands good r.parts held t
    (is (on_medium held) t (subst (λ (one : List HeldLine). slice_get lists number ≡ Some (on_medium one)) same on.here) kept)

-- so a state is good where the moment of what it holds of the medium is
pub state_of_moment : {T : Type 0} (stands : T → List Event → Type 0) (good : List Event → List (List ℕ) → List (List ℕ) → Type 0) (r : ReachedView T) (lists : List (List HeldLine))
    (n : ℕ) (numbers : StateNumbers) (number : ℕ) → slice_get r.states n ≡ Some numbers → IsOnMedium r.parts lists numbers.memory number →
    IsGoodMoment stands good r lists number numbers.standing → IsGoodState stands good r n
state_of_moment stands good r lists n numbers number here on is others found =
    let same : numbers ≡ others = same_Some numbers others (sym here ∙ found) in
    subst (λ (one : StateNumbers). IsGoodMoment stands good r r.parts.lists one.memory one.standing) same
    (moment_of_medium stands good r lists numbers.memory number numbers.standing on is)

state_still : {T : Type 0} (stands : T → List Event → Type 0) (good : List Event → List (List ℕ) → List (List ℕ) → Type 0) (old new : ReachedView T) (n : ℕ) → HaveGrown old new →
    AreNumbered old → AreLists old.parts.table.states old.parts.lists → n < length old.states → IsGoodState stands good old n → IsGoodState stands good new n
state_still stands good old new n grown numbered lists there is numbers found =
    let was : slice_get old.states n ≡ Some numbers = got_kept old.states new.states n numbers grown.states there found in
    let parts : AreThere old numbers = numbered.each n numbers was in
    moment_kept stands good old new old.parts.lists new.parts.lists numbers.memory numbers.standing grown grown.parts.lists lists.below parts.memory parts.standing (is numbers was)

-- what is judged stays so as more states are reached
pub judged_kept : {T : Type 0} (stands : T → List Event → Type 0) (good : List Event → List (List ℕ) → List (List ℕ) → Type 0) (old new : ReachedView T) (judged later : Judged) → HaveGrown old new →
    AreNumbered old → AreLists old.parts.table.states old.parts.lists → later.media ≡ judged.media → later.moments ≡ judged.moments → later.good ≡ judged.good →
    later.stop ≡ judged.stop → AreJudged stands good old judged → AreJudged stands good new later
judged_kept stands good old new judged later grown numbered lists media moments count stop are = record {
  moments = λ none. rw (media, moments) (moments_kept stands good old new judged.media judged.moments grown (are.moments (sym stop ∙ none)));
  below = λ n below. let earlier : n < judged.good = rw count at below in
      state_still stands good old new n grown numbered lists (omega (arith, earlier, are.within)) (are.below n earlier);
  within = rw count (omega (arith, are.within, longer_kept old.states new.states grown.states));
}

-- the moment of the state joins those that are good
pub moments_more : {T : Type 0} (stands : T → List Event → Type 0) (good : List Event → List (List ℕ) → List (List ℕ) → Type 0) (r : ReachedView T) (media : MediaView) (moments more : List Moment)
    (moment : Moment) → (more ≡ moments) ⊎ (more ≡ moments ++ moment ∷ []) → AreGoodMoments stands good r media moments → moment.memory < length media.lists →
    moment.standing < length r.standings → IsGoodMoment stands good r media.lists moment.memory moment.standing → AreGoodMoments stands good r media more
moments_more stands good r media moments more moment appended are memory standing is = record {
  held = are.held;
  each = λ n one found. elim (got_appended moments more moment appended n one found) [
    | inl before ↦ are.each n one before
    | inr same ↦ subst (λ (x : Moment). (x.memory < length media.lists) × (x.standing < length r.standings) × IsGoodMoment stands good r media.lists x.memory x.standing)
        (sym same) (memory, standing, is)
  ];
}

-- as more is noted, what was good stays good
moment_noted : {T : Type 0} (stands : T → List Event → Type 0) (before after : List Event → List (List ℕ) → List (List ℕ) → Type 0) (r : ReachedView T) (lists : List (List HeldLine))
    (memory standing : ℕ) → StaysGood before after → IsGoodMoment stands before r lists memory standing → IsGoodMoment stands after r lists memory standing
moment_noted stands before after r lists memory standing stays is held t found here events k kept choice =
    stays events (image_in (view_of r.parts held) (λ l. 0)) (image_in (view_of r.parts held) k) (is held t found here events k kept choice)

pub moments_noted : {T : Type 0} (stands : T → List Event → Type 0) (before after : List Event → List (List ℕ) → List (List ℕ) → Type 0) (r : ReachedView T) (media : MediaView)
    (moments : List Moment) → StaysGood before after → AreGoodMoments stands before r media moments → AreGoodMoments stands after r media moments
moments_noted stands before after r media moments stays are = record {
  held = are.held;
  each = λ n moment found.
      let was : (moment.memory < length media.lists) × (moment.standing < length r.standings) × IsGoodMoment stands before r media.lists moment.memory moment.standing =
      are.each n moment found in
      (was.0, was.1, moment_noted stands before after r media.lists moment.memory moment.standing stays was.2);
}

pub below_noted : {T : Type 0} (stands : T → List Event → Type 0) (before after : List Event → List (List ℕ) → List (List ℕ) → Type 0) (r : ReachedView T) (count : ℕ) →
    StaysGood before after → AreGoodBelow stands before r count → AreGoodBelow stands after r count
below_noted stands before after r count stays are n few numbers found =
    moment_noted stands before after r r.parts.lists numbers.memory numbers.standing stays (are n few numbers found)

-- moments stay good as further lists of lines of the medium are numbered
pub moments_among : {T : Type 0} (stands : T → List Event → Type 0) (good : List Event → List (List ℕ) → List (List ℕ) → Type 0) (r : ReachedView T) (media more : MediaView) (moments : List Moment) →
    AreKept media.lists more.lists → AreOnMedium r.parts more → AreGoodMoments stands good r media moments → AreGoodMoments stands good r more moments
moments_among stands good r media more moments kept on are = record {
  held = on;
  each = λ n moment found.
      let was : (moment.memory < length media.lists) × (moment.standing < length r.standings) × IsGoodMoment stands good r media.lists moment.memory moment.standing =
      are.each n moment found in
      (within_kept media.lists more.lists moment.memory kept was.0, was.1, λ held t here. was.2 held t (got_kept media.lists more.lists moment.memory held kept was.0 here));
}

-- a moment that was judged before
pub known_moment : {T : Type 0} (stands : T → List Event → Type 0) (good : List Event → List (List ℕ) → List (List ℕ) → Type 0) (r : ReachedView T) (media : MediaView) (moments more : List Moment)
    (place : ℕ) (moment : Moment) → AreKept moments more → place < length moments → slice_get more place ≡ Some moment → AreGoodMoments stands good r media moments →
    IsGoodMoment stands good r media.lists moment.memory moment.standing
known_moment stands good r media moments more place moment kept there found are = (are.each place moment (got_kept moments more place moment kept there found)).2

-- whatever a schedule leads to
pub all_good : {T : Type 0} (stands : T → List Event → Type 0) (allows : List Event → ℕ → Type 0) (good : List Event → List (List ℕ) → List (List ℕ) → Type 0) (ends : Status → Type 0)
    (r : ReachedView T) (program : Sections) (medium : List (List ℕ)) (harts : ℕ) → r.parts.claims ≡ [] → r.parts.table.start.medium ≡ medium → Covers stands r (started program medium harts) →
    IsClosed stands allows ends r → AreGoodBelow stands good r (length r.states) → AlwaysGood stands allows good ends program medium harts
all_good stands allows good ends r program medium harts none same start closed are steps end runs keeps =
    let covers : Covers stands r end = covers_run stands allows ends r (started program medium harts) end steps none closed start runs keeps in
    let numbers : StateNumbers = covers.met.numbers in
    let within : covers.number < length r.states = slice_get_within r.states covers.number numbers covers.met.found in
    let held : List HeldLine = covers.stands_as.0.held in
    let found : slice_get r.parts.lists numbers.memory ≡ Some held = ap (λ (n : ℕ). slice_get r.parts.lists n) (sym covers.met.memory) ∙ covers.stands_as.0.found in
    let images : AreGoodImages stands good (view_of r.parts held) covers.standing =
    are covers.number within numbers covers.met.found held covers.standing found covers.met.standing in (
      (covers.standing, covers.stands_as.1),
      subst (λ (lines : List (List ℕ)). LeavesGood good lines (trace_in end.common)) same
          (leaves_good stands good (view_of r.parts held) (memory_in end.common) covers.standing (trace_in end.common) covers.stands_as.0.memory images covers.stands_as.1),
      ended_well ends r.parts covers.state end covers.stands_as.0 ((closed covers.number within).ended covers.state covers.standing covers.met),
    )

-- what is said where all states were judged, and where the search goes no further
pub told_all : (explored : Explored) (claim : Type 0) → IsAll explored → claim → IfAll explored claim
told_all explored claim all is = subst (λ (e : Explored). IfAll e claim) (sym all.2) is

pub told_found : (explored : Explored) (claim : Type 0) (harts : ℕ) → IsFound harts explored → IfAll explored claim
told_found explored claim harts found = subst (λ (e : Explored). IfAll e claim) (sym found.2) tt

pub leads_all : (explored : Explored) (harts : ℕ) → IsAll explored → LeadByHarts harts explored
leads_all explored harts all = subst (λ (e : Explored). LeadByHarts harts e) (sym all.2) tt

pub leads_found : (explored : Explored) (harts : ℕ) → IsFound harts explored → LeadByHarts harts explored
leads_found explored harts found = subst (λ (e : Explored). LeadByHarts harts e) (sym found.2) found.3

pub nowhere_all : (explored : Explored) (claim : List ℕ → Type 0) → IsAll explored → IfNoWayOut explored claim
nowhere_all explored claim all = subst (λ (e : Explored). IfNoWayOut e claim) (sym all.2) tt

pub nowhere_found : (explored : Explored) (claim : List ℕ → Type 0) (harts : ℕ) → IsFound harts explored → IfNoWayOut explored claim
nowhere_found explored claim harts found = subst (λ (e : Explored). IfNoWayOut e claim) (sym found.2) tt

pub told_more : (explored : Explored) (one other : Type 0) → (one → other) → IfAll explored one → IfAll explored other
told_more (known.All states moments) one other so is = so is
told_more (known.Found stop requests) one other so is = tt
told_more (known.NoWayOut requests) one other so is = tt
told_more known.TooMany one other so is = tt

pub nowhere_more : (explored : Explored) (one other : List ℕ → Type 0) → ((requests : List ℕ) → one requests → other requests) → IfNoWayOut explored one → IfNoWayOut explored other
nowhere_more (known.All states moments) one other so is = tt
nowhere_more (known.Found stop requests) one other so is = tt
nowhere_more (known.NoWayOut requests) one other so is = so requests.items is
nowhere_more known.TooMany one other so is = tt

pub final_leads : (explored : Explored) (harts : ℕ) (claim : List ℕ → Type 0) → IsFinal explored → LeadByHarts harts explored × IfNoWayOut explored claim
final_leads (known.All states moments) harts claim final = (tt, tt)
final_leads (known.Found stop requests) harts claim final = absurd final
final_leads (known.NoWayOut requests) harts claim final = absurd final
final_leads known.TooMany harts claim final = (tt, tt)
