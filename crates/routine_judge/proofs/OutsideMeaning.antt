-- What the replies so far say of images, right answers and moments, whatever recovery gave them.
use Rattle.std.proofs.Common.{◌≡◌, ◌≢◌, ◌⊎◌, ℕ, ◌+◌, ◌<◌, ◌≤◌, ◌==◌, ◌||◌, Bool, true, false, inl, inr, List, [], ◌∷◌, length, refl, sym, ap, subst, ◌∙◌, arith, Option, Some, None, Result, Ok, Err}
use Rattle.std.specs.Prelude.{◌↔◌, slice_index_or}
use Rattle.std.specs.List.{Contains}
use Rattle.crash_image.specs.View.{HasLines}
use Rattle.recovery.specs.Images.{has_same_bytes}
use Rattle.routine_judge.proofs.OutsideAsking.{asked_named}
use Rattle.routine_judge.specs.Images.{full_cut}
use Rattle.routine_judge.specs.Outside.{AreRepliesOf, IsAskedFor, IsFoundOn, IsOutsideMoment, IsRightAmong, Outside, asks_all, last_of, shown_full}
use Rattle.routine_judge.specs.OutsideJudging.{AreOfTwo, IsJudgedSoFar, IsRightOfTwo, IsRightSoFar, IsSaid, IsWordOf, SaysCause}
use Rattle.routine_judge.specs.OutsideTables.{AreKeptIn, AreRightFor, AreRightIn, IsReplyAt, IsSoughtOn}
use Rattle.routine_judge.specs.OutsideViews.{KnownView}
use Rattle.routine_judge.specs.RightAnswers.{is_among}
use Rattle.routine_judge.specs.Windows.{IsWindow}
use Rattle.routine_judge.specs.declared.history.moments.Window.{Window}
use Rattle.routine_judge.specs.declared.history.moments.Window.TheVariants.{Itself, Either}
use Rattle.routine_judge.specs.declared.outside.cause.OutsideCause.{OutsideCause}
use Rattle.routine_judge.specs.declared.outside.cause.OutsideCause.TheVariants as told
use Rattle.routine_judge.specs.declared.outside.cause.Sought.{Sought}
use Rattle.routine_judge.specs.declared.outside.cause.Sought.TheVariants.{Unknown, Missing, Different, Full}
use Rattle.routine_judge.specs.declared.outside.moment.Judged.{Judged}
use Rattle.routine_judge.specs.declared.outside.moment.Judged.TheVariants.{Is, Asks}
use Rattle.routine_judge.specs.declared.outside.moment.RightSoFar.{RightSoFar}
use Rattle.routine_judge.specs.declared.outside.moment.RightSoFar.TheVariants.{Are, Lacks}
use Rattle.routine_judge.specs.declared.outside.replies.Replies.{Replies}
use Rattle.routine_judge.specs.declared.outside.right_replies.RightReplies.{RightReplies}
use Rattle.store_trace.proofs.Images.{length_image}
use Rattle.store_trace.proofs.Members.{contains_first, no_members}
use Rattle.store_trace.specs.Cut.{number_in}
use Rattle.store_trace.specs.Floor.{floor}
use Rattle.store_trace.specs.History.{at_moment}
use Rattle.store_trace.specs.Stores.{stores}
use Rattle.store_trace.specs.declared.crash_model.step.PersistenceStep.{PersistenceStep}
use Rattle.store_trace.specs.declared.event.Event.{Event}
use Rattle.verdict.specs.CutImages.{image_at}
use Rattle.verdict.specs.Edges.{AreAllGood, AreTried, edges}
use Rattle.verdict.specs.Verdicts.{IsLeastBad, IsMomentVerdict}
use Rattle.verdict.specs.declared.moment_verdict.verdict.MomentVerdict.{MomentVerdict}
use Rattle.verdict.specs.declared.moment_verdict.verdict.MomentVerdict.TheVariants as moments

-- a reply on a medium is what recovery comes to there
pub comes : (recovery : Outside) (start : List (List ℕ)) (events : List Event) (replies : List KnownView) → AreRepliesOf recovery start events replies →
    (medium : List (List ℕ)) → length medium ≡ length start → (i : ℕ) (known : KnownView) → IsReplyAt start events replies i medium known →
    recovery medium ≡ known.reply.found
comes recovery start events replies gave medium size i known is = gave known (i, is.there, is.here) medium size is.agrees

some_member : (xs : List (List ℕ)) → xs ≢ [] → (x : List ℕ) × Contains xs x
some_member [] some = absurd (some refl)
some_member (x ∷ xs) some = (x, contains_first x xs x refl)

-- what is found of a medium, as its cause is told
abbrev pub Means : (Option OutsideCause → Type 0) → List KnownView → ℕ → Option Sought → Type 0
Means found replies last None = found None
Means found replies last (Some cause) = (other : OutsideCause) → SaysCause replies last cause (Some other) → found (Some other)

full_word : (last shown : Result (List ℕ) (List ℕ)) (P : Type 0) → last ≡ shown → ((bytes : List ℕ) → last ≡ Ok bytes → P) →
    ((word : List ℕ) → shown ≡ Err word → last ≡ Err word → P) → P
full_word last (Ok bytes) P e ok err = ok bytes e
full_word last (Err word) P e ok err = err word refl e

missing_means : (recovery : Outside) (start : List (List ℕ)) (events : List Event) (replies : List KnownView) (window : Window) (m last i : ℕ)
    (medium : List (List ℕ)) (known : KnownView) (word : List ℕ) (other : OutsideCause) → i < length replies → slice_index_or replies i known ≡ known →
    recovery medium ≡ known.reply.found → known.reply.found ≡ Err word → SaysCause replies last (Missing i) (Some other) →
    IsFoundOn recovery start events window m medium (Some other)
missing_means recovery start events replies window m last i medium known word (told.Missing text) there here e f says =
    e ∙ f ∙ ap (λ (w : List ℕ). Err w) (sym (says known word there here f))
missing_means recovery start events replies window m last i medium known word told.Different there here e f says = absurd says
missing_means recovery start events replies window m last i medium known word (told.Full text) there here e f says = absurd says

different_means : (recovery : Outside) (start : List (List ℕ)) (events : List Event) (replies : List KnownView) (window : Window) (m : ℕ)
    (right : RightReplies) → AreRightIn recovery start events replies window m right →
    (medium : List (List ℕ)) (bytes : List ℕ) (other : OutsideCause) → recovery medium ≡ Ok bytes → ¬ Contains right.answers.answers.items bytes →
    right.answers.answers.items ≢ [] → SaysCause replies right.last Different (Some other) → IsFoundOn recovery start events window m medium (Some other)
different_means recovery start events replies window m right are medium bytes (told.Missing text) e not some says = absurd says
different_means recovery start events replies window m right are medium bytes told.Different e not some says =
    let one = some_member right.answers.answers.items some in
    (bytes, e, λ r. not (are.all bytes r), (one.0, are.only one.0 one.1))
different_means recovery start events replies window m right are medium bytes (told.Full text) e not some says = absurd says

full_means : (recovery : Outside) (start : List (List ℕ)) (events : List Event) (replies : List KnownView) (window : Window) (m : ℕ)
    (right : RightReplies) → AreRightIn recovery start events replies window m right →
    (medium : List (List ℕ)) (bytes : List ℕ) (other : OutsideCause) → recovery medium ≡ Ok bytes →
    right.answers.answers.items ≡ [] → SaysCause replies right.last Full (Some other) → IsFoundOn recovery start events window m medium (Some other)
full_means recovery start events replies window m right are medium bytes (told.Missing text) e none says = absurd says
full_means recovery start events replies window m right are medium bytes told.Different e none says = absurd says
full_means recovery start events replies window m right are medium bytes (told.Full text) e none says =
    let never : (other : List ℕ) → ¬ IsRightAmong recovery start events (is_among window m) other =
    λ other r. no_members other (subst (λ (xs : List (List ℕ)). Contains xs other) none (are.all other r)) in
    let shown : Result (List ℕ) (List ℕ) = shown_full recovery start events (last_of window m) in
    full_word shown are.known.reply.found (IsFoundOn recovery start events window m medium (Some (told.Full text))) are.last_shown
    (λ answer ok. absurd (never answer (record { at = last_of window m; here = are.last_among; shown = ok })))
    (λ word found err. (bytes, e, never, err ∙ ap (λ (w : List ℕ). Err w) (sym (says are.known word are.there are.here found))))

pub sought_means : (recovery : Outside) (start : List (List ℕ)) (events : List Event) (replies : List KnownView) (window : Window) (m : ℕ) (right : RightReplies) →
    AreRepliesOf recovery start events replies → AreRightIn recovery start events replies window m right → (medium : List (List ℕ)) →
    length medium ≡ length start → (found : Option Sought) → IsSoughtOn start events replies right.answers.answers.items medium found →
    Means (IsFoundOn recovery start events window m medium) replies right.last found
sought_means recovery start events replies window m right gave are medium size None f =
    let e = comes recovery start events replies gave medium size f.0 f.1 f.2 in
    (f.3.0, e ∙ f.3.1, are.only f.3.0 f.3.2)
sought_means recovery start events replies window m right gave are medium size (Some Unknown) f = λ other says. absurd says
sought_means recovery start events replies window m right gave are medium size (Some (Missing i)) f = λ other says.
    missing_means recovery start events replies window m right.last i medium f.0 f.2.0 other f.1.there f.1.here
    (comes recovery start events replies gave medium size i f.0 f.1) f.2.1 says
sought_means recovery start events replies window m right gave are medium size (Some Different) f = λ other says.
    different_means recovery start events replies window m right are medium f.3.0 other
    (comes recovery start events replies gave medium size f.0 f.1 f.2 ∙ f.3.1) f.3.2 f.3.3 says
sought_means recovery start events replies window m right gave are medium size (Some Full) f = λ other says.
    full_means recovery start events replies window m right are medium f.3.0 other
    (comes recovery start events replies gave medium size f.0 f.1 f.2 ∙ f.3.1) f.3.2 says

all_good : {C D : Type 0} (found : (ℕ → ℕ) → Option C → Type 0) (other : (ℕ → ℕ) → Option D → Type 0) (cuts : List (ℕ → ℕ)) →
    ((k : ℕ → ℕ) → found k None → other k None) → AreAllGood found cuts → AreAllGood other cuts
all_good found other [] means h = tt
all_good found other (k ∷ cuts) means h = (means k h.0, all_good found other cuts means h.1)

-- what is found of images by replies, where right answers are those of a window
abbrev Seeks : List (List ℕ) → List Event → List KnownView → ℕ → RightReplies → (ℕ → ℕ) → Option Sought → Type 0
Seeks start events replies m right k found = IsSoughtOn start events replies right.answers.answers.items (image_at start events m k) found

-- the verdict by that
abbrev pub IsSoughtMoment : Replies → RightReplies → List PersistenceStep → MomentVerdict Sought → List (List ℕ) → List Event → ℕ → Type 0
IsSoughtMoment replies right p verdict start events m = IsMomentVerdict true (has_same_bytes (image_at start events m)) (asks_all replies.lines.items)
    (λ k. IsSoughtOn start events replies.known.items right.answers.answers.items (image_at start events m k)) p verdict

-- a verdict in which images without a reply are bad, as it is said
said_judged : (recovery : Outside) (start : List (List ℕ)) (events : List Event) (replies : Replies) (window : Window) (m : ℕ) (right : RightReplies)
    (verdict : MomentVerdict Sought) (other : MomentVerdict OutsideCause) → AreRepliesOf recovery start events replies.known.items →
    AreRightIn recovery start events replies.known.items window m right → IsSoughtMoment replies right (at_moment events m) verdict start events m →
    IsSaid start events replies.known.items right.last m verdict (Is other) →
    IsMomentVerdict true (has_same_bytes (image_at start events m)) (asks_all replies.lines.items)
    (λ k. IsFoundOn recovery start events window m (image_at start events m k)) (at_moment events m) other
said_judged recovery start events replies window m right moments.Pass other gave ok v said =
    let found : (ℕ → ℕ) → Option OutsideCause → Type 0 = λ k. IsFoundOn recovery start events window m (image_at start events m k) in
    subst (λ (w : MomentVerdict OutsideCause). IsMomentVerdict true (has_same_bytes (image_at start events m)) (asks_all replies.lines.items) found (at_moment events m) w)
    (sym said) (
      v.0,
      λ cut is. sought_means recovery start events replies.known.items window m right gave ok (image_at start events m (number_in cut))
          (length_image start (number_in cut) (at_moment events m)) None (v.1 cut is),
    )
said_judged recovery start events replies window m right (moments.Fail name cause false) other gave ok v said =
    let found : (ℕ → ℕ) → Option OutsideCause → Type 0 = λ k. IsFoundOn recovery start events window m (image_at start events m k) in
    let means = λ (k : ℕ → ℕ) (f : Option Sought) (s : IsSoughtOn start events replies.known.items right.answers.answers.items (image_at start events m k) f).
    sought_means recovery start events replies.known.items window m right gave ok (image_at start events m k)
    (length_image start k (at_moment events m)) f s in
    let its = v.1.2 in
    let least : IsLeastBad found (at_moment events m) v.1.0 said.0 = record {
      there = its.there;
      bad = means (number_in v.1.0) (Some cause) its.bad said.0 said.1;
      least = λ cut is before. means (number_in cut) None (its.least cut is before);
    } in
    subst (λ (w : MomentVerdict OutsideCause). IsMomentVerdict true (has_same_bytes (image_at start events m)) (asks_all replies.lines.items) found (at_moment events m) w)
    (sym said.2) (v.0, (v.1.0, v.1.1, least))
said_judged recovery start events replies window m right (moments.Fail name cause true) other gave ok v said =
    let found : (ℕ → ℕ) → Option OutsideCause → Type 0 = λ k. IsFoundOn recovery start events window m (image_at start events m k) in
    let bad = sought_means recovery start events replies.known.items window m right gave ok (image_at start events m (number_in v.2.0))
    (length_image start (number_in v.2.0) (at_moment events m)) (Some cause) v.2.2.1 said.0 said.1 in
    subst (λ (w : MomentVerdict OutsideCause). IsMomentVerdict true (has_same_bytes (image_at start events m)) (asks_all replies.lines.items) found (at_moment events m) w)
    (sym said.2) (v.0, v.1, (v.2.0, v.2.1, (v.2.2.0, bad)))
said_judged recovery start events replies window m right (moments.TooMany None) other gave ok v said = absurd cc
said_judged recovery start events replies window m right (moments.TooMany (Some named)) other gave ok v said =
    let found : (ℕ → ℕ) → Option OutsideCause → Type 0 = λ k. IsFoundOn recovery start events window m (image_at start events m k) in
    let tried : AreTried (asks_all replies.lines.items) found (λ l. floor l (at_moment events m)) (λ l. stores l (at_moment events m)) v.2.0 = record {
      asked = v.2.1.asked;
      at_floors = v.2.1.at_floors;
      good = all_good (Seeks start events replies.known.items m right) found (edges (λ l. floor l (at_moment events m)) (λ l. stores l (at_moment events m)) v.2.0)
          (λ k s. sought_means recovery start events replies.known.items window m right gave ok (image_at start events m k)
          (length_image start k (at_moment events m)) None s) v.2.1.good;
    } in
    subst (λ (w : MomentVerdict OutsideCause). IsMomentVerdict true (has_same_bytes (image_at start events m)) (asks_all replies.lines.items) found (at_moment events m) w)
    (sym said) (v.0, v.1, (v.2.0, tried, v.2.2))
said_judged recovery start events replies window m right moments.TooLong other gave ok v said = absurd v

said_means : (recovery : Outside) (start : List (List ℕ)) (events : List Event) (replies : Replies) (window : Window) (m : ℕ) (right : RightReplies)
    (verdict : MomentVerdict Sought) (other : MomentVerdict OutsideCause) → AreKeptIn start events replies → AreRepliesOf recovery start events replies.known.items →
    IsWindow events m window → AreRightIn recovery start events replies.known.items window m right →
    IsSoughtMoment replies right (at_moment events m) verdict start events m → IsSaid start events replies.known.items right.last m verdict (Is other) →
    IsOutsideMoment recovery start events replies.known.items m other
said_means recovery start events replies window m right verdict other are gave is ok v said = record {
  window = window;
  is_window = is;
  lines = replies.lines.items;
  named = are.named;
  judged = said_judged recovery start events replies window m right verdict other gave ok v said;
}

-- what is said of a moment, by what was sought: an image that is asked for has no reply
pub judged_so_far : (start : List (List ℕ)) (events : List Event) (replies : Replies) (window : Window) (m : ℕ) (right : RightReplies) (verdict : MomentVerdict Sought)
    (judged : Judged) → HasLines start events → m ≤ length events → AreKeptIn start events replies → IsWindow events m window →
    AreRightFor start events replies.known.items window m right → IsSoughtMoment replies right (at_moment events m) verdict start events m →
    IsSaid start events replies.known.items right.last m verdict judged → IsJudgedSoFar start events replies.known.items m judged
judged_so_far start events replies window m right verdict (Is other) lined there are is ok v said =
    λ recovery gave. said_means recovery start events replies window m right verdict other are gave is (ok recovery gave) v said
judged_so_far start events replies window m right moments.Pass (Asks moment numbers) lined there are is ok v said = absurd said
judged_so_far start events replies window m right (moments.Fail name Unknown false) (Asks moment numbers) lined there are is ok v said =
    subst (λ (n : ℕ). IsAskedFor start events replies.known.items n numbers.items) (sym said.1)
    (asked_named start events replies.known.items m name v.1.0 numbers.items lined there v.1.2.there v.1.1 v.1.2.bad said.2)
judged_so_far start events replies window m right (moments.Fail name Unknown true) (Asks moment numbers) lined there are is ok v said =
    subst (λ (n : ℕ). IsAskedFor start events replies.known.items n numbers.items) (sym said.1)
    (asked_named start events replies.known.items m name v.2.0 numbers.items lined there v.2.2.0 v.2.1 v.2.2.1 said.2)
judged_so_far start events replies window m right (moments.Fail name (Missing i) many) (Asks moment numbers) lined there are is ok v said = absurd said.0
judged_so_far start events replies window m right (moments.Fail name Different many) (Asks moment numbers) lined there are is ok v said = absurd said.0
judged_so_far start events replies window m right (moments.Fail name Full many) (Asks moment numbers) lined there are is ok v said = absurd said.0
judged_so_far start events replies window m right (moments.TooMany named) (Asks moment numbers) lined there are is ok v said = absurd said
judged_so_far start events replies window m right moments.TooLong (Asks moment numbers) lined there are is ok v said = absurd said

or_left : (a b : Bool) → a ≡ true → (a || b) ≡ true
or_left a b e = rw e refl

or_right : (a b : Bool) → b ≡ true → (a || b) ≡ true
or_right true b e = refl
or_right false b e = e

or_cases : (a b : Bool) → (a || b) ≡ true → (a ≡ true) ⊎ (b ≡ true)
or_cases true b e = inl refl
or_cases false b e = inr e

itself : (n : ℕ) → (n == n) ≡ true
itself n = grind arith

same : (n k : ℕ) → (n == k) ≡ true → n ≡ k
same n k e = grind (arith, e)

-- the answers on the full images of two moments are those of a window of these
pub right_itself : (recovery : Outside) (start : List (List ℕ)) (events : List Event) (replies : List KnownView) (m : ℕ) (right : RightReplies) →
    AreOfTwo recovery start events replies m m right → AreRightIn recovery start events replies Itself m right
right_itself recovery start events replies m right of_two = record {
  only = λ bytes there. elim (of_two.only bytes there) [
    | inl e ↦ record { at = m; here = itself m; shown = e }
    | inr e ↦ record { at = m; here = itself m; shown = e }
  ];
  all = λ bytes r. of_two.of_first bytes (subst (λ (n : ℕ). shown_full recovery start events n ≡ Ok bytes) (same r.at m r.here) r.shown);
  last_among = itself m;
  known = of_two.known;
  there = of_two.there;
  here = of_two.here;
  last_shown = of_two.shown;
}

pub right_either : (recovery : Outside) (start : List (List ℕ)) (events : List Event) (replies : List KnownView) (m before after : ℕ) (right : RightReplies) →
    AreOfTwo recovery start events replies before after right → AreRightIn recovery start events replies (Either before after) m right
right_either recovery start events replies m before after right of_two = record {
  only = λ bytes there. elim (of_two.only bytes there) [
    | inl e ↦ record { at = before; here = or_left (before == before) (before == after) (itself before); shown = e }
    | inr e ↦ record { at = after; here = or_right (after == before) (after == after) (itself after); shown = e }
  ];
  all = λ bytes r. elim (or_cases (r.at == before) (r.at == after) r.here) [
    | inl e ↦ of_two.of_first bytes (subst (λ (n : ℕ). shown_full recovery start events n ≡ Ok bytes) (same r.at before e) r.shown)
    | inr e ↦ of_two.of_last bytes (subst (λ (n : ℕ). shown_full recovery start events n ≡ Ok bytes) (same r.at after e) r.shown)
  ];
  last_among = or_right (after == before) (after == after) (itself after);
  known = of_two.known;
  there = of_two.there;
  here = of_two.here;
  last_shown = of_two.shown;
}

-- the answers of two replies are those on the full images of which they are
pub two_right : (start : List (List ℕ)) (events : List Event) (replies : List KnownView) (first last one other : ℕ) (right : RightReplies) (a b : KnownView) →
    IsReplyAt start events replies one (image_at start events first (full_cut events first)) a →
    IsReplyAt start events replies other (image_at start events last (full_cut events last)) b →
    ((bytes : List ℕ) → Contains right.answers.answers.items bytes ↔ ((a.reply.found ≡ Ok bytes) ⊎ (b.reply.found ≡ Ok bytes))) →
    right.last ≡ other → IsRightOfTwo start events replies first last (Are right)
two_right start events replies first last one other right a b of_a of_b answers is = λ recovery gave.
    let shows_a : shown_full recovery start events first ≡ a.reply.found =
    comes recovery start events replies gave (image_at start events first (full_cut events first)) (length_image start (full_cut events first) (at_moment events first)) one a of_a in
    let shows_b : shown_full recovery start events last ≡ b.reply.found =
    comes recovery start events replies gave (image_at start events last (full_cut events last)) (length_image start (full_cut events last) (at_moment events last)) other b of_b in
    record {
      only = λ bytes there. elim ((answers bytes).0 there) [ inl e ↦ inl (shows_a ∙ e) | inr e ↦ inr (shows_b ∙ e) ];
      of_first = λ bytes e. (answers bytes).1 (inl (sym shows_a ∙ e));
      of_last = λ bytes e. (answers bytes).1 (inr (sym shows_b ∙ e));
      known = b;
      there = subst (λ (n : ℕ). n < length replies) (sym is) of_b.there;
      here = subst (λ (n : ℕ). slice_index_or replies n b ≡ b) (sym is) of_b.here;
      shown = shows_b;
    }

-- so they are the right answers of a moment whose window these two moments are
pub itself_so_far : (start : List (List ℕ)) (events : List Event) (replies : List KnownView) (m : ℕ) (right : RightSoFar) → IsWindow events m Itself →
    IsRightOfTwo start events replies m m right → IsRightSoFar start events replies m right
itself_so_far start events replies m (Are right) is two =
    (Itself, is, λ recovery gave. right_itself recovery start events replies m right (two recovery gave))
itself_so_far start events replies m (Lacks moment) is two = two

pub either_so_far : (start : List (List ℕ)) (events : List Event) (replies : List KnownView) (m before after : ℕ) (right : RightSoFar) →
    IsWindow events m (Either before after) → IsRightOfTwo start events replies before after right → IsRightSoFar start events replies m right
either_so_far start events replies m before after (Are right) is two =
    (Either before after, is, λ recovery gave. right_either recovery start events replies m before after right (two recovery gave))
either_so_far start events replies m before after (Lacks moment) is two = two
