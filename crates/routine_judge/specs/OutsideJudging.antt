-- A moment as the replies so far judge it.
use Rattle.std.specs.Prelude.{◌≡◌, ◌⊎◌, ℕ, ◌<◌, ◌≤◌, List, Option, Some, None, Result, Ok, Err, length, slice_index, slice_index_or, ⊤}
use Rattle.std.specs.List.{Contains}
use Rattle.crash_image.specs.Named.{IsNamed}
use Rattle.routine_judge.specs.Images.{full_cut}
use Rattle.routine_judge.specs.Outside.{AreRepliesOf, HasNoneOn, IsAskedFor, IsOutsideMoment, Outside, shown_full}
use Rattle.routine_judge.specs.OutsideTables.{AreRightFor}
use Rattle.routine_judge.specs.OutsideViews.{KnownView}
use Rattle.routine_judge.specs.Windows.{IsWindow}
use Rattle.routine_judge.specs.declared.history.moments.Window.{Window}
use Rattle.routine_judge.specs.declared.outside.cause.OutsideCause.{OutsideCause}
use Rattle.routine_judge.specs.declared.outside.cause.OutsideCause.TheVariants as told
use Rattle.routine_judge.specs.declared.outside.cause.Sought.{Sought}
use Rattle.routine_judge.specs.declared.outside.cause.Sought.TheVariants.{Unknown, Missing, Different, Full}
use Rattle.routine_judge.specs.declared.outside.moment.Judged.{Judged}
use Rattle.routine_judge.specs.declared.outside.moment.Judged.TheVariants.{Is, Asks}
use Rattle.routine_judge.specs.declared.outside.moment.RightSoFar.{RightSoFar}
use Rattle.routine_judge.specs.declared.outside.moment.RightSoFar.TheVariants.{Are, Lacks}
use Rattle.routine_judge.specs.declared.outside.right_replies.RightReplies.{RightReplies}
use Rattle.store_trace.specs.Cut.{number_in}
use Rattle.store_trace.specs.History.{at_moment}
use Rattle.store_trace.specs.Stores.{stores}
use Rattle.store_trace.specs.declared.event.Event.{Event}
use Rattle.text.specs.declared.image_name.name.ImageName.{ImageName}
use Rattle.verdict.specs.CutImages.{image_at}
use Rattle.verdict.specs.declared.moment_verdict.verdict.MomentVerdict.{MomentVerdict}
use Rattle.verdict.specs.declared.moment_verdict.verdict.MomentVerdict.TheVariants as moments

-- the verdict on a moment, whatever recovery gave the replies, or an image that has to be asked for
abbrev pub IsJudgedSoFar : List (List ℕ) → List Event → List KnownView → ℕ → Judged → Type 0
IsJudgedSoFar start events replies m (Is verdict) = (recovery : Outside) → AreRepliesOf recovery start events replies →
    IsOutsideMoment recovery start events replies m verdict
IsJudgedSoFar start events replies m (Asks moment numbers) = IsAskedFor start events replies moment numbers.items

-- this is the word of reply i, if it has no answer
abbrev pub IsWordOf : List KnownView → ℕ → List ℕ → Type 0
IsWordOf replies i word = (known : KnownView) (bytes : List ℕ) → i < length replies → slice_index_or replies i known ≡ known →
    known.reply.found ≡ Err bytes → word ≡ bytes

-- why an image is bad, by the words of replies; None where no reply is one on it
abbrev pub SaysCause : List KnownView → ℕ → Sought → Option OutsideCause → Type 0
SaysCause replies last Unknown None = ⊤
SaysCause replies last Unknown (Some cause) = ⊥
SaysCause replies last (Missing i) None = ⊥
SaysCause replies last (Missing i) (Some (told.Missing word)) = IsWordOf replies i word.items
SaysCause replies last (Missing i) (Some told.Different) = ⊥
SaysCause replies last (Missing i) (Some (told.Full word)) = ⊥
SaysCause replies last Different None = ⊥
SaysCause replies last Different (Some (told.Missing word)) = ⊥
SaysCause replies last Different (Some told.Different) = ⊤
SaysCause replies last Different (Some (told.Full word)) = ⊥
SaysCause replies last Full None = ⊥
SaysCause replies last Full (Some (told.Missing word)) = ⊥
SaysCause replies last Full (Some told.Different) = ⊥
SaysCause replies last Full (Some (told.Full word)) = IsWordOf replies last word.items

-- the numbers of the cut that has this name at moment m
pub record AreNumbersOf (start : List (List ℕ)) (events : List Event) (m : ℕ) (name : ImageName) (numbers : List ℕ) : Type 0 where
  pub size : length numbers ≡ length start
  pub cut : List (ℕ × ℕ)
  pub named : IsNamed (at_moment events m) name cut
  pub each : (l : ℕ) → l < length start → slice_index numbers l ≡ number_in cut l

-- each line has all its stores of moment m
pub record AreAllStores (start : List (List ℕ)) (events : List Event) (m : ℕ) (numbers : List ℕ) : Type 0 where
  pub size : length numbers ≡ length start
  pub each : (l : ℕ) → l < length start → slice_index numbers l ≡ stores l (at_moment events m)

-- what is said by a verdict in which an image without a reply is bad: the verdict, by the words of replies, or that this image is asked for
abbrev pub IsSaid : List (List ℕ) → List Event → List KnownView → ℕ → ℕ → MomentVerdict Sought → Judged → Type 0
IsSaid start events replies last m moments.Pass (Is verdict) = verdict ≡ moments.Pass
IsSaid start events replies last m (moments.Fail name cause many) (Is verdict) =
    (other : OutsideCause) × SaysCause replies last cause (Some other) × (verdict ≡ moments.Fail name other many)
IsSaid start events replies last m (moments.TooMany named) (Is verdict) = verdict ≡ moments.TooMany named
IsSaid start events replies last m moments.TooLong (Is verdict) = verdict ≡ moments.TooLong
IsSaid start events replies last m moments.Pass (Asks moment numbers) = ⊥
IsSaid start events replies last m (moments.Fail name cause many) (Asks moment numbers) =
    SaysCause replies last cause None × (moment ≡ m) × AreNumbersOf start events m name numbers.items
IsSaid start events replies last m (moments.TooMany named) (Asks moment numbers) = ⊥
IsSaid start events replies last m moments.TooLong (Asks moment numbers) = ⊥

-- no reply is one on the full image of this moment
abbrev pub LacksFull : List (List ℕ) → List Event → List KnownView → ℕ → Type 0
LacksFull start events replies m = (m ≤ length events) × HasNoneOn start events replies (image_at start events m (full_cut events m))

-- the right answers of moment m, or a moment on whose full image there is no reply
abbrev pub IsRightSoFar : List (List ℕ) → List Event → List KnownView → ℕ → RightSoFar → Type 0
IsRightSoFar start events replies m (Are right) = (window : Window) × IsWindow events m window × AreRightFor start events replies window m right
IsRightSoFar start events replies m (Lacks moment) = LacksFull start events replies moment

-- these are the answers on the full images of two moments, by each recovery that gave the replies
pub record AreOfTwo (recovery : Outside) (start : List (List ℕ)) (events : List Event) (replies : List KnownView) (first last : ℕ)
    (right : RightReplies) : Type 0 where
  pub only : (bytes : List ℕ) → Contains right.answers.answers.items bytes →
      (shown_full recovery start events first ≡ Ok bytes) ⊎ (shown_full recovery start events last ≡ Ok bytes)
  pub of_first : (bytes : List ℕ) → shown_full recovery start events first ≡ Ok bytes → Contains right.answers.answers.items bytes
  pub of_last : (bytes : List ℕ) → shown_full recovery start events last ≡ Ok bytes → Contains right.answers.answers.items bytes
  pub known : KnownView
  pub there : right.last < length replies
  pub here : slice_index_or replies right.last known ≡ known
  pub shown : shown_full recovery start events last ≡ known.reply.found

abbrev pub IsRightOfTwo : List (List ℕ) → List Event → List KnownView → ℕ → ℕ → RightSoFar → Type 0
IsRightOfTwo start events replies first last (Are right) = (recovery : Outside) → AreRepliesOf recovery start events replies →
    AreOfTwo recovery start events replies first last right
IsRightOfTwo start events replies first last (Lacks moment) = LacksFull start events replies moment
