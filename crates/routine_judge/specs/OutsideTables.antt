-- The replies of an outside recovery as they are kept, and what they say of images.
use Rattle.std.specs.Prelude.{◌≡◌, ◌≢◌, ℕ, ◌<◌, true, List, [], Option, Some, None, Result, Ok, Err, length, slice_index_or}
use Rattle.std.specs.List.{Contains}
use Rattle.routine_judge.specs.Outside.{AgreesWith, AreNamed, AreRepliesOf, HasNoneOn, IsRightAmong, Outside, last_of, shown_full}
use Rattle.routine_judge.specs.OutsideViews.{AreNumbersIn, KnownView}
use Rattle.routine_judge.specs.RightAnswers.{is_among}
use Rattle.routine_judge.specs.declared.history.moments.Window.{Window}
use Rattle.routine_judge.specs.declared.outside.cause.Sought.{Sought}
use Rattle.routine_judge.specs.declared.outside.cause.Sought.TheVariants.{Unknown, Missing, Different, Full}
use Rattle.routine_judge.specs.declared.outside.replies.Replies.{Replies}
use Rattle.routine_judge.specs.declared.outside.right_replies.RightReplies.{RightReplies}
use Rattle.store_trace.specs.declared.event.Event.{Event}
use Rattle.verdict.specs.Numbers.{has}

-- a reply on an image of these events, whose lines are there
pub record IsKnownIn (start : List (List ℕ)) (events : List Event) (known : KnownView) : Type 0 where
  pub numbers : AreNumbersIn start events known.numbers
  pub there : (l : ℕ) → Contains known.reply.lines l → l < length start

-- the replies are of such images, and the lines have those that they name
pub record AreKnownIn (start : List (List ℕ)) (events : List Event) (replies : Replies) : Type 0 where
  pub each : (known : KnownView) → Contains replies.known.items known → IsKnownIn start events known
  pub there : (l : ℕ) → Contains replies.lines.items l → l < length start
  pub listed : (known : KnownView) (l : ℕ) → Contains replies.known.items known → Contains known.reply.lines l → has l replies.lines.items ≡ true

-- and each of these lines is named by a reply
pub record AreKeptIn (start : List (List ℕ)) (events : List Event) (replies : Replies) : Type 0 where
  pub known : AreKnownIn start events replies
  pub named : AreNamed replies.known.items replies.lines.items

-- reply i is one on a medium
pub record IsReplyAt (start : List (List ℕ)) (events : List Event) (replies : List KnownView) (i : ℕ) (medium : List (List ℕ)) (known : KnownView) : Type 0 where
  pub there : i < length replies
  pub here : slice_index_or replies i known ≡ known
  pub agrees : AgreesWith start events known medium

-- what the replies say of a medium, where these answers are right: that it is good, or why not
abbrev pub IsSoughtOn : List (List ℕ) → List Event → List KnownView → List (List ℕ) → List (List ℕ) → Option Sought → Type 0
IsSoughtOn start events replies right medium None = (i : ℕ) × (known : KnownView) × IsReplyAt start events replies i medium known
    × ((bytes : List ℕ) × (known.reply.found ≡ Ok bytes) × Contains right bytes)
IsSoughtOn start events replies right medium (Some Unknown) = HasNoneOn start events replies medium
IsSoughtOn start events replies right medium (Some (Missing i)) = (known : KnownView) × IsReplyAt start events replies i medium known
    × ((word : List ℕ) × (known.reply.found ≡ Err word))
IsSoughtOn start events replies right medium (Some Different) = (i : ℕ) × (known : KnownView) × IsReplyAt start events replies i medium known
    × ((bytes : List ℕ) × (known.reply.found ≡ Ok bytes) × (¬ Contains right bytes) × (right ≢ []))
IsSoughtOn start events replies right medium (Some Full) = (i : ℕ) × (known : KnownView) × IsReplyAt start events replies i medium known
    × ((bytes : List ℕ) × (known.reply.found ≡ Ok bytes) × (right ≡ []))

-- these are the right answers of a window of moment m, and reply `last` is that on the full image of its last moment, by each recovery that gave
-- the replies
pub record AreRightIn (recovery : Outside) (start : List (List ℕ)) (events : List Event) (replies : List KnownView) (window : Window) (m : ℕ)
    (right : RightReplies) : Type 0 where
  pub only : (bytes : List ℕ) → Contains right.answers.answers.items bytes → IsRightAmong recovery start events (is_among window m) bytes
  pub all : (bytes : List ℕ) → IsRightAmong recovery start events (is_among window m) bytes → Contains right.answers.answers.items bytes
  pub last_among : is_among window m (last_of window m) ≡ true
  pub known : KnownView
  pub there : right.last < length replies
  pub here : slice_index_or replies right.last known ≡ known
  pub last_shown : shown_full recovery start events (last_of window m) ≡ known.reply.found

abbrev pub AreRightFor : List (List ℕ) → List Event → List KnownView → Window → ℕ → RightReplies → Type 0
AreRightFor start events replies window m right = (recovery : Outside) → AreRepliesOf recovery start events replies →
    AreRightIn recovery start events replies window m right
