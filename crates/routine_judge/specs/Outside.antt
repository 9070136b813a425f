-- The verdict by the answers of an outside recovery, of which only replies on some images are known.
-- This project's own: right answers are those on full images, as for a recovery routine.
use Rattle.std.specs.Prelude.{◌≡◌, ℕ, ◌≤◌, ◌++◌, Bool, true, List, [], ◌∷◌, Option, Some, None, Result, Ok, Err, length, map}
use Rattle.std.specs.List.{Contains}
use Rattle.image_check.specs.Verdicts.{whole_line}
use Rattle.line_memory.specs.Lines.{line_at}
use Rattle.recovery.specs.Images.{has_same_bytes}
use Rattle.routine_judge.specs.Images.{full_cut}
use Rattle.routine_judge.specs.OutsideViews.{AreNumbersAt, KnownView, ReplyView, WantedView, known_image}
use Rattle.routine_judge.specs.RightAnswers.{is_among}
use Rattle.routine_judge.specs.Verdicts.{judged_from}
use Rattle.routine_judge.specs.Windows.{IsWindow}
use Rattle.routine_judge.specs.declared.history.moments.Window.{Window}
use Rattle.routine_judge.specs.declared.history.moments.Window.TheVariants.{Itself, Either, Through}
use Rattle.routine_judge.specs.declared.outside.cause.OutsideCause.{OutsideCause}
use Rattle.routine_judge.specs.declared.outside.cause.OutsideCause.TheVariants.{Missing, Different, Full}
use Rattle.store_trace.specs.History.{at_moment}
use Rattle.store_trace.specs.declared.event.Event.{Event}
use Rattle.verdict.specs.CutImages.{image_at}
use Rattle.verdict.specs.Rows.{end_of}
use Rattle.verdict.specs.Verdicts.{IsMomentVerdict, IsVerdictBetween}
use Rattle.verdict.specs.declared.branches.question.Question.{Question}
use Rattle.verdict.specs.declared.moment_verdict.verdict.MomentVerdict.{MomentVerdict}
use Rattle.verdict.specs.declared.moment_verdict.verdict.Verdict.{Verdict}

-- what it comes to on a medium: the bytes of its answer, or a word for why it has none
abbrev pub Outside : Type 0
Outside = List (List ℕ) → Result (List ℕ) (List ℕ)

-- the medium has the bytes of the image in each line that the reply names
abbrev pub AgreesWith : List (List ℕ) → List Event → KnownView → List (List ℕ) → Type 0
AgreesWith start events known medium =
    (l : ℕ) → Contains known.reply.lines l → line_at medium l ≡ line_at (known_image start events known.numbers) l

-- the reply is one of this recovery, and names the lines that decide it: on each such medium it comes to that
abbrev pub IsReplyOf : Outside → List (List ℕ) → List Event → KnownView → Type 0
IsReplyOf recovery start events known = (medium : List (List ℕ)) → length medium ≡ length start → AgreesWith start events known medium →
    recovery medium ≡ known.reply.found

abbrev pub AreRepliesOf : Outside → List (List ℕ) → List Event → List KnownView → Type 0
AreRepliesOf recovery start events replies = (known : KnownView) → Contains replies known → IsReplyOf recovery start events known

-- what it comes to on the full image of moment m
abbrev pub shown_full : Outside → List (List ℕ) → List Event → ℕ → Result (List ℕ) (List ℕ)
shown_full recovery start events m = recovery (image_at start events m (full_cut events m))

-- the bytes are its answer on the full image of one of these moments
pub record IsRightAmong (recovery : Outside) (start : List (List ℕ)) (events : List Event) (among : ℕ → Bool) (bytes : List ℕ) : Type 0 where
  pub at : ℕ
  pub here : among at ≡ true
  pub shown : shown_full recovery start events at ≡ Ok bytes

-- the last moment of the window of moment m
abbrev pub last_of : Window → ℕ → ℕ
last_of Itself m = m
last_of (Either before after) m = after
last_of (Through first last) m = last

-- why an image is bad on which recovery comes to this, where these answers are right, and where none is, by what it comes to there
abbrev pub IsBadFor : (List ℕ → Type 0) → Result (List ℕ) (List ℕ) → Result (List ℕ) (List ℕ) → OutsideCause → Type 0
IsBadFor right last shown (Missing word) = shown ≡ Err word.items
IsBadFor right last shown Different = (bytes : List ℕ) × (shown ≡ Ok bytes) × (¬ right bytes) × ((other : List ℕ) × right other)
IsBadFor right last shown (Full word) = (bytes : List ℕ) × (shown ≡ Ok bytes) × ((other : List ℕ) → ¬ right other) × (last ≡ Err word.items)

-- what is found of it: that its answer is right, or why it is bad
abbrev pub IsFoundFor : (List ℕ → Type 0) → Result (List ℕ) (List ℕ) → Result (List ℕ) (List ℕ) → Option OutsideCause → Type 0
IsFoundFor right last shown None = (bytes : List ℕ) × (shown ≡ Ok bytes) × right bytes
IsFoundFor right last shown (Some cause) = IsBadFor right last shown cause

-- the same of a medium, by the full images of the window of moment m
abbrev pub IsFoundOn : Outside → List (List ℕ) → List Event → Window → ℕ → List (List ℕ) → Option OutsideCause → Type 0
IsFoundOn recovery start events window m medium found = IsFoundFor (IsRightAmong recovery start events (is_among window m))
    (shown_full recovery start events (last_of window m)) (recovery medium) found

-- each of these lines is named by a reply
abbrev pub AreNamed : List KnownView → List ℕ → Type 0
AreNamed replies lines = (l : ℕ) → Contains lines l → (known : KnownView) × Contains replies known × Contains known.reply.lines l

-- these lines are asked of every image, whole ones
abbrev pub asks_all : List ℕ → (ℕ → ℕ) → List Question → Type 0
asks_all lines k questions = questions ≡ map whole_line lines

-- The verdict on moment m by this recovery, of which these replies are known. Images share a branch that have the same bytes in some lines, which
-- the replies name.
pub record IsOutsideMoment (recovery : Outside) (start : List (List ℕ)) (events : List Event) (replies : List KnownView) (m : ℕ)
    (verdict : MomentVerdict OutsideCause) : Type 0 where
  pub window : Window
  pub is_window : IsWindow events m window
  pub lines : List ℕ
  pub named : AreNamed replies lines
  pub judged : IsMomentVerdict true (has_same_bytes (image_at start events m)) (asks_all lines)
      (λ k. IsFoundOn recovery start events window m (image_at start events m k)) (at_moment events m) verdict

-- no reply is one on the medium
abbrev pub HasNoneOn : List (List ℕ) → List Event → List KnownView → List (List ℕ) → Type 0
HasNoneOn start events replies medium = (known : KnownView) → Contains replies known → ¬ AgreesWith start events known medium

-- the image in which each line has so many of its stores is asked for: it is one of moment m, and none of these replies is one on it
pub record IsAskedFor (start : List (List ℕ)) (events : List Event) (replies : List KnownView) (m : ℕ) (numbers : List ℕ) : Type 0 where
  pub there : m ≤ length events
  pub numbers_are : AreNumbersAt start events m numbers
  pub none_known : HasNoneOn start events replies (known_image start events numbers)

-- Images of these events were asked for in turn, and these replies given; `gives` says what becomes of the one who gives them each time.
pub data HasAsked {A : Type 0} (gives : A → WantedView → ReplyView → A → Type 0) (start : List (List ℕ)) (events : List Event) (old : A) :
    List KnownView → A → Type 0 where
  nothing : HasAsked gives start events old [] old
  more : (replies : List KnownView) (moment : ℕ) (numbers : List ℕ) (reply : ReplyView) (before after : A) → HasAsked gives start events old replies before →
      IsAskedFor start events replies moment numbers →
      gives before (record { start = start; events = events; moment = moment; numbers = numbers }) reply after →
      HasAsked gives start events old (replies ++ (record { numbers = numbers; reply = reply } ∷ [])) after

-- The verdict on the moments from `first` to `last` that are judged: whatever recovery gave the replies, and is decided by the lines that they
-- name, it is that recovery's.
pub record IsOutsideVerdict {A : Type 0} (gives : A → WantedView → ReplyView → A → Type 0) (start : List (List ℕ)) (events : List Event)
    (first : ℕ) (last : Option ℕ) (old new : A) (verdict : Verdict OutsideCause) : Type 0 where
  pub replies : List KnownView
  pub asked : HasAsked gives start events old replies new
  pub verdict_is : (recovery : Outside) → AreRepliesOf recovery start events replies →
      IsVerdictBetween (IsOutsideMoment recovery start events replies) events (judged_from events first (end_of events last)) (end_of events last) verdict

-- there was no reply, for this fault, on an image that was asked for behind others
pub record HasNoReply {A F : Type 0} (gives : A → WantedView → ReplyView → A → Type 0) (fails : A → WantedView → F → A → Type 0) (start : List (List ℕ))
    (events : List Event) (old new : A) (fault : F) : Type 0 where
  pub replies : List KnownView
  pub before : A
  pub asked : HasAsked gives start events old replies before
  pub moment : ℕ
  pub numbers : List ℕ
  pub wanted : IsAskedFor start events replies moment numbers
  pub failed : fails before (record { start = start; events = events; moment = moment; numbers = numbers }) fault new
