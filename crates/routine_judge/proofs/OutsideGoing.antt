-- Moments judged in turn, while replies are given.
use Rattle.std.proofs.Common.{◌≡◌, ◌≢◌, ◌⊎◌, ℕ, ◌+◌, ◌-◌, ◌<◌, ◌≤◌, inl, inr, List, [], ◌∷◌, ◌++◌, length, refl, sym, ap, subst, ◌∙◌, arith, Option, Some, None}
use Rattle.std.specs.List.{Contains}
use Rattle.std.proofs.lemmas.List.Elements.{Contains-append_left}
use Rattle.crash_image.specs.Totals.{IsImageSum}
use Rattle.routine_judge.specs.Outside.{AreNamed, AreRepliesOf, HasAsked, HasNoReply, IsAskedFor, IsOutsideMoment, IsOutsideVerdict, Outside}
use Rattle.routine_judge.specs.OutsideLoops.{IsAnswered, IsFirstFailing, IsMissing, IsSettled, IsStopped, IsUnanswered, IsVerdictAt}
use Rattle.routine_judge.specs.OutsideTables.{AreKeptIn, AreKnownIn}
use Rattle.routine_judge.specs.OutsideViews.{KnownView, ReplyView, WantedView}
use Rattle.routine_judge.specs.Verdicts.{judged_from}
use Rattle.routine_judge.specs.declared.fault.JudgeFault.TheVariants.{Marks, NoSuchMoment, Memory}
use Rattle.routine_judge.specs.declared.outside.cause.OutsideCause.{OutsideCause}
use Rattle.routine_judge.specs.declared.outside.fault.OutsideFault.{OutsideFault}
use Rattle.routine_judge.specs.declared.outside.fault.OutsideFault.TheVariants.{Judge, Answer}
use Rattle.routine_judge.specs.declared.outside.replies.Replies.{Replies}
use Rattle.store_trace.proofs.Members.{no_members}
use Rattle.store_trace.specs.declared.event.Event.{Event}
use Rattle.verdict.specs.Rows.{end_of}
use Rattle.verdict.specs.Verdicts.{IsLeastMoment, IsVerdictBetween, PassBetween}
use Rattle.verdict.specs.declared.moment_verdict.verdict.MomentVerdict.{MomentVerdict}
use Rattle.verdict.specs.declared.moment_verdict.verdict.MomentVerdict.TheVariants as moments
use Rattle.verdict.specs.declared.moment_verdict.verdict.Verdict.{Verdict}
use Rattle.verdict.specs.declared.moment_verdict.verdict.Verdict.TheVariants as rows

-- whatever recovery gave the replies, the moments from `first` on that are below `next` pass by it
abbrev pub PassSoFar : List (List ℕ) → List Event → List KnownView → ℕ → ℕ → Type 0
PassSoFar start events replies first next = (recovery : Outside) → AreRepliesOf recovery start events replies →
    PassBetween (IsOutsideMoment recovery start events replies) first next

-- how far the moments are judged
pub record IsGoing {A : Type 0} (gives : A → WantedView → ReplyView → A → Type 0) (start : List (List ℕ)) (events : List Event) (first end : ℕ) (old : A)
    (next : ℕ) (replies : Replies) (now : A) : Type 0 where
  pub from : first ≤ next
  pub within : next ≤ end
  pub kept : AreKeptIn start events replies
  pub asked : HasAsked gives start events old replies.known.items now
  pub passed : PassSoFar start events replies.known.items first next

pub none_known : (start : List (List ℕ)) (events : List Event) (replies : Replies) → replies.known.items ≡ [] → replies.lines.items ≡ [] → AreKeptIn start events replies
none_known start events replies none nothing =
    let never : (known : KnownView) → ¬ Contains replies.known.items known = λ known there. no_members known (subst (λ (ks : List KnownView). Contains ks known) none there) in
    let no_line : (l : ℕ) → ¬ Contains replies.lines.items l = λ l there. no_members l (subst (λ (ls : List ℕ). Contains ls l) nothing there) in
    let known : AreKnownIn start events replies = record {
      each = λ known there. absurd (never known there);
      there = λ l there. absurd (no_line l there);
      listed = λ known l there named. absurd (never known there);
    } in
    record { known = known; named = λ l there. absurd (no_line l there) }

pub going_first : {A : Type 0} (gives : A → WantedView → ReplyView → A → Type 0) (start : List (List ℕ)) (events : List Event) (first end : ℕ) (old : A) (replies : Replies) →
    first ≤ end → replies.known.items ≡ [] → replies.lines.items ≡ [] → IsGoing gives start events first end old first replies old
going_first gives start events first end old replies order none nothing = record {
  from = omega arith;
  within = order;
  kept = none_known start events replies none nothing;
  asked = subst (λ (ks : List KnownView). HasAsked gives start events old ks old) (sym none) HasAsked.nothing;
  passed = λ recovery gave m from below. absurd (omega (arith, from, below));
}

split : (m n : ℕ) → m ≤ n → (m < n) ⊎ (m ≡ n)
split m n less = grind (arith, less)

pass_more : (judged : ℕ → MomentVerdict OutsideCause → Type 0) (first next : ℕ) → PassBetween judged first next → judged next moments.Pass → PassBetween judged first (next + 1)
pass_more judged first next passed here m from below = elim (split m next (omega (arith, below))) [
  | inl lower ↦ passed m from lower
  | inr e ↦ subst (λ (n : ℕ). judged n moments.Pass) (sym e) here
]

pub going_passed : {A : Type 0} (gives : A → WantedView → ReplyView → A → Type 0) (start : List (List ℕ)) (events : List Event) (first end : ℕ) (old : A)
    (next : ℕ) (replies : Replies) (now : A) → IsGoing gives start events first end old next replies now → next ≢ end →
    ((recovery : Outside) → AreRepliesOf recovery start events replies.known.items → IsOutsideMoment recovery start events replies.known.items next moments.Pass) →
    IsGoing gives start events first end old (next + 1) replies now
going_passed gives start events first end old next replies now is not here =
    let from = is.from in
    let within = is.within in
    record {
      from = omega (arith, from);
      within = omega (arith, within, not);
      kept = is.kept;
      asked = is.asked;
      passed = λ recovery gave. pass_more (IsOutsideMoment recovery start events replies.known.items) first next (is.passed recovery gave) (here recovery gave);
    }

-- a moment that passes by some replies passes by more
still_passes : (recovery : Outside) (start : List (List ℕ)) (events : List Event) (replies more : List KnownView) (m : ℕ) →
    IsOutsideMoment recovery start events replies m moments.Pass → IsOutsideMoment recovery start events (replies ++ more) m moments.Pass
still_passes recovery start events replies more m is = record {
  window = is.window;
  is_window = is.is_window;
  lines = is.lines;
  named = λ l there. let w = is.named l there in (w.0, Contains-append_left replies more w.0 w.1, w.2);
  judged = is.judged;
}

first_gave : (recovery : Outside) (start : List (List ℕ)) (events : List Event) (replies more : List KnownView) → AreRepliesOf recovery start events (replies ++ more) →
    AreRepliesOf recovery start events replies
first_gave recovery start events replies more gave known there = gave known (Contains-append_left replies more known there)

pub going_answered : {A : Type 0} (gives : A → WantedView → ReplyView → A → Type 0) (start : List (List ℕ)) (events : List Event) (first end : ℕ) (old : A)
    (next m : ℕ) (numbers : List ℕ) (replies more : Replies) (now after : A) → IsGoing gives start events first end old next replies now →
    IsAskedFor start events replies.known.items m numbers →
    IsAnswered gives start events m numbers now after replies.known.items more.known.items → AreKeptIn start events more →
    IsGoing gives start events first end old next more after
going_answered gives start events first end old next m numbers replies more now after is wanted answered kept =
    let one : KnownView = record { numbers = numbers; reply = answered.reply } in
    record {
      from = is.from;
      within = is.within;
      kept = kept;
      asked = subst (λ (ks : List KnownView). HasAsked gives start events old ks after) (sym answered.kept)
          (HasAsked.more replies.known.items m numbers answered.reply now after is.asked wanted answered.given);
      passed = subst (λ (ks : List KnownView). PassSoFar start events ks first next) (sym answered.kept)
          (λ recovery gave k from below. still_passes recovery start events replies.known.items (one ∷ []) k
          (is.passed recovery (first_gave recovery start events replies.known.items (one ∷ []) gave) k from below));
    }

-- where no reply is given, none was
pub going_unanswered : {A F : Type 0} (gives : A → WantedView → ReplyView → A → Type 0) (fails : A → WantedView → F → A → Type 0) (start : List (List ℕ))
    (events : List Event) (first end : ℕ) (old : A) (next m : ℕ) (numbers : List ℕ) (replies : Replies) (now after : A) (fault : OutsideFault F) →
    IsGoing gives start events first end old next replies now → IsAskedFor start events replies.known.items m numbers →
    IsUnanswered gives fails start events m numbers now after fault → IsStopped gives fails start events old after fault
going_unanswered gives fails start events first end old next m numbers replies now after (Judge fault) is wanted failed = (
  failed.0,
  (
    replies.known.items ++ (record { numbers = numbers; reply = failed.1.0 } ∷ []),
    HasAsked.more replies.known.items m numbers failed.1.0 now after is.asked wanted failed.1.1,
  ),
)
going_unanswered gives fails start events first end old next m numbers replies now after (Answer fault) is wanted failed = record {
  replies = replies.known.items;
  before = now;
  asked = is.asked;
  moment = m;
  numbers = numbers;
  wanted = wanted;
  failed = failed;
}

pub going_all : {A : Type 0} (gives : A → WantedView → ReplyView → A → Type 0) (start : List (List ℕ)) (events : List Event) (first end : ℕ) (old : A)
    (next : ℕ) (replies : Replies) (now : A) → IsGoing gives start events first end old next replies now → next ≡ end →
    IsSettled gives start events first end old now None
going_all gives start events first end old next replies now is all = record {
  replies = replies.known.items;
  asked = is.asked;
  failing = tt;
  found_is = λ recovery gave. subst (λ (n : ℕ). PassBetween (IsOutsideMoment recovery start events replies.known.items) first n) all (is.passed recovery gave);
}

pub going_failed : {A : Type 0} (gives : A → WantedView → ReplyView → A → Type 0) (start : List (List ℕ)) (events : List Event) (first end : ℕ) (old : A)
    (next : ℕ) (replies : Replies) (now : A) (verdict : MomentVerdict OutsideCause) → IsGoing gives start events first end old next replies now → next ≢ end →
    verdict ≢ moments.Pass →
    ((recovery : Outside) → AreRepliesOf recovery start events replies.known.items → IsOutsideMoment recovery start events replies.known.items next verdict) →
    IsSettled gives start events first end old now (Some (next, verdict))
going_failed gives start events first end old next replies now verdict is not bad here =
    let within = is.within in
    record {
      replies = replies.known.items;
      asked = is.asked;
      failing = bad;
      found_is = λ recovery gave. record {
        from = is.from;
        there = omega (arith, within, not);
        passed = is.passed recovery gave;
        here = here recovery gave;
      };
    }

row_from : (judged : ℕ → MomentVerdict OutsideCause → Type 0) (events : List Event) (first : ℕ) (last : Option ℕ) (from end : ℕ) (row : Verdict OutsideCause) →
    from ≡ judged_from events first end → end ≡ end_of events last → IsVerdictBetween judged events from end row →
    IsVerdictBetween judged events (judged_from events first (end_of events last)) (end_of events last) row
row_from judged events first last from end row f e v =
    subst (λ (n : ℕ). IsVerdictBetween judged events (judged_from events first n) n row) e
    (subst (λ (n : ℕ). IsVerdictBetween judged events n end row) f v)

-- the verdict on a row of moments, by the first of them that doesn't pass
pub verdict_passes : {A : Type 0} (gives : A → WantedView → ReplyView → A → Type 0) (start : List (List ℕ)) (events : List Event) (first : ℕ) (last : Option ℕ)
    (from end count : ℕ) (images : Option ℕ) (old new : A) → from ≡ judged_from events first end → end ≡ end_of events last →
    IsSettled gives start events from end old new None → from + count ≡ end → IsImageSum events from end images →
    IsOutsideVerdict gives start events first last old new (rows.Pass count images)
verdict_passes gives start events first last from end count images old new f e is all sum = record {
  replies = is.replies;
  asked = is.asked;
  verdict_is = λ recovery gave. row_from (IsOutsideMoment recovery start events is.replies) events first last from end (rows.Pass count images) f e
      (all, sum, is.found_is recovery gave);
}

at_least : (judged : ℕ → MomentVerdict OutsideCause → Type 0) (events : List Event) (first end m : ℕ) (verdict : MomentVerdict OutsideCause) (row : Verdict OutsideCause) →
    IsLeastMoment judged first end m verdict → IsVerdictAt m verdict row → IsVerdictBetween judged events first end row
at_least judged events first end m moments.Pass row least at = absurd at
at_least judged events first end m (moments.Fail name cause many) row least at =
    subst (λ (v : Verdict OutsideCause). IsVerdictBetween judged events first end v) (sym at) least
at_least judged events first end m (moments.TooMany named) row least at =
    subst (λ (v : Verdict OutsideCause). IsVerdictBetween judged events first end v) (sym at) least
at_least judged events first end m moments.TooLong row least at =
    subst (λ (v : Verdict OutsideCause). IsVerdictBetween judged events first end v) (sym at) least

pub verdict_fails : {A : Type 0} (gives : A → WantedView → ReplyView → A → Type 0) (start : List (List ℕ)) (events : List Event) (first : ℕ) (last : Option ℕ)
    (from end m : ℕ) (verdict : MomentVerdict OutsideCause) (row : Verdict OutsideCause) (old new : A) → from ≡ judged_from events first end → end ≡ end_of events last →
    IsSettled gives start events from end old new (Some (m, verdict)) → IsVerdictAt m verdict row →
    IsOutsideVerdict gives start events first last old new row
verdict_fails gives start events first last from end m verdict row old new f e is at = record {
  replies = is.replies;
  asked = is.asked;
  verdict_is = λ recovery gave. row_from (IsOutsideMoment recovery start events is.replies) events first last from end row f e
      (at_least (IsOutsideMoment recovery start events is.replies) events from end m verdict row (is.found_is recovery gave) at);
}

-- why there is no verdict
pub missing_stopped : {A F : Type 0} (gives : A → WantedView → ReplyView → A → Type 0) (fails : A → WantedView → F → A → Type 0) (start : List (List ℕ))
    (events : List Event) (first : ℕ) (old new : A) (fault : OutsideFault F) → IsStopped gives fails start events old new fault →
    IsMissing gives fails start events first old new fault
missing_stopped gives fails start events first old new (Judge (Marks fault)) is = let e = is.0 in absurd cc
missing_stopped gives fails start events first old new (Judge NoSuchMoment) is = let e = is.0 in absurd cc
missing_stopped gives fails start events first old new (Judge Memory) is = is.1
missing_stopped gives fails start events first old new (Answer fault) is = is
