-- Images by replies: what is asked, and what is found, is the same throughout a branch.
use Rattle.std.proofs.Common.{◌≡◌, ◌⊎◌, ℕ, zero, suc, ◌+◌, ◌-◌, ◌^◌, ◌<◌, ◌≤◌, ◌==◌, ◌&&◌, ◌||◌, Bool, true, false, not, inl, inr, List, [], ◌∷◌, length, map, take, refl, sym, ap, subst, ◌∙◌, arith, Option, Some, None, Result}
use Rattle.std.specs.List.{Contains}
use Rattle.image_check.specs.Verdicts.{whole_line}
use Rattle.line_memory.specs.Lines.{line_at}
use Rattle.recovery.specs.Images.{content, has_same_bytes, same_at}
use Rattle.routine_judge.specs.Outside.{AgreesWith, HasNoneOn, asks_all}
use Rattle.routine_judge.specs.OutsideTables.{AreKnownIn, IsReplyAt, IsSoughtOn}
use Rattle.routine_judge.specs.OutsideViews.{KnownView, known_image}
use Rattle.routine_judge.specs.declared.outside.cause.Sought.{Sought}
use Rattle.routine_judge.specs.declared.outside.cause.Sought.TheVariants.{Unknown, Missing, Different, Full}
use Rattle.routine_judge.specs.declared.outside.replies.Replies.{Replies}
use Rattle.store_trace.proofs.Images.{length_image}
use Rattle.store_trace.specs.History.{at_moment}
use Rattle.store_trace.specs.declared.event.Event.{Event}
use Rattle.verdict.specs.Branches.{Agree, IsAdaptive, IsShared}
use Rattle.verdict.specs.Bytes.{has_byte}
use Rattle.verdict.specs.ByLine.{line_decides}
use Rattle.verdict.specs.CutImages.{AreMedia, image_at}
use Rattle.verdict.specs.Numbers.{has}
use Rattle.verdict.specs.declared.branches.question.Question.{Question}

-- of every image the same is asked
pub all_adaptive : (lines : List ℕ) (alike : Question → ℕ → ℕ → Bool) → IsAdaptive alike (asks_all lines)
all_adaptive lines alike c k qs rs count a b h = ap (λ (xs : List Question). take (count + 1) xs) (b ∙ sym a)

pub all_shared : (lines : List ℕ) (alike : Question → ℕ → ℕ → Bool) → IsShared alike (asks_all lines)
all_shared lines alike c k qs a h = a

left : (a b : Bool) → (a && b) ≡ true → a ≡ true
left true b h = refl
left false b h = absurd cc

right : (a b : Bool) → (a && b) ≡ true → b ≡ true
right true b h = h
right false b h = absurd cc

-- each of the first n bytes is one of a whole line
abbrev has_all : ℕ → Bool
has_all zero = true
has_all (suc n) = has_byte (2 ^ 64 - 1) n && has_all n

less_or_same : (i n : ℕ) → i < suc n → (i < n) ⊎ (i ≡ n)
less_or_same i n less = grind (arith, less)

has_each : (n i : ℕ) → has_all n ≡ true → i < n → has_byte (2 ^ 64 - 1) i ≡ true
has_each zero i h less = absurd (omega (arith, less))
has_each (suc n) i h less = elim (less_or_same i n less) [
  | inl lower ↦ has_each n i (right (has_byte (2 ^ 64 - 1) n) (has_all n) h) lower
  | inr e ↦ subst (λ (j : ℕ). has_byte (2 ^ 64 - 1) j ≡ true) (sym e) (left (has_byte (2 ^ 64 - 1) n) (has_all n) h)
]

all_bytes : has_all 64 ≡ true
all_bytes = refl

-- lines that are the same at all bytes of a whole line
same_whole : (xs ys : List ℕ) (i : ℕ) → i + length xs ≤ 64 → length xs ≡ length ys → same_at (2 ^ 64 - 1) i xs ys ≡ true → xs ≡ ys
same_whole [] [] i most e h = refl
same_whole [] (y ∷ ys) i most e h = absurd (omega (arith, e))
same_whole (x ∷ xs) [] i most e h = absurd (omega (arith, e))
same_whole (x ∷ xs) (y ∷ ys) i most e h =
    let b : has_byte (2 ^ 64 - 1) i ≡ true = has_each 64 i all_bytes (omega (arith, most)) in
    let here : (not (has_byte (2 ^ 64 - 1) i) || (x == y)) ≡ true = left (not (has_byte (2 ^ 64 - 1) i) || (x == y)) (same_at (2 ^ 64 - 1) (i + 1) xs ys) h in
    let one : (x == y) ≡ true = rw b at here in
    let rest = same_whole xs ys (i + 1) (omega (arith, most)) (omega (arith, e)) (right (not (has_byte (2 ^ 64 - 1) i) || (x == y)) (same_at (2 ^ 64 - 1) (i + 1) xs ys) h) in
    let same : x ≡ y = grind (arith, one) in
    ap (λ (z : ℕ). z ∷ xs) same ∙ ap (λ (zs : List ℕ). y ∷ zs) rest

has_cases : (x l : ℕ) (xs : List ℕ) → has l (x ∷ xs) ≡ true → (x ≡ l) ⊎ (has l xs ≡ true)
has_cases x l xs h = grind (arith, h)

-- where cuts agree on lines, asked as wholes, they are alike in each of them
agree_in : (lines : List ℕ) (alike : Question → ℕ → ℕ → Bool) (k c : ℕ → ℕ) → Agree alike k c (map whole_line lines) → (l : ℕ) → has l lines ≡ true →
    alike (whole_line l) (k l) (c l) ≡ true
agree_in [] alike k c h l there = absurd cc
agree_in (x ∷ xs) alike k c h l there = elim (has_cases x l xs there) [
  | inl e ↦ subst (λ (n : ℕ). alike (whole_line n) (k n) (c n) ≡ true) e h.0
  | inr d ↦ agree_in xs alike k c h.1 l d
]

whole_64 : (start : List (List ℕ)) (events : List Event) (m : ℕ) → AreMedia start events m → (k : ℕ → ℕ) (l : ℕ) → l < length start →
    length (line_at (image_at start events m k) l) ≡ 64
whole_64 start events m whole k l there = (whole k).each.whole l (rw (length_image start k (at_moment events m)) there)

-- and have the same bytes there
line_same : (start : List (List ℕ)) (events : List Event) (m : ℕ) → AreMedia start events m → (k c : ℕ → ℕ) (l : ℕ) → l < length start →
    has_same_bytes (image_at start events m) (whole_line l) (k l) (c l) ≡ true → line_at (image_at start events m k) l ≡ line_at (image_at start events m c) l
line_same start events m whole k c l there h =
    let one = content (image_at start events m) l (k l) in
    let other = content (image_at start events m) l (c l) in
    let long : length one ≡ 64 = whole_64 start events m whole (λ _. k l) l there in
    let long_too : length other ≡ 64 = whole_64 start events m whole (λ _. c l) l there in
    line_decides start (λ _. k l) k (at_moment events m) l refl
    ∙ same_whole one other 0 (omega (arith, long)) (long ∙ sym long_too) h
    ∙ sym (line_decides start (λ _. c l) c (at_moment events m) l refl)

-- so the same replies are on both
abbrev AreLike : ℕ → List ℕ → List (List ℕ) → List (List ℕ) → Type 0
AreLike count lines one other = (l : ℕ) → l < count → has l lines ≡ true → line_at one l ≡ line_at other l

agrees_too : (start : List (List ℕ)) (events : List Event) (replies : Replies) → AreKnownIn start events replies → (one other : List (List ℕ)) →
    AreLike (length start) replies.lines.items one other → (known : KnownView) → Contains replies.known.items known → AgreesWith start events known other → AgreesWith start events known one
agrees_too start events replies are one other like known there agrees l named =
    like l ((are.each known there).there l named) (are.listed known l there named) ∙ agrees l named

reply_too : (start : List (List ℕ)) (events : List Event) (replies : Replies) → AreKnownIn start events replies → (one other : List (List ℕ)) →
    AreLike (length start) replies.lines.items one other → (i : ℕ) (known : KnownView) → IsReplyAt start events replies.known.items i other known →
    IsReplyAt start events replies.known.items i one known
reply_too start events replies are one other like i known is =
    record { there = is.there; here = is.here; agrees = agrees_too start events replies are one other like known (i, is.there, is.here) is.agrees }

sought_too : (start : List (List ℕ)) (events : List Event) (replies : Replies) (right : List (List ℕ)) → AreKnownIn start events replies →
    (one other : List (List ℕ)) → AreLike (length start) replies.lines.items one other → (found : Option Sought) →
    IsSoughtOn start events replies.known.items right other found → IsSoughtOn start events replies.known.items right one found
sought_too start events replies right are one other like None f =
    (f.0, f.1, reply_too start events replies are one other like f.0 f.1 f.2, f.3)
sought_too start events replies right are one other like (Some Unknown) f = λ known there agrees.
    f known there (agrees_too start events replies are other one (λ l less named. sym (like l less named)) known there agrees)
sought_too start events replies right are one other like (Some (Missing i)) f =
    (f.0, reply_too start events replies are one other like i f.0 f.1, f.2)
sought_too start events replies right are one other like (Some Different) f =
    (f.0, f.1, reply_too start events replies are one other like f.0 f.1 f.2, f.3)
sought_too start events replies right are one other like (Some Full) f =
    (f.0, f.1, reply_too start events replies are one other like f.0 f.1 f.2, f.3)

pub known_branchwise : (start : List (List ℕ)) (events : List Event) (m : ℕ) (replies : Replies) (right : List (List ℕ)) → AreKnownIn start events replies →
    AreMedia start events m → (c k : ℕ → ℕ) (questions : List Question) (found : Option Sought) → asks_all replies.lines.items c questions →
    Agree (has_same_bytes (image_at start events m)) k c questions →
    IsSoughtOn start events replies.known.items right (image_at start events m c) found → IsSoughtOn start events replies.known.items right (image_at start events m k) found
known_branchwise start events m replies right are whole c k questions found a h f =
    sought_too start events replies right are (image_at start events m k) (image_at start events m c)
    (λ l less named. line_same start events m whole k c l less
    (agree_in replies.lines.items (has_same_bytes (image_at start events m)) k c
    (subst (λ (qs : List Question). Agree (has_same_bytes (image_at start events m)) k c qs) a h) l named))
    found f
