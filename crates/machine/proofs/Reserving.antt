-- The lines that harts have reserved, as calls of the reservations show them.
use Rattle.std.proofs.Common.{◌≡◌, ◌≢◌, ℕ, zero, suc, ◌+◌, ◌<◌, ◌↔◌, List, [], ◌∷◌, Option, Some, None, Bool, true, false, flat_map, slice_get, refl, sym, ◌∙◌, inl, inr, arith}
use Rattle.std.proofs.lemmas.Bool.{cases_Bool, eq-eqb, eqb-true, ne_eqb, cases_eq}
use Rattle.reservation.specs.Reserved.{Agrees, Call, Follows, Reserved, Taken, is_reserved}
use Rattle.machine.specs.declared.shared_memory.history.Entry.{Entry}
use Rattle.machine.specs.Histories.{calls_of, has_reserved}
use Rattle.machine.specs.SharedView.{SharedView, holds, is_line, line_in, reserved_lines}

-- a hart's line is that of its word
pub line_there : (words : List (Option ℕ)) (h n k : ℕ) → k < n
    → slice_get (reserved_lines words h n) k ≡ Some (line_in (slice_get words (h + k)))
unfolding reserved_lines
line_there words h zero k less = absurd (omega arith)
line_there words h (suc n) zero less = let e : h + 0 ≡ h = omega arith in rw e refl
line_there words h (suc n) (suc k) less =
    let e : h + suc k ≡ suc h + k = omega arith in
    rw e (line_there words (suc h) n k (omega arith))

word_shown : (word : Option (Option ℕ)) (l : ℕ) → (Some (line_in word) ≡ Some (Some l)) ↔ (word ≡ Some (Some l))
word_shown None l = (λ e. absurd (cc), λ e. absurd (cc))
word_shown (Some line) l = (λ e. e, λ e. e)

line_shown : (words : List (Option ℕ)) (h l : ℕ) → h < 8
    → (slice_get (reserved_lines words 0 8) h ≡ Some (Some l)) ↔ (slice_get words h ≡ Some (Some l))
line_shown words h l less =
    let place : 0 + h ≡ h = omega arith in
    let there = rw place at (line_there words 0 8 h less) in
    rw there (word_shown (slice_get words h) l)

-- the lines agree with the calls that the words agree with, and with no others
pub lines_agree : (words : List (Option ℕ)) (calls : List Call) → Agrees words calls → Agrees (reserved_lines words 0 8) calls
lines_agree words calls agrees h l less =
    let shown = line_shown words h l less in
    let word = agrees h l less in
    (λ e. word.0 (shown.0 e), λ t. shown.1 (word.1 t))

pub words_agree : (words : List (Option ℕ)) (calls : List Call) → Agrees (reserved_lines words 0 8) calls → Agrees words calls
words_agree words calls agrees h l less =
    let shown = line_shown words h l less in
    let line = agrees h l less in
    (λ e. line.0 (shown.1 e), λ t. shown.0 (line.1 t))

pub lines_follow : (old new : List (Option ℕ)) (call : Call) (calls : List Call) → Follows old new call
    → Agrees (reserved_lines old 0 8) calls → Agrees (reserved_lines new 0 8) (call ∷ calls)
lines_follow old new call calls follows agrees =
    lines_agree new (call ∷ calls) (follows.agrees calls (words_agree old calls agrees))

-- calls that make these reservations, of the harts from one on
pub reserving : ℕ → List (Option ℕ) → List Call
reserving h [] = []
reserving h (None ∷ lines) = reserving (suc h) lines
reserving h (Some line ∷ lines) = Reserved h line ∷ reserving (suc h) lines

passed : (h k line l : ℕ) (calls : List Call) → h ≢ k → is_reserved k l (Reserved h line ∷ calls) ≡ is_reserved k l calls
passed h k line l calls other = rw (ne_eqb h k other) refl

none_before : (h k l : ℕ) (lines : List (Option ℕ)) → k < h → is_reserved k l (reserving h lines) ≡ false
unfolding reserving
none_before h k l [] less = refl
none_before h k l (None ∷ lines) less = none_before (suc h) k l lines (omega arith)
none_before h k l (Some line ∷ lines) less =
    let other : h ≢ k = omega arith in
    passed h k line l (reserving (suc h) lines) other ∙ none_before (suc h) k l lines (omega arith)

reserved_here : (h k l : ℕ) (lines : List (Option ℕ)) → is_reserved (h + k) l (reserving h lines) ≡ is_line (slice_get lines k) l
unfolding reserving
reserved_here h k l [] = refl
reserved_here h zero l (None ∷ lines) = none_before (suc h) (h + 0) l lines (omega arith)
reserved_here h zero l (Some line ∷ lines) = rw (eq-eqb h (h + 0) (omega arith)) refl
reserved_here h (suc k) l (None ∷ lines) = let e : h + suc k ≡ suc h + k = omega arith in rw e (reserved_here (suc h) k l lines)
reserved_here h (suc k) l (Some line ∷ lines) =
    let e : h + suc k ≡ suc h + k = omega arith in
    let other : h ≢ h + suc k = omega arith in
    passed h (h + suc k) line l (reserving (suc h) lines) other ∙ rw e (reserved_here (suc h) k l lines)

is_line_when : (o : Option (Option ℕ)) (l : ℕ) → (o ≡ Some (Some l)) ↔ (is_line o l ≡ true)
is_line_when None l = (λ e. absurd (cc), λ e. absurd (cc))
is_line_when (Some None) l = (λ e. absurd (cc), λ e. absurd (cc))
is_line_when (Some (Some line)) l =
    (λ e. let same : line ≡ l = cc in eq-eqb line l same, λ t. let same = eqb-true line l t in rw same refl)

reserved_at : (h l : ℕ) (lines : List (Option ℕ)) → is_reserved h l (reserving 0 lines) ≡ is_line (slice_get lines h) l
reserved_at h l lines =
    let place : 0 + h ≡ h = omega arith in
    rw place at (reserved_here 0 h l lines)

reserving_agrees : (lines : List (Option ℕ)) → Agrees lines (reserving 0 lines)
reserving_agrees lines h l less = rw (reserved_at h l lines) (is_line_when (slice_get lines h) l)

-- what an SC is told is whether its hart's line is the one that is asked for
pub told_line : (words : List (Option ℕ)) (h l : ℕ) (told : Bool) → ((calls : List Call) → Agrees words calls → told ≡ is_reserved h l calls)
    → told ≡ is_line (slice_get (reserved_lines words 0 8) h) l
told_line words h l told told_by =
    let lines = reserved_lines words 0 8 in
    told_by (reserving 0 lines) (words_agree words (reserving 0 lines) (reserving_agrees lines)) ∙ reserved_at h l lines

-- what a hart holds is what the definition says that it has reserved
same_answer : (o : Option (Option ℕ)) (l : ℕ) (b : Bool) → (o ≡ Some (Some l)) ↔ (b ≡ true) → is_line o l ≡ b
same_answer o l true same = (is_line_when o l).0 (same.1 refl)
same_answer o l false same = elim (cases_Bool (is_line o l)) [
  | inl held ↦ let e = same.0 ((is_line_when o l).1 held) in absurd (cc)
  | inr free ↦ free
]

pub held_as : (shared : SharedView) (history : List Entry) (h : ℕ) → h < 8 → Agrees shared.reserved (flat_map calls_of history)
    → holds shared h ≡ has_reserved history h
held_as shared history h few agrees =
    let same : (l : ℕ) → holds shared h l ≡ has_reserved history h l = λ l.
    same_answer (slice_get shared.reserved h) l (has_reserved history h l) (agrees h l few) in
    λ i l. same l i

-- a reservation that is ended and made again
same_line : (o p : Option (Option ℕ)) → ((l : ℕ) → (o ≡ Some (Some l)) ↔ (p ≡ Some (Some l))) → line_in o ≡ line_in p
same_line None None same = refl
same_line None (Some None) same = refl
same_line None (Some (Some l)) same = let e = (same l).1 refl in absurd (cc)
same_line (Some None) None same = refl
same_line (Some None) (Some None) same = refl
same_line (Some None) (Some (Some l)) same = let e = (same l).1 refl in absurd (cc)
same_line (Some (Some l)) p same = let e = (same l).0 refl in rw e refl

same_lines : (a b : List (Option ℕ)) (h n : ℕ)
    → ((k l : ℕ) → k < h + n → (slice_get a k ≡ Some (Some l)) ↔ (slice_get b k ≡ Some (Some l)))
    → reserved_lines a h n ≡ reserved_lines b h n
unfolding reserved_lines
same_lines a b h zero same = refl
same_lines a b h (suc n) same =
    let first : line_in (slice_get a h) ≡ line_in (slice_get b h) =
    same_line (slice_get a h) (slice_get b h) (λ l. same h l (omega arith)) in
    let rest : reserved_lines a (suc h) n ≡ reserved_lines b (suc h) n = same_lines a b (suc h) n (λ k l less. same k l (omega arith)) in
    rw (first, rest) refl

-- what a hart's last reservation says, where the calls before it said the same
again : (calls : List Call) (h line k l : ℕ) (o : Option (Option ℕ)) → is_reserved k l calls ≡ is_line o l → (k ≡ h → is_line o line ≡ true)
    → is_reserved k l (Reserved h line ∷ Taken h ∷ calls) ≡ is_line o l
again calls h line k l o before held = elim (cases_eq h k) [
  | inl here ↦
      let e : o ≡ Some (Some line) = (is_line_when o line).1 (held (sym here)) in
      rw (eq-eqb h k here, e) refl
  | inr other ↦ rw (ne_eqb h k other) before
]

pub restored : (old ended kept new : List (Option ℕ)) (h line : ℕ) → Follows old ended (Taken h)
    → reserved_lines kept 0 8 ≡ reserved_lines ended 0 8 → Follows kept new (Reserved h line)
    → is_line (slice_get (reserved_lines old 0 8) h) line ≡ true → reserved_lines new 0 8 ≡ reserved_lines old 0 8
restored old ended kept new h line taken same made held =
    let lines = reserved_lines old 0 8 in
    let calls = reserving 0 lines in
    let first : Agrees old calls = words_agree old calls (reserving_agrees lines) in
    let middle : Agrees (reserved_lines kept 0 8) (Taken h ∷ calls) = rw same (lines_agree ended (Taken h ∷ calls) (taken.agrees calls first)) in
    let last : Agrees new (Reserved h line ∷ Taken h ∷ calls) = made.agrees (Taken h ∷ calls) (words_agree kept (Taken h ∷ calls) middle) in
    same_lines new old 0 8 (λ k l less.
    let said = again calls h line k l (slice_get lines k) (reserved_at k l lines) (λ here. rw (sym here) at held) in
    let now = rw said at (last k l (omega arith)) in
    let then = rw (reserved_at k l lines) at (first k l (omega arith)) in
    (λ e. then.1 (now.0 e), λ e. now.1 (then.0 e)))
