-- A reply compared with a medium, line by line, and replies one after another.
use Rattle.std.proofs.Common.{◌≡◌, ◌⊎◌, ℕ, ◌+◌, ◌<◌, ◌≤◌, ◌==◌, ◌||◌, Bool, true, false, inl, inr, List, [], ◌∷◌, ◌++◌, length, get_or, take, refl, sym, ap, subst, ◌∙◌, arith}
use Rattle.std.specs.Prelude.{◌↔◌}
use Rattle.std.specs.List.{Contains}
use Rattle.std.proofs.lemmas.List.{take_all, take_more}
use Rattle.std.proofs.lemmas.List.Elements.{Contains-append_left, Contains-get_or, Contains-push, Contains-push_cases}
use Rattle.line_memory.specs.Lines.{line_at}
use Rattle.routine_judge.specs.Outside.{AgreesWith, AreNamed, HasNoneOn}
use Rattle.routine_judge.specs.OutsideTables.{AreKeptIn, AreKnownIn, IsKnownIn}
use Rattle.routine_judge.specs.OutsideViews.{KnownView, known_image}
use Rattle.routine_judge.specs.declared.outside.replies.Replies.{Replies}
use Rattle.store_trace.proofs.Members.{contains_cases, contains_first, contains_later, no_members}
use Rattle.store_trace.specs.declared.event.Event.{Event}
use Rattle.verdict.specs.Numbers.{has}

-- what is taken of a list, with one more
taken_more : {X : Type 0} (xs : List X) (at : ℕ) (d y : X) → at < length xs → Contains (take (at + 1) xs) y → Contains (take at xs) y ⊎ (get_or xs at d ≡ y)
taken_more {X} xs at d y less there =
    Contains-push_cases (take at xs) (get_or xs at d) y (subst (λ (ys : List X). Contains ys y) (take_more xs at d less) there)

-- the medium has the bytes of the image in these lines
abbrev pub AgreesIn : List (List ℕ) → List Event → List ℕ → List (List ℕ) → List ℕ → Type 0
AgreesIn start events numbers medium lines = (l : ℕ) → Contains lines l → line_at medium l ≡ line_at (known_image start events numbers) l

pub agrees_none : (start : List (List ℕ)) (events : List Event) (numbers : List ℕ) (medium : List (List ℕ)) (lines : List ℕ) →
    AgreesIn start events numbers medium (take 0 lines)
agrees_none start events numbers medium lines l there = absurd (no_members l there)

pub agrees_more : (start : List (List ℕ)) (events : List Event) (numbers : List ℕ) (medium : List (List ℕ)) (lines : List ℕ) (at line : ℕ) → at < length lines →
    line ≡ get_or lines at 0 → line_at medium line ≡ line_at (known_image start events numbers) line →
    AgreesIn start events numbers medium (take at lines) → AgreesIn start events numbers medium (take (at + 1) lines)
agrees_more start events numbers medium lines at line less is same are l there = elim (taken_more lines at 0 l less there) [
  | inl old ↦ are l old
  | inr e ↦ subst (λ (n : ℕ). line_at medium n ≡ line_at (known_image start events numbers) n) (is ∙ e) same
]

-- lines that are listed one by one
pub listed_none : (first lines : List ℕ) (l : ℕ) → Contains first l ↔ (Contains first l ⊎ Contains (take 0 lines) l)
listed_none first lines l = (λ there. inl there, λ there. elim there [ inl old ↦ old | inr none ↦ absurd (no_members l none) ])

pub listed_more : (first old new lines : List ℕ) (at line : ℕ) → at < length lines → line ≡ get_or lines at 0 →
    ((l : ℕ) → Contains old l ↔ (Contains first l ⊎ Contains (take at lines) l)) → ((l : ℕ) → Contains new l ↔ (Contains old l ⊎ (l ≡ line))) →
    (l : ℕ) → Contains new l ↔ (Contains first l ⊎ Contains (take (at + 1) lines) l)
listed_more first old new lines at line less is before adds l =
    let x : ℕ = get_or lines at 0 in
    let more : take (at + 1) lines ≡ take at lines ++ (x ∷ []) = take_more lines at 0 less in
    let later : Contains (take at lines) l → Contains (take (at + 1) lines) l =
    λ there. subst (λ (ls : List ℕ). Contains ls l) (sym more) (Contains-append_left (take at lines) (x ∷ []) l there) in
    let here : (l ≡ line) → Contains (take (at + 1) lines) l =
    λ e. subst (λ (ls : List ℕ). Contains ls l) (sym more) (subst (λ (n : ℕ). Contains (take at lines ++ (x ∷ [])) n) (sym (e ∙ is)) (Contains-push (take at lines) x)) in (
      λ there. elim ((adds l).0 there) [
        | inl known ↦ elim ((before l).0 known) [ inl one ↦ inl one | inr taken ↦ inr (later taken) ]
        | inr e ↦ inr (here e)
      ],
      λ there. elim there [
        | inl one ↦ (adds l).1 (inl ((before l).1 (inl one)))
        | inr taken ↦ elim (taken_more lines at 0 l less taken) [
          | inl known ↦ (adds l).1 (inl ((before l).1 (inr known)))
          | inr e ↦ (adds l).1 (inr (sym (is ∙ e)))
        ]
      ],
    )

pub listed_all : (first now lines : List ℕ) (at : ℕ) → length lines ≤ at → ((l : ℕ) → Contains now l ↔ (Contains first l ⊎ Contains (take at lines) l)) →
    (l : ℕ) → Contains now l ↔ (Contains first l ⊎ Contains lines l)
listed_all first now lines at past are l = subst (λ (ls : List ℕ). Contains now l ↔ (Contains first l ⊎ Contains ls l)) (take_all at lines past) (are l)

-- none of these replies is one on the medium
pub none_yet : (start : List (List ℕ)) (events : List Event) (medium : List (List ℕ)) (replies : List KnownView) → HasNoneOn start events (take 0 replies) medium
none_yet start events medium replies known there = absurd (no_members known there)

pub none_more : (start : List (List ℕ)) (events : List Event) (medium : List (List ℕ)) (replies : List KnownView) (at : ℕ) (d : KnownView) → at < length replies →
    ¬ AgreesWith start events (get_or replies at d) medium → HasNoneOn start events (take at replies) medium → HasNoneOn start events (take (at + 1) replies) medium
none_more start events medium replies at d less not none known there = elim (taken_more replies at d known less there) [
  | inl old ↦ none known old
  | inr e ↦ subst (λ (k : KnownView). ¬ AgreesWith start events k medium) e not
]

has_first : (x l : ℕ) (xs : List ℕ) → x ≡ l → has l (x ∷ xs) ≡ true
has_first x l xs e = grind (arith, e)

has_later : (a b : Bool) → b ≡ true → (a || b) ≡ true
has_later true b e = refl
has_later false b e = e

contains_has : (lines : List ℕ) (l : ℕ) → Contains lines l → has l lines ≡ true
contains_has [] l there = absurd (no_members l there)
contains_has (x ∷ xs) l there = elim (contains_cases x xs l there) [
  | inl e ↦ has_first x l xs e
  | inr d ↦ has_later (x == l) (has l xs) (contains_has xs l d)
]

has_cases : (x l : ℕ) (xs : List ℕ) → has l (x ∷ xs) ≡ true → (x ≡ l) ⊎ (has l xs ≡ true)
has_cases x l xs h = grind (arith, h)

has_contains : (lines : List ℕ) (l : ℕ) → has l lines ≡ true → Contains lines l
has_contains [] l h = absurd cc
has_contains (x ∷ xs) l h = elim (has_cases x l xs h) [
  | inl e ↦ contains_first x xs l e
  | inr d ↦ contains_later x xs l (has_contains xs l d)
]

-- one more reply is kept, and the lines that it names
pub known_more : (start : List (List ℕ)) (events : List Event) (old new : Replies) (one : KnownView) → AreKnownIn start events old → IsKnownIn start events one →
    new.known.items ≡ old.known.items ++ (one ∷ []) → ((l : ℕ) → Contains new.lines.items l ↔ (Contains old.lines.items l ⊎ Contains one.reply.lines l)) →
    AreKnownIn start events new
known_more start events old new one are is grown lines =
    let cases : (known : KnownView) → Contains new.known.items known → Contains old.known.items known ⊎ (one ≡ known) = λ known there.
    Contains-push_cases old.known.items one known (subst (λ (ks : List KnownView). Contains ks known) grown there) in
    record {
      each = λ known there. elim (cases known there) [
        | inl before ↦ are.each known before
        | inr e ↦ subst (λ (k : KnownView). IsKnownIn start events k) e is
      ];
      there = λ l named. elim ((lines l).0 named) [ inl before ↦ are.there l before | inr new' ↦ is.there l new' ];
      listed = λ known l there named. elim (cases known there) [
        | inl before ↦ contains_has new.lines.items l ((lines l).1 (inl (has_contains old.lines.items l (are.listed known l before named))))
        | inr e ↦ contains_has new.lines.items l ((lines l).1 (inr (subst (λ (k : KnownView). Contains k.reply.lines l) (sym e) named)))
      ];
    }

pub named_more : (old new : Replies) (one : KnownView) → AreNamed old.known.items old.lines.items → new.known.items ≡ old.known.items ++ (one ∷ []) →
    ((l : ℕ) → Contains new.lines.items l ↔ (Contains old.lines.items l ⊎ Contains one.reply.lines l)) → AreNamed new.known.items new.lines.items
named_more old new one are grown lines l named =
    elim ((lines l).0 named) [
      | inl before ↦
          let w = are l before in
          (w.0, subst (λ (ks : List KnownView). Contains ks w.0) (sym grown) (Contains-append_left old.known.items (one ∷ []) w.0 w.1), w.2)
      | inr new' ↦ (one, subst (λ (ks : List KnownView). Contains ks one) (sym grown) (Contains-push old.known.items one), new')
    ]

pub kept_more : (start : List (List ℕ)) (events : List Event) (old new : Replies) (one : KnownView) → AreKeptIn start events old → IsKnownIn start events one →
    new.known.items ≡ old.known.items ++ (one ∷ []) → ((l : ℕ) → Contains new.lines.items l ↔ (Contains old.lines.items l ⊎ Contains one.reply.lines l)) →
    AreKeptIn start events new
kept_more start events old new one are is grown lines =
    record { known = known_more start events old new one are.known is grown lines; named = named_more old new one are.named grown lines }
