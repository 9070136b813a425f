-- Kept stores and mends, one element more, and deadlines.
use Rattle.std.proofs.Common.{◌≡◌, ◌≢◌, ℕ, zero, suc, ◌-◌, rules, ◌+◌, ◌<◌, ◌≤◌, ◌⊎◌, inl, inr, true, false, List, [], ◌∷◌, ◌++◌, Option, Some, None, length, get_or, take, arith, refl, ap, subst, sym, ◌∙◌}
use Rattle.std.specs.Prelude.{All, AllPairs, Any, Bool, Contains, IsTrue, max, min, nat_lt, option_to_list}
use Rattle.std.proofs.Math.Seq.{get_or-append_seam}
use Rattle.std.proofs.lemmas.Bool.Decides.{nat_tests}
use Rattle.std.proofs.lemmas.List.{get_or_append_left, length-append, take_more}
use Rattle.std.proofs.lemmas.Grind.{common_steps}
use Rattle.std.proofs.lemmas.List.Elements.{All-cons, All-nil, All-push, All-weaker}
use Rattle.std.proofs.lemmas.List.Quantifiers.{all_pairs_push, Any-push}
use Rattle.store_trace.specs.Marks.{begun_by, ended_by}
use Rattle.store_trace.specs.declared.event.Event.{Event}
use Rattle.store_trace.specs.declared.event.Event.TheVariants as kinds
use Rattle.std.proofs.lemmas.Option.{get_or_from_slice_get}
use Rattle.durability.proofs.Floors.{le_or_gt, no_event}
use Rattle.durability.proofs.Lates.{any_kept, last_or_before}
use Rattle.durability.proofs.Marks.{same_event}
use Rattle.durability.proofs.Dedups.{any_weaker}
use Rattle.durability.specs.Causes.{IsCause, IsClean, clean_of}
use Rattle.durability.specs.Cuts.{IsKeptOf, IsLostOf}
use Rattle.durability.specs.Given.{AreGiven}
use Rattle.durability.specs.Mends.{AreForKept, AreForLost, first_behind, IsAmong, IsCaused, IsDeadline, IsEventOf, IsFirstMark, IsKeptBehind, IsLastIfAny, IsMarkWithin, IsMend, later_of, event_of, NoMark}
use Rattle.durability.specs.Numbered.{event_at, IsFirst, IsFirstIfAny}
use Rattle.durability.specs.Operations.{IsLast}
use Rattle.durability.specs.declared.cause.Cause.{Cause}
use Rattle.durability.specs.declared.cause.Cause.TheVariants.{NeverCleaned, CleanedTooLate, NeverFenced, FencedTooLate, FencedByAnother}
use Rattle.durability.specs.declared.cut.CutLine.{CutLine}
use Rattle.durability.specs.declared.cut.Kept.{Kept}
use Rattle.durability.specs.declared.cut.Lost.{Lost}
use Rattle.durability.specs.declared.mend.Deadline.{Deadline}
use Rattle.durability.specs.declared.mend.Deadline.TheVariants.{BeforeKept, BeforeEnd, BeforeBegin}
use Rattle.durability.specs.declared.mend.Mark.{Mark}
use Rattle.durability.specs.declared.mend.Mend.{Mend}
use Rattle.durability.specs.declared.mend.Mend.TheVariants.{Later}

-- the last element, or one before it
any_split : {X : Type 0} (P : X → Type 0) (xs : List X) (x : X) → Any P (xs ++ x ∷ []) → Any P xs ⊎ P x
any_split P xs x a = elim (le_or_gt (length xs) a.0) [
  | inr left ↦ inl (a.0, a.1, left, sym (get_or_append_left xs (x ∷ []) a.1 a.0 left) ∙ a.3, a.4)
  | inl right ↦
      let last : a.0 ≡ length xs = omega (arith, right, a.2, length-append xs (x ∷ [])) in
      let own : x ≡ a.1 = sym (get_or-append_seam xs x [] a.1) ∙ (rw last at a.3) in
      inr (rw own a.4)
]

none_among : (n : ℕ) → IsAmong [] n → ⊥
none_among n a = omega (arith, a.2)

pub last_none : IsLastIfAny (IsAmong []) None
last_none = none_among

later_is : (last store : ℕ) → ((max last store ≡ last) × (store ≤ last)) ⊎ ((max last store ≡ store) × (last ≤ store))
later_is last store = grind (arith, nat_tests)

last_push : (kept : List Kept) (one : Kept) (last : Option ℕ) → IsLastIfAny (IsAmong kept) last →
    IsLast (IsAmong (kept ++ one ∷ [])) (later_of last one.store)
last_push kept one None none = record {
  holds = Any-push (λ k. k.store ≡ one.store) kept one refl;
  last = λ n a. elim (any_split (λ k. k.store ≡ n) kept one a) [
    | inl before ↦ absurd (none n before)
    | inr own ↦ omega (arith, own)
  ];
}
last_push kept one (Some last) is = elim (later_is last one.store) [
  | inl stays ↦ rw stays.0 (record {
    holds = any_kept (λ k. k.store ≡ last) kept (one ∷ []) is.holds;
    last = λ n a. elim (any_split (λ k. k.store ≡ n) kept one a) [
      | inl before ↦ is.last n before
      | inr own ↦ omega (arith, own, stays.1)
    ];
  })
  | inr new ↦ rw new.0 (record {
    holds = Any-push (λ k. k.store ≡ one.store) kept one refl;
    last = λ n a. elim (any_split (λ k. k.store ≡ n) kept one a) [
      | inl before ↦ omega (arith, is.last n before, new.1)
      | inr own ↦ omega (arith, own)
    ];
  })
]

pub last_more : (kept : List Kept) (i : ℕ) (d : Kept) (last : Option ℕ) (new : ℕ) → i < length kept → new ≡ later_of last (get_or kept i d).store →
    IsLastIfAny (IsAmong (take i kept)) last → IsLastIfAny (IsAmong (take (i + 1) kept)) (Some new)
last_more kept i d last new there e is =
    rw (take_more kept i d there) (rw e (last_push (take i kept) (get_or kept i d) last is))

-- the kept store that comes too early
pub kept_none : (kept : List Kept) → IsLastIfAny (IsAmong kept) None → AreForKept kept []
kept_none [] none = refl
kept_none (one ∷ kept) none = absurd (none one.store (0, one, omega arith, refl, refl))

pub kept_some : (kept : List Kept) (store : ℕ) → IsLastIfAny (IsAmong kept) (Some store) → AreForKept kept (Later store ∷ [])
kept_some [] store is = absurd (none_among store is.holds)
kept_some (one ∷ kept) store is = (store, is, refl)

-- the first kept store behind an event
pub first_none : (e : ℕ) → IsFirstIfAny (IsKeptBehind [] e) None
first_none e n is = none_among n is.among

behind_left : (kept : List Kept) (one : Kept) (e n : ℕ) → IsKeptBehind kept e n → IsKeptBehind (kept ++ one ∷ []) e n
behind_left kept one e n is = record { behind = is.behind; among = any_kept (λ k. k.store ≡ n) kept (one ∷ []) is.among }

behind_own : (kept : List Kept) (one : Kept) (e : ℕ) → e < one.store → IsKeptBehind (kept ++ one ∷ []) e one.store
behind_own kept one e high = record { behind = high; among = Any-push (λ k. k.store ≡ one.store) kept one refl }

behind_split : (kept : List Kept) (one : Kept) (e n : ℕ) → IsKeptBehind (kept ++ one ∷ []) e n → IsKeptBehind kept e n ⊎ (one.store ≡ n)
behind_split kept one e n is = elim (any_split (λ k. k.store ≡ n) kept one is.among) [
  | inl before ↦ inl (record { behind = is.behind; among = before })
  | inr own ↦ inr own
]

less_or_not : (i j : ℕ) → ((nat_lt i j ≡ true) × (i < j)) ⊎ ((nat_lt i j ≡ false) × (j ≤ i))
less_or_not i j = grind (arith, nat_tests)

lower_is : (first store : ℕ) → ((min first store ≡ first) × (first ≤ store)) ⊎ ((min first store ≡ store) × (store ≤ first))
lower_is first store = grind (arith, nat_tests)

first_push : (kept : List Kept) (one : Kept) (e : ℕ) (first : Option ℕ) → IsFirstIfAny (IsKeptBehind kept e) first →
    IsFirstIfAny (IsKeptBehind (kept ++ one ∷ []) e) (first_behind e first one.store)
first_push kept one e None none = elim (less_or_not e one.store) [
  | inl high ↦ rw high.0 (record {
    holds = behind_own kept one e high.1;
    first = λ n is. elim (behind_split kept one e n is) [
      | inl before ↦ absurd (none n before)
      | inr own ↦ omega (arith, own)
    ];
  })
  | inr low ↦ rw low.0 (λ n is. elim (behind_split kept one e n is) [
    | inl before ↦ none n before
    | inr own ↦ absurd (omega (arith, own, low.1, is.behind))
  ])
]
first_push kept one e (Some first) f = elim (less_or_not e one.store) [
  | inr low ↦ rw low.0 (record {
    holds = behind_left kept one e first f.holds;
    first = λ n is. elim (behind_split kept one e n is) [
      | inl before ↦ f.first n before
      | inr own ↦ absurd (omega (arith, own, low.1, is.behind))
    ];
  })
  | inl high ↦ rw high.0 (elim (lower_is first one.store) [
    | inl stays ↦ rw stays.0 (record {
      holds = behind_left kept one e first f.holds;
      first = λ n is. elim (behind_split kept one e n is) [
        | inl before ↦ f.first n before
        | inr own ↦ omega (arith, own, stays.1)
      ];
    })
    | inr new ↦ rw new.0 (record {
      holds = behind_own kept one e high.1;
      first = λ n is. elim (behind_split kept one e n is) [
        | inl before ↦ omega (arith, f.first n before, new.1)
        | inr own ↦ omega (arith, own)
      ];
    })
  ])
]

pub first_more : (kept : List Kept) (i : ℕ) (d : Kept) (e : ℕ) (first new : Option ℕ) → i < length kept →
    new ≡ first_behind e first (get_or kept i d).store → IsFirstIfAny (IsKeptBehind (take i kept) e) first →
    IsFirstIfAny (IsKeptBehind (take (i + 1) kept) e) new
first_more kept i d e first new there is f =
    rw (take_more kept i d there) (rw is (first_push (take i kept) (get_or kept i d) e first f))

-- marks behind an event and by a moment, one event more
pub no_mark : (mark : Event → Option ℕ) (events : List Event) (e m : ℕ) → m ≤ e → NoMark mark events e m
no_mark mark events e m empty found is = omega (arith, is.behind, is.made, empty)

pub no_mark_more : (mark : Event → Option ℕ) (events : List Event) (e at : ℕ) (event : Event) → event_at events (at + 1) ≡ Some event →
    mark event ≡ None → NoMark mark events e at → NoMark mark events e (at + 1)
no_mark_more mark events e at event here none before found is = elim (last_or_before found.event at is.made) [
  | inl last ↦
      let there : event_at events (at + 1) ≡ Some is.event = rw last at is.is in
      let same : is.event ≡ event = same_event events (at + 1) is.event event there here in
      let marked : mark event ≡ Some found.operation = ap mark (sym same) ∙ is.marks in
      let never : None ≡ Some found.operation = sym none ∙ marked in
      cc
  | inr early ↦ before found (record { behind = is.behind; made = early; event = is.event; is = is.is; marks = is.marks })
]

pub no_mark_by : (mark : Event → Option ℕ) (events : List Event) (e m n : ℕ) → m ≤ n → NoMark mark events e n → NoMark mark events e m
no_mark_by mark events e m n low none found is =
    none found (record { behind = is.behind; made = omega (arith, is.made, low); event = is.event; is = is.is; marks = is.marks })

pub first_mark_here : (mark : Event → Option ℕ) (events : List Event) (e m at op : ℕ) (event : Event) → e ≤ at → at < m →
    event_at events (at + 1) ≡ Some event → mark event ≡ Some op → NoMark mark events e at →
    IsFirstMark mark events e m (Some (record { event = at + 1; operation = op }))
first_mark_here mark events e m at op event low high here marks none = (
  record { behind = omega (arith, low); made = omega (arith, high); event = event; is = here; marks = marks },
  λ found is. elim (le_or_gt found.event at) [
    | inl early ↦ absurd (none found (record { behind = is.behind; made = early; event = is.event; is = is.is; marks = is.marks }))
    | inr late ↦ omega (arith, late)
  ],
)

-- a deadline comes after the store, and by the moment
pub deadline_behind : (events : List Event) (m : ℕ) (kept : List Kept) (e : ℕ) (deadline : Deadline) → IsDeadline events m kept e (Some deadline) →
    e < event_of deadline
deadline_behind events m kept e (BeforeKept store) is = is.holds.behind
deadline_behind events m kept e (BeforeEnd mark) is = is.1.0.behind
deadline_behind events m kept e (BeforeBegin mark) is = is.2.0.behind

any_holds : {X : Type 0} (P Q : X → Type 0) (xs : List X) → All P xs → Any Q xs → (x : X) × P x × Q x
any_holds P Q xs all a = (a.1, subst P a.3 (all a.0 a.1 a.2), a.4)

pub deadline_made : (events : List Event) (m : ℕ) (kept : List Kept) (e : ℕ) (deadline : Deadline) → All (λ one. one.store ≤ m) kept →
    IsDeadline events m kept e (Some deadline) → event_of deadline ≤ m
deadline_made events m kept e (BeforeKept store) all is =
    let found = any_holds (λ one. one.store ≤ m) (λ one. one.store ≡ store) kept all is.holds.among in
    omega (arith, found.1, found.2)
deadline_made events m kept e (BeforeEnd mark) all is = is.1.0.made
deadline_made events m kept e (BeforeBegin mark) all is = is.2.0.made

-- the first clean, as a cause tells
pub first_clean : (events : List Event) (m l e : ℕ) (cause : Cause) (clean : ℕ) → clean_of cause ≡ Some clean → IsCause events m l e cause →
    IsFirst (IsClean events l e) clean
first_clean events m l e NeverCleaned clean is cause = cc
first_clean events m l e (CleanedTooLate first) clean is cause =
    let same : first ≡ clean = cc in
    subst (λ (n : ℕ). IsFirst (IsClean events l e) n) same cause.0
first_clean events m l e (NeverFenced first) clean is cause =
    let same : first ≡ clean = cc in
    subst (λ (n : ℕ). IsFirst (IsClean events l e) n) same cause.0
first_clean events m l e (FencedTooLate first fence) clean is cause =
    let same : first ≡ clean = cc in
    subst (λ (n : ℕ). IsFirst (IsClean events l e) n) same cause.0
first_clean events m l e (FencedByAnother first hart completed fence) clean is cause =
    let same : first ≡ clean = cc in
    subst (λ (n : ℕ). IsFirst (IsClean events l e) n) same cause.0

-- no clean comes before the first one
pub no_clean_before : (events : List Event) (m l e : ℕ) (cause : Cause) (before : ℕ) → ((clean : ℕ) → clean_of cause ≡ Some clean → before ≤ clean) →
    IsCause events m l e cause → (n : ℕ) → IsClean events l e n → before ≤ n
no_clean_before events m l e NeverCleaned before none cause n is = absurd (cause n is)
no_clean_before events m l e (CleanedTooLate first) before none cause n is = omega (arith, none first refl, cause.0.first n is)
no_clean_before events m l e (NeverFenced first) before none cause n is = omega (arith, none first refl, cause.0.first n is)
no_clean_before events m l e (FencedTooLate first fence) before none cause n is = omega (arith, none first refl, cause.0.first n is)
no_clean_before events m l e (FencedByAnother first hart completed fence) before none cause n is = omega (arith, none first refl, cause.0.first n is)

-- the last event that passes a test, one event more
module _ (p : Event → Bool) (events : List Event) where
  pub last_known : (known : ℕ) → IsEventOf p events known → IsLast (λ n. (n < known + 1) × IsEventOf p events n) known
  last_known known is = record { holds = (omega arith, is); last = λ n a. omega (arith, a.0) }

  pub last_passes : (at : ℕ) (event : Event) → event_at events (at + 1) ≡ Some event → p event ≡ true →
      IsLast (λ n. (n < at + 1 + 1) × IsEventOf p events n) (at + 1)
  last_passes at event here test = record {
    holds = (omega arith, record { event = event; is = here; passes = test });
    last = λ n a. omega (arith, a.0);
  }

  pub last_fails : (at last : ℕ) (event : Event) → event_at events (at + 1) ≡ Some event → p event ≡ false →
      IsLast (λ n. (n < at + 1) × IsEventOf p events n) last → IsLast (λ n. (n < at + 1 + 1) × IsEventOf p events n) last
  last_fails at last event here test is = record {
    holds = (omega (arith, is.holds.0), is.holds.1);
    last = λ n a. elim (last_or_before n at (omega (arith, a.0))) [
      | inl here' ↦
          let own : event_at events (at + 1) ≡ Some a.1.event = rw here' at a.1.is in
          let same : a.1.event ≡ event = same_event events (at + 1) a.1.event event own here in
          let passes : p event ≡ true = ap p (sym same) ∙ a.1.passes in
          let never : false ≡ true = sym test ∙ passes in
          cc
      | inr before ↦ is.last n (omega (arith, before), a.1)
    ];
  }

  pub last_until : (at before last : ℕ) → at + 1 ≡ before → IsLast (λ n. (n < at + 1) × IsEventOf p events n) last →
      IsLast (λ n. (n < before) × IsEventOf p events n) last
  last_until at before last e is = rw e at is

-- mends of lost stores, one store more
all_any : {X Y : Type 0} (R : X → Y → Type 0) (xs : List X) (ys zs : List Y) → All (λ x. Any (R x) ys) xs → All (λ x. Any (R x) (ys ++ zs)) xs
all_any {X} R xs ys zs all = All-weaker (λ x. Any (R x) ys) (λ x. Any (R x) (ys ++ zs)) (λ x a. any_kept (R x) ys zs a) xs all

any_of_contained : {X : Type 0} (P : X → Type 0) (xs : List X) (x : X) → Contains xs x → P x → Any P xs
any_of_contained P xs x c p = (c.0, x, c.1, c.2, p)

module _ (events : List Event) (m : ℕ) (kept : List Kept) where
  pub mends_none : AreForLost events m [] kept []
  mends_none = record {
    all = All-nil (λ one. Any (IsMend events m kept one) []);
    each = All-nil (λ mend. Any (λ one. IsMend events m kept one mend) []);
    once = λ i j d before within. absurd (omega (arith, before, within));
  }

  pub mend_again : (lost : List Lost) (one : Lost) (mends : List Mend) (mend : Mend) → IsMend events m kept one mend → Contains mends mend →
      AreForLost events m lost kept mends → AreForLost events m (lost ++ one ∷ []) kept mends
  mend_again lost one mends mend is has a = record {
    all = All-push (λ x. Any (IsMend events m kept x) mends) lost one a.all (any_of_contained (IsMend events m kept one) mends mend has is);
    each = All-weaker (λ y. Any (λ x. IsMend events m kept x y) lost) (λ y. Any (λ x. IsMend events m kept x y) (lost ++ one ∷ []))
        (λ y found. any_kept (λ x. IsMend events m kept x y) lost (one ∷ []) found) mends a.each;
    once = a.once;
  }

  pub mend_new : (lost : List Lost) (one : Lost) (mends : List Mend) (mend : Mend) → IsMend events m kept one mend → (Contains mends mend → ⊥) →
      AreForLost events m lost kept mends → AreForLost events m (lost ++ one ∷ []) kept (mends ++ mend ∷ [])
  mend_new lost one mends mend is new a = record {
    all = All-push (λ x. Any (IsMend events m kept x) (mends ++ mend ∷ [])) lost one (all_any (IsMend events m kept) lost mends (mend ∷ []) a.all)
        (Any-push (IsMend events m kept one) mends mend is);
    each = All-push (λ y. Any (λ x. IsMend events m kept x y) (lost ++ one ∷ [])) mends mend
        (All-weaker (λ y. Any (λ x. IsMend events m kept x y) lost) (λ y. Any (λ x. IsMend events m kept x y) (lost ++ one ∷ []))
        (λ y found. any_kept (λ x. IsMend events m kept x y) lost (one ∷ []) found) mends a.each)
        (Any-push (λ x. IsMend events m kept x mend) lost one is);
    once = all_pairs_push (λ x y. x ≢ y) mends mend a.once
        (λ k d within e. new (k, within, other_default mends k d mend within ∙ e));
  }
    where
      other_default : (xs : List Mend) (k : ℕ) (d e : Mend) → k < length xs → get_or xs k e ≡ get_or xs k d
      other_default xs k d e within = grind (arith, common_steps, within)

-- what is lost and kept of a cut, by the events
given_first : {X Y : Type 0} (R : X → Option Y → Type 0) (P : Y → Type 0) (x : X) (o : Option Y) (rest ys : List Y) →
    ((y : Y) → R x (Some y) → P y) → All P rest → R x o → ys ≡ option_to_list o ++ rest → All P ys
given_first R P x None rest ys each all r is = rw is all
given_first R P x (Some y) rest ys each all r is = rw is (All-cons P y rest (each y r) all)

pub given_all : {X Y : Type 0} (R : X → Option Y → Type 0) (P : Y → Type 0) (xs : List X) (ys : List Y) → ((x : X) (y : Y) → R x (Some y) → P y) →
    AreGiven R xs ys → All P ys
given_all R P [] ys each given = rw given (All-nil P)
given_all R P (x ∷ xs) ys each given =
    given_first R P x given.0 given.1 ys (each x) (given_all R P xs given.1 each given.4) given.2 given.3

pub lost_are_caused : (events : List Event) (m : ℕ) (cut : List CutLine) (lost : List Lost) → AreGiven (IsLostOf events m) cut lost →
    All (IsCaused events m) lost
lost_are_caused events m cut lost given =
    given_all (IsLostOf events m) (IsCaused events m) cut lost
    (λ entry one loss. record {
      hart = loss.first.hart;
      store = rw loss.line loss.first.store;
      made = loss.first.made;
      cause = rw loss.line loss.cause;
    })
    given

pub kept_are_made : (events : List Event) (m : ℕ) (cut : List CutLine) (kept : List Kept) → AreGiven (IsKeptOf events m) cut kept →
    All (λ one. one.store ≤ m) kept
kept_are_made events m cut kept given =
    given_all (IsKeptOf events m) (λ one. one.store ≤ m) cut kept (λ entry one is. is.made) given

-- the hart of a clean, by the event at its place
pub same_hart : (events : List Event) (clean : ℕ) (d : Event) (h l g m : ℕ) → event_at events clean ≡ Some (kinds.Clean h l) →
    get_or events (clean - 1) d ≡ kinds.Clean g m → h ≡ g
same_hart events zero d h l g m is read = absurd (no_event events (kinds.Clean h l) is)
same_hart events (suc k) d h l g m is read =
    let place : suc k - 1 ≡ k = omega arith in
    let own : get_or events k d ≡ kinds.Clean h l = get_or_from_slice_get events k (kinds.Clean h l) d is in
    let there : get_or events k d ≡ kinds.Clean g m = rw place at read in
    cc

pub true_is : IsTrue true
true_is = search rules

pub false_is : IsTrue false → ⊥
false_is t = search (rules, t)
