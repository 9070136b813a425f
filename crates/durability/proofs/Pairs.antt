-- An End ends the last Begin of its operation by its hart that no End has ended.
use Rattle.std.proofs.Common.{◌≡◌, ℕ, zero, suc, ◌+◌, ◌-◌, ◌<◌, ◌≤◌, ◌==◌, ◌&&◌, ◌⊎◌, false, inl, inr, List, [], ◌∷◌, Some, None, length, take, drop, refl, sym, ap, subst, ◌∙◌, arith}
use Rattle.std.specs.Prelude.{reverse, slice_get}
use Rattle.std.proofs.lemmas.Bool.{cases_Bool}
use Rattle.std.proofs.lemmas.Bool.Decides.{nat_tests}
use Rattle.std.proofs.lemmas.List.{length-reverse, length-take-le}
use Rattle.store_trace.specs.declared.event.Event.{Event}
use Rattle.store_trace.specs.declared.event.Event.TheVariants.{Store, Clean, Fence, Begin, End}
use Rattle.durability.proofs.Firsts.{event_within}
use Rattle.durability.proofs.Floors.{here_at, no_event}
use Rattle.durability.proofs.Lates.{last_or_before}
use Rattle.durability.proofs.Marks.{open_more, same_event}
use Rattle.durability.specs.Numbered.{event_at}
use Rattle.durability.specs.Operations.{IsEndOf, IsEndOfLast, IsOpenBegin, open_at, open_begins}

abbrev In : ℕ → List ℕ → Type 0
In b [] = ⊥
In b (x ∷ xs) = (b ≡ x) ⊎ In b xs

-- each number is below the one before it, and the first below k
abbrev Falls : ℕ → List ℕ → Type 0
Falls k [] = Unit {0}
Falls k (x ∷ xs) = (x < k) × Falls x xs

falls_below : (k j : ℕ) (xs : List ℕ) → k ≤ j → Falls k xs → Falls j xs
falls_below k j [] low f = tt
falls_below k j (x ∷ xs) low f = (omega (arith, low, f.0), f.1)

falls_behind : (k : ℕ) (xs : List ℕ) → Falls k xs → Falls k (drop 1 xs)
falls_behind k [] f = tt
falls_behind k (x ∷ xs) f = falls_below x k xs (omega (arith, f.0)) f.1

below : (k b : ℕ) (xs : List ℕ) → Falls k xs → In b xs → b < k
below k b [] f i = absurd i
below k b (x ∷ xs) f i = elim i [
  | inl e ↦ omega (arith, e, f.0)
  | inr later ↦ omega (arith, f.0, below x b xs f.1 later)
]

number_of : (a b : ℕ) → Some a ≡ Some b → a ≡ b
number_of a b e = cc

no_number : (b : ℕ) → None ≡ Some b → ⊥
no_number b e = cc

first_in : (b : ℕ) (xs : List ℕ) → slice_get xs 0 ≡ Some b → In b xs
first_in b [] e = no_number b e
first_in b (x ∷ xs) e = inl (sym (number_of x b e))

first_is_last : (k b c : ℕ) (xs : List ℕ) → Falls k xs → slice_get xs 0 ≡ Some b → In c xs → c ≤ b
first_is_last k b c [] f e i = absurd i
first_is_last k b c (x ∷ xs) f e i = elim i [
  | inl same ↦ omega (arith, same, number_of x b e)
  | inr later ↦ omega (arith, number_of x b e, below x c xs f.1 later)
]

last_is_first : (k b : ℕ) (xs : List ℕ) → Falls k xs → In b xs → ((c : ℕ) → In c xs → c ≤ b) → slice_get xs 0 ≡ Some b
last_is_first k b [] f i last = absurd i
last_is_first k b (x ∷ xs) f i last = elim i [
  | inl same ↦ ap (λ (n : ℕ). Some n) (sym same)
  | inr later ↦ absurd (omega (arith, below x b xs f.1 later, last x (inl refl)))
]

behind : (k c : ℕ) (xs : List ℕ) → Falls k xs → In c (drop 1 xs) → In c xs × (slice_get xs 0 ≡ Some c → ⊥)
behind k c [] f i = absurd i
behind k c (x ∷ xs) f i = (inr i, λ e. absurd (omega (arith, below x c xs f.1 i, number_of x c e)))

stays_behind : (c : ℕ) (xs : List ℕ) → In c xs → (slice_get xs 0 ≡ Some c → ⊥) → In c (drop 1 xs)
stays_behind c [] i other = absurd i
stays_behind c (x ∷ xs) i other = elim i [
  | inl same ↦ absurd (other (ap (λ (n : ℕ). Some n) (sym same)))
  | inr later ↦ later
]

-- what the next event does
record Begins (events : List Event) (m h op : ℕ) : Type 0 where
  is : event_at events (m + 1) ≡ Some (Begin h op)
  after : open_at events (m + 1) h op ≡ (m + 1) ∷ open_at events m h op

record Ends (events : List Event) (m h op : ℕ) : Type 0 where
  is : event_at events (m + 1) ≡ Some (End h op)
  after : open_at events (m + 1) h op ≡ drop 1 (open_at events m h op)

record Neither (events : List Event) (m h op : ℕ) : Type 0 where
  no_begin : event_at events (m + 1) ≡ Some (Begin h op) → ⊥
  no_end : event_at events (m + 1) ≡ Some (End h op) → ⊥
  after : open_at events (m + 1) h op ≡ open_at events m h op

neither : (events : List Event) (m h op : ℕ) (event : Event) → event_at events (m + 1) ≡ Some event →
    (event ≡ Begin h op → ⊥) → (event ≡ End h op → ⊥) →
    open_begins h op (event ∷ reverse (take m events)) ≡ open_at events m h op → Neither events m h op
neither events m h op event here no_begin no_end same = record {
  no_begin = λ is. no_begin (same_event events (m + 1) event (Begin h op) here is);
  no_end = λ is. no_end (same_event events (m + 1) event (End h op) here is);
  after = open_more events m h op event here ∙ same;
}

same_begin : (g h o op : ℕ) → Begin g o ≡ Begin h op → ((g == h) && (o == op)) ≡ false → ⊥
same_begin g h o op e other =
    let hart : g ≡ h = cc in
    let operation : o ≡ op = cc in
    absurd (grind (arith, nat_tests, hart, operation, other))

same_mark : (g h o op : ℕ) → End g o ≡ End h op → ((g == h) && (o == op)) ≡ false → ⊥
same_mark g h o op e other =
    let hart : g ≡ h = cc in
    let operation : o ≡ op = cc in
    absurd (grind (arith, nat_tests, hart, operation, other))

next_mark : (events : List Event) (m h op : ℕ) (event : Event) → m < length events → event_at events (m + 1) ≡ Some event →
    Begins events m h op ⊎ (Ends events m h op ⊎ Neither events m h op)
next_mark events m h op (Store g l o w v) there here = inr (inr (neither events m h op (Store g l o w v) here (λ e. cc) (λ e. cc) refl))
next_mark events m h op (Clean g l) there here = inr (inr (neither events m h op (Clean g l) here (λ e. cc) (λ e. cc) refl))
next_mark events m h op (Fence g) there here = inr (inr (neither events m h op (Fence g) here (λ e. cc) (λ e. cc) refl))
next_mark events m h op (Begin g o) there here = elim (cases_Bool ((g == h) && (o == op))) [
  | inl both ↦
      let hart : g ≡ h = grind (arith, nat_tests, both) in
      let operation : o ≡ op = grind (arith, nat_tests, both) in
      let size : length (reverse (take m events)) ≡ m = length-reverse (take m events) ∙ length-take-le m events (omega (arith, there)) in
      let opened : open_begins h op (Begin g o ∷ reverse (take m events)) ≡ (m + 1) ∷ open_at events m h op = rw (both, size) refl in
      inl (record { is = rw (← hart, ← operation) here; after = open_more events m h op (Begin g o) here ∙ opened })
  | inr other ↦
      inr (inr (neither events m h op (Begin g o) here (λ e. same_begin g h o op e other) (λ e. cc) (rw other refl)))
]
next_mark events m h op (End g o) there here = elim (cases_Bool ((g == h) && (o == op))) [
  | inl both ↦
      let hart : g ≡ h = grind (arith, nat_tests, both) in
      let operation : o ≡ op = grind (arith, nat_tests, both) in
      let closed : open_begins h op (End g o ∷ reverse (take m events)) ≡ drop 1 (open_at events m h op) = rw both refl in
      inr (inl (record { is = rw (← hart, ← operation) here; after = open_more events m h op (End g o) here ∙ closed }))
  | inr other ↦
      inr (inr (neither events m h op (End g o) here (λ e. cc) (λ e. same_mark g h o op e other) (rw other refl)))
]

next : (events : List Event) (m h op : ℕ) → m < length events → Begins events m h op ⊎ (Ends events m h op ⊎ Neither events m h op)
next events m h op there =
    let here = here_at events m there in
    let e : m + 1 ≡ suc m = omega arith in
    next_mark events m h op here.event there (rw e here.is)

-- the open Begins fall
open_fall : (events : List Event) (h op m : ℕ) → m ≤ length events → Falls (m + 1) (open_at events m h op)
open_fall events h op zero high = tt
open_fall events h op (suc m) high =
    let there : m < length events = omega (arith, high) in
    let before : Falls (m + 1) (open_at events m h op) = open_fall events h op m (omega (arith, there)) in
    let e : suc m ≡ m + 1 = omega arith in
    rw e (elim (next events m h op there) [
      | inl begins ↦ rw begins.after (omega arith, before)
      | inr other ↦ elim other [
        | inl ends ↦ rw ends.after (falls_below (m + 1) (m + 1 + 1) (drop 1 (open_at events m h op)) (omega arith) (falls_behind (m + 1) (open_at events m h op) before))
        | inr none ↦ rw none.after (falls_below (m + 1) (m + 1 + 1) (open_at events m h op) (omega arith) before)
      ]
    ])

-- what an End ends is below it
ends_lower : (events : List Event) (n h op b : ℕ) → IsEndOf events n h op b → b < n
ends_lower events zero h op b e = absurd (no_event events (End h op) e.ends)
ends_lower events (suc m) h op b e =
    let there : suc m ≤ length events = event_within events (suc m) (End h op) e.ends in
    let back : suc m - 1 ≡ m = omega arith in
    let first : slice_get (open_at events m h op) 0 ≡ Some b = rw back at e.begins in
    omega (arith, below (m + 1) b (open_at events m h op) (open_fall events h op m (omega (arith, there))) (first_in b (open_at events m h op) first))

-- they are those that begin and that no End has ended
record Opens (events : List Event) (m h op : ℕ) : Type 0 where
  begun : (b : ℕ) → In b (open_at events m h op) → IsOpenBegin events m h op b
  all : (b : ℕ) → IsOpenBegin events m h op b → In b (open_at events m h op)

still_open : (events : List Event) (m h op b : ℕ) → IsOpenBegin events m h op b → (IsEndOf events (m + 1) h op b → ⊥) → IsOpenBegin events (m + 1) h op b
still_open events m h op b o no_end = record {
  made = omega (arith, o.made);
  begins = o.begins;
  open_then = λ n low e. elim (last_or_before n m low) [
    | inl last ↦ no_end (subst (λ (k : ℕ). IsEndOf events k h op b) last e)
    | inr before ↦ o.open_then n before e
  ];
}

was_open : (events : List Event) (m h op b : ℕ) → IsOpenBegin events (m + 1) h op b → b ≤ m → IsOpenBegin events m h op b
was_open events m h op b o low = record {
  made = low;
  begins = o.begins;
  open_then = λ n before e. o.open_then n (omega (arith, before)) e;
}

ends_first : (events : List Event) (m h op b : ℕ) → IsEndOf events (m + 1) h op b → slice_get (open_at events m h op) 0 ≡ Some b
ends_first events m h op b e = let back : m + 1 - 1 ≡ m = omega arith in rw back at e.begins

end_here : (events : List Event) (m h op b : ℕ) → event_at events (m + 1) ≡ Some (End h op) → slice_get (open_at events m h op) 0 ≡ Some b → IsEndOf events (m + 1) h op b
end_here events m h op b is first = let back : m + 1 - 1 ≡ m = omega arith in record { ends = is; begins = rw back first }

opens_none : (events : List Event) (h op : ℕ) → Opens events 0 h op
opens_none events h op = record {
  begun = λ b i. absurd i;
  all = λ b o.
      let first : b ≡ 0 = omega (arith, o.made) in
      no_event events (Begin h op) (subst (λ (n : ℕ). event_at events n ≡ Some (Begin h op)) first o.begins);
}

opens_begin : (events : List Event) (m h op : ℕ) → Begins events m h op → Opens events m h op → Opens events (m + 1) h op
opens_begin events m h op begins a = record {
  begun = λ b i. elim (subst (λ (xs : List ℕ). In b xs) begins.after i) [
    | inl new ↦ rw new (record { made = omega arith; begins = begins.is; open_then = λ n low e. absurd (omega (arith, low, ends_lower events n h op (m + 1) e)) })
    | inr old ↦ still_open events m h op b (a.begun b old) (λ e.
        let same : Begin h op ≡ End h op = same_event events (m + 1) (Begin h op) (End h op) begins.is e.ends in
        cc)
  ];
  all = λ b o. subst (λ (xs : List ℕ). In b xs) (sym begins.after) (elim (last_or_before b m o.made) [
    | inl last ↦ inl last
    | inr low ↦ inr (a.all b (was_open events m h op b o low))
  ]);
}

opens_end : (events : List Event) (m h op : ℕ) → m ≤ length events → Ends events m h op → Opens events m h op → Opens events (m + 1) h op
opens_end events m h op high ends a = record {
  begun = λ b i.
      let is = behind (m + 1) b (open_at events m h op) (open_fall events h op m high) (subst (λ (xs : List ℕ). In b xs) ends.after i) in
      still_open events m h op b (a.begun b is.0) (λ e. is.1 (ends_first events m h op b e));
  all = λ b o. subst (λ (xs : List ℕ). In b xs) (sym ends.after) (elim (last_or_before b m o.made) [
    | inl last ↦
        let here : event_at events (m + 1) ≡ Some (Begin h op) = subst (λ (n : ℕ). event_at events n ≡ Some (Begin h op)) last o.begins in
        let same : Begin h op ≡ End h op = same_event events (m + 1) (Begin h op) (End h op) here ends.is in
        cc
    | inr low ↦
        stays_behind b (open_at events m h op) (a.all b (was_open events m h op b o low))
        (λ first. o.open_then (m + 1) (omega arith) (end_here events m h op b ends.is first))
  ]);
}

opens_neither : (events : List Event) (m h op : ℕ) → Neither events m h op → Opens events m h op → Opens events (m + 1) h op
opens_neither events m h op none a = record {
  begun = λ b i. still_open events m h op b (a.begun b (subst (λ (xs : List ℕ). In b xs) none.after i)) (λ e. none.no_end e.ends);
  all = λ b o. subst (λ (xs : List ℕ). In b xs) (sym none.after) (elim (last_or_before b m o.made) [
    | inl last ↦ absurd (none.no_begin (subst (λ (n : ℕ). event_at events n ≡ Some (Begin h op)) last o.begins))
    | inr low ↦ a.all b (was_open events m h op b o low)
  ]);
}

opens : (events : List Event) (h op m : ℕ) → m ≤ length events → Opens events m h op
opens events h op zero high = opens_none events h op
opens events h op (suc m) high =
    let there : m < length events = omega (arith, high) in
    let before : Opens events m h op = opens events h op m (omega (arith, there)) in
    let e : suc m ≡ m + 1 = omega arith in
    rw e (elim (next events m h op there) [
      | inl begins ↦ opens_begin events m h op begins before
      | inr other ↦ elim other [
        | inl ends ↦ opens_end events m h op (omega (arith, there)) ends before
        | inr none ↦ opens_neither events m h op none before
      ]
    ])

pub end_of_last : (events : List Event) (n h op b : ℕ) → IsEndOf events n h op b → IsEndOfLast events n h op b
end_of_last events n h op b e =
    let there : n - 1 ≤ length events = omega (arith, event_within events n (End h op) e.ends) in
    let a = opens events h op (n - 1) there in
    let falls = open_fall events h op (n - 1) there in
    record {
      ends = e.ends;
      begins = record {
        holds = a.begun b (first_in b (open_at events (n - 1) h op) e.begins);
        last = λ c o. first_is_last (n - 1 + 1) b c (open_at events (n - 1) h op) falls e.begins (a.all c o);
      };
    }

pub last_of_end : (events : List Event) (n h op b : ℕ) → IsEndOfLast events n h op b → IsEndOf events n h op b
last_of_end events n h op b e =
    let there : n - 1 ≤ length events = omega (arith, event_within events n (End h op) e.ends) in
    let a = opens events h op (n - 1) there in
    let falls = open_fall events h op (n - 1) there in
    record {
      ends = e.ends;
      begins = last_is_first (n - 1 + 1) b (open_at events (n - 1) h op) falls (a.all b e.begins.holds) (λ c i. e.begins.last c (a.begun c i));
    }
