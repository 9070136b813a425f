-- Stores that are lost at a moment, as they are found one after another.
use Rattle.std.proofs.Common.{◌≡◌, ℕ, ◌+◌, ◌<◌, ◌≤◌, ◌⊎◌, inl, inr, List, [], ◌∷◌, ◌++◌, Option, Some, None, length, get_or, sym, ap, subst, ◌∙◌, arith}
use Rattle.std.specs.Prelude.{true, false, All, Any, nat_lt, option_to_list, reverse, slice_index_or, take}
use Rattle.std.proofs.lemmas.Bool.Decides.{nat_tests}
use Rattle.std.proofs.lemmas.List.{append-nil, get_or_append_left, length-append}
use Rattle.std.proofs.lemmas.List.Elements.{All-contains, All-nil, All-push}
use Rattle.std.proofs.lemmas.List.Quantifiers.{Any-push}
use Rattle.std.proofs.lemmas.Option.{slice_get-get_or}
use Rattle.store_trace.specs.declared.event.Event.{Event}
use Rattle.store_trace.specs.declared.event.Event.TheVariants.{Store}
use Rattle.durability.proofs.Dedups.{any_weaker}
use Rattle.durability.proofs.Counts as counts
use Rattle.durability.proofs.Floors.{le_or_gt, no_event, past_is_open}
use Rattle.durability.proofs.Marks.{same_event}
use Rattle.durability.specs.Causes.{AreFates, IsCause, IsCompletion, IsFate, IsPast}
use Rattle.durability.specs.Firsts.{AreFirsts, IsLossAt}
use Rattle.durability.specs.Numbered.{event_at, IsStore}
use Rattle.durability.specs.Operations.{AreOpen, IsOutside, open_of_hart}
use Rattle.durability.specs.Stores.{IsAnyStore, IsLastStore}
use Rattle.durability.specs.Unpersisted.{AreFirstLosses, IsUnpersisted, IsUnpersistedOutside}
use Rattle.durability.specs.declared.cause.Fate.{Fate}
use Rattle.durability.specs.declared.cut.Lost.{Lost}
use Rattle.durability.specs.declared.operations.OpenOperations.{OpenOperations}

-- it counts, and this is the cause of its loss
pub record IsLost (events : List Event) (m : ℕ) (counts : ℕ → ℕ → Type 0) (lost : Lost) : Type 0 where
  pub own : counts lost.line lost.store
  pub cause : IsCause events m lost.line lost.store lost.cause

-- the stores that count among the first `end` events
pub record AreLost (events : List Event) (m : ℕ) (counts : ℕ → ℕ → Type 0) (end : ℕ) (lost : List Lost) : Type 0 where
  pub each : All (IsLost events m counts) lost
  pub all : (l e : ℕ) → e ≤ end → counts l e → Any (λ x. (x.line ≡ l) × (x.store ≡ e)) lost

pub none_lost : (events : List Event) (m : ℕ) (counts : ℕ → ℕ → Type 0) (end : ℕ) → ((l e : ℕ) → e ≤ end → counts l e → ⊥) →
    AreLost events m counts end []
none_lost events m counts end none = record {
  each = All-nil (IsLost events m counts);
  all = λ l e low c. absurd (none l e low c);
}

pub last_or_before : (e end : ℕ) → e ≤ end + 1 → (e ≡ end + 1) ⊎ (e ≤ end)
last_or_before e end h = grind (arith, nat_tests, h)

pub any_kept : {X : Type 0} (P : X → Type 0) (xs ys : List X) → Any P xs → Any P (xs ++ ys)
any_kept P xs ys a =
    let within : a.0 < length (xs ++ ys) = omega (arith, a.2, length-append xs ys) in
    (a.0, a.1, within, get_or_append_left xs ys a.1 a.0 a.2 ∙ a.3, a.4)

pub more_lost : (events : List Event) (m : ℕ) (counts : ℕ → ℕ → Type 0) (end : ℕ) (lost : List Lost) (o : Option Lost) →
    ((k l e : ℕ) → counts k e → counts l e → k ≡ l) → AreLost events m counts end lost → IsLossAt events m counts (end + 1) o →
    AreLost events m counts (end + 1) (lost ++ option_to_list o)
more_lost events m counts end lost None one_line a none =
    rw (append-nil lost) (record {
      each = a.each;
      all = λ l e low c. elim (last_or_before e end low) [
        | inl last ↦ absurd (none l (subst (λ (n : ℕ). counts l n) last c))
        | inr before ↦ a.all l e before c
      ];
    })
more_lost events m counts end lost (Some new) one_line a is =
    let own : counts new.line new.store = subst (λ (n : ℕ). counts new.line n) (sym is.0) is.1 in
    let cause : IsCause events m new.line new.store new.cause = subst (λ (n : ℕ). IsCause events m new.line n new.cause) (sym is.0) is.2 in
    record {
      each = All-push (IsLost events m counts) lost new a.each (record { own = own; cause = cause });
      all = λ l e low c. elim (last_or_before e end low) [
        | inl last ↦
            let line : new.line ≡ l = one_line new.line l (end + 1) is.1 (subst (λ (n : ℕ). counts l n) last c) in
            Any-push (λ x. (x.line ≡ l) × (x.store ≡ e)) lost new (line, is.0 ∙ sym last)
        | inr before ↦ any_kept (λ x. (x.line ≡ l) × (x.store ≡ e)) lost (new ∷ []) (a.all l e before c)
      ];
    }

-- of all that count the first of each line
pub first_losses : (events : List Event) (m : ℕ) (counts : ℕ → ℕ → Type 0) (end : ℕ) (lost firsts : List Lost) →
    ((l e : ℕ) → counts l e → e ≤ end) → AreLost events m counts end lost → AreFirsts lost firsts → AreFirstLosses events m counts firsts
first_losses events m counts end lost firsts ends a f = record {
  upwards = f.upwards;
  each = λ k d h.
      let x : Lost = get_or firsts k d in
      let own = All-contains (IsLost events m counts) lost x a.each (f.each k d h).0 in
      record {
        first = record {
          holds = own.own;
          first = λ e c.
              let found = a.all x.line e (ends x.line e c) c in
              let least : found.1.line ≡ x.line → x.store ≤ found.1.store =
              rw found.3 at ((f.each k d h).1 found.0 found.1 found.2) in
              omega (arith, least found.4.0, found.4.1);
        };
        cause = own.cause;
      };
  all = λ l e c.
      let found = a.all l e (ends l e c) c in
      let line : Any (λ x. x.line ≡ found.1.line) firsts = rw found.3 at (f.all found.0 found.1 found.2) in
      any_weaker (λ x. x.line ≡ found.1.line) (λ x. x.line ≡ l) firsts (λ x e. e ∙ found.4.0) line;
}

line_of_store : (g h k l o w v p x y : ℕ) → Store g k o w v ≡ Store h l p x y → k ≡ l
line_of_store g h k l o w v p x y e = cc

pub hart_of_store : (g h k l o w v p x y : ℕ) → Store g k o w v ≡ Store h l p x y → g ≡ h
hart_of_store g h k l o w v p x y e = cc

-- an event stores to one line
pub one_line : (events : List Event) (g h k l n : ℕ) → IsStore events g k n → IsStore events h l n → k ≡ l
one_line events g h k l n one other =
    line_of_store g h k l one.offset one.width one.value other.offset other.width other.value
    (same_event events n (Store g k one.offset one.width one.value) (Store h l other.offset other.width other.value) one.is other.is)

pub one_hart : (events : List Event) (g h k l n : ℕ) → IsStore events g k n → IsStore events h l n → g ≡ h
one_hart events g h k l n one other =
    hart_of_store g h k l one.offset one.width one.value other.offset other.width other.value
    (same_event events n (Store g k one.offset one.width one.value) (Store h l other.offset other.width other.value) one.is other.is)

-- a store of a run has its fate at its place
pub fate_at : (events : List Event) (fates : List Fate) (at : ℕ) (none : Event) (d : Fate) (h l o w v : ℕ) → AreFates events 0 fates → at < length events →
    get_or events at none ≡ Store h l o w v → IsFate events l (at + 1) (get_or fates at d)
fate_at events fates at none d h l o w v a there is =
    a.each at h l o w v d (omega arith) (slice_get-get_or events at none there ∙ ap (λ (x : Event). Some x) is)

-- the store is another hart's, or not past its line's floor
pub not_open : (events : List Event) (m h n : ℕ) (g k o w v : ℕ) → event_at events n ≡ Some (Store g k o w v) → m ≤ length events →
    (g ≡ h → ((j : ℕ) → IsCompletion events k n j → m < j) → ⊥) → (l : ℕ) → IsPast events m h l n → ⊥
not_open events m h n g k o w v here high closed l p =
    let store : IsStore events g k n = record { offset = o; width = w; value = v; is = here } in
    let line : l ≡ k = one_line events h g l k n p.store store in
    let hart : g ≡ h = one_hart events g h k l n store p.store in
    closed hart (rw (← line) ((past_is_open events h l n m p.store high).0 p.past))

pub is_late : (events : List Event) (m h n l o w v : ℕ) → event_at events n ≡ Some (Store h l o w v) → n ≤ m → m ≤ length events →
    ((j : ℕ) → IsCompletion events l n j → m < j) → IsPast events m h l n
is_late events m h n l o w v here made high late =
    let store : IsStore events h l n = record { offset = o; width = w; value = v; is = here } in
    record { store = store; made = made; past = (past_is_open events h l n m store high).1 late }

-- the stores that count behind the first `start` events
pub record AreLostBehind (events : List Event) (m : ℕ) (counts : ℕ → ℕ → Type 0) (start : ℕ) (lost : List Lost) : Type 0 where
  pub each : All (IsLost events m counts) lost
  pub all : (l e : ℕ) → start < e → counts l e → Any (λ x. (x.line ≡ l) × (x.store ≡ e)) lost

-- one store back, with no other between the two
pub lost_back : (events : List Event) (m : ℕ) (counts : ℕ → ℕ → Type 0) (at next : ℕ) (lost : List Lost) (o : Option Lost) →
    ((k l e : ℕ) → counts k e → counts l e → k ≡ l) → ((l e : ℕ) → counts l e → IsAnyStore events e) → IsLastStore events at next →
    AreLostBehind events m counts (at + 1) lost → IsLossAt events m counts (at + 1) o → AreLostBehind events m counts next (lost ++ option_to_list o)
lost_back events m counts at next lost None one_line store behind a none =
    rw (append-nil lost) (record {
      each = a.each;
      all = λ l e high c. elim (le_or_gt e (at + 1)) [
        | inl low ↦ elim (last_or_before e at low) [
          | inl last ↦ absurd (none l (subst (λ (n : ℕ). counts l n) last c))
          | inr before ↦ absurd (omega (arith, high, behind.last e (store l e c) before))
        ]
        | inr past ↦ a.all l e past c
      ];
    })
lost_back events m counts at next lost (Some new) one_line store behind a is =
    let own : counts new.line new.store = subst (λ (n : ℕ). counts new.line n) (sym is.0) is.1 in
    let cause : IsCause events m new.line new.store new.cause = subst (λ (n : ℕ). IsCause events m new.line n new.cause) (sym is.0) is.2 in
    record {
      each = All-push (IsLost events m counts) lost new a.each (record { own = own; cause = cause });
      all = λ l e high c. elim (le_or_gt e (at + 1)) [
        | inl low ↦ elim (last_or_before e at low) [
          | inl last ↦
              let line : new.line ≡ l = one_line new.line l (at + 1) is.1 (subst (λ (n : ℕ). counts l n) last c) in
              Any-push (λ x. (x.line ≡ l) × (x.store ≡ e)) lost new (line, is.0 ∙ sym last)
          | inr before ↦ absurd (omega (arith, high, behind.last e (store l e c) before))
        ]
        | inr past ↦ any_kept (λ x. (x.line ≡ l) × (x.store ≡ e)) lost (new ∷ []) (a.all l e past c)
      ];
    }

-- of an operation: behind the last store that the moment has there is none
any_store : (events : List Event) (m h b l e : ℕ) → IsUnpersisted events m h b l e → IsAnyStore events e
any_store events m h b l e u = record { hart = h; line = l; store = u.past.store }

pub unpersisted_none : (events : List Event) (m h b start : ℕ) → IsLastStore events m start → AreLostBehind events m (IsUnpersisted events m h b) start []
unpersisted_none events m h b start behind = record {
  each = All-nil (IsLost events m (IsUnpersisted events m h b));
  all = λ l e high u. absurd (omega (arith, high, behind.last e (any_store events m h b l e u) u.past.made));
}

pub unpersisted_back : (events : List Event) (m h b at next : ℕ) (lost : List Lost) (o : Option Lost) → b ≤ at → IsLastStore events at next →
    AreLostBehind events m (IsUnpersisted events m h b) (at + 1) lost → IsLossAt events m (IsPast events m h) (at + 1) o →
    AreLostBehind events m (IsUnpersisted events m h b) next (lost ++ option_to_list o)
unpersisted_back events m h b at next lost o begun behind a is =
    lost_back events m (IsUnpersisted events m h b) at next lost o (λ k l e p q. one_line events h h k l e p.past.store q.past.store)
    (any_store events m h b) behind a (unpersisted_at o is)
  where
    unpersisted_at : (o : Option Lost) → IsLossAt events m (IsPast events m h) (at + 1) o → IsLossAt events m (IsUnpersisted events m h b) (at + 1) o
    unpersisted_at None none = λ l u. none l u.past
    unpersisted_at (Some lost) is = (is.0, record { after = omega (arith, begun); past = is.1 }, is.2)

-- no store of an operation comes before its Begin
pub unpersisted_losses : (events : List Event) (m h b start : ℕ) (lost firsts : List Lost) → start ≤ b →
    AreLostBehind events m (IsUnpersisted events m h b) start lost → AreFirsts lost firsts → AreFirstLosses events m (IsUnpersisted events m h b) firsts
unpersisted_losses events m h b start lost firsts all a f =
    let whole : AreLost events m (IsUnpersisted events m h b) m lost = record {
      each = a.each;
      all = λ l e low u. a.all l e (omega (arith, all, u.after)) u;
    } in
    first_losses events m (IsUnpersisted events m h b) m lost firsts (λ l e u. u.past.made) whole f

-- outside operations
nothing_before : (events : List Event) (l e : ℕ) → e ≤ 0 → IsUnpersistedOutside events l e → ⊥
nothing_before events l e low u =
    let s = u.past.store in
    let first : e ≡ 0 = omega (arith, low) in
    no_event events (Store u.hart l s.offset s.width s.value) (rw first at s.is)

pub outside_none : (events : List Event) → AreLost events (length events) (IsUnpersistedOutside events) 0 []
outside_none events = none_lost events (length events) (IsUnpersistedOutside events) 0 (nothing_before events)

pub outside_more : (events : List Event) (end : ℕ) (lost : List Lost) (o : Option Lost) →
    AreLost events (length events) (IsUnpersistedOutside events) end lost → IsLossAt events (length events) (IsUnpersistedOutside events) (end + 1) o →
    AreLost events (length events) (IsUnpersistedOutside events) (end + 1) (lost ++ option_to_list o)
outside_more events end lost o a is =
    more_lost events (length events) (IsUnpersistedOutside events) end lost o
    (λ k l e p q. one_line events p.hart q.hart k l e p.past.store q.past.store) a is

pub outside_first : (events : List Event) (end : ℕ) (lost firsts : List Lost) → length events ≤ end →
    AreLost events (length events) (IsUnpersistedOutside events) end lost → AreFirsts lost firsts →
    AreFirstLosses events (length events) (IsUnpersistedOutside events) firsts
outside_first events end lost firsts all a f =
    first_losses events (length events) (IsUnpersistedOutside events) end lost firsts (λ l e u. omega (arith, all, u.past.made)) a f

some_open : (n : ℕ) → nat_lt 0 n ≡ true → 0 < n
some_open n test = grind (arith, nat_tests)

none_open : (n : ℕ) → nat_lt 0 n ≡ false → n ≡ 0
none_open n test = grind (arith, nat_tests)

-- a store of a hart that has an operation open
pub inside : (events : List Event) (now : OpenOperations) (n h k o w v : ℕ) → event_at events n ≡ Some (Store h k o w v) → h < 8 →
    AreOpen events n now → nat_lt 0 (slice_index_or now.counts h 0) ≡ true → (l : ℕ) → IsUnpersistedOutside events l n → ⊥
inside events now n h k o w v here low a some l u =
    let store : IsStore events h k n = record { offset = o; width = w; value = v; is = here } in
    let hart : u.hart ≡ h = one_hart events u.hart h l k n u.past.store store in
    let outside : IsOutside events n h = rw hart at u.outside in
    let count : 0 < open_of_hart h (reverse (take n events)) =
    subst (λ (c : ℕ). 0 < c) (a.counts h 0 low) (some_open (slice_index_or now.counts h 0) some) in
    counts.inside h (reverse (take n events)) count outside

-- and of one that has none
pub outside_at : (events : List Event) (now : OpenOperations) (n h k w v s : ℕ) (o : Option Lost) → event_at events n ≡ Some (Store h k w v s) →
    h < 8 → AreOpen events n now → nat_lt 0 (slice_index_or now.counts h 0) ≡ false →
    IsLossAt events (length events) (IsPast events (length events) h) n o → IsLossAt events (length events) (IsUnpersistedOutside events) n o
outside_at events now n h k w v s None here low a no_one none = λ l u.
    let store : IsStore events h k n = record { offset = w; width = v; value = s; is = here } in
    let hart : u.hart ≡ h = one_hart events u.hart h l k n u.past.store store in
    let past : IsPast events (length events) h l n = rw hart at u.past in
    none l past
outside_at events now n h k w v s (Some lost) here low a no_one is =
    let count : open_of_hart h (reverse (take n events)) ≡ 0 =
    sym (a.counts h 0 low) ∙ none_open (slice_index_or now.counts h 0) no_one in (
      is.0,
      record { hart = h; outside = λ op. counts.outside h op (reverse (take n events)) count; past = is.1 },
      is.2,
    )
