-- What Ends leave, one End more.
use Rattle.std.proofs.Common.{◌≡◌, ℕ, ◌+◌, ◌-◌, ◌<◌, ◌≤◌, inl, inr, List, [], ◌++◌, Some, None, length, get_or, refl, sym, ap, subst, ◌∙◌, arith}
use Rattle.std.specs.Prelude.{All, AllPairs, Any, map, slice_get}
use Rattle.std.proofs.Math.ListN.{get_or-map}
use Rattle.std.proofs.lemmas.List as lemmas
use Rattle.std.proofs.lemmas.List.{get_or_append_left, get_or-append_right, get_or-append-add, length-append, length-map}
use Rattle.std.proofs.lemmas.List.Elements.{All-append, All-map, All-nil, All-weaker}
use Rattle.store_trace.specs.declared.event.Event.{Event}
use Rattle.store_trace.specs.declared.event.Event.TheVariants.{End}
use Rattle.durability.proofs.Firsts.{event_within}
use Rattle.durability.proofs.Floors.{le_or_gt}
use Rattle.durability.proofs.Lates.{any_kept, last_or_before}
use Rattle.durability.proofs.Marks.{end_hart, end_operation, same_event}
use Rattle.durability.specs.Operations.{IsEndedBy, IsEndOf, open_at}
use Rattle.durability.specs.Unpersisted.{AreEndLosses, AreFirstLosses, IsBefore, IsEndLoss, IsUnpersisted}
use Rattle.durability.specs.declared.cut.Lost.{Lost}
use Rattle.durability.specs.declared.ends.EndLoss.{EndLoss}
use Rattle.durability.specs.declared.operations.Ended.{Ended}

abbrev pub loss_of : Ended → Lost → EndLoss
loss_of ended one = record { operation = ended.operation; end = ended.end; lost = one }

-- what the Ends among the first `last` events leave
pub record AreEndsTo (events : List Event) (last : ℕ) (losses : List EndLoss) : Type 0 where
  pub in_order : AllPairs IsBefore losses
  pub each : All (IsEndLoss events) losses
  pub made : All (λ x. x.end ≤ last) losses
  pub all : (n h op b l e : ℕ) → n ≤ last → IsEndOf events n h op b → IsUnpersisted events n h b l e →
      Any (λ x. (x.end ≡ n) × (x.lost.line ≡ l)) losses

no_end : (events : List Event) (n h op b : ℕ) → n ≤ 0 → IsEndOf events n h op b → ⊥
no_end events n h op b low e =
    let first : n ≡ 0 = omega (arith, low) in
    let never : None ≡ Some (End h op) = rw first at e.ends in
    cc

pub ends_none : (events : List Event) → AreEndsTo events 0 []
ends_none events = record {
  in_order = λ i j d before within. absurd (omega (arith, before, within));
  each = All-nil (IsEndLoss events);
  made = All-nil (λ x. x.end ≤ 0);
  all = λ n h op b l e low is u. absurd (no_end events n h op b low is);
}

pub ends_stay : (events : List Event) (last : ℕ) (losses : List EndLoss) → IsEndedBy events (last + 1) None → AreEndsTo events last losses →
    AreEndsTo events (last + 1) losses
ends_stay events last losses none a = record {
  in_order = a.in_order;
  each = a.each;
  made = All-weaker (λ x. x.end ≤ last) (λ x. x.end ≤ last + 1) (λ x low. omega (arith, low)) losses a.made;
  all = λ n h op b l e low is u. elim (last_or_before n last low) [
    | inl here ↦ absurd (none h op b (subst (λ (k : ℕ). IsEndOf events k h op b) here is))
    | inr before ↦ a.all n h op b l e before is u
  ];
}

pairs_appended : {X : Type 0} (R : X → X → Type 0) (xs ys : List X) → AllPairs R xs → AllPairs R ys →
    ((i j : ℕ) (d : X) → i < length xs → j < length ys → R (get_or xs i d) (get_or ys j d)) → AllPairs R (xs ++ ys)
pairs_appended R xs ys p q across = λ i j d before within.
    let size = length-append xs ys in
    elim (le_or_gt (length xs) j) [
      | inr left ↦
          rw (get_or_append_left xs ys d i (omega (arith, before, left)), get_or_append_left xs ys d j left) (p i j d before left)
      | inl right ↦ elim (le_or_gt (length xs) i) [
        | inr here ↦
            rw (get_or_append_left xs ys d i here, get_or-append_right xs ys (length xs) j d refl right)
            (across i (j - length xs) d here (omega (arith, right, within, size)))
        | inl both ↦
            rw (get_or-append_right xs ys (length xs) i d refl both, get_or-append_right xs ys (length xs) j d refl right)
            (q (i - length xs) (j - length xs) d (omega (arith, both, before)) (omega (arith, right, within, size)))
      ]
    ]

at_map : (ended : Ended) (lost : List Lost) (i : ℕ) (d : EndLoss) → i < length lost → get_or (map (loss_of ended) lost) i d ≡ loss_of ended (get_or lost i d.lost)
at_map ended lost i d within = lemmas.get_or-map (loss_of ended) lost i d.lost d within

any_added : {X : Type 0} (P : X → Type 0) (xs ys : List X) → Any P ys → Any P (xs ++ ys)
any_added P xs ys a = (length xs + a.0, a.1, omega (arith, a.2, length-append xs ys), get_or-append-add xs ys a.0 a.1 ∙ a.3, a.4)

some_same : (a b : ℕ) → Some a ≡ Some b → a ≡ b
some_same a b e = cc

-- an End ends one operation
record SameEnd (h op b g other c : ℕ) : Type 0 where
  hart : h ≡ g
  operation : op ≡ other
  begin : b ≡ c

same_end : (events : List Event) (n h op b g other c : ℕ) → IsEndOf events n h op b → IsEndOf events n g other c → SameEnd h op b g other c
same_end events n h op b g other c one two =
    let same : End h op ≡ End g other = same_event events n (End h op) (End g other) one.ends two.ends in
    let hart : h ≡ g = end_hart h g op other same in
    let operation : op ≡ other = end_operation h g op other same in
    let begins : slice_get (open_at events (n - 1) g other) 0 ≡ Some b = rw (hart, operation) at one.begins in
    record { hart = hart; operation = operation; begin = some_same b c (sym begins ∙ two.begins) }

pub ends_more : (events : List Event) (last : ℕ) (losses : List EndLoss) (ended : Ended) (lost : List Lost) → IsEndedBy events (last + 1) (Some ended) →
    AreFirstLosses events ended.end (IsUnpersisted events ended.end ended.hart ended.begin) lost → AreEndsTo events last losses →
    AreEndsTo events (last + 1) (losses ++ map (loss_of ended) lost)
ends_more events last losses ended lost is f a =
    let own : IsEndOf events ended.end ended.hart ended.operation ended.begin =
    subst (λ (n : ℕ). IsEndOf events n ended.hart ended.operation ended.begin) (sym is.0) is.1 in
    let new : List EndLoss = map (loss_of ended) lost in
    let size : length (map (loss_of ended) lost) ≡ length lost = length-map lost (loss_of ended) in
    record {
      in_order = pairs_appended IsBefore losses (map (loss_of ended) lost) a.in_order
          (λ i j d before within.
          let there : j < length lost = omega (arith, within, size) in
          rw (at_map ended lost i d (omega (arith, before, there)), at_map ended lost j d there) (inr (refl, f.upwards i j d.lost before there)))
          (λ i j d low within.
          let there : j < length lost = omega (arith, within, size) in
          rw (at_map ended lost j d there) (inl (omega (arith, a.made i d low, is.0))));
      each = All-append (IsEndLoss events) losses (map (loss_of ended) lost) a.each
          (All-map (IsEndLoss events) (loss_of ended) lost (λ k d h. record { hart = ended.hart; begin = ended.begin; ends = own; first = f.each k d h }));
      made = All-append (λ x. x.end ≤ last + 1) losses (map (loss_of ended) lost)
          (All-weaker (λ x. x.end ≤ last) (λ x. x.end ≤ last + 1) (λ x low. omega (arith, low)) losses a.made)
          (All-map (λ x. x.end ≤ last + 1) (loss_of ended) lost (λ k d h. omega (arith, is.0)));
      all = λ n h op b l e low end u. elim (last_or_before n last low) [
        | inl here ↦
            let same : n ≡ ended.end = omega (arith, here, is.0) in
            let of_it = same_end events ended.end h op b ended.hart ended.operation ended.begin (subst (λ (k : ℕ). IsEndOf events k h op b) same end) own in
            let store : IsUnpersisted events ended.end ended.hart ended.begin l e = rw (same, of_it.hart, of_it.begin) at u in
            let found = f.all l e store in
            any_added (λ x. (x.end ≡ n) × (x.lost.line ≡ l)) losses (map (loss_of ended) lost) (
              found.0,
              loss_of ended found.1,
              omega (arith, found.2, size),
              get_or-map (loss_of ended) lost found.0 found.1 ∙ ap (λ x. loss_of ended x) found.3,
              (sym same, found.4),
            )
        | inr before ↦ any_kept (λ x. (x.end ≡ n) × (x.lost.line ≡ l)) losses (map (loss_of ended) lost) (a.all n h op b l e before end u)
      ];
    }

-- after the last event
pub ends_all : (events : List Event) (losses : List EndLoss) → AreEndsTo events (length events) losses → AreEndLosses events losses
ends_all events losses a = record {
  in_order = a.in_order;
  each = a.each;
  all = λ n h op b l e end u. a.all n h op b l e (event_within events n (End h op) end.ends) end u;
}
