-- A volume is legal exactly where it is what the operations that it shows make of the settled one: a pending operation
-- has inodes of its own, so their logs tell whether it is in.
use Rattle.std.proofs.Common.{◌≡◌, ℕ, ◌<◌, Bool, true, false, cond, ◌&&◌, inl, inr, List, [], ◌∷◌, ◌++◌, map, length, refl, sym, ap, ◌∙◌, subst, arith, Option, Some, None, ◌↔◌, lt-ltb, ltb-true, eq-eqb, true≢false, IsPermutation}
use Rattle.std.specs.Prelude.{◌==◌, nat_lt, filter, option_and_then, IsTrue, Result, Ok, Err}
use Rattle.std.specs.List.{AllByRecursion, Contains, flat_map}
use Rattle.std.specs.Result.{result_ok}
use Rattle.std.proofs.lemmas.Bool.{cases_Bool}
use Rattle.std.proofs.lemmas.Grind.{flat_map-append}
use Rattle.std.proofs.lemmas.List.Elements.{All-contains_itself, recursion_from_All}
use Rattle.std.proofs.lemmas.List.Sorted.{All-permutation, IsPermutation-map, IsPermutation-sym}
use Rattle.nova_log.specs.declared.fault.VolumeFault.{VolumeFault}
use Rattle.plan.specs.declared.operation.Operation.{Operation}
use Rattle.plan.specs.declared.operation.PlannedEntry.{PlannedEntry}
use Rattle.store_trace.specs.declared.event.Event.{Event}
use Rattle.nova_log.specs.Logs.{log_of}
use Rattle.nova_log.specs.declared.volume.entry.Entry.{Entry}
use Rattle.image_check.specs.Growth.{AreApart, AreOutcomes, are_within, is_longer, is_shown, pending_harts}
use Rattle.image_check.specs.Legal.{IsLegal, with_entries}
use Rattle.store_trace.specs.Marks.{ended, pending}
use Rattle.image_check.specs.Planned.{planned}
use Rattle.image_check.specs.declared.legal.UnderWay.{UnderWay}
use Rattle.image_check.proofs.Commuting.{permuted_grown}
use Rattle.image_check.proofs.Counting.{permuted}
use Rattle.image_check.proofs.Pending.{all_pending}
use Rattle.image_check.proofs.Growing.{Grown, count_none, count_of, count_on, grown, not_on, with_append, within_of}
use Rattle.store_trace.proofs.Members.{contains_first, contains_later, from_filter, in_filter, no_members}

-- what one operation adds to those that follow
pub flat_cond : {X : Type 0} (b : Bool) (f : X → List PlannedEntry) (x : X) (xs : List X) →
    flat_map f (cond b (x ∷ xs) xs) ≡ cond b (f x) [] ++ flat_map f xs
flat_cond true f x xs = refl
flat_cond false f x xs = refl

-- two sets that agree on what each operation adds
same_chosen : (f : ℕ → List PlannedEntry) (c s : ℕ → Bool) (ops : List ℕ) →
    ((op : ℕ) → Contains ops op → cond (c op) (f op) [] ≡ cond (s op) (f op) []) →
    flat_map f (filter c ops) ≡ flat_map f (filter s ops)
same_chosen f c s [] h = refl
same_chosen f c s (op ∷ ops) h =
    let here : cond (c op) (f op) [] ≡ cond (s op) (f op) [] = h op (contains_first op ops op refl) in
    let rest : flat_map f (filter c ops) ≡ flat_map f (filter s ops) = same_chosen f c s ops (λ q m. h q (contains_later op ops q m)) in
    flat_cond (c op) f op (filter c ops)
    ∙ ap (λ (es : List PlannedEntry). es ++ flat_map f (filter c ops)) here
    ∙ ap (λ (es : List PlannedEntry). cond (s op) (f op) [] ++ es) rest
    ∙ sym (flat_cond (s op) f op (filter s ops))

unlonger : (m n : ℕ) → m ≡ n → nat_lt n m ≡ false
unlonger m n e = elim (cases_Bool (nat_lt n m)) [
  | inl t ↦ let h : n < m = ltb-true n m t in absurd (omega arith)
  | inr f ↦ f
]

and_true : (a b : Bool) → a ≡ true → b ≡ true → (a && b) ≡ true
and_true true b p q = q
and_true false b p q = absurd cc

and_false : (a b : Bool) → b ≡ false → (a && b) ≡ false
and_false true b q = q
and_false false b q = refl

-- an operation is in exactly where it is shown, if the log of its first inode tells it
each_shown : (b : Bool) (v w : List (List Entry)) (es : List PlannedEntry) →
    (b ≡ true → are_within (length v) es ≡ true) →
    ((e : PlannedEntry) (rest : List PlannedEntry) → es ≡ e ∷ rest → b ≡ true → length (log_of v e.inode) < length (log_of w e.inode)) →
    ((e : PlannedEntry) (rest : List PlannedEntry) → es ≡ e ∷ rest → b ≡ false → length (log_of w e.inode) ≡ length (log_of v e.inode)) →
    cond b es [] ≡ cond (is_shown v w es) es []
each_shown true v w [] t l n = refl
each_shown false v w [] t l n = refl
each_shown true v w (e ∷ es) t l n =
    let shown : is_shown v w (e ∷ es) ≡ true =
    and_true (are_within (length v) (e ∷ es)) (is_longer v w (e ∷ es)) (t refl) (lt-ltb (length (log_of v e.inode)) (length (log_of w e.inode)) (l e es refl refl)) in
    ap (λ (b : Bool). cond b (e ∷ es) []) (sym shown)
each_shown false v w (e ∷ es) t l n =
    let hidden : is_shown v w (e ∷ es) ≡ false =
    and_false (are_within (length v) (e ∷ es)) (is_longer v w (e ∷ es)) (unlonger (length (log_of w e.inode)) (length (log_of v e.inode)) (n e es refl refl)) in
    ap (λ (b : Bool). cond b (e ∷ es) []) (sym hidden)

count_first : (i : ℕ) (e : PlannedEntry) (es xs : List PlannedEntry) → xs ≡ e ∷ es → i ≡ e.inode → 0 < count_on i xs
count_first i e es xs s h =
    let one : cond {A = ℕ} (e.inode == i) 1 0 ≡ 1 = ap (λ (b : Bool). cond {A = ℕ} b 1 0) (eq-eqb e.inode i (sym h)) in
    subst (λ (ys : List PlannedEntry). 0 < count_on i ys) (sym s) (omega arith)

-- the operations of the set are those that are shown, where the operations share no inode
shown_same : (f : ℕ → List PlannedEntry) (ops : List ℕ) (c : ℕ → Bool) (v w : List (List Entry)) →
    ((a b : ℕ) → Contains ops a → Contains ops b → ¬ (a ≡ b) → (i : ℕ) → Contains (map (λ e. e.inode) (f a)) i → ¬ Contains (map (λ e. e.inode) (f b)) i) →
    with_entries v (flat_map f (filter c ops)) ≡ Some w →
    flat_map f (filter c ops) ≡ flat_map f (filter (λ op. is_shown v w (f op)) ops)
shown_same f ops c v w apart g =
    let r : Grown v w (flat_map f (filter c ops)) = grown v w (flat_map f (filter c ops)) g in
    same_chosen f c (λ op. is_shown v w (f op)) ops (λ op m.
    each_shown (c op) v w (f op)
    (λ t. within_of (length v) f (filter c ops) op r.within (in_filter c ops op m t))
    (λ e rest s t.
    let some : 0 < count_on e.inode (f op) = count_first e.inode e rest (f op) s refl in
    omega (arith, some, count_of e.inode f (filter c ops) op (in_filter c ops op m t), r.logs e.inode))
    (λ e rest s t.
    let none : count_on e.inode (flat_map f (filter c ops)) ≡ 0 =
    count_none e.inode f (filter c ops) (λ q k.
    let chosen : Contains ops q × (c q ≡ true) = from_filter c ops q k in
    not_on e.inode (f q) (apart op q m chosen.0 (λ same. true≢false (sym chosen.1 ∙ ap c (sym same) ∙ t)) e.inode
    (subst (λ (es : List PlannedEntry). Contains (map (λ x. x.inode) es) e.inode) (sym s) (contains_first e.inode (map (λ x. x.inode) rest) e.inode refl)))) in
    omega (arith, none, r.logs e.inode)))

-- further operations go to the settled volume
pub joined : (f : ℕ → List PlannedEntry) (v : List (List Entry)) (o : Option (List (List Entry))) (xs ys : List ℕ) →
    with_entries v (flat_map f xs) ≡ o →
    with_entries v (flat_map f (xs ++ ys)) ≡ option_and_then (λ w. with_entries w (flat_map f ys)) o
joined f v o xs ys h =
    ap (λ (es : List PlannedEntry). with_entries v es) (flat_map-append f xs ys)
    ∙ with_append v (flat_map f xs) (flat_map f ys)
    ∙ ap (λ (p : Option (List (List Entry))). option_and_then (λ w. with_entries w (flat_map f ys)) p) h

no_start : (v : List (List Entry)) → ¬ (Some v ≡ None)
no_start v e = absurd cc

some_same : (v w : List (List Entry)) → Some v ≡ Some w → v ≡ w
some_same v w e = cc

-- the operations that are shown, in another order
flat_filtered : (f : ℕ → List PlannedEntry) (s : ℕ → Bool) (ops : List ℕ) → flat_map f (filter s ops) ≡ flat_map (λ op. cond (s op) (f op) []) ops
flat_filtered f s [] = refl
flat_filtered f s (op ∷ ops) =
    flat_cond (s op) f op (filter s ops) ∙ ap (λ (es : List PlannedEntry). cond (s op) (f op) [] ++ es) (flat_filtered f s ops)

of_shown : (b : Bool) (es : List PlannedEntry) (i : ℕ) → Contains (map (λ e. e.inode) (cond b es [])) i → Contains (map (λ e. e.inode) es) i
of_shown true es i c = c
of_shown false es i c = absurd (no_members i c)

shown_permuted : (plan : List Operation) (events : List Event) (s : ℕ → Bool) (ops : List ℕ) → AreApart plan events → IsPermutation ops (pending events) →
    (v : List (List Entry)) → with_entries v (flat_map (planned plan) (filter s ops)) ≡ with_entries v (flat_map (planned plan) (filter s (pending events)))
shown_permuted plan events s ops apart p v =
    let all : AllByRecursion (λ op. Contains (pending events) op) ops =
    recursion_from_All (λ op. Contains (pending events) op) ops
    (All-permutation (λ op. Contains (pending events) op) (pending events) ops (IsPermutation-sym ops (pending events) p) (All-contains_itself (pending events))) in
    let same =
    permuted_grown (λ op. Contains (pending events) op) (λ op. cond (s op) (planned plan op) [])
    (λ a b m n d i of_a of_b. apart a b m n d
    (record { inode = i; of_one = of_shown (s a) (planned plan a) i of_a; of_other = of_shown (s b) (planned plan b) i of_b })) ops (pending events) p all in
    ap (λ (es : List PlannedEntry). with_entries v es) (flat_filtered (planned plan) s ops)
    ∙ same.1 v
    ∙ ap (λ (es : List PlannedEntry). with_entries v es) (sym (flat_filtered (planned plan) s (pending events)))

pub pending_permuted : (plan : List Operation) (start : Option (List (List Entry))) (events : List Event) (settled : Option (List (List Entry))) (under : List UnderWay) →
    AreOutcomes plan start events settled under → IsPermutation (map (λ u. u.op) under) (pending events)
pending_permuted plan start events settled under s =
    subst (λ (ops : List ℕ). IsPermutation (map (λ u. u.op) under) ops) (all_pending events)
    (IsPermutation-map (λ (u : UnderWay). u.op) under (pending_harts events) (permuted under (pending_harts events) s.under_way_is))

abbrev shown_entries : List Operation → List (List Entry) → List (List Entry) → List ℕ → List PlannedEntry
shown_entries plan v w ops = flat_map (planned plan) (filter (λ op. is_shown v w (planned plan op)) ops)

-- what the shown operations make of the settled volume is legal
shown_legal : (plan : List Operation) (start : Result (List (List Entry)) VolumeFault) (events : List Event) (settled w : List (List Entry)) (under : List UnderWay) →
    AreOutcomes plan (result_ok start) events (Some settled) under → AreApart plan events →
    with_entries settled (shown_entries plan settled w (map (λ u. u.op) under)) ≡ Some w → IsLegal plan start events w
shown_legal plan (Err fault) events settled w under s apart h = absurd (no_start settled s.settled_is)
shown_legal plan (Ok before) events settled w under s apart h = record {
  before = before;
  started = refl;
  chosen = λ op. is_shown settled w (planned plan op);
  grown =
      joined (planned plan) before (Some settled) (ended events) (filter (λ op. is_shown settled w (planned plan op)) (pending events)) (sym s.settled_is)
      ∙ sym (shown_permuted plan events (λ op. is_shown settled w (planned plan op)) (map (λ u. u.op) under) apart
      (pending_permuted plan (result_ok {E = VolumeFault} (Ok before)) events (Some settled) under s) settled)
      ∙ h;
}

-- a legal volume is what the operations that it shows make of the settled one
legal_shown : (plan : List Operation) (start : Result (List (List Entry)) VolumeFault) (events : List Event) (settled w : List (List Entry)) (under : List UnderWay) →
    AreOutcomes plan (result_ok start) events (Some settled) under → AreApart plan events → IsLegal plan start events w →
    with_entries settled (shown_entries plan settled w (map (λ u. u.op) under)) ≡ Some w
legal_shown plan start events settled w under s apart l =
    let at : Some settled ≡ option_and_then (λ before. with_entries before (flat_map (planned plan) (ended events))) (result_ok {E = VolumeFault} (Ok l.before)) =
    subst (λ (r : Result (List (List Entry)) VolumeFault). Some settled ≡ option_and_then (λ before. with_entries before (flat_map (planned plan) (ended events))) (result_ok r)) l.started s.settled_is in
    let more : with_entries settled (flat_map (planned plan) (filter l.chosen (pending events))) ≡ Some w =
    sym (joined (planned plan) l.before (Some settled) (ended events) (filter l.chosen (pending events)) (sym at)) ∙ l.grown in
    let same : flat_map (planned plan) (filter l.chosen (pending events)) ≡ flat_map (planned plan) (filter (λ op. is_shown settled w (planned plan op)) (pending events)) =
    shown_same (planned plan) (pending events) l.chosen settled w
    (λ a b m n d i of_a of_b. apart a b m n d (record { inode = i; of_one = of_a; of_other = of_b })) more in
    shown_permuted plan events (λ op. is_shown settled w (planned plan op)) (map (λ u. u.op) under) apart (pending_permuted plan (result_ok start) events (Some settled) under s) settled
    ∙ ap (λ (es : List PlannedEntry). with_entries settled es) (sym same)
    ∙ more

-- the code's comparison decides it
pub compared_legal : (plan : List Operation) (start : Result (List (List Entry)) VolumeFault) (events : List Event) (settled w expected : List (List Entry)) (under : List UnderWay) (b : Bool) →
    AreOutcomes plan (result_ok start) events (Some settled) under → AreApart plan events →
    with_entries settled (flat_map (planned plan) (filter (λ op. is_shown settled w (planned plan op)) (map (λ u. u.op) under))) ≡ Some expected →
    (IsTrue b ↔ (expected ≡ w)) → IsTrue b ↔ IsLegal plan start events w
compared_legal plan start events settled w expected under b s apart x d = (
  λ t. shown_legal plan start events settled w under s apart (x ∙ ap (λ (v : List (List Entry)). Some v) (d.0 t)),
  λ l. d.1 (some_same expected w (sym x ∙ legal_shown plan start events settled w under s apart l)),
)

-- where there is no settled volume, nothing is legal
pub none_legal : (plan : List Operation) (start : Result (List (List Entry)) VolumeFault) (events : List Event) (w : List (List Entry)) (under : List UnderWay) →
    AreOutcomes plan (result_ok start) events None under → ¬ IsLegal plan start events w
none_legal plan start events w under s l =
    let at : None ≡ option_and_then (λ before. with_entries before (flat_map (planned plan) (ended events))) (result_ok {E = VolumeFault} (Ok l.before)) =
    subst (λ (r : Result (List (List Entry)) VolumeFault). None ≡ option_and_then (λ before. with_entries before (flat_map (planned plan) (ended events))) (result_ok r)) l.started s.settled_is in
    no_start w (sym l.grown ∙ joined (planned plan) l.before None (ended events) (filter l.chosen (pending events)) (sym at))
