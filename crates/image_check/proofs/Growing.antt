-- A volume after some entries: how long its logs are, and which inodes the entries may have.
use Rattle.std.proofs.Common.{◌≡◌, ℕ, ◌+◌, ◌<◌, ◌≤◌, Bool, true, false, cond, ◌&&◌, inl, inr, List, [], ◌∷◌, ◌++◌, map, length, refl, sym, ap, ◌∙◌, subst, arith, Option, Some, None, ltb-true, lt-ltb, length-append, length-set, get_or-set_same, get_or-set_other, eq-eqb, eqb-true}
use Rattle.std.specs.Prelude.{◌==◌, nat_lt, slice_set, option_and_then, IsTrue}
use Rattle.std.specs.List.{Contains, flat_map}
use Rattle.std.proofs.lemmas.Bool.{cases_Bool, cases_eq}
use Rattle.nova_log.specs.Logs.{log_of}
use Rattle.plan.specs.declared.operation.PlannedEntry.{PlannedEntry}
use Rattle.nova_log.specs.declared.volume.entry.Entry.{Entry}
use Rattle.image_check.specs.Growth.{are_within, is_longer, is_shown}
use Rattle.image_check.specs.Legal.{with_entries, with_entry}
use Rattle.store_trace.proofs.Members.{contains_cases, contains_first, contains_later, no_members}

-- further entries go to the volume that the first ones leave
append_next : (o : Option (List (List Entry))) (xs ys : List PlannedEntry) →
    ((v : List (List Entry)) → with_entries v (xs ++ ys) ≡ option_and_then (λ w. with_entries w ys) (with_entries v xs)) →
    option_and_then (λ n. with_entries n (xs ++ ys)) o ≡ option_and_then (λ w. with_entries w ys) (option_and_then (λ n. with_entries n xs) o)
append_next None xs ys h = refl
append_next (Some v) xs ys h = h v

pub with_append : (v : List (List Entry)) (xs ys : List PlannedEntry) →
    with_entries v (xs ++ ys) ≡ option_and_then (λ w. with_entries w ys) (with_entries v xs)
with_append v [] ys = refl
with_append v (e ∷ xs) ys = append_next (with_entry v e) xs ys (λ w. with_append w xs ys)

-- how many of the entries are of inode i
abbrev pub count_on : ℕ → List PlannedEntry → ℕ
count_on i [] = 0
count_on i (e ∷ es) = cond {A = ℕ} (e.inode == i) 1 0 + count_on i es

-- w is v with these entries, as far as its inodes and the lengths of its logs go
pub record Grown (v w : List (List Entry)) (es : List PlannedEntry) : Type 0 where
  pub inodes : length w ≡ length v
  pub within : are_within (length v) es ≡ true
  pub logs : (i : ℕ) → length (log_of w i) ≡ length (log_of v i) + count_on i es

both : (a b : Bool) → a ≡ true → b ≡ true → (a && b) ≡ true
both true b p q = q
both false b p q = absurd cc

first_of_both : (a b : Bool) → (a && b) ≡ true → a ≡ true
first_of_both true b p = refl
first_of_both false b p = absurd cc

second_of_both : (a b : Bool) → (a && b) ≡ true → b ≡ true
second_of_both true b p = p
second_of_both false b p = absurd cc

unequal : (a i : ℕ) → ¬ (a ≡ i) → (a == i) ≡ false
unequal a i n = elim (cases_Bool (a == i)) [ inl t ↦ absurd (n (eqb-true a i t)) | inr f ↦ f ]

-- one entry makes one log longer by one
log_longer : (v : List (List Entry)) (a i : ℕ) (e : Entry) → a < length v →
    length (log_of (slice_set v a (log_of v a ++ e ∷ [])) i) ≡ length (log_of v i) + cond {A = ℕ} (a == i) 1 0
log_longer v a i e h = elim (cases_eq a i) [
  | inl s ↦
      let t : cond {A = ℕ} (a == i) 1 0 ≡ 1 = ap (λ (b : Bool). cond {A = ℕ} b 1 0) (eq-eqb a i s) in
      let got : log_of (slice_set v a (log_of v a ++ e ∷ [])) i ≡ log_of v i ++ e ∷ [] =
      subst (λ (j : ℕ). log_of (slice_set v a (log_of v a ++ e ∷ [])) j ≡ log_of v j ++ e ∷ []) s (get_or-set_same v a (log_of v a ++ e ∷ []) [] h) in
      let longer : length (log_of v i ++ e ∷ []) ≡ length (log_of v i) + 1 = length-append (log_of v i) (e ∷ []) in
      ap (λ (l : List Entry). length l) got ∙ longer ∙ ap (λ (n : ℕ). length (log_of v i) + n) (sym t)
  | inr n ↦
      let t : cond {A = ℕ} (a == i) 1 0 ≡ 0 = ap (λ (b : Bool). cond {A = ℕ} b 1 0) (unequal a i n) in
      let got : log_of (slice_set v a (log_of v a ++ e ∷ [])) i ≡ log_of v i = get_or-set_other v a i (log_of v a ++ e ∷ []) [] (λ s. n (sym s)) in
      let same : length (log_of v i) ≡ length (log_of v i) + cond {A = ℕ} (a == i) 1 0 = omega arith in
      ap (λ (l : List Entry). length l) got ∙ same
]

grown_more : (v w : List (List Entry)) (e : PlannedEntry) (es : List PlannedEntry) → e.inode < length v →
    Grown (slice_set v e.inode (log_of v e.inode ++ e.entry ∷ [])) w es → Grown v w (e ∷ es)
grown_more v w e es h g =
    let same : length (slice_set v e.inode (log_of v e.inode ++ e.entry ∷ [])) ≡ length v = length-set v e.inode (log_of v e.inode ++ e.entry ∷ []) in
    record {
      inodes = g.inodes ∙ same;
      within = both (nat_lt e.inode (length v)) (are_within (length v) es) (lt-ltb e.inode (length v) h) (subst (λ (n : ℕ). are_within n es ≡ true) same g.within);
      logs = λ i. omega (arith, log_longer v e.inode i e.entry h, g.logs i);
    }

none_some : (w : List (List Entry)) → ¬ (None ≡ Some w)
none_some w e = absurd cc

some_same : (v w : List (List Entry)) → Some v ≡ Some w → v ≡ w
some_same v w e = cc

grown_next : (b : Bool) (v w : List (List Entry)) (e : PlannedEntry) (es : List PlannedEntry) → nat_lt e.inode (length v) ≡ b →
    option_and_then (λ n. with_entries n es) (cond b (Some (slice_set v e.inode (log_of v e.inode ++ e.entry ∷ []))) None) ≡ Some w →
    ((n : List (List Entry)) → with_entries n es ≡ Some w → Grown n w es) → Grown v w (e ∷ es)
grown_next true v w e es t s g = grown_more v w e es (ltb-true e.inode (length v) t) (g (slice_set v e.inode (log_of v e.inode ++ e.entry ∷ [])) s)
grown_next false v w e es t s g = absurd (none_some w s)

none_grown : (v w : List (List Entry)) → v ≡ w → Grown v w []
none_grown v w e = record { inodes = ap (λ (x : List (List Entry)). length x) (sym e); within = refl; logs = λ i. subst (λ (x : List (List Entry)). length (log_of x i) ≡ length (log_of v i) + 0) e (omega arith) }

pub grown : (v w : List (List Entry)) (es : List PlannedEntry) → with_entries v es ≡ Some w → Grown v w es
grown v w [] s = none_grown v w (some_same v w s)
grown v w (e ∷ es) s = grown_next (nat_lt e.inode (length v)) v w e es refl s (λ n r. grown n w es r)

-- where an inode is lacking, there is no volume
lost_next : (a : Bool) (v : List (List Entry)) (e : PlannedEntry) (es : List PlannedEntry) → nat_lt e.inode (length v) ≡ a →
    (a && are_within (length v) es) ≡ false →
    ((w : List (List Entry)) → are_within (length w) es ≡ false → with_entries w es ≡ None) →
    option_and_then (λ n. with_entries n es) (cond a (Some (slice_set v e.inode (log_of v e.inode ++ e.entry ∷ []))) None) ≡ None
lost_next false v e es t f h = refl
lost_next true v e es t f h =
    let same : length (slice_set v e.inode (log_of v e.inode ++ e.entry ∷ [])) ≡ length v = length-set v e.inode (log_of v e.inode ++ e.entry ∷ []) in
    h (slice_set v e.inode (log_of v e.inode ++ e.entry ∷ [])) (subst (λ (n : ℕ). are_within n es ≡ false) (sym same) f)

true_false : ¬ (true ≡ false)
true_false e = absurd cc

pub none_fits : (v : List (List Entry)) (es : List PlannedEntry) → are_within (length v) es ≡ false → with_entries v es ≡ None
none_fits v [] f = absurd (true_false f)
none_fits v (e ∷ es) f = lost_next (nat_lt e.inode (length v)) v e es refl f (λ w g. none_fits w es g)

within_append : (n : ℕ) (xs ys : List PlannedEntry) → are_within n (xs ++ ys) ≡ true → (are_within n xs ≡ true) × (are_within n ys ≡ true)
within_append n [] ys h = (refl, h)
within_append n (e ∷ xs) ys h =
    let first : nat_lt e.inode n ≡ true = first_of_both (nat_lt e.inode n) (are_within n (xs ++ ys)) h in
    let r : (are_within n xs ≡ true) × (are_within n ys ≡ true) = within_append n xs ys (second_of_both (nat_lt e.inode n) (are_within n (xs ++ ys)) h) in
    (both (nat_lt e.inode n) (are_within n xs) first r.0, r.1)

pub within_of : (n : ℕ) (f : ℕ → List PlannedEntry) (ops : List ℕ) (op : ℕ) → are_within n (flat_map f ops) ≡ true → Contains ops op → are_within n (f op) ≡ true
within_of n f [] op h c = absurd (no_members op c)
within_of n f (x ∷ ops) op h c =
    let s : (are_within n (f x) ≡ true) × (are_within n (flat_map f ops) ≡ true) = within_append n (f x) (flat_map f ops) h in
    elim (contains_cases x ops op c) [
      | inl e ↦ subst (λ (y : ℕ). are_within n (f y) ≡ true) e s.0
      | inr d ↦ within_of n f ops op s.1 d
    ]

count_append : (i : ℕ) (xs ys : List PlannedEntry) → count_on i (xs ++ ys) ≡ count_on i xs + count_on i ys
count_append i [] ys = omega arith
count_append i (e ∷ xs) ys = omega (arith, count_append i xs ys)

pub count_of : (i : ℕ) (f : ℕ → List PlannedEntry) (ops : List ℕ) (op : ℕ) → Contains ops op → count_on i (f op) ≤ count_on i (flat_map f ops)
count_of i f [] op c = absurd (no_members op c)
count_of i f (x ∷ ops) op c = elim (contains_cases x ops op c) [
  | inl e ↦ subst (λ (y : ℕ). count_on i (f y) ≤ count_on i (flat_map f (x ∷ ops))) e (omega (arith, count_append i (f x) (flat_map f ops)))
  | inr d ↦ omega (arith, count_append i (f x) (flat_map f ops), count_of i f ops op d)
]

pub count_none : (i : ℕ) (f : ℕ → List PlannedEntry) (ops : List ℕ) → ((op : ℕ) → Contains ops op → count_on i (f op) ≡ 0) → count_on i (flat_map f ops) ≡ 0
count_none i f [] h = refl
count_none i f (x ∷ ops) h =
    omega (arith, count_append i (f x) (flat_map f ops), h x (contains_first x ops x refl), count_none i f ops (λ op c. h op (contains_later x ops op c)))

pub not_on : (i : ℕ) (es : List PlannedEntry) → ¬ Contains (map (λ e. e.inode) es) i → count_on i es ≡ 0
not_on i [] n = refl
not_on i (e ∷ es) n = elim (cases_Bool (e.inode == i)) [
  | inl t ↦ absurd (n (contains_first e.inode (map (λ e. e.inode) es) i (eqb-true e.inode i t)))
  | inr f ↦
      let none : cond {A = ℕ} (e.inode == i) 1 0 ≡ 0 = ap (λ (b : Bool). cond {A = ℕ} b 1 0) f in
      omega (arith, none, not_on i es (λ c. n (contains_later e.inode (map (λ e. e.inode) es) i c)))
]

-- entries one by one, for the code that adds an operation's
pub with_first : (v : List (List Entry)) (e : PlannedEntry) (es : List PlannedEntry) → e.inode < length v →
    with_entries v (e ∷ es) ≡ with_entries (slice_set v e.inode (log_of v e.inode ++ e.entry ∷ [])) es
with_first v e es h = ap (λ (b : Bool). option_and_then (λ n. with_entries n es) (cond b (Some (slice_set v e.inode (log_of v e.inode ++ e.entry ∷ []))) None)) (lt-ltb e.inode (length v) h)

pub first_within : (n : ℕ) (es rest : List PlannedEntry) (first : PlannedEntry) → IsTrue (are_within n es) → es ≡ first ∷ rest → first.inode < n
first_within n es rest first h e =
    ltb-true first.inode n (first_of_both (nat_lt first.inode n) (are_within n rest) (sym (ap (λ (xs : List PlannedEntry). are_within n xs) e) ∙ h))

pub second_within : (n : ℕ) (es rest : List PlannedEntry) (first second : PlannedEntry) → IsTrue (are_within n es) → es ≡ first ∷ second ∷ rest → second.inode < n
second_within n es rest first second h e =
    let all : are_within n (first ∷ second ∷ rest) ≡ true = sym (ap (λ (xs : List PlannedEntry). are_within n xs) e) ∙ h in
    let later : are_within n (second ∷ rest) ≡ true = second_of_both (nat_lt first.inode n) (are_within n (second ∷ rest)) all in
    ltb-true second.inode n (first_of_both (nat_lt second.inode n) (are_within n rest) later)

pub one_grown : (v w : List (List Entry)) (es : List PlannedEntry) (first : PlannedEntry) → IsTrue (are_within (length v) es) → es ≡ first ∷ [] →
    w ≡ slice_set v first.inode (log_of v first.inode ++ first.entry ∷ []) → with_entries v es ≡ Some w
one_grown v w es first h e s =
    ap (λ (xs : List PlannedEntry). with_entries v xs) e
    ∙ with_first v first [] (first_within (length v) es [] first h e)
    ∙ ap (λ (x : List (List Entry)). Some x) (sym s)

pub two_grown : (v m w : List (List Entry)) (es : List PlannedEntry) (first second : PlannedEntry) → IsTrue (are_within (length v) es) → es ≡ first ∷ second ∷ [] →
    m ≡ slice_set v first.inode (log_of v first.inode ++ first.entry ∷ []) → w ≡ slice_set m second.inode (log_of m second.inode ++ second.entry ∷ []) → with_entries v es ≡ Some w
two_grown v m w es first second h e s t =
    let same : length m ≡ length v = ap (λ (x : List (List Entry)). length x) s ∙ length-set v first.inode (log_of v first.inode ++ first.entry ∷ []) in
    let inside : second.inode < length m = subst (λ (n : ℕ). second.inode < n) (sym same) (second_within (length v) es [] first second h e) in
    ap (λ (xs : List PlannedEntry). with_entries v xs) e
    ∙ with_first v first (second ∷ []) (first_within (length v) es (second ∷ []) first h e)
    ∙ ap (λ (x : List (List Entry)). with_entries x (second ∷ [])) (sym s)
    ∙ with_first m second [] inside
    ∙ ap (λ (x : List (List Entry)). Some x) (sym t)

-- the test of an operation by its first entry
pub shown_first : (v w : List (List Entry)) (es rest : List PlannedEntry) (first : PlannedEntry) → es ≡ first ∷ rest →
    is_shown v w es ≡ (are_within (length v) es && nat_lt (length (log_of v first.inode)) (length (log_of w first.inode)))
shown_first v w es rest first e = ap (λ (xs : List PlannedEntry). are_within (length v) es && is_longer v w xs) e
