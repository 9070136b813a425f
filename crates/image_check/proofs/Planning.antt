-- The inodes of an operation's one or two entries, and whether the plan has an operation.
use Rattle.std.proofs.Common.{◌≡◌, ◌⊎◌, ℕ, zero, suc, ◌+◌, ◌<◌, Bool, true, false, cond, inl, inr, List, [], ◌∷◌, map, length, get_or, drop, refl, sym, ap, ◌∙◌, subst, Option, Some, None, ◌↔◌, eqb-true, eq-eqb, arith}
use Rattle.std.specs.Prelude.{◌==◌}
use Rattle.std.specs.List.{Contains}
use Rattle.std.specs.Option.{is_some}
use Rattle.std.proofs.lemmas.Bool.{cases_Bool}
use Rattle.std.proofs.lemmas.Bool.Decides.{Decides-eqb}
use Rattle.std.proofs.lemmas.List.{drop_more, get_or-map, length-map}
use Rattle.std.proofs.lemmas.Map.Made.{AllPairs-from_IsDistinct}
use Rattle.plan.specs.Plans.{KeepsRules, PlanView}
use Rattle.plan.specs.declared.operation.Operation.{Operation}
use Rattle.plan.specs.declared.operation.PlannedEntry.{PlannedEntry}
use Rattle.image_check.specs.OrderFaults.{IsPlanned}
use Rattle.image_check.specs.Planned.{operation_of}
use Rattle.store_trace.proofs.Members.{contains_cases, contains_first, contains_later, no_members}

abbrev inodes : List PlannedEntry → List ℕ
inodes es = map (λ e. e.inode) es

-- the inodes of one entry
pub one_inode : (es : List PlannedEntry) (first : PlannedEntry) (inode : ℕ) → es ≡ first ∷ [] → Contains (map (λ e. e.inode) es) inode ↔ (first.inode ≡ inode)
one_inode es first inode e = (
  λ c. elim (contains_cases first.inode [] inode (subst (λ (xs : List PlannedEntry). Contains (inodes xs) inode) e c)) [ inl s ↦ s | inr z ↦ absurd (no_members inode z) ],
  λ s. subst (λ (xs : List PlannedEntry). Contains (inodes xs) inode) (sym e) (contains_first first.inode [] inode s),
)

-- the inodes of two entries
pub two_inodes : (es : List PlannedEntry) (first second : PlannedEntry) (inode : ℕ) → es ≡ first ∷ second ∷ [] →
    Contains (map (λ e. e.inode) es) inode ↔ ((first.inode ≡ inode) ⊎ (second.inode ≡ inode))
two_inodes es first second inode e = (
  λ c. elim (contains_cases first.inode (second.inode ∷ []) inode (subst (λ (xs : List PlannedEntry). Contains (inodes xs) inode) e c)) [
    | inl s ↦ inl s
    | inr d ↦ elim (contains_cases second.inode [] inode d) [ inl s ↦ inr s | inr z ↦ absurd (no_members inode z) ]
  ],
  λ s. subst (λ (xs : List PlannedEntry). Contains (inodes xs) inode) (sym e) (elim s [
    | inl a ↦ contains_first first.inode (second.inode ∷ []) inode a
    | inr b ↦ contains_later first.inode (second.inode ∷ []) inode (contains_first second.inode [] inode b)
  ]),
)

some_none : (o : Operation) → ¬ (Some o ≡ None)
some_none o s = absurd cc

false_true : ¬ (false ≡ true)
false_true s = absurd cc

-- the plan has an operation of a number exactly where one is found
pub found_planned : (plan : List Operation) (op : ℕ) (operation : Operation) → operation_of plan op ≡ Some operation → IsPlanned plan op
found_planned [] op operation e = absurd cc
found_planned (o ∷ plan) op operation e = elim (cases_Bool (o.number == op)) [
  | inl t ↦ contains_first o.number (map (λ o. o.number) plan) op (eqb-true o.number op t)
  | inr f ↦ contains_later o.number (map (λ o. o.number) plan) op (found_planned plan op operation (sym (ap (λ (b : Bool). cond b (Some o) (operation_of plan op)) f) ∙ e))
]

pub lost_unplanned : (plan : List Operation) (op : ℕ) → operation_of plan op ≡ None → ¬ IsPlanned plan op
lost_unplanned [] op e c = no_members op c
lost_unplanned (o ∷ plan) op e c = elim (cases_Bool (o.number == op)) [
  | inl t ↦ absurd (some_none o (sym (ap (λ (b : Bool). cond b (Some o) (operation_of plan op)) t) ∙ e))
  | inr f ↦ elim (contains_cases o.number (map (λ o. o.number) plan) op c) [
    | inl s ↦ absurd (false_true (sym f ∙ eq-eqb o.number op s))
    | inr d ↦ lost_unplanned plan op (sym (ap (λ (b : Bool). cond b (Some o) (operation_of plan op)) f) ∙ e) d
  ]
]

-- the same by what was found
pub told_planned : (plan : List Operation) (op : ℕ) (found : Option Operation) → found ≡ operation_of plan op → is_some found ≡ true → IsPlanned plan op
told_planned plan op None e is = absurd (false_true is)
told_planned plan op (Some operation) e is = found_planned plan op operation (sym e)

pub told_unplanned : (plan : List Operation) (op : ℕ) (found : Option Operation) → found ≡ operation_of plan op → is_some found ≡ false → ¬ IsPlanned plan op
told_unplanned plan op None e is = lost_unplanned plan op (sym e)
told_unplanned plan op (Some operation) e is = absurd (false_true (sym is))

-- an inode of one list of entries that is an inode of another
pub share_one : (es os : List PlannedEntry) (first : PlannedEntry) → es ≡ first ∷ [] →
    ((inode : ℕ) × Contains (map (λ e. e.inode) es) inode × Contains (map (λ e. e.inode) os) inode) ↔ Contains (map (λ e. e.inode) os) first.inode
share_one es os first e = (
  λ s. subst (λ (i : ℕ). Contains (inodes os) i) (sym ((one_inode es first s.0 e).0 s.1)) s.2,
  λ c. (first.inode, (one_inode es first first.inode e).1 refl, c),
)

pub share_two : (es os : List PlannedEntry) (first second : PlannedEntry) → es ≡ first ∷ second ∷ [] →
    ((inode : ℕ) × Contains (map (λ e. e.inode) es) inode × Contains (map (λ e. e.inode) os) inode)
    ↔ (Contains (map (λ e. e.inode) os) first.inode ⊎ Contains (map (λ e. e.inode) os) second.inode)
share_two es os first second e = (
  λ s. elim ((two_inodes es first second s.0 e).0 s.1) [
    | inl a ↦ inl (subst (λ (i : ℕ). Contains (inodes os) i) (sym a) s.2)
    | inr b ↦ inr (subst (λ (i : ℕ). Contains (inodes os) i) (sym b) s.2)
  ],
  λ c. elim c [
    | inl a ↦ (first.inode, (two_inodes es first second first.inode e).1 (inl refl), a)
    | inr b ↦ (second.inode, (two_inodes es first second second.inode e).1 (inr refl), b)
  ],
)

-- the search for an operation, one further
pub found_here : (plan : List Operation) (op i : ℕ) (d : Operation) → i < length plan → operation_of plan op ≡ operation_of (drop i plan) op →
    (get_or plan i d).number ≡ op → operation_of plan op ≡ Some (get_or plan i d)
found_here plan op i d h e n =
    e
    ∙ ap (λ (os : List Operation). operation_of os op) (drop_more plan i d h)
    ∙ ap (λ (b : Bool). cond b (Some (get_or plan i d)) (operation_of (drop (i + 1) plan) op)) (eq-eqb (get_or plan i d).number op n)

unequal : (a b : ℕ) → ¬ (a ≡ b) → (a == b) ≡ false
unequal a b n = elim (cases_Bool (a == b)) [ inl t ↦ absurd (n (eqb-true a b t)) | inr f ↦ f ]

pub found_later : (plan : List Operation) (op i : ℕ) (d : Operation) → i < length plan → operation_of plan op ≡ operation_of (drop i plan) op →
    ¬ ((get_or plan i d).number ≡ op) → operation_of plan op ≡ operation_of (drop (i + 1) plan) op
found_later plan op i d h e n =
    e
    ∙ ap (λ (os : List Operation). operation_of os op) (drop_more plan i d h)
    ∙ ap (λ (b : Bool). cond b (Some (get_or plan i d)) (operation_of (drop (i + 1) plan) op)) (unequal (get_or plan i d).number op n)

-- an operation that none before it is the same as
first_at : (plan : List Operation) (op i : ℕ) (d : Operation) → ((k : ℕ) → k < i → ¬ ((get_or plan k d).number ≡ op)) → i < length plan →
    (get_or plan i d).number ≡ op → operation_of plan op ≡ Some (get_or plan i d)
first_at [] op i d apart h n = absurd (omega (arith, h))
first_at (x ∷ plan) op zero d apart h n = ap (λ (b : Bool). cond b (Some x) (operation_of plan op)) (eq-eqb x.number op n)
first_at (x ∷ plan) op (suc i) d apart h n =
    ap (λ (b : Bool). cond b (Some x) (operation_of plan op)) (unequal x.number op (apart 0 (omega arith)))
    ∙ first_at plan op i d (λ k l. apart (suc k) (omega (arith, l))) (omega (arith, h)) n

-- one of a plan, whose numbers differ
pub found_at : (plan : PlanView) (op i : ℕ) (d : Operation) → KeepsRules 4 plan → i < length plan.operations →
    (get_or plan.operations i d).number ≡ op → operation_of plan.operations op ≡ Some (get_or plan.operations i d)
found_at plan op i d rules h n =
    let number : Operation → ℕ = λ o. o.number in
    let size : length (map number plan.operations) ≡ length plan.operations = length-map plan.operations number in
    let pairs = AllPairs-from_IsDistinct Decides-eqb (map number plan.operations) (rules.distinct (omega arith)) in
    first_at plan.operations op i d
    (λ k l e. pairs k i 0 l (omega (arith, size, h))
    (get_or-map number plan.operations k d 0 (omega (arith, l, h)) ∙ e ∙ sym n ∙ sym (get_or-map number plan.operations i d 0 h)))
    h n
