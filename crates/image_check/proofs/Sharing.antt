-- Whether a pending operation shares an inode with one that begins, event by event.
use Rattle.std.proofs.Common.{◌≡◌, ◌↔◌, ℕ, ◌+◌, ◌<◌, ◌≤◌, inl, inr, true, List, [], map, length, get_or, refl, sym, ap, ◌∙◌, subst, arith, Option, Some, None}
use Rattle.std.specs.Prelude.{slice_index_or}
use Rattle.std.specs.List.{Contains}
use Rattle.std.specs.Option.{option_map_or}
use Rattle.std.proofs.lemmas.Bool.{cases_lt}
use Rattle.std.proofs.lemmas.List.{get_or_default, get_or-map, length-map}
use Rattle.plan.specs.Entries.{entries_of}
use Rattle.plan.specs.declared.operation.Operation.{Operation}
use Rattle.store_trace.specs.declared.event.Event.{Event}
use Rattle.store_trace.specs.declared.event.Event.TheVariants.{Begin}
use Rattle.store_trace.specs.Marks.{begun, begun_by, ended, is_open, pending}
use Rattle.image_check.specs.Growth.{begun_on}
use Rattle.image_check.specs.OrderFaults.{OpensSharer, ShareInode}
use Rattle.image_check.specs.Planned.{inodes_of, operation_of}
use Rattle.image_check.specs.declared.legal.UnderWay.{UnderWay}
use Rattle.store_trace.proofs.Marking.{open_true, open_unended}
use Rattle.store_trace.proofs.Members.{from_filter, from_mapped, in_filter, mapped_here, no_members}

-- an event that opens a sharer shows that a pending operation shares
pub shared_here : (plan : List Operation) (events : List Event) (i : ℕ) (d : Event) (op : ℕ) → i < length events →
    OpensSharer plan events (get_or events i d) op → (other : ℕ) × Contains (pending events) other × ShareInode plan other op
shared_here plan events i d op inside s =
    (s.other, in_filter (is_open events) (begun events) s.other (mapped_here begun_by events i d s.other inside s.begins) s.open_still, s.shares)

-- where no event opens a sharer, no pending operation shares
pub all_shared : (plan : List Operation) (events : List Event) (op : ℕ) →
    ((k : ℕ) (d : Event) → k < length events → ¬ OpensSharer plan events (slice_index_or events k d) op) →
    ¬ ((other : ℕ) × Contains (pending events) other × ShareInode plan other op)
all_shared plan events op h s =
    let both : Contains (begun events) s.0 × (is_open events s.0 ≡ true) = from_filter (is_open events) (begun events) s.0 s.1 in
    let from = from_mapped begun_by events s.0 both.0 in
    h from.1.0 from.0 from.1.1 (record {
      other = s.0;
      begins = ap (λ (x : Event). begun_by x) (from.1.2) ∙ from.2;
      open_still = both.1;
      shares = s.2;
    })

-- one event
planned_as : (plan : List Operation) (op : ℕ) (operation : Operation) → operation_of plan op ≡ Some operation →
    inodes_of plan op ≡ map (λ e. e.inode) (entries_of operation)
planned_as plan op operation e = ap (λ (o : Option Operation). map (λ e. e.inode) (option_map_or entries_of o [])) e

-- two operations that the plan has
pub shared_by : (plan : List Operation) (one other : ℕ) (a b : Operation) → operation_of plan one ≡ Some a → operation_of plan other ≡ Some b →
    ((inode : ℕ) × Contains (map (λ e. e.inode) (entries_of a)) inode × Contains (map (λ e. e.inode) (entries_of b)) inode) ↔ ShareInode plan one other
shared_by plan one other a b p q = (
  λ s. record {
    inode = s.0;
    of_one = subst (λ (xs : List ℕ). Contains xs s.0) (sym (planned_as plan one a p)) s.1;
    of_other = subst (λ (xs : List ℕ). Contains xs s.0) (sym (planned_as plan other b q)) s.2;
  },
  λ s. (
    s.inode,
    subst (λ (xs : List ℕ). Contains xs s.inode) (planned_as plan one a p) s.of_one,
    subst (λ (xs : List ℕ). Contains xs s.inode) (planned_as plan other b q) s.of_other,
  ),
)

pub unplanned_unshared : (plan : List Operation) (one other : ℕ) → operation_of plan one ≡ None → ¬ ShareInode plan one other
unplanned_unshared plan one other e s =
    let none : inodes_of plan one ≡ [] = ap (λ (o : Option Operation). map (λ e. e.inode) (option_map_or entries_of o [])) e in
    no_members s.inode (subst (λ (xs : List ℕ). Contains xs s.inode) none s.of_one)

-- the search among operations under way
pub one_sharing : (plan : List Operation) (us : List UnderWay) (op i : ℕ) (d : UnderWay) → i < length us → ShareInode plan (get_or us i d).op op →
    (other : ℕ) × Contains (map (λ u. u.op) us) other × ShareInode plan other op
one_sharing plan us op i d l s =
    let whole : length (map (λ u. u.op) us) ≡ length us = length-map us (λ (u : UnderWay). u.op) in
    ((get_or us i d).op, (i, omega arith, get_or-map (λ (u : UnderWay). u.op) us i d (get_or us i d).op l), s)

pub unshared_next : (plan : List Operation) (us : List UnderWay) (op i : ℕ) (e : UnderWay) → i < length us →
    ((k : ℕ) (d : UnderWay) → k < i → ¬ ShareInode plan (slice_index_or us k d).op op) → ¬ ShareInode plan (get_or us i e).op op →
    (k : ℕ) (d : UnderWay) → k < i + 1 → ¬ ShareInode plan (slice_index_or us k d).op op
unshared_next plan us op i e l h n k d less s = elim (cases_lt k i) [
  | inl before ↦ h k d before s
  | inr late ↦
      let at : k ≡ i = omega arith in
      let same : get_or us k d ≡ get_or us i e = ap (λ (j : ℕ). get_or us j d) at ∙ get_or_default us i d e l in
      n (subst (λ (u : UnderWay). ShareInode plan u.op op) same s)
]

pub none_sharing : (plan : List Operation) (us : List UnderWay) (op i : ℕ) → length us ≤ i →
    ((k : ℕ) (d : UnderWay) → k < i → ¬ ShareInode plan (slice_index_or us k d).op op) →
    ¬ ((other : ℕ) × Contains (map (λ u. u.op) us) other × ShareInode plan other op)
none_sharing plan us op i past h s =
    let whole : length (map (λ u. u.op) us) ≡ length us = length-map us (λ (u : UnderWay). u.op) in
    let there : s.1.0 < length us = omega (arith, s.1.1, whole) in
    let same : (get_or us s.1.0 (begun_on 0 0)).op ≡ s.0 = sym (get_or-map (λ (u : UnderWay). u.op) us s.1.0 (begun_on 0 0) s.0 there) ∙ s.1.2 in
    h s.1.0 (begun_on 0 0) (omega arith) (subst (λ (o : ℕ). ShareInode plan o op) (sym same) s.2)

begun_other : (a b : ℕ) → Some a ≡ Some b → a ≡ b
begun_other a b e = cc

pub sharer_opened : (plan : List Operation) (events : List Event) (hart other op : ℕ) → ¬ Contains (ended events) other → ShareInode plan other op →
    OpensSharer plan events (Begin hart other) op
sharer_opened plan events hart other op n s = record {
  other = other;
  begins = refl;
  open_still = open_true events other n;
  shares = s;
}

pub opened_shares : (plan : List Operation) (events : List Event) (hart other op : ℕ) → OpensSharer plan events (Begin hart other) op → ShareInode plan other op
opened_shares plan events hart other op s = subst (λ (o : ℕ). ShareInode plan o op) (sym (begun_other other s.other s.begins)) s.shares

pub ended_shares_not : (plan : List Operation) (events : List Event) (hart other op : ℕ) → Contains (ended events) other → ¬ OpensSharer plan events (Begin hart other) op
ended_shares_not plan events hart other op c s =
    open_unended events s.other s.open_still (subst (λ (o : ℕ). Contains (ended events) o) (begun_other other s.other s.begins) c)

none_begins : (x : ℕ) → ¬ (None ≡ Some x)
none_begins x r = absurd cc

-- an event that begins nothing
pub other_shares_not : (plan : List Operation) (events : List Event) (event : Event) (op : ℕ) → begun_by event ≡ None → ¬ OpensSharer plan events event op
other_shares_not plan events event op e s = none_begins s.other (sym e ∙ s.begins)
