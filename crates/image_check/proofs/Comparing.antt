-- The test of outcomes decides whether they are the same.
use Rattle.std.proofs.Common.{◌≡◌, Bool, true, false, ◌&&◌, List, Option, Some, None, refl, sym, ap, subst, arith, true≢false, eqb-true, eq-eqb}
use Rattle.std.specs.Prelude.{◌==◌, ◌↔◌, nat_eq, IsTrue}
use Rattle.std.specs.Bool.{Decides, one_answer}
use Rattle.std.specs.Cmp.{unsigned_Decides, first_so, second_so}
use Rattle.std.specs.Cmp.Lexicographic.{pointwise, pointwise_decides}
use Rattle.nova_log.specs.declared.volume.entry.Entry.{Entry}
use Rattle.nova_log.specs.declared.volume.entry.EntryKind.{EntryKind}
use Rattle.nova_log.specs.declared.volume.entry.EntryKind.TheVariants.{Write, AddName, RemoveName}
use Rattle.image_check.specs.SameOutcomes.{kind_number, same_entry, same_mark, same_settled}
use Rattle.image_check.specs.declared.legal.UnderWay.{UnderWay}

kind_same : (a b : EntryKind) → kind_number a ≡ kind_number b → a ≡ b
kind_same Write Write e = refl
kind_same Write AddName e = absurd (omega (arith, e))
kind_same Write RemoveName e = absurd (omega (arith, e))
kind_same AddName Write e = absurd (omega (arith, e))
kind_same AddName AddName e = refl
kind_same AddName RemoveName e = absurd (omega (arith, e))
kind_same RemoveName Write e = absurd (omega (arith, e))
kind_same RemoveName AddName e = absurd (omega (arith, e))
kind_same RemoveName RemoveName e = refl

pub both_true : (a b : Bool) → a ≡ true → b ≡ true → (a && b) ≡ true
both_true true b p q = q
both_true false b p q = absurd cc

entry_decides : (a b : Entry) → Decides (same_entry a b) (a ≡ b)
entry_decides a b = (
  λ e.
      let front = first_so (a.operation == b.operation && kind_number a.kind == kind_number b.kind) (pointwise nat_eq a.name b.name && a.value == b.value) e in
      let back = second_so (a.operation == b.operation && kind_number a.kind == kind_number b.kind) (pointwise nat_eq a.name b.name && a.value == b.value) e in
      let operation : a.operation ≡ b.operation = eqb-true a.operation b.operation (first_so (a.operation == b.operation) (kind_number a.kind == kind_number b.kind) front) in
      let kind : a.kind ≡ b.kind = kind_same a.kind b.kind (eqb-true (kind_number a.kind) (kind_number b.kind) (second_so (a.operation == b.operation) (kind_number a.kind == kind_number b.kind) front)) in
      let name : a.name ≡ b.name = (pointwise_decides unsigned_Decides a.name b.name).0 (first_so (pointwise nat_eq a.name b.name) (a.value == b.value) back) in
      let value : a.value ≡ b.value = eqb-true a.value b.value (second_so (pointwise nat_eq a.name b.name) (a.value == b.value) back) in
      λ i. record { operation = operation i; kind = kind i; name = name i; value = value i },
  λ e. subst (λ (x : Entry). same_entry a x ≡ true) e (itself a),
)
  where
    itself : (a : Entry) → same_entry a a ≡ true
    itself a =
        both_true (a.operation == a.operation && kind_number a.kind == kind_number a.kind) (pointwise nat_eq a.name a.name && a.value == a.value)
        (both_true (a.operation == a.operation) (kind_number a.kind == kind_number a.kind) (eq-eqb a.operation a.operation refl) (eq-eqb (kind_number a.kind) (kind_number a.kind) refl))
        (both_true (pointwise nat_eq a.name a.name) (a.value == a.value) ((pointwise_decides unsigned_Decides a.name a.name).1 refl) (eq-eqb a.value a.value refl))

pub volume_decides : (v w : List (List Entry)) → Decides (pointwise (pointwise same_entry) v w) (v ≡ w)
volume_decides v w = pointwise_decides (pointwise_decides entry_decides) v w

pub settled_decides : (a b : Option (List (List Entry))) → Decides (same_settled a b) (a ≡ b)
settled_decides None None = (λ e. refl, λ e. refl)
settled_decides None (Some w) = (λ e. absurd (true≢false (sym e)), λ e. absurd cc)
settled_decides (Some v) None = (λ e. absurd (true≢false (sym e)), λ e. absurd cc)
settled_decides (Some v) (Some w) = (
  λ e. ap (λ (x : List (List Entry)). Some x) ((volume_decides v w).0 e),
  λ e. (volume_decides v w).1 (let same : v ≡ w = cc in same),
)

-- what `equals` answers
pub told_same : (v w : List (List Entry)) (b : Bool) → (IsTrue b ↔ (v ≡ w)) → b ≡ pointwise (pointwise same_entry) v w
told_same v w b h = one_answer b (pointwise (pointwise same_entry) v w) h (volume_decides v w)

pub mark_decides : (a b : UnderWay) → Decides (same_mark a b) (a ≡ b)
mark_decides a b = (
  λ e.
      let op : a.op ≡ b.op = eqb-true a.op b.op (first_so (a.op == b.op) (a.hart == b.hart) e) in
      let hart : a.hart ≡ b.hart = eqb-true a.hart b.hart (second_so (a.op == b.op) (a.hart == b.hart) e) in
      λ i. record { op = op i; hart = hart i },
  λ e. subst (λ (x : UnderWay). same_mark a x ≡ true) e (both_true (a.op == a.op) (a.hart == a.hart) (eq-eqb a.op a.op refl) (eq-eqb a.hart a.hart refl)),
)
