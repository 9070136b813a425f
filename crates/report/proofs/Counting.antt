-- What one more event adds to the uses of each pc.
use Rattle.std.proofs.Common.{◌≡◌, ◌∙◌, ◌↔◌, ◌==◌, inl, inr, ℕ, ◌+◌, ◌<◌, ◌≤◌, List, [], ◌∷◌, Option, Some, None, Bool, true, false, ◌&&◌, cond, length, get_or, take, refl, ap, sym, subst, arith}
use Rattle.std.specs.BTreeMap.{BTreeMap, Updates, get}
use Rattle.std.specs.List.{count_by, zip}
use Rattle.std.proofs.Common.{Less, Equal, Greater, nat_cmp}
use Rattle.std.specs.Ordering.{is_eq}
use Rattle.std.specs.Prelude.{nat_lt}
use Rattle.std.proofs.lemmas.Bool.Decides.{eqb_tells, nat_tests}
use Rattle.std.proofs.lemmas.List.{take_all}
use Rattle.std.proofs.lemmas.Slice.Zip.{get_or-zip, length-zip}
use Rattle.std.proofs.lemmas.List.Sums.{sum_by-cons, sum_by_more}
use Rattle.durability.specs.declared.redundant.reason.Reason.{Reason}
use Rattle.machine.specs.declared.run_trace.traced_event.TracedEvent.{TracedEvent}
use Rattle.report.specs.Events.{hart_of}
use Rattle.report.specs.Uses.{Judged, is_clean_or_fence, is_paid_in_vain, is_use, is_use_at, is_use_by, is_vain_at}
use Rattle.report.specs.Tallies.{AreUses, AreUsesAt, AreUsesOf, maker_with, with_use}
use Rattle.report.specs.declared.redundant.uses.Uses.{Uses}

-- a test that passes wherever another does passes as often at least
pub count_by-le : {X : Type 0} (p q : X → Bool) → ((x : X) → cond (p x) 1 0 ≤ cond (q x) 1 0) → (xs : List X) → count_by p xs ≤ count_by q xs
count_by-le p q le [] = omega arith
count_by-le p q le (x ∷ xs) =
    omega (arith, le x, count_by-le p q le xs, sum_by-cons (λ y. cond (p y) 1 0) x xs, sum_by-cons (λ y. cond (q y) 1 0) x xs)

narrower : (a b : Bool) → cond (a && b) 1 0 ≤ cond a 1 0
narrower true true = omega arith
narrower true false = omega arith
narrower false b = omega arith

vain_narrower : (a v b : Bool) → cond ((a && v) && b) 1 0 ≤ cond (a && b) 1 0
vain_narrower true true b = omega arith
vain_narrower true false b = omega arith
vain_narrower false v b = omega arith

pub vain-le : (pc : ℕ) (xs : List Judged) → count_by (is_vain_at pc) xs ≤ count_by (is_use_at pc) xs
vain-le pc xs = count_by-le (is_vain_at pc) (is_use_at pc) (λ x. vain_narrower (is_use x) (is_paid_in_vain x.1) (x.0.pc == pc)) xs

pub by-le : (pc h : ℕ) (xs : List Judged) → count_by (is_use_by pc h) xs ≤ count_by (is_use_at pc) xs
by-le pc h xs = count_by-le (is_use_by pc h) (is_use_at pc) (λ x. narrower (is_use_at pc x) (hart_of x.0.event == h)) xs

-- what one more event adds to a count
pub more : (p : Judged → Bool) (all : List Judged) (at : ℕ) (d : Judged) (b : Bool) → at < length all → p (get_or all at d) ≡ b →
    count_by p (take (at + 1) all) ≡ count_by p (take at all) + cond b 1 0
more p all at d b within is = sum_by_more (λ y. cond (p y) 1 0) all at d within ∙ ap (λ t. count_by p (take at all) + cond t 1 0) is

same_uses : (before after : List Judged) (pc : ℕ) (o : Option Uses) → count_by (is_use_at pc) after ≡ count_by (is_use_at pc) before →
    count_by (is_vain_at pc) after ≡ count_by (is_vain_at pc) before →
    ((h : ℕ) → count_by (is_use_by pc h) after ≡ count_by (is_use_by pc h) before) → AreUsesAt before pc o → AreUsesAt after pc o
same_uses before after pc None all vain by h = all ∙ h
same_uses before after pc (Some u) all vain by h = record {
  some = h.some;
  count = h.count ∙ sym all;
  vain = h.vain ∙ sym vain;
  hart = λ k. (λ e. by k ∙ (h.hart k).0 e, λ e. (h.hart k).1 (sym (by k) ∙ e));
}

and_false : (b : Bool) → (b && false) ≡ false
and_false true = refl
and_false false = refl

not_here : (one vain at : Bool) → (one && at) ≡ false → ((one && vain) && at) ≡ false
not_here false v a e = refl
not_here true v a e = ap (λ t. v && t) e ∙ and_false v

-- an event that isn't a use of the pc
pub other : (all : List Judged) (at : ℕ) (d : Judged) (pc : ℕ) (o : Option Uses) → at < length all →
    is_use_at pc (get_or all at d) ≡ false → AreUsesAt (take at all) pc o → AreUsesAt (take (at + 1) all) pc o
other all at d pc o within miss h =
    let one = get_or all at d in
    same_uses (take at all) (take (at + 1) all) pc o (more (is_use_at pc) all at d false within miss ∙ omega arith)
    (more (is_vain_at pc) all at d false within (not_here (is_use one) (is_paid_in_vain one.1) (one.0.pc == pc) miss) ∙ omega arith)
    (λ k. more (is_use_by pc k) all at d false within (ap (λ b. b && (hart_of one.0.event == k)) miss) ∙ omega arith) h

some_same : (a b : ℕ) → Some a ≡ Some b → a ≡ b
some_same a b s = cc

none_is_some : (b : ℕ) → None ≡ Some b → ⊥
none_is_some b e = cc

equal : (n : ℕ) → (n == n) ≡ true
equal n = elim (eqb_tells n n) [ inl h ↦ h.0 | inr h ↦ absurd (h.1 refl) ]

-- whether the hart that made all of c made all with one more by a hart
maker_more : (hart : ℕ) (maker : Option ℕ) (c : ℕ) (made : ℕ → ℕ) → ((j : ℕ) → made j ≤ c) →
    ((j : ℕ) → maker ≡ Some j ↔ made j ≡ c) → (k : ℕ) → maker_with hart maker ≡ Some k ↔ made k + cond (hart == k) 1 0 ≡ c + 1
maker_more hart None c made le is k = (
  λ e. absurd (none_is_some k e),
  λ e. elim (eqb_tells hart k) [
    | inl s ↦ absurd (none_is_some k ((is k).1 (omega (arith, ap (λ b. made k + cond b 1 0) s.0, e))))
    | inr s ↦ absurd (omega (arith, le k, ap (λ b. made k + cond b 1 0) s.0, e))
  ],
)
maker_more hart (Some first) c made le is k = elim (eqb_tells first hart) [
  | inl s ↦ rw s.0 (
    (λ e. let same : k ≡ hart = sym (some_same first k e) ∙ s.1 in
        rw same (omega (arith, (is hart).0 (ap (λ (n : ℕ). Some n) s.1), ap (λ b. made hart + cond b 1 0) (equal hart)))),
    (λ e. elim (eqb_tells hart k) [
      | inl t ↦ ap (λ (n : ℕ). Some n) (s.1 ∙ t.1)
      | inr t ↦ absurd (omega (arith, le k, ap (λ b. made k + cond b 1 0) t.0, e))
    ]),
  )
  | inr s ↦ rw s.0 (
    (λ e. absurd (none_is_some k e)),
    (λ e. elim (eqb_tells hart k) [
      | inl t ↦ absurd (s.1 (some_same first hart ((is hart).1 (rw t.1 (omega (arith, ap (λ b. made k + cond b 1 0) t.0, e))))))
      | inr t ↦ absurd (omega (arith, le k, ap (λ b. made k + cond b 1 0) t.0, e))
    ]),
  )
]

both_true : (a b : Bool) → a ≡ true → b ≡ true → (a && b) ≡ true
both_true a b x y = ap (λ t. t && b) x ∙ y

and_true : (b : Bool) → (b && true) ≡ b
and_true true = refl
and_true false = refl

added : (before after : List Judged) (pc : ℕ) (o : Option Uses) (hart : ℕ) (vain : Bool) →
    count_by (is_use_at pc) after ≡ count_by (is_use_at pc) before + 1 →
    count_by (is_vain_at pc) after ≡ count_by (is_vain_at pc) before + cond vain 1 0 →
    ((k : ℕ) → count_by (is_use_by pc k) after ≡ count_by (is_use_by pc k) before + cond (hart == k) 1 0) →
    AreUsesAt before pc o → AreUsesOf after pc (with_use hart vain o)
added before after pc None hart vain uses vains makers h = record {
  some = omega arith;
  count = omega (arith, uses, h);
  vain = omega (arith, vains, vain-le pc before, h);
  hart = λ k. elim (eqb_tells hart k) [
    | inl s ↦ (
      λ e. omega (arith, makers k, ap {B = ℕ} (λ b. cond b 1 0) s.0, by-le pc k before, h),
      λ e. ap (λ (n : ℕ). Some n) s.1,
    )
    | inr s ↦ (
      λ e. absurd (s.1 (some_same hart k e)),
      λ e. absurd (omega (arith, makers k, ap {B = ℕ} (λ b. cond b 1 0) s.0, by-le pc k before, h, e)),
    )
  ];
}
added before after pc (Some u) hart vain uses vains makers h = record {
  some = omega arith;
  count = omega (arith, uses, h.count);
  vain = omega (arith, vains, h.vain);
  hart = λ k.
      let m = maker_more hart u.hart u.count (λ j. count_by (is_use_by pc j) before) (λ j. omega (arith, by-le pc j before, h.count)) h.hart k in
      (λ e. makers k ∙ m.0 e, λ e. m.1 (sym (makers k) ∙ e));
}

-- a use of its own pc
pub here : (all : List Judged) (at : ℕ) (d : Judged) (o : Option Uses) (hart : ℕ) (vain : Bool) → at < length all →
    is_use (get_or all at d) ≡ true → hart ≡ hart_of (get_or all at d).0.event → vain ≡ is_paid_in_vain (get_or all at d).1 →
    AreUsesAt (take at all) (get_or all at d).0.pc o → AreUsesOf (take (at + 1) all) (get_or all at d).0.pc (with_use hart vain o)
here all at d o hart vain within is_used is_hart is_so h =
    let one = get_or all at d in
    let pc = one.0.pc in
    let at_pc : is_use_at pc one ≡ true = both_true (is_use one) (pc == pc) is_used (equal pc) in
    let of_vain : is_vain_at pc one ≡ vain =
    ap (λ t. (t && is_paid_in_vain one.1) && (pc == pc)) is_used ∙ ap (λ t. is_paid_in_vain one.1 && t) (equal pc)
    ∙ and_true (is_paid_in_vain one.1) ∙ sym is_so in
    let of_hart : (k : ℕ) → is_use_by pc k one ≡ (hart == k) =
    λ k. ap (λ t. t && (hart_of one.0.event == k)) at_pc ∙ ap (λ n. n == k) (sym is_hart) in
    added (take at all) (take (at + 1) all) pc o hart vain (more (is_use_at pc) all at d true within at_pc)
    (more (is_vain_at pc) all at d vain within of_vain) (λ k. more (is_use_by pc k) all at d (hart == k) within (of_hart k)) h

apart : (lt eq : Bool) → eq ≡ false → is_eq (cond lt Less (cond eq Equal Greater)) ≡ false
apart true eq e = refl
apart false eq e = ap (λ t. is_eq (cond t Equal Greater)) e

-- the uses of each pc with one more
step_use : (all : List Judged) (at : ℕ) (d : Judged) (old new : BTreeMap ℕ Uses) (pc hart : ℕ) (vain : Bool) → at < length all →
    is_use (get_or all at d) ≡ true → pc ≡ (get_or all at d).0.pc → hart ≡ hart_of (get_or all at d).0.event →
    vain ≡ is_paid_in_vain (get_or all at d).1 → Updates nat_cmp old new pc (Some (with_use hart vain (get nat_cmp old pc))) →
    AreUses (take at all) (get nat_cmp old) → AreUses (take (at + 1) all) (get nat_cmp new)
step_use all at d old new pc hart vain within is_used is_pc is_hart is_so up h q =
    let one = get_or all at d in
    let after = take (at + 1) all in
    elim (eqb_tells pc q) [
      | inl s ↦
          let made : AreUsesOf after one.0.pc (with_use hart vain (get nat_cmp old pc)) =
          here all at d (get nat_cmp old pc) hart vain within is_used is_hart is_so (subst (λ n. AreUsesAt (take at all) n (get nat_cmp old pc)) is_pc (h pc)) in
          let at_pc : AreUsesAt after pc (get nat_cmp new pc) =
          subst (λ o. AreUsesAt after pc o) (sym up.1) (subst (λ n. AreUsesAt after n (Some (with_use hart vain (get nat_cmp old pc)))) (sym is_pc) made) in
          subst (λ n. AreUsesAt after n (get nat_cmp new n)) s.1 at_pc
      | inr s ↦
          let miss : is_use_at q one ≡ false = ap (λ t. is_use one && t) (subst (λ n. (n == q) ≡ false) is_pc s.0) ∙ and_false (is_use one) in
          subst (λ o. AreUsesAt after q o) (sym (up.2 q (apart (nat_lt pc q) (pc == q) s.0))) (other all at d q (get nat_cmp old q) within miss (h q))
    ]

-- the events as they are traced, each with its reason
pub length_zip : (traced : List TracedEvent) (reasons : List (Option Reason)) → length reasons ≡ length traced → length (zip traced reasons) ≡ length traced
length_zip traced reasons same = length-zip traced reasons ∙ grind (arith, nat_tests, same)

pub judged : (traced : List TracedEvent) (reasons : List (Option Reason)) (at : ℕ) (d : TracedEvent) (e : Option Reason) → at < length traced →
    length reasons ≡ length traced → get_or (zip traced reasons) at (d, e) ≡ (get_or traced at d, get_or reasons at e)
judged traced reasons at d e within same = get_or-zip traced reasons at (d, e) within (omega (arith, same))

pub inside : (traced : List TracedEvent) (reasons : List (Option Reason)) (at : ℕ) → at < length traced → length reasons ≡ length traced →
    at < length (zip traced reasons)
inside traced reasons at within same = omega (arith, same, length_zip traced reasons same)

module _ (traced : List TracedEvent) (reasons : List (Option Reason)) (at : ℕ) (d : TracedEvent) (e : Option Reason) where
  pub step_used : (old new : BTreeMap ℕ Uses) (pc hart : ℕ) (vain : Bool) → at < length traced → length reasons ≡ length traced →
      is_clean_or_fence (get_or traced at d).event ≡ true → pc ≡ (get_or traced at d).pc → hart ≡ hart_of (get_or traced at d).event →
      vain ≡ is_paid_in_vain (get_or reasons at e) → Updates nat_cmp old new pc (Some (with_use hart vain (get nat_cmp old pc))) →
      AreUses (take at (zip traced reasons)) (get nat_cmp old) → AreUses (take (at + 1) (zip traced reasons)) (get nat_cmp new)
  step_used old new pc hart vain within same is_used is_pc is_hart is_so up h =
      let here = judged traced reasons at d e within same in
      step_use (zip traced reasons) at (d, e) old new pc hart vain (inside traced reasons at within same) (ap is_use here ∙ is_used)
      (is_pc ∙ sym (ap (λ (x : Judged). x.0.pc) here)) (is_hart ∙ sym (ap (λ (x : Judged). hart_of x.0.event) here))
      (is_so ∙ sym (ap (λ (x : Judged). is_paid_in_vain x.1) here)) up h

  pub step_other : (uses : BTreeMap ℕ Uses) → at < length traced → length reasons ≡ length traced →
      is_clean_or_fence (get_or traced at d).event ≡ false →
      AreUses (take at (zip traced reasons)) (get nat_cmp uses) → AreUses (take (at + 1) (zip traced reasons)) (get nat_cmp uses)
  step_other uses within same not_used h q =
      let here = judged traced reasons at d e within same in
      other (zip traced reasons) at (d, e) q (get nat_cmp uses q) (inside traced reasons at within same)
      (ap (λ t. t && ((get_or (zip traced reasons) at (d, e)).0.pc == q)) (ap is_use here ∙ not_used)) (h q)

pub all_used : (traced : List TracedEvent) (reasons : List (Option Reason)) (at : ℕ) (uses : BTreeMap ℕ Uses) → length traced ≤ at →
    length reasons ≡ length traced → AreUses (take at (zip traced reasons)) (get nat_cmp uses) → AreUses (zip traced reasons) (get nat_cmp uses)
all_used traced reasons at uses past same h =
    subst (λ l. AreUses l (get nat_cmp uses)) (take_all at (zip traced reasons) (omega (arith, length_zip traced reasons same))) h
