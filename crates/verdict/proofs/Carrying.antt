-- A store to a line that recovery asks of no cut adds no branch, and neither do higher floors.
use Rattle.std.proofs.Common.{◌≡◌, ℕ, zero, suc, ◌≤◌, ◌<◌, ◌≢◌, min, Bool, true, false, inl, inr, List, [], ◌∷◌, length, map, get_or, refl, sym, ap, subst, arith}
use Rattle.std.proofs.lemmas.Bool.{cases_eq}
use Rattle.std.specs.List.{AllByRecursion}
use Rattle.verdict.specs.Branches.{Agree, IsEquivalence, IsShared, IsWithin, ShareBranch, AreOver, has_line}
use Rattle.verdict.specs.Queue.{with_number}
use Rattle.verdict.specs.declared.branches.question.Question.{Question}
use Rattle.verdict.proofs.Alikes.{agree_chained, agree_self, agree_turned, unasked_agrees, with_here, with_other}
use Rattle.verdict.proofs.Splitting.{all_at}

abbrev Cuts : Type 0
Cuts = List (ℕ → ℕ)

-- the cut with a line at no more than a number
abbrev clip : ℕ → ℕ → (ℕ → ℕ) → ℕ → ℕ
clip l n c = with_number c l (min (c l) n)

clip_within : (low high more k : ℕ → ℕ) (l : ℕ) → low l ≤ high l → ((m : ℕ) → m ≢ l → more m ≡ high m) → IsWithin low more k → IsWithin low high (clip l (high l) k)
clip_within low high more k l o h w = record {
  least = λ m. elim (cases_eq m l) [
    | inl e ↦ subst (λ (x : ℕ). low x ≤ clip l (high l) k x) (sym e) (let q = with_here k l (min (k l) (high l)) in let r = w.least l in omega (arith, q, r, o))
    | inr ne ↦ let q = with_other k l (min (k l) (high l)) m ne in let r = w.least m in omega (arith, q, r)
  ];
  most = λ m. elim (cases_eq m l) [
    | inl e ↦ subst (λ (x : ℕ). clip l (high l) k x ≤ high x) (sym e) (let q = with_here k l (min (k l) (high l)) in omega (arith, q))
    | inr ne ↦ let q = with_other k l (min (k l) (high l)) m ne in let r = w.most m in let s = h m ne in omega (arith, q, r, s)
  ];
}

clip_each : (low high more : ℕ → ℕ) (l : ℕ) (cuts : Cuts) → low l ≤ high l → ((m : ℕ) → m ≢ l → more m ≡ high m) →
    AllByRecursion (IsWithin low more) cuts → AllByRecursion (IsWithin low high) (map (clip l (high l)) cuts)
clip_each low high more l [] o h w = tt
clip_each low high more l (c ∷ cuts) o h w = (clip_within low high more c l o h w.0, clip_each low high more l cuts o h w.1)

clip_count : (l n : ℕ) (cuts : Cuts) → length (map (clip l n) cuts) ≡ length cuts
clip_count l n [] = refl
clip_count l n (c ∷ cuts) = ap suc (clip_count l n cuts)

clip_at : (l n : ℕ) (cuts : Cuts) (i : ℕ) (d e : ℕ → ℕ) → i < length cuts → get_or (map (clip l n) cuts) i d ≡ clip l n (get_or cuts i e)
clip_at l n [] i d e less = absurd (omega (arith, less))
clip_at l n (c ∷ cuts) zero d e less = refl
clip_at l n (c ∷ cuts) (suc i) d e less = clip_at l n cuts i d e (omega (arith, less))

-- numbers that are alike before are so after
agree_after : (before after : Question → ℕ → ℕ → Bool) (low high c k : ℕ → ℕ) (qs : List Question) →
    ((q : Question) (n m : ℕ) → n ≤ high q.line → m ≤ high q.line → before q n m ≡ true → after q n m ≡ true) → IsWithin low high c → IsWithin low high k →
    Agree before k c qs → Agree after k c qs
agree_after before after low high c k [] f wc wk g = tt
agree_after before after low high c k (q ∷ qs) f wc wk g = (
  f q (k q.line) (c q.line) (wk.most q.line) (wc.most q.line) g.0,
  agree_after before after low high c k qs f wc wk g.1,
)

-- cuts whose clipped cuts share a branch share one
clip_shared : (alike_before alike : Question → ℕ → ℕ → Bool) (before after : (ℕ → ℕ) → List Question → Type 0) (low high : ℕ → ℕ) (c k : ℕ → ℕ) (l : ℕ) → IsShared alike after →
    IsEquivalence alike → ((q : Question) (n m : ℕ) → n ≤ high q.line → m ≤ high q.line → alike_before q n m ≡ true → alike q n m ≡ true) →
    ((k : ℕ → ℕ) (qs : List Question) → IsWithin low high k → before k qs → after k qs) →
    ((k : ℕ → ℕ) (qs : List Question) → IsWithin low high k → before k qs → has_line l qs ≡ false) →
    IsWithin low high (clip l (high l) c) → IsWithin low high (clip l (high l) k) →
    ShareBranch alike_before before (clip l (high l) c) (clip l (high l) k) → ShareBranch alike after c k
clip_shared alike_before alike before after low high c k l shared eq kept same never wc wk s =
    let c' : ℕ → ℕ = clip l (high l) c in
    let k' : ℕ → ℕ = clip l (high l) k in
    let unasked : has_line l s.questions ≡ false = never c' s.questions wc s.of_one in
    let cs : Agree alike c c' s.questions = unasked_agrees alike c c l (min (c l) (high l)) s.questions unasked (agree_self alike c s.questions eq) in
    let ks : Agree alike k k' s.questions = unasked_agrees alike k k l (min (k l) (high l)) s.questions unasked (agree_self alike k s.questions eq) in
    let both : Agree alike k' c' s.questions = agree_after alike_before alike low high c' k' s.questions kept wc wk s.agree in
    record {
      questions = s.questions;
      of_one = shared c' c s.questions (same c' s.questions wc s.of_one) cs;
      of_other = shared k' k s.questions (same k' s.questions wk s.of_other) ks;
      agree = agree_chained alike k k' c s.questions eq ks (agree_chained alike k' c' c s.questions eq both (agree_turned alike c' c s.questions eq cs));
    }

pub store_over : (alike_before alike : Question → ℕ → ℕ → Bool) (before after : (ℕ → ℕ) → List Question → Type 0) (low high more : ℕ → ℕ) (l limit : ℕ) → low l ≤ high l →
    ((m : ℕ) → m ≢ l → more m ≡ high m) → IsShared alike after →
    IsEquivalence alike → ((q : Question) (n m : ℕ) → n ≤ high q.line → m ≤ high q.line → alike_before q n m ≡ true → alike q n m ≡ true) →
    ((k : ℕ → ℕ) (qs : List Question) → IsWithin low high k → before k qs → after k qs) →
    ((k : ℕ → ℕ) (qs : List Question) → IsWithin low high k → before k qs → has_line l qs ≡ false) →
    AreOver alike after low more limit → AreOver alike_before before low high limit
store_over alike_before alike before after low high more l limit o other shared eq kept same never over =
    let each = clip_each low high more l over.cuts o other over.apart.each in
    let size = clip_count l (high l) over.cuts in
    record {
      cuts = map (clip l (high l)) over.cuts;
      more = let m = over.more in omega (arith, m, size);
      apart = record {
        each = each;
        apart = λ i j d less there s.
            (let jn : j < length over.cuts = omega (arith, there, size) in
            let in_ : i < length over.cuts = omega (arith, less, jn) in
            let ei = clip_at l (high l) over.cuts i d d in_ in
            let ej = clip_at l (high l) over.cuts j d d jn in
            let wi : IsWithin low high (clip l (high l) (get_or over.cuts i d)) = subst (IsWithin low high) ei (all_at (IsWithin low high) (map (clip l (high l)) over.cuts) i d (omega (arith, in_, size)) each) in
            let wj : IsWithin low high (clip l (high l) (get_or over.cuts j d)) = subst (IsWithin low high) ej (all_at (IsWithin low high) (map (clip l (high l)) over.cuts) j d (omega (arith, jn, size)) each) in
            let s' : ShareBranch alike_before before (clip l (high l) (get_or over.cuts i d)) (clip l (high l) (get_or over.cuts j d)) =
            subst (λ (x : ℕ → ℕ). ShareBranch alike_before before (clip l (high l) (get_or over.cuts i d)) x) ej
            (subst (λ (x : ℕ → ℕ). ShareBranch alike_before before x (get_or (map (clip l (high l)) over.cuts) j d)) ei s) in
            over.apart.apart i j d less jn
            (clip_shared alike_before alike before after low high (get_or over.cuts i d) (get_or over.cuts j d) l shared eq kept same never wi wj s'));
      };
    }

floors_each : (low higher high : ℕ → ℕ) (cuts : Cuts) → ((m : ℕ) → low m ≤ higher m) → AllByRecursion (IsWithin higher high) cuts → AllByRecursion (IsWithin low high) cuts
floors_each low higher high [] h w = tt
floors_each low higher high (c ∷ cuts) h w =
    (record { least = λ m. let p = w.0.least m in let q = h m in omega (arith, p, q); most = w.0.most }, floors_each low higher high cuts h w.1)

pub floors_over : (alike : Question → ℕ → ℕ → Bool) (asks : (ℕ → ℕ) → List Question → Type 0) (low higher high : ℕ → ℕ) (limit : ℕ) → ((m : ℕ) → low m ≤ higher m) →
    AreOver alike asks higher high limit → AreOver alike asks low high limit
floors_over alike asks low higher high limit h o = record {
  cuts = o.cuts;
  more = o.more;
  apart = record { each = floors_each low higher high o.cuts h o.apart.each; apart = o.apart.apart };
}
