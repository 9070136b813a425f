-- The nodes that are open and those that are finished split the cuts.
use Rattle.std.proofs.Common.{◌≡◌, ℕ, zero, suc, ◌+◌, ◌-◌, ◌≤◌, ◌<◌, ◌≢◌, true, false, ◌⊎◌, inl, inr, Bool, List, [], ◌∷◌, ◌++◌, length, take, drop, get_or, refl, sym, ap, subst, ◌∙◌, arith, append_assoc, true≢false}
use Rattle.std.proofs.lemmas.List.{append-nil, take-append-drop}
use Rattle.std.proofs.lemmas.Bool.{cases_eq}
use Rattle.std.specs.List.{AllByRecursion, AllPairs}
use Rattle.verdict.specs.Branches.{Agree, IsEquivalence, IsWithin, IsAdaptive, IsShared, ShareBranch, AreApart, has_line}
use Rattle.verdict.specs.Queue.{is_new, with_number}
use Rattle.verdict.specs.declared.branches.question.Question.{Question}
use Rattle.verdict.specs.Openings.{Apart, AreLeast, Conflict, Covers, IsAmong, IsFinished, IsNode, Node, Split, cuts_of}
use Rattle.verdict.proofs.Alikes.{agree_among, agree_self, among_left, line_last, line_not, raised_agrees, with_here, with_other}
use Rattle.verdict.proofs.Nodes.{node, opened, opened_at, Extends, all_siblings, least_more, least_sibling, all_join, all_map, apart_join, apart_parts, conflict_extended, conflict_back, covers_cases, covers_left, covers_right, finished_apart, new_as_own, opened_apart, opened_covers, opened_extend}

take_front : (a : List Question) (l : Question) (b : List Question) → take (length a + 1) (a ++ l ∷ b) ≡ a ++ l ∷ []
take_front [] l b = refl
take_front (x ∷ a) l b = let e : suc (length a) + 1 ≡ suc (length a + 1) = omega arith in rw e (ap (λ (r : List Question). x ∷ r) (take_front a l b))

pub take_whole : (a b : List Question) → take (length a) (a ++ b) ≡ a
take_whole [] b = refl
take_whole (x ∷ a) b = ap (λ (r : List Question). x ∷ r) (take_whole a b)

pub drop_whole : (a b : List Question) → drop (length a) (a ++ b) ≡ b
drop_whole [] b = refl
drop_whole (x ∷ a) b = drop_whole a b

-- what is asked of a sibling begins like what is asked of the cut
sibling_asked : (alike : Question → ℕ → ℕ → Bool) (asks : (ℕ → ℕ) → List Question → Type 0) (low c : ℕ → ℕ) (q : Question) (n : ℕ) (seen qs rs : List Question) → IsEquivalence alike → IsAdaptive alike asks →
    asks c (seen ++ q ∷ qs) → is_new alike low c seen q n ≡ true → asks (with_number c q.line n) rs → take (length seen + 1) rs ≡ seen ++ q ∷ []
sibling_asked alike asks low c q n seen qs rs eq a h new g =
    a c (with_number c q.line n) (seen ++ q ∷ qs) rs (length seen) h g (rw (take_whole seen (q ∷ qs)) (raised_agrees alike c q.line n seen eq (new_as_own alike low c seen q n new)))
    ∙ take_front seen q qs

sibling_within : (low high c : ℕ → ℕ) (l n : ℕ) → IsWithin low high c → low l ≤ n → n ≤ high l → IsWithin low high (with_number c l n)
sibling_within low high c l n w le ge = record {
  least = λ m. elim (cases_eq m l) [
    | inl e ↦ subst (λ (x : ℕ). low x ≤ with_number c l n x) (sym e) (rw (with_here c l n) le)
    | inr ne ↦ rw (with_other c l n m ne) (w.least m)
  ];
  most = λ m. elim (cases_eq m l) [
    | inl e ↦ subst (λ (x : ℕ). with_number c l n x ≤ high x) (sym e) (rw (with_here c l n) ge)
    | inr ne ↦ rw (with_other c l n m ne) (w.most m)
  ];
}

not_last : (m : ℕ) (seen : List Question) (q : Question) → has_line m (seen ++ q ∷ []) ≡ false → m ≢ q.line
not_last m seen q f e = true≢false (sym (line_last seen q) ∙ ap (λ (x : ℕ). has_line x (seen ++ q ∷ [])) (sym e) ∙ f)

sibling_node : (alike : Question → ℕ → ℕ → Bool) (asks : (ℕ → ℕ) → List Question → Type 0) (low high c : ℕ → ℕ) (q : Question) (n : ℕ) (seen qs : List Question) →
    IsEquivalence alike → IsAdaptive alike asks → asks c (seen ++ q ∷ qs) → IsWithin low high c → ((m : ℕ) → has_line m seen ≡ false → c m ≡ low m) →
    AreLeast alike low (node c seen) → low q.line ≤ n → n ≤ high q.line → is_new alike low c seen q n ≡ true →
    IsNode alike asks low high (node (with_number c q.line n) (seen ++ q ∷ []))
sibling_node alike asks low high c q n seen qs eq a h w free least le ge new = record {
  within = sibling_within low high c q.line n w le ge;
  begins = λ rs g. record {
    rest = drop (length seen + 1) rs;
    begins = sym (take-append-drop (length seen + 1) rs)
        ∙ ap (λ (front : List Question). front ++ drop (length seen + 1) rs) (sibling_asked alike asks low c q n seen qs rs eq a h new g);
  };
  free = λ m g. with_other c q.line n m (not_last m seen q g) ∙ free m (line_not m seen (q ∷ []) g);
  least = least_sibling alike low c seen q n new least;
}

opened_nodes : (alike : Question → ℕ → ℕ → Bool) (asks : (ℕ → ℕ) → List Question → Type 0) (low high c : ℕ → ℕ) (seen rest : List Question) →
    IsEquivalence alike → IsAdaptive alike asks → asks c (seen ++ rest) → IsWithin low high c →
    ((m : ℕ) → has_line m seen ≡ false → c m ≡ low m) → AreLeast alike low (node c seen) → AllByRecursion (IsNode alike asks low high) (opened alike low high c seen rest)
opened_nodes alike asks low high c seen [] eq a h w free least = tt
opened_nodes alike asks low high c seen (q ∷ qs) eq a h w free least =
    all_join (IsNode alike asks low high) (opened_at alike low high c seen q) (opened alike low high c (seen ++ q ∷ []) qs)
    (all_siblings (IsNode alike asks low high) (is_new alike low c seen q) c q.line (seen ++ q ∷ []) (c q.line + 1) (high q.line - c q.line) (λ n le less new.
    let p = w.least q.line in
    let r = w.most q.line in
    sibling_node alike asks low high c q n seen qs eq a h w free least (omega (arith, p, le)) (omega (arith, p, r, less)) new))
    (opened_nodes alike asks low high c (seen ++ q ∷ []) qs eq a (subst (λ (xs : List Question). asks c xs) (sym (append_assoc seen (q ∷ []) qs)) h) w
    (λ m f. free m (line_not m seen (q ∷ []) f)) (least_more alike low c seen q least))

least_all : (alike : Question → ℕ → ℕ → Bool) (low c : ℕ → ℕ) (seen rest : List Question) → AreLeast alike low (node c seen) → AreLeast alike low (node c (seen ++ rest))
least_all alike low c seen [] h = subst (λ (xs : List Question). AreLeast alike low (node c xs)) (sym (append-nil seen)) h
least_all alike low c seen (q ∷ qs) h =
    subst (λ (xs : List Question). AreLeast alike low (node c xs)) (append_assoc seen (q ∷ []) qs)
    (least_all alike low c (seen ++ q ∷ []) qs (least_more alike low c seen q h))

-- what a node conflicts with, all that extend it conflict with
all_extended : (alike : Question → ℕ → ℕ → Bool) (v u : Node) (ws : List Node) → IsEquivalence alike → AllByRecursion (λ w. Extends alike w v.numbers v.decided) ws → Conflict alike v u → AllByRecursion (Conflict alike u) ws
all_extended alike v u ws eq h k =
    all_map (λ w. Extends alike w v.numbers v.decided) (Conflict alike u) ws (λ w e. conflict_back alike w u eq (conflict_extended alike w v.numbers v.decided u eq e k)) h

-- the next node is worked: its cut is finished, and nodes branch off
pub split_next : (alike : Question → ℕ → ℕ → Bool) (asks : (ℕ → ℕ) → List Question → Type 0) (low high : ℕ → ℕ) (done : List Node) (v : Node) (left : List Node) (rest : List Question) →
    IsEquivalence alike → IsAdaptive alike asks → asks v.numbers (v.decided ++ rest) → Split alike asks low high done (v ∷ left) →
    Split alike asks low high (done ++ node v.numbers (v.decided ++ rest) ∷ []) (left ++ opened alike low high v.numbers v.decided rest)
split_next alike asks low high done v left rest eq a e s =
    let n = s.nodes.0 in
    let fin : Node = node v.numbers (v.decided ++ rest) in
    let ops = opened alike low high v.numbers v.decided rest in
    let parts = apart_parts alike done (v ∷ left) s.apart in
    let extend : AllByRecursion (λ w. Extends alike w v.numbers v.decided) ops = opened_extend alike low high v.numbers v.decided rest eq in
    let fin_extends : Extends alike fin v.numbers v.decided = record { questions = λ q t. among_left q v.decided rest t; numbers = agree_self alike v.numbers v.decided eq } in
    let fin_ops : AllByRecursion (Conflict alike fin) ops = finished_apart alike low high v.numbers v.decided rest eq n.within.least in
    let fin_left : AllByRecursion (Conflict alike fin) left =
    all_map (Conflict alike v) (Conflict alike fin) left (λ u k. conflict_extended alike fin v.numbers v.decided u eq fin_extends k) parts.1.0 in
    let front : Apart alike (done ++ fin ∷ []) =
    apart_join alike done (fin ∷ []) parts.0 (tt, tt)
    (all_map (λ d. AllByRecursion (Conflict alike d) (v ∷ left)) (λ d. AllByRecursion (Conflict alike d) (fin ∷ [])) done
    (λ d k. (conflict_back alike fin d eq (conflict_extended alike fin v.numbers v.decided d eq fin_extends (conflict_back alike d v eq k.0)), tt)) parts.2) in
    let back : Apart alike (left ++ ops) =
    apart_join alike left ops parts.1.1 (opened_apart alike low high v.numbers v.decided rest eq n.within.least)
    (all_map (Conflict alike v) (λ u. AllByRecursion (Conflict alike u) ops) left (λ u k. all_extended alike v u ops eq extend k) parts.1.0) in
    let across : AllByRecursion (λ d. AllByRecursion (Conflict alike d) (left ++ ops)) (done ++ fin ∷ []) =
    all_join (λ d. AllByRecursion (Conflict alike d) (left ++ ops)) done (fin ∷ [])
    (all_map (λ d. AllByRecursion (Conflict alike d) (v ∷ left)) (λ d. AllByRecursion (Conflict alike d) (left ++ ops)) done
    (λ d k. all_join (Conflict alike d) left ops k.1 (all_extended alike v d ops eq extend (conflict_back alike d v eq k.0))) parts.2)
    (all_join (Conflict alike fin) left ops fin_left fin_ops, tt) in
    record {
      finished = all_join (IsFinished alike asks low high) done (fin ∷ []) s.finished (record { within = n.within; asked = e; at_floor = λ l f. n.free l (line_not l v.decided rest f); least = least_all alike low v.numbers v.decided rest n.least }, tt);
      nodes = all_join (IsNode alike asks low high) left ops s.nodes.1 (opened_nodes alike asks low high v.numbers v.decided rest eq a e n.within n.free n.least);
      apart = apart_join alike (done ++ fin ∷ []) (left ++ ops) front back across;
      covers = λ k w. elim (covers_cases alike k done (v ∷ left) (s.covers k w)) [
        | inl d ↦ covers_left alike k (done ++ fin ∷ []) (left ++ ops) (covers_left alike k done (fin ∷ []) d)
        | inr r ↦ (elim r as (λ _. Covers alike k ((done ++ fin ∷ []) ++ (left ++ ops))) [
          | inl h ↦ elim (opened_covers alike low high k v.numbers v.decided rest eq w n.least h) [
            | inl g ↦ covers_left alike k (done ++ fin ∷ []) (left ++ ops) (covers_right alike k done (fin ∷ []) (inl g))
            | inr g ↦ covers_right alike k (done ++ fin ∷ []) (left ++ ops) (covers_right alike k left ops g)
          ]
          | inr h ↦ covers_right alike k (done ++ fin ∷ []) (left ++ ops) (covers_left alike k left ops h)
        ])
      ];
    }

-- the first node: nothing is decided, and every line stands at its floor
pub split_first : (alike : Question → ℕ → ℕ → Bool) (asks : (ℕ → ℕ) → List Question → Type 0) (low high : ℕ → ℕ) → ((l : ℕ) → low l ≤ high l) → Split alike asks low high [] (node low [] ∷ [])
split_first alike asks low high h = record {
  finished = tt;
  nodes = (record { within = record { least = λ l. omega arith; most = h }; begins = λ qs g. record { rest = qs; begins = refl }; free = λ l f. refl; least = λ l n from less. absurd (omega (arith, from, less)) }, tt);
  apart = (tt, tt);
  covers = λ k w. inl tt;
}

take_more_whole : (n : ℕ) (xs ys : List Question) → take (n + 1) xs ≡ ys → length ys ≡ n → xs ≡ ys
take_more_whole zero [] ys e h = e
take_more_whole zero (x ∷ xs) ys e h = let k : length (take (0 + 1) (x ∷ xs)) ≡ 0 = ap length e ∙ h in absurd (omega (arith, k))
take_more_whole (suc n) [] ys e h = let one : suc n + 1 ≡ suc (n + 1) = omega arith in rw one at e
take_more_whole (suc n) (x ∷ xs) [] e h = absurd (omega (arith, h))
take_more_whole (suc n) (x ∷ xs) (y ∷ ys) e h =
    let one : suc n + 1 ≡ suc (n + 1) = omega arith in
    let k : x ∷ take (n + 1) xs ≡ y ∷ ys = rw one at e in
    let head : x ≡ y = cc in
    let tail : take (n + 1) xs ≡ ys = cc in
    rw (head, take_more_whole n xs ys tail (omega (arith, h))) refl

take_all : (xs : List Question) → take (length xs) xs ≡ xs
take_all [] = refl
take_all (x ∷ xs) = ap (λ (r : List Question). x ∷ r) (take_all xs)

take_all_more : (xs : List Question) → take (length xs + 1) xs ≡ xs
take_all_more [] = refl
take_all_more (x ∷ xs) = let one : suc (length xs) + 1 ≡ suc (length xs + 1) = omega arith in rw one (ap (λ (r : List Question). x ∷ r) (take_all_more xs))

-- of a cut that agrees with another on what is asked of that one the same is asked
pub asked_same : (alike : Question → ℕ → ℕ → Bool) (asks : (ℕ → ℕ) → List Question → Type 0) (c k : ℕ → ℕ) (ls ms : List Question) → IsAdaptive alike asks → asks c ls → asks k ms → Agree alike k c ls → ms ≡ ls
asked_same alike asks c k ls ms a g h e =
    take_more_whole (length ls) ms ls (a c k ls ms (length ls) g h (rw (take_all ls) e) ∙ take_all_more ls) refl

-- one of these cuts shares a branch with this one
abbrev pub HasShared : (Question → ℕ → ℕ → Bool) → ((ℕ → ℕ) → List Question → Type 0) → (ℕ → ℕ) → List (ℕ → ℕ) → Type 0
HasShared alike asks k [] = ⊥
HasShared alike asks k (c ∷ cs) = ShareBranch alike asks c k ⊎ HasShared alike asks k cs

pub shared_of : (alike : Question → ℕ → ℕ → Bool) (asks : (ℕ → ℕ) → List Question → Type 0) (low high k : ℕ → ℕ) (vs : List Node) → IsShared alike asks → AllByRecursion (IsFinished alike asks low high) vs →
    Covers alike k vs → HasShared alike asks k (cuts_of vs)
shared_of alike asks low high k [] a f h = absurd h
shared_of alike asks low high k (v ∷ vs) a f (inl h) = inl (record { questions = v.decided; of_one = f.0.asked; of_other = a v.numbers k v.decided f.0.asked h; agree = h })
shared_of alike asks low high k (v ∷ vs) a f (inr h) = inr (shared_of alike asks low high k vs a f.1 h)

-- the decided questions are asked
abbrev IsAsked : ((ℕ → ℕ) → List Question → Type 0) → (ℕ → ℕ) → (ℕ → ℕ) → Node → Type 0
IsAsked asks low high v = IsWithin low high v.numbers × ((qs : List Question) → asks v.numbers qs → (q : Question) → IsAmong q v.decided → IsAmong q qs)

conflict_apart : (alike : Question → ℕ → ℕ → Bool) (asks : (ℕ → ℕ) → List Question → Type 0) (low high : ℕ → ℕ) (v w : Node) → IsEquivalence alike → IsAsked asks low high v → Conflict alike v w →
    ¬ ShareBranch alike asks v.numbers w.numbers
conflict_apart alike asks low high v w eq h k s =
    let q = k.question in
    true≢false (sym (eq.back q (w.numbers q.line) (v.numbers q.line) (agree_among alike w.numbers v.numbers s.questions q s.agree (h.1 s.questions s.of_one q k.here))) ∙ k.differ)

all_cuts : (P : (ℕ → ℕ) → Type 0) (vs : List Node) → AllByRecursion (λ v. P v.numbers) vs → AllByRecursion P (cuts_of vs)
all_cuts P [] h = tt
all_cuts P (v ∷ vs) h = (h.0, all_cuts P vs h.1)

pub all_at : (P : (ℕ → ℕ) → Type 0) (cs : List (ℕ → ℕ)) (i : ℕ) (d : ℕ → ℕ) → i < length cs → AllByRecursion P cs → P (get_or cs i d)
all_at P [] i d less h = absurd (omega (arith, less))
all_at P (c ∷ cs) zero d less h = h.0
all_at P (c ∷ cs) (suc i) d less h = all_at P cs i d (omega (arith, less)) h.1

pairs_first : (R : (ℕ → ℕ) → (ℕ → ℕ) → Type 0) (c : ℕ → ℕ) (cs : List (ℕ → ℕ)) → AllByRecursion (R c) cs → AllPairs R cs → AllPairs R (c ∷ cs)
pairs_first R c cs h k zero zero d less there = absurd (omega arith)
pairs_first R c cs h k zero (suc j) d less there = all_at (R c) cs j d (omega arith) h
pairs_first R c cs h k (suc i) zero d less there = absurd (omega arith)
pairs_first R c cs h k (suc i) (suc j) d less there = k i j d (omega arith) (omega arith)

pairs_none : (R : (ℕ → ℕ) → (ℕ → ℕ) → Type 0) → AllPairs R []
pairs_none R i j d less there = absurd (omega arith)

pairs_apart : (alike : Question → ℕ → ℕ → Bool) (asks : (ℕ → ℕ) → List Question → Type 0) (low high : ℕ → ℕ) (vs : List Node) → IsEquivalence alike → AllByRecursion (IsAsked asks low high) vs → Apart alike vs →
    AllPairs (λ c k. ¬ ShareBranch alike asks c k) (cuts_of vs)
pairs_apart alike asks low high [] eq h k = pairs_none (λ c k. ¬ ShareBranch alike asks c k)
pairs_apart alike asks low high (v ∷ vs) eq h k =
    pairs_first (λ c k. ¬ ShareBranch alike asks c k) v.numbers (cuts_of vs)
    (all_cuts (λ c. ¬ ShareBranch alike asks v.numbers c) vs (all_map (Conflict alike v) (λ w. ¬ ShareBranch alike asks v.numbers w.numbers) vs (λ w x. conflict_apart alike asks low high v w eq h.0 x) k.0))
    (pairs_apart alike asks low high vs eq h.1 k.1)

apart_of : (alike : Question → ℕ → ℕ → Bool) (asks : (ℕ → ℕ) → List Question → Type 0) (low high : ℕ → ℕ) (vs : List Node) → IsEquivalence alike → AllByRecursion (IsAsked asks low high) vs → Apart alike vs → AreApart alike asks low high (cuts_of vs)
apart_of alike asks low high vs eq h k = record {
  each = all_cuts (IsWithin low high) vs (all_map (IsAsked asks low high) (λ v. IsWithin low high v.numbers) vs (λ v x. x.0) h);
  apart = pairs_apart alike asks low high vs eq h k;
}

asked_node : (alike : Question → ℕ → ℕ → Bool) (asks : (ℕ → ℕ) → List Question → Type 0) (low high : ℕ → ℕ) (v : Node) → IsNode alike asks low high v → IsAsked asks low high v
asked_node alike asks low high v n = (n.within, λ qs g q t. let b = n.begins qs g in subst (λ (xs : List Question). IsAmong q xs) (sym b.begins) (among_left q v.decided b.rest t))

asked_finished : (alike : Question → ℕ → ℕ → Bool) (asks : (ℕ → ℕ) → List Question → Type 0) (low high : ℕ → ℕ) (v : Node) → IsEquivalence alike → IsAdaptive alike asks → IsFinished alike asks low high v → IsAsked asks low high v
asked_finished alike asks low high v eq a n = (
  n.within,
  λ qs g q t.
      subst (λ (xs : List Question). IsAmong q xs) (sym (asked_same alike asks v.numbers v.numbers v.decided qs a n.asked g (agree_self alike v.numbers v.decided eq))) t,
)

-- all nodes give cuts of which no two share a branch
pub split_apart : (alike : Question → ℕ → ℕ → Bool) (asks : (ℕ → ℕ) → List Question → Type 0) (low high : ℕ → ℕ) (done left : List Node) → IsEquivalence alike → IsAdaptive alike asks → Split alike asks low high done left →
    AreApart alike asks low high (cuts_of (done ++ left))
split_apart alike asks low high done left eq a s =
    apart_of alike asks low high (done ++ left) eq
    (all_join (IsAsked asks low high) done left
    (all_map (IsFinished alike asks low high) (IsAsked asks low high) done (λ v h. asked_finished alike asks low high v eq a h) s.finished)
    (all_map (IsNode alike asks low high) (IsAsked asks low high) left (λ v h. asked_node alike asks low high v h) s.nodes)) s.apart
