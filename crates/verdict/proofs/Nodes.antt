-- A node is the cut that its run finds, and the nodes that branch off it.
use Rattle.std.proofs.Common.{◌≡◌, ℕ, zero, suc, ◌+◌, ◌-◌, ◌≤◌, ◌<◌, Bool, true, false, ◌&&◌, cond, ◌⊎◌, inl, inr, List, [], ◌∷◌, ◌++◌, refl, sym, ap, subst, ◌∙◌, arith, append_assoc, true≢false}
use Rattle.std.proofs.lemmas.List.{append-nil}
use Rattle.std.proofs.lemmas.Bool.{cases_Bool, cases_eq, cases_lt}
use Rattle.std.specs.List.{AllByRecursion}
use Rattle.verdict.specs.Branches.{Agree, IsEquivalence, IsWithin, all_alike, is_first}
use Rattle.verdict.specs.Queue.{is_new, with_number}
use Rattle.verdict.specs.Openings.{Apart, AreLeast, Conflict, Covers, IsAmong, Node}
use Rattle.verdict.specs.declared.branches.question.Question.{Question}
use Rattle.verdict.proofs.Alikes.{agree_among, agree_both, agree_self, alike_agreed, alike_back, alike_front, alike_itself, alike_last, alike_more, alike_on, among_last, among_left, first_apart, later_alike, not_true, other_agrees, raised_agrees, with_here, with_other}

abbrev pub node : (ℕ → ℕ) → List Question → Node
node numbers decided = record { numbers = numbers; decided = decided }

-- line l at the new ones of so many numbers from n upwards
abbrev pub siblings : (ℕ → Bool) → (ℕ → ℕ) → ℕ → List Question → ℕ → ℕ → List Node
siblings new c l decided n zero = []
siblings new c l decided n (suc more) =
    cond (new n) (node (with_number c l n) decided ∷ siblings new c l decided (n + 1) more) (siblings new c l decided (n + 1) more)

-- the nodes that branch off where a question is asked after those seen
abbrev pub opened_at : (Question → ℕ → ℕ → Bool) → (ℕ → ℕ) → (ℕ → ℕ) → (ℕ → ℕ) → List Question → Question → List Node
opened_at alike low high c seen q = siblings (is_new alike low c seen q) c q.line (seen ++ q ∷ []) (c q.line + 1) (high q.line - c q.line)

-- and where all the rest is asked
abbrev pub opened : (Question → ℕ → ℕ → Bool) → (ℕ → ℕ) → (ℕ → ℕ) → (ℕ → ℕ) → List Question → List Question → List Node
opened alike low high c seen [] = []
opened alike low high c seen (q ∷ qs) = opened_at alike low high c seen q ++ opened alike low high c (seen ++ q ∷ []) qs

-- what holds of the line at each of the new numbers holds of these nodes
pub all_siblings : (P : Node → Type 0) (new : ℕ → Bool) (c : ℕ → ℕ) (l : ℕ) (decided : List Question) (n more : ℕ) →
    ((m : ℕ) → n ≤ m → m < n + more → new m ≡ true → P (node (with_number c l m) decided)) → AllByRecursion P (siblings new c l decided n more)
all_siblings P new c l decided n zero h = tt
all_siblings P new c l decided n (suc more) h =
    let rest = all_siblings P new c l decided (n + 1) more (λ m le less t. h m (omega (arith, le)) (omega (arith, less)) t) in
    elim (cases_Bool (new n)) [
      | inl t ↦ rw t (h n (omega arith) (omega arith) t, rest)
      | inr f ↦ rw f rest
    ]

-- a new number is as the cut's own in all that was seen, and no lower one is as it with the question
pub new_as_own : (alike : Question → ℕ → ℕ → Bool) (low c : ℕ → ℕ) (seen : List Question) (q : Question) (n : ℕ) → is_new alike low c seen q n ≡ true →
    all_alike alike q.line seen n (c q.line) ≡ true
new_as_own alike low c seen q n t = front_of (all_alike alike q.line seen n (c q.line)) _ t
  where
    front_of : (a b : Bool) → (a && b) ≡ true → a ≡ true
    front_of true b h = refl
    front_of false b h = absurd (true≢false (sym h))

pub new_first : (alike : Question → ℕ → ℕ → Bool) (low c : ℕ → ℕ) (seen : List Question) (q : Question) (n : ℕ) → is_new alike low c seen q n ≡ true →
    is_first (all_alike alike q.line (seen ++ q ∷ [])) (low q.line) n ≡ true
new_first alike low c seen q n t = back_of (all_alike alike q.line seen n (c q.line)) _ t
  where
    back_of : (a b : Bool) → (a && b) ≡ true → b ≡ true
    back_of true b h = h
    back_of false b h = absurd (true≢false (sym h))

pub new_of : (alike : Question → ℕ → ℕ → Bool) (low c : ℕ → ℕ) (seen : List Question) (q : Question) (n : ℕ) → all_alike alike q.line seen n (c q.line) ≡ true →
    is_first (all_alike alike q.line (seen ++ q ∷ [])) (low q.line) n ≡ true → is_new alike low c seen q n ≡ true
new_of alike low c seen q n a b = rw (a, b) refl

-- the least number from the floor on that is alike to this one
pub record LeastAlike (alike : ℕ → ℕ → Bool) (low m : ℕ) : Type 0 where
  pub number : ℕ
  pub from : low ≤ number
  pub most : number ≤ m
  pub same : alike m number ≡ true
  pub first : is_first alike low number ≡ true

least_within : (alike : Question → ℕ → ℕ → Bool) (l : ℕ) (qs : List Question) (low steps m : ℕ) → IsEquivalence alike → m ≤ steps → low ≤ m →
    LeastAlike (all_alike alike l qs) low m
least_within alike l qs low zero m eq few le = elim (cases_Bool (is_first (all_alike alike l qs) low m)) [
  | inl t ↦ record { number = m; from = le; most = omega arith; same = alike_itself alike l qs m eq; first = t }
  | inr f ↦ let o = later_alike (all_alike alike l qs) low m f le in let less = o.2 in absurd (omega (arith, few, less))
]
least_within alike l qs low (suc steps) m eq few le = elim (cases_Bool (is_first (all_alike alike l qs) low m)) [
  | inl t ↦ record { number = m; from = le; most = omega arith; same = alike_itself alike l qs m eq; first = t }
  | inr f ↦
      let o = later_alike (all_alike alike l qs) low m f le in
      let less = o.2 in
      let r = least_within alike l qs low steps o.0 eq (omega (arith, few, less)) o.1 in
      let upto = r.most in
      record {
        number = r.number;
        from = r.from;
        most = omega (arith, upto, less);
        same = alike_on alike l qs m o.0 r.number eq (alike_back alike l qs o.0 m eq o.3) r.same;
        first = r.first;
      }
]

pub covers_left : (alike : Question → ℕ → ℕ → Bool) (k : ℕ → ℕ) (a b : List Node) → Covers alike k a → Covers alike k (a ++ b)
covers_left alike k [] b h = absurd h
covers_left alike k (v ∷ a) b (inl h) = inl h
covers_left alike k (v ∷ a) b (inr h) = inr (covers_left alike k a b h)

pub covers_right : (alike : Question → ℕ → ℕ → Bool) (k : ℕ → ℕ) (a b : List Node) → Covers alike k b → Covers alike k (a ++ b)
covers_right alike k [] b h = h
covers_right alike k (v ∷ a) b h = inr (covers_right alike k a b h)

pub covers_cases : (alike : Question → ℕ → ℕ → Bool) (k : ℕ → ℕ) (a b : List Node) → Covers alike k (a ++ b) → Covers alike k a ⊎ Covers alike k b
covers_cases alike k [] b h = inr h
covers_cases alike k (v ∷ a) b (inl h) = inl (inl h)
covers_cases alike k (v ∷ a) b (inr h) = elim (covers_cases alike k a b h) [ inl l ↦ inl (inr l) | inr r ↦ inr r ]

-- the sibling with a new number that is alike to the cut's own
sibling_covers : (alike : Question → ℕ → ℕ → Bool) (new : ℕ → Bool) (k c : ℕ → ℕ) (q : Question) (seen : List Question) (n more m : ℕ) → Agree alike k c seen →
    all_alike alike q.line (seen ++ q ∷ []) (k q.line) m ≡ true → new m ≡ true → n ≤ m → m < n + more → Covers alike k (siblings new c q.line (seen ++ q ∷ []) n more)
sibling_covers alike new k c q seen n zero m g same t le less = absurd (omega (arith, le, less))
sibling_covers alike new k c q seen n (suc more) m g same t le less = elim (cases_eq m n) [
  | inl e ↦
      let t' : new n ≡ true = subst (λ (x : ℕ). new x ≡ true) e t in
      let same' : all_alike alike q.line (seen ++ q ∷ []) (k q.line) n ≡ true = subst (λ (x : ℕ). all_alike alike q.line (seen ++ q ∷ []) (k q.line) x ≡ true) e same in
      let here : alike q (k q.line) (with_number c q.line n q.line) ≡ true =
      subst (λ (x : ℕ). alike q (k q.line) x ≡ true) (sym (with_here c q.line n)) (alike_last alike seen q (k q.line) n same') in
      rw t' (inl (agree_both alike k (with_number c q.line n) seen (q ∷ [])
      (other_agrees alike k c q.line n seen (alike_front alike q.line seen (q ∷ []) (k q.line) n same') g) (here, tt)))
  | inr ne ↦
      let rest = sibling_covers alike new k c q seen (n + 1) more m g same t (omega (arith, le, ne)) (omega (arith, less)) in
      elim (cases_Bool (new n)) [ inl s ↦ rw s (inr rest) | inr s ↦ rw s rest ]
]

-- the cut's number stays the least that is alike to it
pub least_more : (alike : Question → ℕ → ℕ → Bool) (low c : ℕ → ℕ) (seen : List Question) (q : Question) → AreLeast alike low (node c seen) →
    AreLeast alike low (node c (seen ++ q ∷ []))
least_more alike low c seen q h l n from less =
    not_true (all_alike alike l (seen ++ q ∷ []) n (c l)) (λ t. true≢false (sym (alike_front alike l seen (q ∷ []) n (c l) t) ∙ h l n from less))

-- where a cut of the node gives the line another number by the question, it is one of what branches off there
covers_at : (alike : Question → ℕ → ℕ → Bool) (low high k c : ℕ → ℕ) (seen : List Question) (q : Question) → IsEquivalence alike → IsWithin low high k →
    AreLeast alike low (node c seen) → Agree alike k c seen → alike q (k q.line) (c q.line) ≡ false → Covers alike k (opened_at alike low high c seen q)
covers_at alike low high k c seen q eq w least g f =
    let l : ℕ = q.line in
    let r = least_within alike l (seen ++ q ∷ []) (low l) (k l) (k l) eq (omega arith) (w.least l) in
    let from = r.from in
    let upto = r.most in
    let most = w.most l in
    let own : all_alike alike l seen r.number (c l) ≡ true =
    alike_on alike l seen r.number (k l) (c l) eq (alike_back alike l seen (k l) r.number eq (alike_front alike l seen (q ∷ []) (k l) r.number r.same))
    (alike_agreed alike k c l seen g) in
    let past : c l < r.number = elim (cases_lt (c l) r.number) [
      | inl less ↦ less
      | inr late ↦ elim (cases_eq r.number (c l)) [
        | inl e ↦ absurd (true≢false (sym (subst (λ (m : ℕ). alike q (k l) m ≡ true) e (alike_last alike seen q (k l) r.number r.same)) ∙ f))
        | inr ne ↦ absurd (true≢false (sym own ∙ least l r.number from (omega (arith, late, ne))))
      ]
    ] in
    sibling_covers alike (is_new alike low c seen q) k c q seen (c l + 1) (high l - c l) r.number g r.same
    (new_of alike low c seen q r.number own r.first) (omega (arith, past)) (omega (arith, past, upto, most))

-- a cut of the node is one of what its run finds, or one of what branches off
pub opened_covers : (alike : Question → ℕ → ℕ → Bool) (low high k c : ℕ → ℕ) (seen rest : List Question) → IsEquivalence alike → IsWithin low high k →
    AreLeast alike low (node c seen) → Agree alike k c seen → Agree alike k c (seen ++ rest) ⊎ Covers alike k (opened alike low high c seen rest)
opened_covers alike low high k c seen [] eq w least g = inl (rw (append-nil seen) g)
opened_covers alike low high k c seen (q ∷ qs) eq w least g = elim (cases_Bool (alike q (k q.line) (c q.line))) [
  | inl t ↦ elim (opened_covers alike low high k c (seen ++ q ∷ []) qs eq w (least_more alike low c seen q least) (agree_both alike k c seen (q ∷ []) g (t, tt))) [
    | inl a ↦ inl (subst (λ (xs : List Question). Agree alike k c xs) (append_assoc seen (q ∷ []) qs) a)
    | inr b ↦ inr (covers_right alike k (opened_at alike low high c seen q) (opened alike low high c (seen ++ q ∷ []) qs) b)
  ]
  | inr f ↦ inr (covers_left alike k (opened_at alike low high c seen q) (opened alike low high c (seen ++ q ∷ []) qs)
      (covers_at alike low high k c seen q eq w least g f))
]

-- a node that goes on from cut c after these questions
pub record Extends (alike : Question → ℕ → ℕ → Bool) (w : Node) (c : ℕ → ℕ) (seen : List Question) : Type 0 where
  pub questions : (q : Question) → IsAmong q seen → IsAmong q w.decided
  pub numbers : Agree alike w.numbers c seen

agree_front : (alike : Question → ℕ → ℕ → Bool) (k c : ℕ → ℕ) (qs rs : List Question) → Agree alike k c (qs ++ rs) → Agree alike k c qs
agree_front alike k c [] rs g = tt
agree_front alike k c (q ∷ qs) rs g = (g.0, agree_front alike k c qs rs g.1)

extends_before : (alike : Question → ℕ → ℕ → Bool) (w : Node) (c : ℕ → ℕ) (seen : List Question) (q : Question) → Extends alike w c (seen ++ q ∷ []) → Extends alike w c seen
extends_before alike w c seen q h = record {
  questions = λ x t. h.questions x (among_left x seen (q ∷ []) t);
  numbers = agree_front alike w.numbers c seen (q ∷ []) h.numbers;
}

pub all_join : (P : Node → Type 0) (a b : List Node) → AllByRecursion P a → AllByRecursion P b → AllByRecursion P (a ++ b)
all_join P [] b g h = h
all_join P (v ∷ a) b g h = (g.0, all_join P a b g.1 h)

pub all_split : (P : Node → Type 0) (a b : List Node) → AllByRecursion P (a ++ b) → AllByRecursion P a × AllByRecursion P b
all_split P [] b h = (tt, h)
all_split P (v ∷ a) b h = let r = all_split P a b h.1 in ((h.0, r.0), r.1)

pub all_map : (P Q : Node → Type 0) (a : List Node) → ((v : Node) → P v → Q v) → AllByRecursion P a → AllByRecursion Q a
all_map P Q [] f h = tt
all_map P Q (v ∷ a) f h = (f v h.0, all_map P Q a f h.1)

siblings_extend : (alike : Question → ℕ → ℕ → Bool) (low high c : ℕ → ℕ) (seen : List Question) (q : Question) → IsEquivalence alike →
    AllByRecursion (λ w. Extends alike w c seen) (opened_at alike low high c seen q)
siblings_extend alike low high c seen q eq =
    all_siblings (λ w. Extends alike w c seen) (is_new alike low c seen q) c q.line (seen ++ q ∷ []) (c q.line + 1) (high q.line - c q.line)
    (λ i le less t. record {
      questions = λ x h. among_left x seen (q ∷ []) h;
      numbers = raised_agrees alike c q.line i seen eq (new_as_own alike low c seen q i t);
    })

pub opened_extend : (alike : Question → ℕ → ℕ → Bool) (low high c : ℕ → ℕ) (seen rest : List Question) → IsEquivalence alike →
    AllByRecursion (λ w. Extends alike w c seen) (opened alike low high c seen rest)
opened_extend alike low high c seen [] eq = tt
opened_extend alike low high c seen (q ∷ qs) eq =
    all_join (λ w. Extends alike w c seen) (opened_at alike low high c seen q) (opened alike low high c (seen ++ q ∷ []) qs)
    (siblings_extend alike low high c seen q eq)
    (all_map (λ w. Extends alike w c (seen ++ q ∷ [])) (λ w. Extends alike w c seen) (opened alike low high c (seen ++ q ∷ []) qs)
    (λ w h. extends_before alike w c seen q h) (opened_extend alike low high c (seen ++ q ∷ []) qs eq))

-- what a node conflicts with, those that extend it conflict with
pub conflict_extended : (alike : Question → ℕ → ℕ → Bool) (w : Node) (c : ℕ → ℕ) (seen : List Question) (u : Node) → IsEquivalence alike → Extends alike w c seen →
    Conflict alike (node c seen) u → Conflict alike w u
conflict_extended alike w c seen u eq h k =
    let q = k.question in
    let own : alike q (w.numbers q.line) (c q.line) ≡ true = agree_among alike w.numbers c seen q h.numbers k.here in
    record {
      question = q;
      here = h.questions q k.here;
      there = k.there;
      differ = not_true (alike q (w.numbers q.line) (u.numbers q.line)) (λ t. true≢false
          (sym (eq.on q (c q.line) (w.numbers q.line) (u.numbers q.line) (eq.back q (w.numbers q.line) (c q.line) own) t) ∙ k.differ));
    }

pub conflict_back : (alike : Question → ℕ → ℕ → Bool) (v w : Node) → IsEquivalence alike → Conflict alike v w → Conflict alike w v
conflict_back alike v w eq k = record {
  question = k.question;
  here = k.there;
  there = k.here;
  differ = let q = k.question in not_true (alike q (w.numbers q.line) (v.numbers q.line))
      (λ t. true≢false (sym (eq.back q (w.numbers q.line) (v.numbers q.line) t) ∙ k.differ));
}

-- siblings of new numbers from n upwards conflict with a node that gives the line a lower number, as the cut in all that was seen
siblings_conflict : (alike : Question → ℕ → ℕ → Bool) (low c : ℕ → ℕ) (seen : List Question) (q : Question) (n more : ℕ) (u : Node) → IsEquivalence alike →
    IsAmong q u.decided → all_alike alike q.line seen (u.numbers q.line) (c q.line) ≡ true → low q.line ≤ u.numbers q.line → u.numbers q.line < n →
    AllByRecursion (Conflict alike u) (siblings (is_new alike low c seen q) c q.line (seen ++ q ∷ []) n more)
siblings_conflict alike low c seen q n more u eq t own from less =
    all_siblings (Conflict alike u) (is_new alike low c seen q) c q.line (seen ++ q ∷ []) n more (λ i le upto new.
    let mine : ℕ = u.numbers q.line in
    let both : all_alike alike q.line seen mine i ≡ true =
    alike_on alike q.line seen mine (c q.line) i eq own (alike_back alike q.line seen i (c q.line) eq (new_as_own alike low c seen q i new)) in
    let apart : all_alike alike q.line (seen ++ q ∷ []) mine i ≡ false =
    first_apart (all_alike alike q.line (seen ++ q ∷ [])) (low q.line) i mine (new_first alike low c seen q i new) from (omega (arith, less, le)) in
    let differ : alike q mine i ≡ false = not_true (alike q mine i) (λ s. true≢false (sym (alike_more alike seen q mine i both s) ∙ apart)) in
    record {
      question = q;
      here = t;
      there = among_last q seen;
      differ = subst (λ (m : ℕ). alike q mine m ≡ false) (sym (with_here c q.line i)) differ;
    })

siblings_apart : (alike : Question → ℕ → ℕ → Bool) (low c : ℕ → ℕ) (seen : List Question) (q : Question) (n more : ℕ) → IsEquivalence alike → low q.line ≤ n →
    Apart alike (siblings (is_new alike low c seen q) c q.line (seen ++ q ∷ []) n more)
siblings_apart alike low c seen q n zero eq le = tt
siblings_apart alike low c seen q n (suc more) eq le =
    let rest = siblings_apart alike low c seen q (n + 1) more eq (omega (arith, le)) in
    let here : with_number c q.line n q.line ≡ n = with_here c q.line n in
    elim (cases_Bool (is_new alike low c seen q n)) [
      | inl t ↦ rw t (
        siblings_conflict alike low c seen q (n + 1) more (node (with_number c q.line n) (seen ++ q ∷ [])) eq (among_last q seen)
            (subst (λ (m : ℕ). all_alike alike q.line seen m (c q.line) ≡ true) (sym here) (new_as_own alike low c seen q n t))
            (omega (arith, here, le)) (omega (arith, here)),
        rest,
      )
      | inr f ↦ rw f rest
    ]

pub apart_join : (alike : Question → ℕ → ℕ → Bool) (a b : List Node) → Apart alike a → Apart alike b → AllByRecursion (λ v. AllByRecursion (Conflict alike v) b) a → Apart alike (a ++ b)
apart_join alike [] b g h k = h
apart_join alike (v ∷ a) b g h k = (all_join (Conflict alike v) a b g.0 k.0, apart_join alike a b g.1 h k.1)

pub apart_parts : (alike : Question → ℕ → ℕ → Bool) (a b : List Node) → Apart alike (a ++ b) → Apart alike a × Apart alike b × AllByRecursion (λ v. AllByRecursion (Conflict alike v) b) a
apart_parts alike [] b h = (tt, h, tt)
apart_parts alike (v ∷ a) b h =
    let r = apart_parts alike a b h.1 in
    let s = all_split (Conflict alike v) a b h.0 in
    ((s.0, r.0), r.1, (s.1, r.2))

-- what extends the cut after a question, and what branches off at it
own_conflict : (alike : Question → ℕ → ℕ → Bool) (low high c : ℕ → ℕ) (seen : List Question) (q : Question) → IsEquivalence alike → low q.line ≤ c q.line →
    AllByRecursion (Conflict alike (node c (seen ++ q ∷ []))) (opened_at alike low high c seen q)
own_conflict alike low high c seen q eq le =
    siblings_conflict alike low c seen q (c q.line + 1) (high q.line - c q.line) (node c (seen ++ q ∷ [])) eq (among_last q seen)
    (alike_itself alike q.line seen (c q.line) eq) le (omega arith)

all_own : (alike : Question → ℕ → ℕ → Bool) (low high c : ℕ → ℕ) (seen : List Question) (q : Question) (w : Node) → IsEquivalence alike → low q.line ≤ c q.line →
    Extends alike w c (seen ++ q ∷ []) → AllByRecursion (Conflict alike w) (opened_at alike low high c seen q)
all_own alike low high c seen q w eq le e =
    all_map (Conflict alike (node c (seen ++ q ∷ []))) (Conflict alike w) (opened_at alike low high c seen q)
    (λ u k. conflict_extended alike w c (seen ++ q ∷ []) u eq e k) (own_conflict alike low high c seen q eq le)

extend_conflict : (alike : Question → ℕ → ℕ → Bool) (low high c : ℕ → ℕ) (seen : List Question) (q : Question) (ws : List Node) → IsEquivalence alike → low q.line ≤ c q.line →
    AllByRecursion (λ w. Extends alike w c (seen ++ q ∷ [])) ws → AllByRecursion (λ w. AllByRecursion (Conflict alike w) (opened_at alike low high c seen q)) ws
extend_conflict alike low high c seen q ws eq le h =
    all_map (λ w. Extends alike w c (seen ++ q ∷ [])) (λ w. AllByRecursion (Conflict alike w) (opened_at alike low high c seen q)) ws
    (λ w e. all_own alike low high c seen q w eq le e) h

-- the same, read from the other side
turn_one : (alike : Question → ℕ → ℕ → Bool) (v : Node) (ws : List Node) → IsEquivalence alike → AllByRecursion (λ w. Conflict alike w v) ws → AllByRecursion (Conflict alike v) ws
turn_one alike v ws eq h = all_map (λ w. Conflict alike w v) (Conflict alike v) ws (λ w k. conflict_back alike w v eq k) h

heads : (alike : Question → ℕ → ℕ → Bool) (v : Node) (vs ws : List Node) → AllByRecursion (λ w. AllByRecursion (Conflict alike w) (v ∷ vs)) ws → AllByRecursion (λ w. Conflict alike w v) ws
heads alike v vs ws h = all_map (λ w. AllByRecursion (Conflict alike w) (v ∷ vs)) (λ w. Conflict alike w v) ws (λ w k. k.0) h

tails : (alike : Question → ℕ → ℕ → Bool) (v : Node) (vs ws : List Node) → AllByRecursion (λ w. AllByRecursion (Conflict alike w) (v ∷ vs)) ws →
    AllByRecursion (λ w. AllByRecursion (Conflict alike w) vs) ws
tails alike v vs ws h = all_map (λ w. AllByRecursion (Conflict alike w) (v ∷ vs)) (λ w. AllByRecursion (Conflict alike w) vs) ws (λ w k. k.1) h

pub turn : (alike : Question → ℕ → ℕ → Bool) (vs ws : List Node) → IsEquivalence alike → AllByRecursion (λ w. AllByRecursion (Conflict alike w) vs) ws →
    AllByRecursion (λ v. AllByRecursion (Conflict alike v) ws) vs
turn alike [] ws eq h = tt
turn alike (v ∷ vs) ws eq h = (turn_one alike v ws eq (heads alike v vs ws h), turn alike vs ws eq (tails alike v vs ws h))

-- what branches off is apart
pub opened_apart : (alike : Question → ℕ → ℕ → Bool) (low high c : ℕ → ℕ) (seen rest : List Question) → IsEquivalence alike → ((l : ℕ) → low l ≤ c l) →
    Apart alike (opened alike low high c seen rest)
opened_apart alike low high c seen [] eq above = tt
opened_apart alike low high c seen (q ∷ qs) eq above =
    let le = above q.line in
    apart_join alike (opened_at alike low high c seen q) (opened alike low high c (seen ++ q ∷ []) qs)
    (siblings_apart alike low c seen q (c q.line + 1) (high q.line - c q.line) eq (omega (arith, le)))
    (opened_apart alike low high c (seen ++ q ∷ []) qs eq above)
    (turn alike (opened_at alike low high c seen q) (opened alike low high c (seen ++ q ∷ []) qs) eq
    (extend_conflict alike low high c seen q (opened alike low high c (seen ++ q ∷ []) qs) eq le (opened_extend alike low high c (seen ++ q ∷ []) qs eq)))

-- the cut that the run finds is apart from what branches off
pub finished_apart : (alike : Question → ℕ → ℕ → Bool) (low high c : ℕ → ℕ) (seen rest : List Question) → IsEquivalence alike → ((l : ℕ) → low l ≤ c l) →
    AllByRecursion (Conflict alike (node c (seen ++ rest))) (opened alike low high c seen rest)
finished_apart alike low high c seen [] eq above = tt
finished_apart alike low high c seen (q ∷ qs) eq above =
    let later : AllByRecursion (Conflict alike (node c ((seen ++ q ∷ []) ++ qs))) (opened alike low high c (seen ++ q ∷ []) qs) =
    finished_apart alike low high c (seen ++ q ∷ []) qs eq above in
    let same : AllByRecursion (Conflict alike (node c (seen ++ q ∷ qs))) (opened alike low high c (seen ++ q ∷ []) qs) =
    subst (λ (xs : List Question). AllByRecursion (Conflict alike (node c xs)) (opened alike low high c (seen ++ q ∷ []) qs)) (append_assoc seen (q ∷ []) qs) later in
    all_join (Conflict alike (node c (seen ++ q ∷ qs))) (opened_at alike low high c seen q) (opened alike low high c (seen ++ q ∷ []) qs)
    (all_own alike low high c seen q (node c (seen ++ q ∷ qs)) eq (above q.line) (record {
      questions = λ x t. subst (λ (xs : List Question). IsAmong x xs) (append_assoc seen (q ∷ []) qs) (among_left x (seen ++ q ∷ []) qs t);
      numbers = agree_self alike c (seen ++ q ∷ []) eq;
    }))
    same

-- each number of a cut with a new number for one line is the least that is alike to it
pub least_sibling : (alike : Question → ℕ → ℕ → Bool) (low c : ℕ → ℕ) (seen : List Question) (q : Question) (n : ℕ) → is_new alike low c seen q n ≡ true →
    AreLeast alike low (node c seen) → AreLeast alike low (node (with_number c q.line n) (seen ++ q ∷ []))
least_sibling alike low c seen q n new h m i from less = elim (cases_eq m q.line) [
  | inl e ↦
      let here : with_number c q.line n m ≡ n = ap (λ (x : ℕ). with_number c q.line n x) e ∙ with_here c q.line n in
      let apart : all_alike alike q.line (seen ++ q ∷ []) i n ≡ false =
      first_apart (all_alike alike q.line (seen ++ q ∷ [])) (low q.line) n i (new_first alike low c seen q n new)
      (subst (λ (x : ℕ). low x ≤ i) e from) (omega (arith, less, here)) in
      subst (λ (x : ℕ). all_alike alike m (seen ++ q ∷ []) i x ≡ false) (sym here) (subst (λ (x : ℕ). all_alike alike x (seen ++ q ∷ []) i n ≡ false) (sym e) apart)
  | inr ne ↦
      let other : with_number c q.line n m ≡ c m = with_other c q.line n m ne in
      let own : all_alike alike m (seen ++ q ∷ []) i (c m) ≡ false = least_more alike low c seen q h m i from (omega (arith, less, other)) in
      subst (λ (x : ℕ). all_alike alike m (seen ++ q ∷ []) i x ≡ false) (sym other) own
]
