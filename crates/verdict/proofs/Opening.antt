-- An opening so far: the entries before a place are worked, the others are open.
use Rattle.std.proofs.Common.{◌≡◌, ◌⊎◌, inl, inr, ℕ, zero, suc, ◌+◌, ◌-◌, ◌≤◌, ◌<◌, ◌||◌, Bool, true, false, eqb, ltb, List, [], ◌∷◌, ◌++◌, Option, Some, None, IsSome, length, map, take, drop, get_or, replicate, refl, sym, ap, subst, ◌∙◌, arith, append_assoc, true≢false}
use Rattle.std.proofs.lemmas.List.{append-nil, map-append, get_or_append_left, get_or-append-add, drop_more, drop-append-le, length-append}
use Rattle.std.proofs.lemmas.Bool.{cases_Bool}
use Rattle.std.specs.List.{AllByRecursion}
use Rattle.verdict.specs.Branches.{Agree, IsEquivalence, IsAsked, IsWithin, IsAdaptive, IsShared, AreOver, ComesBefore, IsLeastBad, has_line}
use Rattle.verdict.specs.Least.{IsLess}
use Rattle.verdict.specs.Numbers.{is_flagged, number_over, AreAbove}
use Rattle.verdict.specs.Queue.{entry, entry_at, with_number, siblings, branching, cut_at, is_new, IsTree, AreRaised}
use Rattle.verdict.specs.declared.branches.question.Question.{Question}
use Rattle.verdict.specs.declared.branches.queue.Entry.{Entry}
use Rattle.verdict.specs.Openings.{AreDecided, AreFlagged, AreNodes, Covers, IsAt, IsBest, IsFinished, IsPast, IsRun, Node, SomeDecides, Split, cuts_of}
use Rattle.verdict.specs.Pieces.{AreAnswers, AreCuts, AreRuns, all_branching}
use Rattle.verdict.proofs.Alikes.{agree_self}
use Rattle.verdict.proofs.Answering.{answers_join, answers_later, branching_join, branching_later}
use Rattle.verdict.proofs.Counting.{not_over}
use Rattle.verdict.proofs.Lowest.{before_other, before_over, least_of, never_itself, pass_of}
use Rattle.verdict.proofs.Nodes as nodes
use Rattle.verdict.proofs.Nodes.{node, opened, opened_at, all_join, all_map}
use Rattle.verdict.proofs.Splitting.{all_at, asked_same, drop_whole, shared_of, split_apart, split_first, split_next, take_whole}
use Rattle.verdict.proofs.Tables.{cut_more, cut_step}

-- lists side by side
lined_up : (new : ℕ → Bool) (p : ℕ) (c : ℕ → ℕ) (decided : List Question) (l count n more : ℕ) → length decided ≡ count →
    (map (λ e. with_number c e.line e.number) (siblings new p count l n more) ≡ cuts_of (nodes.siblings new c l decided n more))
    × (map (λ v. length v.decided) (nodes.siblings new c l decided n more) ≡ map (λ e. e.decided) (siblings new p count l n more))
lined_up new p c decided l count n zero h = (refl, refl)
lined_up new p c decided l count n (suc more) h =
    let r = lined_up new p c decided l count (n + 1) more h in
    elim (cases_Bool (new n)) [
      | inl t ↦ rw t (ap (λ (cs : List (ℕ → ℕ)). with_number c l n ∷ cs) r.0, rw h (ap (λ (ns : List ℕ). count ∷ ns) r.1))
      | inr f ↦ rw f r
    ]

both_join : (c : ℕ → ℕ) (a b : List Entry) (vs ws : List Node) →
    (map (λ e. with_number c e.line e.number) a ≡ cuts_of vs) × (map (λ v. length v.decided) vs ≡ map (λ e. e.decided) a) →
    (map (λ e. with_number c e.line e.number) b ≡ cuts_of ws) × (map (λ v. length v.decided) ws ≡ map (λ e. e.decided) b) →
    (map (λ e. with_number c e.line e.number) (a ++ b) ≡ cuts_of (vs ++ ws)) × (map (λ v. length v.decided) (vs ++ ws) ≡ map (λ e. e.decided) (a ++ b))
both_join c a b vs ws h k = (
  map-append (λ (e : Entry). with_number c e.line e.number) a b
      ∙ ap (λ (r : List (ℕ → ℕ)). r ++ map (λ (e : Entry). with_number c e.line e.number) b) h.0
      ∙ ap (λ (r : List (ℕ → ℕ)). cuts_of vs ++ r) k.0 ∙ sym (map-append (λ (v : Node). v.numbers) vs ws),
  map-append (λ (v : Node). length v.decided) vs ws
      ∙ ap (λ (r : List ℕ). r ++ map (λ (v : Node). length v.decided) ws) h.1
      ∙ ap (λ (r : List ℕ). map (λ (e : Entry). e.decided) a ++ r) k.1 ∙ sym (map-append (λ (e : Entry). e.decided) a b),
)

length_last : (seen : List Question) (q : Question) → length (seen ++ q ∷ []) ≡ length seen + 1
length_last [] q = omega arith
length_last (x ∷ seen) q = let e = length_last seen q in omega (arith, e)

all_lined_up : (p : ℕ) (alike : Question → ℕ → ℕ → Bool) (low high c : ℕ → ℕ) (seen rest : List Question) →
    (map (λ e. with_number c e.line e.number) (branching p alike low high c seen rest) ≡ cuts_of (opened alike low high c seen rest))
    × (map (λ v. length v.decided) (opened alike low high c seen rest) ≡ map (λ e. e.decided) (branching p alike low high c seen rest))
all_lined_up p alike low high c seen [] = (refl, refl)
all_lined_up p alike low high c seen (q ∷ qs) =
    both_join c (siblings (is_new alike low c seen q) p (length seen + 1) q.line (c q.line + 1) (high q.line - c q.line)) (branching p alike low high c (seen ++ q ∷ []) qs)
    (opened_at alike low high c seen q) (opened alike low high c (seen ++ q ∷ []) qs)
    (lined_up (is_new alike low c seen q) p c (seen ++ q ∷ []) q.line (length seen + 1) (c q.line + 1) (high q.line - c q.line) (length_last seen q))
    (all_lined_up p alike low high c (seen ++ q ∷ []) qs)

-- what branches off an entry stands under it, and raises a line above its floor
record IsChild (p lines : ℕ) (low : ℕ → ℕ) (e : Entry) : Type 0 where
  parent : e.parent ≡ p
  below : e.line < lines
  above : low e.line < e.number

children_join : (P : Entry → Type 0) (a b : List Entry) → AllByRecursion P a → AllByRecursion P b → AllByRecursion P (a ++ b)
children_join P [] b g h = h
children_join P (e ∷ a) b g h = (g.0, children_join P a b g.1 h)

siblings_children : (new : ℕ → Bool) (p lines : ℕ) (low : ℕ → ℕ) (d l n more : ℕ) → l < lines → low l < n → AllByRecursion (IsChild p lines low) (siblings new p d l n more)
siblings_children new p lines low d l n zero b a = tt
siblings_children new p lines low d l n (suc more) b a =
    let rest = siblings_children new p lines low d l (n + 1) more b (omega (arith, a)) in
    elim (cases_Bool (new n)) [
      | inl t ↦ rw t (record { parent = refl; below = b; above = a }, rest)
      | inr f ↦ rw f rest
    ]

children : (p lines : ℕ) (alike : Question → ℕ → ℕ → Bool) (low high c : ℕ → ℕ) (seen rest : List Question) → ((l : ℕ) → low l ≤ c l) →
    AllByRecursion (λ q. q.line < lines) rest → AllByRecursion (IsChild p lines low) (branching p alike low high c seen rest)
children p lines alike low high c seen [] above h = tt
children p lines alike low high c seen (q ∷ qs) above h =
    children_join (IsChild p lines low) (siblings (is_new alike low c seen q) p (length seen + 1) q.line (c q.line + 1) (high q.line - c q.line))
    (branching p alike low high c (seen ++ q ∷ []) qs)
    (siblings_children (is_new alike low c seen q) p lines low (length seen + 1) q.line (c q.line + 1) (high q.line - c q.line) h.0 (let le = above q.line in omega (arith, le)))
    (children p lines alike low high c (seen ++ q ∷ []) qs above h.1)

child_at : (P : Entry → Type 0) (es : List Entry) (j : ℕ) (d : Entry) → j < length es → AllByRecursion P es → P (get_or es j d)
child_at P [] j d less h = absurd (omega (arith, less))
child_at P (e ∷ es) zero d less h = h.0
child_at P (e ∷ es) (suc j) d less h = child_at P es j d (omega (arith, less)) h.1

mapped_at : (f : Entry → ℕ → ℕ) (es : List Entry) (j : ℕ) (d : ℕ → ℕ) (e : Entry) → j < length es → get_or (map f es) j d ≡ f (get_or es j e)
mapped_at f [] j d e less = absurd (omega (arith, less))
mapped_at f (x ∷ es) zero d e less = refl
mapped_at f (x ∷ es) (suc j) d e less = mapped_at f es j d e (omega (arith, less))

mapped_count : {A B : Type 0} (f : A → B) (xs : List A) → length (map f xs) ≡ length xs
mapped_count f [] = refl
mapped_count f (x ∷ xs) = ap suc (mapped_count f xs)

-- an entry of a longer queue: an old one, or a new one
entry_of : (queue more : List Entry) (i : ℕ) → i < length (queue ++ more) →
    ((i < length queue) × (entry_at (queue ++ more) i ≡ entry_at queue i))
    ⊎ ((j : ℕ) × (j < length more) × (i ≡ length queue + j) × (entry_at (queue ++ more) i ≡ get_or more j (entry 0 0 0 0)))
entry_of queue more i less = elim (cases_Bool (ltb i (length queue))) [
  | inl t ↦ let h : i < length queue = grind (arith, t) in inl (h, get_or_append_left queue more (entry 0 0 0 0) i h)
  | inr f ↦
      let le : length queue ≤ i = grind (arith, f) in
      let size = length-append queue more in
      let e : i ≡ length queue + (i - length queue) = omega (arith, le) in
      inr (
        i - length queue,
        (omega (arith, le, less, size)),
        e,
        subst (λ (n : ℕ). entry_at (queue ++ more) n ≡ get_or more (i - length queue) (entry 0 0 0 0)) (sym e) (get_or-append-add queue more (i - length queue) (entry 0 0 0 0)),
      )
]

tree_more : (lines at : ℕ) (low : ℕ → ℕ) (queue more : List Entry) → at < length queue → IsTree lines queue → AllByRecursion (IsChild at lines low) more → IsTree lines (queue ++ more)
tree_more lines at low queue more less t h = record {
  behind = λ i pos there. elim (entry_of queue more i there) [
    | inl o ↦ subst (λ (e : Entry). e.parent < i) (sym o.1) (t.behind i pos o.0)
    | inr n ↦ subst (λ (e : Entry). e.parent < i) (sym n.3) (let c = child_at (IsChild at lines low) more n.0 (entry 0 0 0 0) n.1 h in let p = c.parent in let q = n.2 in omega (arith, less, p, q))
  ];
  below = λ i pos there. elim (entry_of queue more i there) [
    | inl o ↦ subst (λ (e : Entry). e.line < lines) (sym o.1) (t.below i pos o.0)
    | inr n ↦ subst (λ (e : Entry). e.line < lines) (sym n.3) (let c = child_at (IsChild at lines low) more n.0 (entry 0 0 0 0) n.1 h in c.below)
  ];
}

raised_more : (lines at : ℕ) (low : ℕ → ℕ) (queue more : List Entry) → AreRaised low queue → AllByRecursion (IsChild at lines low) more → AreRaised low (queue ++ more)
raised_more lines at low queue more r h i pos there = elim (entry_of queue more i there) [
  | inl o ↦ subst (λ (e : Entry). low e.line < e.number) (sym o.1) (r i pos o.0)
  | inr n ↦ subst (λ (e : Entry). low e.line < e.number) (sym n.3) (let c = child_at (IsChild at lines low) more n.0 (entry 0 0 0 0) n.1 h in c.above)
]

cuts_more : (lines at : ℕ) (low c : ℕ → ℕ) (queue more : List Entry) (cuts new : List (ℕ → ℕ)) → at < length queue → IsTree lines queue → IsTree lines (queue ++ more) →
    AllByRecursion (IsChild at lines low) more → cut_at low queue at ≡ c → length cuts ≡ length queue →
    ((i : ℕ) → i < length queue → get_or cuts i low ≡ cut_at low queue i) →
    map (λ e. with_number c e.line e.number) more ≡ new → (i : ℕ) → i < length (queue ++ more) → get_or (cuts ++ new) i low ≡ cut_at low (queue ++ more) i
cuts_more lines at low c queue more cuts new less t t' h ec size old e i there = elim (entry_of queue more i there) [
  | inl o ↦ get_or_append_left cuts new low i (let s = o.0 in omega (arith, s, size)) ∙ old i o.0 ∙ sym (cut_more low queue more i i t.behind o.0)
  | inr n ↦
      let f : Entry → ℕ → ℕ = λ x. with_number c x.line x.number in
      let j : ℕ = n.0 in
      let x : Entry = get_or more j (entry 0 0 0 0) in
      let here : i ≡ length queue + j = n.2 in
      let place : i ≡ length cuts + j = omega (arith, here, size) in
      let child : IsChild at lines low x = child_at (IsChild at lines low) more j (entry 0 0 0 0) n.1 h in
      let mine : get_or (cuts ++ new) i low ≡ f x =
      ap (λ (m : ℕ). get_or (cuts ++ new) m low) place ∙ get_or-append-add cuts new j low ∙ ap (λ (r : List (ℕ → ℕ)). get_or r j low) (sym e) ∙ mapped_at f more j low (entry 0 0 0 0) n.1 in
      let parent : cut_at low (queue ++ more) at ≡ c = cut_more low queue more at at t.behind less ∙ ec in
      let step : cut_at low (queue ++ more) i ≡ with_number (cut_at low (queue ++ more) x.parent) x.line x.number =
      subst (λ (y : Entry). cut_at low (queue ++ more) i ≡ with_number (cut_at low (queue ++ more) y.parent) y.line y.number) n.3
      (cut_step low (queue ++ more) i t'.behind (omega (arith, less, here)) there) in
      mine ∙ ap (λ (k : ℕ → ℕ). with_number k x.line x.number) (sym (ap (λ (m : ℕ). cut_at low (queue ++ more) m) child.parent ∙ parent)) ∙ sym step
]

cuts_join : (done left ops : List Node) (v : Node) (ls : List Question) →
    cuts_of ((done ++ node v.numbers ls ∷ []) ++ (left ++ ops)) ≡ cuts_of (done ++ v ∷ left) ++ cuts_of ops
cuts_join [] left ops v ls = ap (λ (r : List (ℕ → ℕ)). v.numbers ∷ r) (map-append (λ (w : Node). w.numbers) left ops)
cuts_join (d ∷ done) left ops v ls = ap (λ (r : List (ℕ → ℕ)). d.numbers ∷ r) (cuts_join done left ops v ls)

passes_past : {Cause : Type 0} (judged : (ℕ → ℕ) → Option Cause → Type 0) (best : ℕ → ℕ) (vs : List Node) → AllByRecursion (λ v. judged v.numbers None) vs →
    AllByRecursion (IsPast judged best) vs
passes_past judged best vs h = all_map (λ v. judged v.numbers None) (IsPast judged best) vs (λ v p. inl p) h

past_lower : {Cause : Type 0} (judged : (ℕ → ℕ) → Option Cause → Type 0) (best lower : ℕ → ℕ) (vs : List Node) → ComesBefore lower best →
    AllByRecursion (IsPast judged best) vs → AllByRecursion (IsPast judged lower) vs
past_lower judged best lower vs b h =
    all_map (IsPast judged best) (IsPast judged lower) vs (λ v p. elim p [ inl q ↦ inl q | inr q ↦ inr (λ x. q (before_over v.numbers lower best x b)) ]) h

past_other : {Cause : Type 0} (judged : (ℕ → ℕ) → Option Cause → Type 0) (best lower : ℕ → ℕ) (vs : List Node) → ¬ ComesBefore best lower →
    AllByRecursion (IsPast judged best) vs → AllByRecursion (IsPast judged lower) vs
past_other judged best lower vs n h =
    all_map (IsPast judged best) (IsPast judged lower) vs (λ v p. elim p [ inl q ↦ inl q | inr q ↦ inr (λ x. q (before_other v.numbers best lower n x)) ]) h

-- a cut alone is the least
best_one : {Cause : Type 0} (judged : (ℕ → ℕ) → Option Cause → Type 0) (low high : ℕ → ℕ) (cut : List ℕ) (found : Option Cause) (v : Node) →
    number_over low cut ≡ v.numbers → AreAbove low cut → IsWithin low high v.numbers → judged v.numbers found → IsBest judged low high cut found (v ∷ [])
best_one judged low high cut None v e a w j = (j, tt)
best_one judged low high cut (Some cause) v e a w j = (
  subst (IsWithin low high) (sym e) w,
  subst (λ (c : ℕ → ℕ). judged c (Some cause)) (sym e) j,
  a,
  (inr (λ x. never_itself v.numbers (subst (ComesBefore v.numbers) e x)), tt),
)

-- it gives no number that isn't above its floor
pub best_above : {Cause : Type 0} (judged : (ℕ → ℕ) → Option Cause → Type 0) (low high : ℕ → ℕ) (numbers : List ℕ) (least : Option Cause) (done : List Node) →
    IsBest judged low high numbers least done → IsSome least → AreAbove low numbers
best_above judged low high numbers None done b s = absurd (true≢false (sym s))
best_above judged low high numbers (Some cause) done b s = b.2

-- the less of two least bad cuts is the least of all
best_join : {Cause : Type 0} (judged : (ℕ → ℕ) → Option Cause → Type 0) (low high : ℕ → ℕ) (cut kept new : List ℕ) (found least result : Option Cause) (done vs : List Node) →
    IsLess low cut found kept least new result → IsBest judged low high kept least done → IsBest judged low high cut found vs → IsBest judged low high new result (done ++ vs)
best_join judged low high cut kept new None None result done vs h b t = rw h.0 (all_join (λ v. judged v.numbers None) done vs b t)
best_join judged low high cut kept new None (Some other) result done vs h b t =
    rw (h.0, h.1) (b.0, b.1, b.2, all_join (IsPast judged (number_over low kept)) done vs b.3 (passes_past judged (number_over low kept) vs t))
best_join judged low high cut kept new (Some cause) None result done vs h b t =
    rw (h.0, h.1) (t.0, t.1, t.2, all_join (IsPast judged (number_over low cut)) done vs (passes_past judged (number_over low cut) done b) t.3)
best_join judged low high cut kept new (Some cause) (Some other) result done vs (inl h) b t =
    rw (h.1, h.2) (
      t.0,
      t.1,
      t.2,
      all_join (IsPast judged (number_over low cut)) done vs (past_lower judged (number_over low kept) (number_over low cut) done h.0 b.3) t.3,
    )
best_join judged low high cut kept new (Some cause) (Some other) result done vs (inr h) b t =
    rw (h.1, h.2) (
      b.0,
      b.1,
      b.2,
      all_join (IsPast judged (number_over low kept)) done vs b.3 (past_other judged (number_over low cut) (number_over low kept) vs h.0 t.3),
    )

pub flagged_by : (flags : List Bool) (qs : List Question) → ((l : ℕ) → has_line l qs ≡ true → is_flagged l flags ≡ true) → AreFlagged flags qs
flagged_by flags [] h = tt
flagged_by flags (q ∷ qs) h = (
  h q.line (let t : eqb q.line q.line ≡ true = grind arith in rw t refl),
  flagged_by flags qs (λ l t. h l (elim (eqb q.line l) as (λ e. (e || has_line l qs) ≡ true) [ true ↦ refl | false ↦ t ])),
)

-- of lines that were flagged and of those that are flagged now
pub flagged_still : (old new : List Bool) (now : ℕ → Bool) → ((l : ℕ) → is_flagged l new ≡ (is_flagged l old || now l)) → (l : ℕ) → is_flagged l old ≡ true → is_flagged l new ≡ true
flagged_still old new now h l t = h l ∙ ap (λ (b : Bool). b || now l) t

pub flagged_now : (old new : List Bool) (now : ℕ → Bool) → ((l : ℕ) → is_flagged l new ≡ (is_flagged l old || now l)) → (l : ℕ) → now l ≡ true → is_flagged l new ≡ true
flagged_now old new now h l t =
    h l ∙ ap (λ (b : Bool). is_flagged l old || b) t ∙ (elim (is_flagged l old) as (λ b. (b || true) ≡ true) [ true ↦ refl | false ↦ refl ])

flagged_more : (old new : List Bool) (qs : List Question) → ((l : ℕ) → is_flagged l old ≡ true → is_flagged l new ≡ true) → AreFlagged old qs → AreFlagged new qs
flagged_more old new [] h f = tt
flagged_more old new (q ∷ qs) h f = (h q.line f.0, flagged_more old new qs h f.1)

asked_join : (flags theirs new : List Bool) (done vs : List Node) → ((l : ℕ) → is_flagged l flags ≡ true → is_flagged l new ≡ true) →
    ((l : ℕ) → is_flagged l theirs ≡ true → is_flagged l new ≡ true) →
    AllByRecursion (λ v. AreFlagged flags v.decided) done → AllByRecursion (λ v. AreFlagged theirs v.decided) vs → AllByRecursion (λ v. AreFlagged new v.decided) (done ++ vs)
asked_join flags theirs new done vs mine others h t =
    all_join (λ v. AreFlagged new v.decided) done vs
    (all_map (λ v. AreFlagged flags v.decided) (λ v. AreFlagged new v.decided) done (λ v f. flagged_more flags new v.decided mine f) h)
    (all_map (λ v. AreFlagged theirs v.decided) (λ v. AreFlagged new v.decided) vs (λ v f. flagged_more theirs new v.decided others f) t)

decides_left : (line : ℕ) (vs ws : List Node) → SomeDecides line vs → SomeDecides line (vs ++ ws)
decides_left line [] ws d = absurd d
decides_left line (v ∷ vs) ws (inl d) = inl d
decides_left line (v ∷ vs) ws (inr d) = inr (decides_left line vs ws d)

decides_right : (line : ℕ) (vs ws : List Node) → SomeDecides line ws → SomeDecides line (vs ++ ws)
decides_right line [] ws d = d
decides_right line (v ∷ vs) ws d = inr (decides_right line vs ws d)

-- the lines that are flagged now were flagged, or further nodes decide them
pub decided_more : (flags flags' : List Bool) (done vs : List Node) → ((l : ℕ) → is_flagged l flags' ≡ true → (is_flagged l flags ≡ true) ⊎ SomeDecides l vs) →
    AreDecided flags done → AreDecided flags' (done ++ vs)
decided_more flags flags' done vs from h l t = elim (from l t) [
  | inl old ↦ decides_left l done vs (h l old)
  | inr new ↦ decides_right l done vs new
]

-- where some lines are flagged beside those that were
pub flagged_from : (old new : List Bool) (now : ℕ → Bool) → ((l : ℕ) → is_flagged l new ≡ (is_flagged l old || now l)) → (l : ℕ) → is_flagged l new ≡ true →
    (is_flagged l old ≡ true) ⊎ (now l ≡ true)
flagged_from old new now h l t = elim (cases_Bool (is_flagged l old)) [
  | inl was ↦ inl was
  | inr other ↦ inr (sym (h l ∙ ap (λ (b : Bool). b || now l) other) ∙ t)
]

-- those are the lines of which this node decides a question
pub flagged_one : (old new : List Bool) (v : Node) → ((l : ℕ) → is_flagged l new ≡ (is_flagged l old || has_line l v.decided)) → (l : ℕ) → is_flagged l new ≡ true →
    (is_flagged l old ≡ true) ⊎ SomeDecides l (v ∷ [])
flagged_one old new v h l t = elim (flagged_from old new (λ x. has_line x v.decided) h l t) [ inl was ↦ inl was | inr here ↦ inr (inl here) ]

not_flagged : (lines l : ℕ) → is_flagged l (replicate lines false) ≡ false
not_flagged zero l = refl
not_flagged (suc lines) zero = refl
not_flagged (suc lines) (suc l) = not_flagged lines l

pub fresh_decided : (lines : ℕ) (flags : List Bool) → flags ≡ replicate lines false → AreDecided flags []
fresh_decided lines flags e l t = true≢false (sym t ∙ ap (λ (fs : List Bool). is_flagged l fs) e ∙ not_flagged lines l)

-- no line is flagged
pub none_decided : (flags : List Bool) → ((l : ℕ) → is_flagged l flags ≡ false) → AreDecided flags []
none_decided flags none l t = true≢false (sym t ∙ none l)

below_drop : (n : ℕ) (ls : List Question) (i : ℕ) → AllByRecursion (λ q. q.line < n) ls → AllByRecursion (λ q. q.line < n) (drop i ls)
below_drop n [] zero h = tt
below_drop n [] (suc i) h = tt
below_drop n (x ∷ ls) zero h = h
below_drop n (x ∷ ls) (suc i) h = below_drop n ls i h.1

head_same : (a b : ℕ) (xs ys : List ℕ) → a ∷ xs ≡ b ∷ ys → (a ≡ b) × (xs ≡ ys)
head_same a b xs ys e = (cc, cc)

cuts_at_seam : (done left : List Node) (v : Node) (low : ℕ → ℕ) → get_or (cuts_of (done ++ v ∷ left)) (length done) low ≡ v.numbers
cuts_at_seam [] left v low = refl
cuts_at_seam (d ∷ done) left v low = cuts_at_seam done left v low

pub count_last : (done : List Node) (v : Node) → length (done ++ v ∷ []) ≡ length done + 1
count_last [] v = omega arith
count_last (d ∷ done) v = let e = count_last done v in omega (arith, e)

-- the cut of the next entry
next_cut : (alike : Question → ℕ → ℕ → Bool) (asks : (ℕ → ℕ) → List Question → Type 0) (low high : ℕ → ℕ) (lines at : ℕ) (queue : List Entry) (done left : List Node) (v : Node) →
    at < length queue → AreNodes alike asks low high lines at queue done (v ∷ left) → v.numbers ≡ cut_at low queue at
next_cut alike asks low high lines at queue done left v less o =
    sym (cuts_at_seam done left v low) ∙ ap (λ (i : ℕ). get_or (cuts_of (done ++ v ∷ left)) i low) o.size ∙ o.cuts at less

-- the next entry is worked
nodes_next : (alike : Question → ℕ → ℕ → Bool) (asks : (ℕ → ℕ) → List Question → Type 0) (low high : ℕ → ℕ) (lines at : ℕ) (queue : List Entry) (ls : List Question) (done left : List Node) (v : Node) → IsEquivalence alike → IsAdaptive alike asks →
    at < length queue → asks (cut_at low queue at) ls → AllByRecursion (λ q. q.line < lines) ls → AreNodes alike asks low high lines at queue done (v ∷ left) →
    AreNodes alike asks low high lines (at + 1) (queue ++ branching at alike low high (cut_at low queue at) (take (entry_at queue at).decided ls) (drop (entry_at queue at).decided ls))
    (done ++ node v.numbers ls ∷ []) (left ++ opened alike low high v.numbers v.decided (drop (length v.decided) ls))
nodes_next alike asks low high lines at queue ls done left v eq adaptive less run_asked run_below o =
    let e0 : Entry = entry 0 0 0 0 in
    let c : ℕ → ℕ = v.numbers in
    let more : List Entry = branching at alike low high (cut_at low queue at) (take (entry_at queue at).decided ls) (drop (entry_at queue at).decided ls) in
    let cut : cut_at low queue at ≡ c = sym (next_cut alike asks low high lines at queue done left v less o) in
    let asked : asks c ls = subst (λ (k : ℕ → ℕ). asks k ls) cut run_asked in
    let b = o.split.nodes.0.begins ls asked in
    let rest : drop (length v.decided) ls ≡ b.rest = ap (λ (xs : List Question). drop (length v.decided) xs) b.begins ∙ drop_whole v.decided b.rest in
    let front : take (length v.decided) ls ≡ v.decided = ap (λ (xs : List Question). take (length v.decided) xs) b.begins ∙ take_whole v.decided b.rest in
    let whole : ls ≡ v.decided ++ drop (length v.decided) ls = b.begins ∙ ap (λ (xs : List Question). v.decided ++ xs) (sym rest) in
    let heads = head_same (length v.decided) (entry_at queue at).decided (map (λ w. length w.decided) left) (map (λ e. e.decided) (drop (at + 1) queue))
    (o.counts ∙ ap (λ (es : List Entry). map (λ e. e.decided) es) (drop_more queue at e0 less)) in
    let branches : more ≡ branching at alike low high c v.decided (drop (length v.decided) ls) =
    ap (λ (k : ℕ → ℕ). branching at alike low high k (take (entry_at queue at).decided ls) (drop (entry_at queue at).decided ls)) cut
    ∙ ap (λ (n : ℕ). branching at alike low high c (take n ls) (drop n ls)) (sym heads.0)
    ∙ ap (λ (xs : List Question). branching at alike low high c xs (drop (length v.decided) ls)) front in
    let ops : List Node = opened alike low high c v.decided (drop (length v.decided) ls) in
    let lined = all_lined_up at alike low high c v.decided (drop (length v.decided) ls) in
    let child : AllByRecursion (IsChild at lines low) more =
    subst (λ (es : List Entry). AllByRecursion (IsChild at lines low) es) (sym branches) (children at lines alike low high c v.decided (drop (length v.decided) ls) o.split.nodes.0.within.least (below_drop lines ls (length v.decided) run_below)) in
    let tree' : IsTree lines (queue ++ more) = tree_more lines at low queue more less o.tree child in
    let joined : cuts_of ((done ++ node c ls ∷ []) ++ (left ++ ops)) ≡ cuts_of (done ++ v ∷ left) ++ cuts_of ops = cuts_join done left ops v ls in
    let new_cuts : map (λ e. with_number c e.line e.number) more ≡ cuts_of ops = ap (λ (es : List Entry). map (λ e. with_number c e.line e.number) es) branches ∙ lined.0 in
    let next : Split alike asks low high (done ++ node c (v.decided ++ drop (length v.decided) ls) ∷ []) (left ++ ops) =
    split_next alike asks low high done v left (drop (length v.decided) ls) eq adaptive (subst (λ (xs : List Question). asks c xs) whole asked) o.split in
    record {
      split = subst (λ (xs : List Question). Split alike asks low high (done ++ node c xs ∷ []) (left ++ ops)) (sym whole) next;
      size = count_last done (node c ls) ∙ ap (λ (n : ℕ). n + 1) o.size;
      tree = tree';
      raised = raised_more lines at low queue more o.raised child;
      same = ap length joined ∙ length-append (cuts_of (done ++ v ∷ left)) (cuts_of ops)
          ∙ ap (λ (n : ℕ). n + length (cuts_of ops)) o.same
          ∙ ap (λ (n : ℕ). length queue + n) (sym (ap length new_cuts) ∙ mapped_count (λ (e : Entry). with_number c e.line e.number) more)
          ∙ sym (length-append queue more);
      cuts = λ i there. ap (λ (cs : List (ℕ → ℕ)). get_or cs i low) joined
          ∙ cuts_more lines at low c queue more (cuts_of (done ++ v ∷ left)) (cuts_of ops) less o.tree tree' child cut o.same o.cuts new_cuts i there;
      counts = map-append (λ (w : Node). length w.decided) left ops
          ∙ ap (λ (ns : List ℕ). ns ++ map (λ (w : Node). length w.decided) ops) heads.1
          ∙ ap (λ (ns : List ℕ). map (λ (e : Entry). e.decided) (drop (at + 1) queue) ++ ns) (lined.1 ∙ ap (λ (es : List Entry). map (λ (e : Entry). e.decided) es) (sym branches))
          ∙ sym (map-append (λ (e : Entry). e.decided) (drop (at + 1) queue) more)
          ∙ ap (λ (es : List Entry). map (λ (e : Entry). e.decided) es) (sym (drop-append-le (at + 1) queue more (omega (arith, less))));
    }

node_count : (done left : List Node) → length (cuts_of (done ++ left)) ≡ length done + length left
node_count done left = mapped_count (λ (v : Node). v.numbers) (done ++ left) ∙ length-append done left

-- the entries of these nodes are worked, one after the other
nodes_many : (alike : Question → ℕ → ℕ → Bool) (asks : (ℕ → ℕ) → List Question → Type 0) (low high : ℕ → ℕ) (lines at : ℕ) (queue : List Entry) (done left vs : List Node) → IsEquivalence alike → IsAdaptive alike asks →
    AreAnswers asks low lines queue at vs → AreNodes alike asks low high lines at queue done left →
    (later : List Node) × AreNodes alike asks low high lines (at + length vs) (queue ++ all_branching alike low high queue at vs) (done ++ vs) later
nodes_many alike asks low high lines at queue done left [] eq adaptive a o = (
  left,
  subst (λ (ds : List Node). AreNodes alike asks low high lines (at + 0) (queue ++ []) ds left) (sym (append-nil done))
      (subst (λ (q : List Entry). AreNodes alike asks low high lines (at + 0) q done left) (sym (append-nil queue))
      (subst (λ (n : ℕ). AreNodes alike asks low high lines n queue done left) (omega arith) o)),
)
nodes_many alike asks low high lines at queue done [] (v ∷ vs) eq adaptive a o =
    let n = node_count done [] in let s = o.same in let z = o.size in let less = a.0.there in absurd (omega (arith, less, n, s, z))
nodes_many alike asks low high lines at queue done (w ∷ left) (v ∷ vs) eq adaptive a o =
    let less : at < length queue = a.0.there in
    let here : List Entry = branching at alike low high (cut_at low queue at) (take (entry_at queue at).decided v.decided) (drop (entry_at queue at).decided v.decided) in
    let ops : List Node = opened alike low high w.numbers w.decided (drop (length w.decided) v.decided) in
    let same : node w.numbers v.decided ≡ v = ap (λ (c : ℕ → ℕ). node c v.decided) (next_cut alike asks low high lines at queue done left w less o ∙ sym a.0.cut) in
    let next : AreNodes alike asks low high lines (at + 1) (queue ++ here) (done ++ v ∷ []) (left ++ ops) =
    subst (λ (x : Node). AreNodes alike asks low high lines (at + 1) (queue ++ here) (done ++ x ∷ []) (left ++ ops)) same
    (nodes_next alike asks low high lines at queue v.decided done left w eq adaptive less a.0.asked a.0.below o) in
    let rest = nodes_many alike asks low high lines (at + 1) (queue ++ here) (done ++ v ∷ []) (left ++ ops) vs eq adaptive
    (answers_later asks low lines queue here (at + 1) vs o.tree a.1) next in
    let grown : (queue ++ here) ++ all_branching alike low high (queue ++ here) (at + 1) vs ≡ queue ++ (here ++ all_branching alike low high queue (at + 1) vs) =
    ap (λ (es : List Entry). (queue ++ here) ++ es) (branching_later asks alike low high lines queue here (at + 1) vs o.tree a.1)
    ∙ append_assoc queue here (all_branching alike low high queue (at + 1) vs) in (
      rest.0,
      subst (λ (n : ℕ). AreNodes alike asks low high lines n (queue ++ (here ++ all_branching alike low high queue (at + 1) vs)) (done ++ v ∷ vs) rest.0) (omega arith)
          (subst (λ (q : List Entry). AreNodes alike asks low high lines ((at + 1) + length vs) q (done ++ v ∷ vs) rest.0) grown
          (subst (λ (ds : List Node). AreNodes alike asks low high lines ((at + 1) + length vs) ((queue ++ here) ++ all_branching alike low high (queue ++ here) (at + 1) vs) ds rest.0)
          (append_assoc done (v ∷ []) vs) rest.1)),
    )

-- what recovery came to at many entries is taken in
pub at_many : {Cause : Type 0} (alike : Question → ℕ → ℕ → Bool) (asks : (ℕ → ℕ) → List Question → Type 0) (judged : (ℕ → ℕ) → Option Cause → Type 0) (low high : ℕ → ℕ) (lines at : ℕ)
    (queue more : List Entry) (numbers kept new : List ℕ) (found least result : Option Cause) (flags theirs flags' : List Bool) (vs : List Node) → IsEquivalence alike → IsAdaptive alike asks →
    AreRuns asks judged alike low high lines at queue numbers found theirs more vs → IsLess low numbers found kept least new result →
    ((l : ℕ) → is_flagged l flags ≡ true → is_flagged l flags' ≡ true) → ((l : ℕ) → is_flagged l theirs ≡ true → is_flagged l flags' ≡ true) →
    ((l : ℕ) → is_flagged l flags' ≡ true → (is_flagged l flags ≡ true) ⊎ SomeDecides l vs) →
    IsAt alike asks judged low high lines at queue kept least flags → IsAt alike asks judged low high lines (at + length vs) (queue ++ more) new result flags'
at_many alike asks judged low high lines at queue more numbers kept new found least result flags theirs flags' vs eq adaptive runs less mine others from o =
    let next = nodes_many alike asks low high lines at queue o.done o.left vs eq adaptive runs.answers o.opening.nodes in
    record {
      done = o.done ++ vs;
      left = next.0;
      opening = record {
        nodes = subst (λ (es : List Entry). AreNodes alike asks low high lines (at + length vs) (queue ++ es) (o.done ++ vs) next.0) (sym runs.branches) next.1;
        asked = asked_join flags theirs flags' o.done vs mine others o.opening.asked runs.asked;
        only = decided_more flags flags' o.done vs from o.opening.only;
        best = best_join judged low high numbers kept new found least result o.done vs less o.opening.best runs.best;
      };
    }

-- what recovery came to at one entry
pub runs_one : {Cause : Type 0} (asks : (ℕ → ℕ) → List Question → Type 0) (judged : (ℕ → ℕ) → Option Cause → Type 0) (alike : Question → ℕ → ℕ → Bool) (low high : ℕ → ℕ) (lines at : ℕ)
    (queue more : List Entry) (numbers : List ℕ) (ls : List Question) (found : Option Cause) (flags : List Bool) →
    at < length queue → IsWithin low high (cut_at low queue at) → ((l : ℕ) → has_line l ls ≡ true → is_flagged l flags ≡ true) →
    IsRun asks judged alike low high lines at queue numbers ls more found → AreRuns asks judged alike low high lines at queue numbers found flags more (node (cut_at low queue at) ls ∷ [])
runs_one asks judged alike low high lines at queue more numbers ls found flags less within flagged run = record {
  answers = (record { there = less; cut = refl; asked = run.asked; below = run.below }, tt);
  asked = (flagged_by flags ls flagged, tt);
  best = best_one judged low high numbers found (node (cut_at low queue at) ls) run.cut run.above within run.judges;
  branches = run.branches ∙ sym (append-nil (branching at alike low high (cut_at low queue at) (take (entry_at queue at).decided ls) (drop (entry_at queue at).decided ls)));
}

-- what it came to at further entries is added
pub runs_join : {Cause : Type 0} (asks : (ℕ → ℕ) → List Question → Type 0) (judged : (ℕ → ℕ) → Option Cause → Type 0) (alike : Question → ℕ → ℕ → Bool) (low high : ℕ → ℕ) (lines first : ℕ)
    (queue before more : List Entry) (numbers kept new : List ℕ) (found least result : Option Cause) (flags theirs flags' : List Bool) (done vs : List Node) →
    AreRuns asks judged alike low high lines (first + length done) queue numbers found theirs more vs → IsLess low numbers found kept least new result →
    ((l : ℕ) → is_flagged l flags ≡ true → is_flagged l flags' ≡ true) → ((l : ℕ) → is_flagged l theirs ≡ true → is_flagged l flags' ≡ true) →
    AreRuns asks judged alike low high lines first queue kept least flags before done → AreRuns asks judged alike low high lines first queue new result flags' (before ++ more) (done ++ vs)
runs_join asks judged alike low high lines first queue before more numbers kept new found least result flags theirs flags' done vs runs less mine others r = record {
  answers = answers_join asks low lines queue first done vs r.answers runs.answers;
  asked = asked_join flags theirs flags' done vs mine others r.asked runs.asked;
  best = best_join judged low high numbers kept new found least result done vs less r.best runs.best;
  branches = ap (λ (es : List Entry). es ++ more) r.branches ∙ ap (λ (es : List Entry). all_branching alike low high queue first done ++ es) runs.branches
      ∙ sym (branching_join alike low high queue first done vs);
}

pub at_first : {Cause : Type 0} (alike : Question → ℕ → ℕ → Bool) (asks : (ℕ → ℕ) → List Question → Type 0) (judged : (ℕ → ℕ) → Option Cause → Type 0) (low high : ℕ → ℕ) (lines : ℕ)
    (queue : List Entry) (numbers : List ℕ) (flags : List Bool) → ((l : ℕ) → low l ≤ high l) → queue ≡ entry 0 0 0 0 ∷ [] →
    ((l : ℕ) → is_flagged l flags ≡ false) → IsAt alike asks judged low high lines 0 queue numbers None flags
at_first alike asks judged low high lines queue numbers flags ordered e none = rw e (record {
  done = [];
  left = node low [] ∷ [];
  opening = record {
    nodes = record {
      split = split_first alike asks low high ordered;
      size = refl;
      tree = record { behind = λ i pos less. absurd (omega (arith, pos, less)); below = λ i pos less. absurd (omega (arith, pos, less)) };
      raised = λ i pos less. absurd (omega (arith, pos, less));
      same = refl;
      cuts = λ i less. (let z : i ≡ 0 = omega (arith, less) in rw z refl);
      counts = refl;
    };
    asked = tt;
    only = none_decided flags none;
    best = tt;
  };
})

-- the queue of an opening
pub at_cuts : {Cause : Type 0} (alike : Question → ℕ → ℕ → Bool) (asks : (ℕ → ℕ) → List Question → Type 0) (judged : (ℕ → ℕ) → Option Cause → Type 0) (low high : ℕ → ℕ) (lines at : ℕ)
    (queue : List Entry) (numbers : List ℕ) (least : Option Cause) (flags : List Bool) → IsEquivalence alike → IsAdaptive alike asks →
    IsAt alike asks judged low high lines at queue numbers least flags → AreCuts low high lines queue
at_cuts alike asks judged low high lines at queue numbers least flags eq adaptive o =
    let apart = split_apart alike asks low high o.done o.left eq adaptive o.opening.nodes.split in
    record {
      tree = o.opening.nodes.tree;
      raised = o.opening.nodes.raised;
      within = λ i less. let s = o.opening.nodes.same in
          subst (IsWithin low high) (o.opening.nodes.cuts i less) (all_at (IsWithin low high) (cuts_of (o.done ++ o.left)) i low (omega (arith, less, s)) apart.each);
    }

-- the cut of an entry lies within the bounds
pub at_within : {Cause : Type 0} (alike : Question → ℕ → ℕ → Bool) (asks : (ℕ → ℕ) → List Question → Type 0) (judged : (ℕ → ℕ) → Option Cause → Type 0) (low high : ℕ → ℕ) (lines at : ℕ)
    (queue : List Entry) (numbers : List ℕ) (least : Option Cause) (flags : List Bool) → IsEquivalence alike → IsAdaptive alike asks → at < length queue →
    IsAt alike asks judged low high lines at queue numbers least flags → IsWithin low high (cut_at low queue at)
at_within alike asks judged low high lines at queue numbers least flags eq adaptive less o =
    let s = o.opening.nodes.same in
    let apart = split_apart alike asks low high o.done o.left eq adaptive o.opening.nodes.split in
    subst (IsWithin low high) (o.opening.nodes.cuts at less) (all_at (IsWithin low high) (cuts_of (o.done ++ o.left)) at low (omega (arith, less, s)) apart.each)

-- no entry past the queue's end is worked
pub at_most : {Cause : Type 0} (alike : Question → ℕ → ℕ → Bool) (asks : (ℕ → ℕ) → List Question → Type 0) (judged : (ℕ → ℕ) → Option Cause → Type 0) (low high : ℕ → ℕ) (lines at : ℕ)
    (queue : List Entry) (numbers : List ℕ) (least : Option Cause) (flags : List Bool) → IsAt alike asks judged low high lines at queue numbers least flags → at ≤ length queue
at_most alike asks judged low high lines at queue numbers least flags o =
    let n = node_count o.done o.left in
    let s = o.opening.nodes.same in
    let z = o.opening.nodes.size in omega (arith, n, s, z)

pub at_over : {Cause : Type 0} (alike : Question → ℕ → ℕ → Bool) (asks : (ℕ → ℕ) → List Question → Type 0) (judged : (ℕ → ℕ) → Option Cause → Type 0) (low high : ℕ → ℕ) (lines at limit : ℕ)
    (queue : List Entry) (numbers : List ℕ) (least : Option Cause) (flags : List Bool) → IsEquivalence alike → IsAdaptive alike asks → limit < length queue →
    IsAt alike asks judged low high lines at queue numbers least flags → AreOver alike asks low high limit
at_over alike asks judged low high lines at limit queue numbers least flags eq adaptive less o = record {
  cuts = cuts_of (o.done ++ o.left);
  more = let s = o.opening.nodes.same in omega (arith, less, s);
  apart = split_apart alike asks low high o.done o.left eq adaptive o.opening.nodes.split;
}

-- none is left
none_left : (done left : List Node) (at n : ℕ) → length done ≡ at → length (cuts_of (done ++ left)) ≡ n → n ≤ at → left ≡ []
none_left done [] at n e s le = refl
none_left done (v ∷ left) at n e s le = let k = node_count done (v ∷ left) in absurd (omega (arith, e, s, le, k))

pub at_end : {Cause : Type 0} (alike : Question → ℕ → ℕ → Bool) (asks : (ℕ → ℕ) → List Question → Type 0) (judged : (ℕ → ℕ) → Option Cause → Type 0) (low high : ℕ → ℕ) (lines at : ℕ)
    (queue : List Entry) (numbers : List ℕ) (least : Option Cause) (flags : List Bool) → length queue ≤ at →
    (o : IsAt alike asks judged low high lines at queue numbers least flags) → (k : ℕ → ℕ) → IsWithin low high k → Covers alike k o.done
at_end alike asks judged low high lines at queue numbers least flags le o k w =
    let none : o.left ≡ [] = none_left o.done o.left at (length queue) o.opening.nodes.size o.opening.nodes.same le in
    subst (λ (vs : List Node). Covers alike k vs) (ap (λ (vs : List Node). o.done ++ vs) none ∙ append-nil o.done) (o.opening.nodes.split.covers k w)

pub at_few : {Cause : Type 0} (alike : Question → ℕ → ℕ → Bool) (asks : (ℕ → ℕ) → List Question → Type 0) (judged : (ℕ → ℕ) → Option Cause → Type 0) (low high : ℕ → ℕ) (lines at limit : ℕ)
    (queue : List Entry) (numbers : List ℕ) (least : Option Cause) (flags : List Bool) → IsEquivalence alike → IsAdaptive alike asks → IsShared alike asks → length queue ≤ at → length queue ≤ limit →
    IsAt alike asks judged low high lines at queue numbers least flags → ¬ AreOver alike asks low high limit
at_few alike asks judged low high lines at limit queue numbers least flags eq adaptive shared le few o =
    let n = node_count o.done o.left in
    let m = mapped_count (λ (v : Node). v.numbers) o.done in
    let s = o.opening.nodes.same in
    not_over alike asks low high limit (cuts_of o.done) eq adaptive
    (λ k w. shared_of alike asks low high k o.done shared o.opening.nodes.split.finished (at_end alike asks judged low high lines at queue numbers least flags le o k w))
    (omega (arith, n, m, s, few))

pub at_pass : {Cause : Type 0} (alike : Question → ℕ → ℕ → Bool) (asks : (ℕ → ℕ) → List Question → Type 0) (judged : (ℕ → ℕ) → Option Cause → Type 0) (low high : ℕ → ℕ) (lines at : ℕ)
    (queue : List Entry) (numbers : List ℕ) (flags : List Bool) →
    ((c k : ℕ → ℕ) (qs : List Question) (found : Option Cause) → asks c qs → Agree alike k c qs → judged c found → judged k found) → length queue ≤ at →
    IsAt alike asks judged low high lines at queue numbers None flags → (k : ℕ → ℕ) → IsWithin low high k → judged k None
at_pass alike asks judged low high lines at queue numbers flags branchwise le o k w =
    pass_of alike asks judged low high k o.done branchwise o.opening.nodes.split.finished o.opening.best (at_end alike asks judged low high lines at queue numbers None flags le o k w)

pub at_bad : {Cause : Type 0} (alike : Question → ℕ → ℕ → Bool) (asks : (ℕ → ℕ) → List Question → Type 0) (judged : (ℕ → ℕ) → Option Cause → Type 0) (low high : ℕ → ℕ) (lines at : ℕ)
    (queue : List Entry) (numbers : List ℕ) (cause : Cause) (flags : List Bool) →
    ((c k : ℕ → ℕ) (qs : List Question) (found : Option Cause) → asks c qs → Agree alike k c qs → judged c found → judged k found) → length queue ≤ at →
    IsAt alike asks judged low high lines at queue numbers (Some cause) flags → IsLeastBad low high judged (number_over low numbers) cause
at_bad alike asks judged low high lines at queue numbers cause flags branchwise le o = record {
  within = o.opening.best.0;
  bad = o.opening.best.1;
  least = λ k w b. least_of alike asks judged low high (number_over low numbers) k o.done branchwise o.opening.nodes.split.finished o.opening.best.3 w b
      (at_end alike asks judged low high lines at queue numbers (Some cause) flags le o k w);
}

covered_asked : (alike : Question → ℕ → ℕ → Bool) (asks : (ℕ → ℕ) → List Question → Type 0) (low high k : ℕ → ℕ) (ls : List Question) (flags : List Bool) (vs : List Node) → IsAdaptive alike asks →
    AllByRecursion (IsFinished alike asks low high) vs → AllByRecursion (λ v. AreFlagged flags v.decided) vs → asks k ls → Covers alike k vs → AreFlagged flags ls
covered_asked alike asks low high k ls flags [] a f g h c = absurd c
covered_asked alike asks low high k ls flags (v ∷ vs) a f g h (inl c) =
    subst (λ (xs : List Question). AreFlagged flags xs) (sym (asked_same alike asks v.numbers k v.decided ls a f.0.asked h c)) g.0
covered_asked alike asks low high k ls flags (v ∷ vs) a f g h (inr c) = covered_asked alike asks low high k ls flags vs a f.1 g.1 h c

pub at_asked : {Cause : Type 0} (alike : Question → ℕ → ℕ → Bool) (asks : (ℕ → ℕ) → List Question → Type 0) (judged : (ℕ → ℕ) → Option Cause → Type 0) (low high : ℕ → ℕ) (lines at : ℕ)
    (queue : List Entry) (numbers : List ℕ) (least : Option Cause) (flags : List Bool) → IsAdaptive alike asks → length queue ≤ at →
    IsAt alike asks judged low high lines at queue numbers least flags → (k : ℕ → ℕ) → IsWithin low high k → (ls : List Question) → asks k ls → AreFlagged flags ls
at_asked alike asks judged low high lines at queue numbers least flags adaptive le o k w ls h =
    covered_asked alike asks low high k ls flags o.done adaptive o.opening.nodes.split.finished o.opening.asked h (at_end alike asks judged low high lines at queue numbers least flags le o k w)

decided_asked : (alike : Question → ℕ → ℕ → Bool) (asks : (ℕ → ℕ) → List Question → Type 0) (low high : ℕ → ℕ) (line : ℕ) (vs : List Node) →
    AllByRecursion (IsFinished alike asks low high) vs → SomeDecides line vs → IsAsked asks low high line
decided_asked alike asks low high line [] f d = absurd d
decided_asked alike asks low high line (v ∷ vs) f (inl here) = record { cut = v.numbers; questions = v.decided; within = f.0.within; asked = f.0.asked; among = here }
decided_asked alike asks low high line (v ∷ vs) f (inr d) = decided_asked alike asks low high line vs f.1 d

pub at_only : {Cause : Type 0} (alike : Question → ℕ → ℕ → Bool) (asks : (ℕ → ℕ) → List Question → Type 0) (judged : (ℕ → ℕ) → Option Cause → Type 0) (low high : ℕ → ℕ) (lines at : ℕ)
    (queue : List Entry) (numbers : List ℕ) (least : Option Cause) (flags : List Bool) → IsAt alike asks judged low high lines at queue numbers least flags →
    (l : ℕ) → is_flagged l flags ≡ true → IsAsked asks low high l
at_only alike asks judged low high lines at queue numbers least flags o l t =
    decided_asked alike asks low high l o.done o.opening.nodes.split.finished (o.opening.only l t)

floors_asked : (alike : Question → ℕ → ℕ → Bool) (asks : (ℕ → ℕ) → List Question → Type 0) (low high : ℕ → ℕ) (flags : List Bool) (done left : List Node) → IsEquivalence alike →
    IsAdaptive alike asks → 0 < length done → get_or (cuts_of (done ++ left)) 0 low ≡ low → AllByRecursion (IsFinished alike asks low high) done →
    AllByRecursion (λ v. AreFlagged flags v.decided) done → (qs : List Question) → asks low qs → AreFlagged flags qs
floors_asked alike asks low high flags [] left eq a some cut f g qs h = absurd (omega (arith, some))
floors_asked alike asks low high flags (v ∷ vs) left eq a some cut f g qs h =
    let agree : Agree alike low v.numbers v.decided = subst (λ (c : ℕ → ℕ). Agree alike low c v.decided) (sym cut) (agree_self alike low v.decided eq) in
    covered_asked alike asks low high low qs flags (v ∷ vs) a f g h (inl agree)

-- what is asked where every line stands at its floor, whose branch is the first
pub at_floors : {Cause : Type 0} (alike : Question → ℕ → ℕ → Bool) (asks : (ℕ → ℕ) → List Question → Type 0) (judged : (ℕ → ℕ) → Option Cause → Type 0) (low high : ℕ → ℕ) (lines at : ℕ)
    (queue : List Entry) (numbers : List ℕ) (least : Option Cause) (flags : List Bool) → IsEquivalence alike → IsAdaptive alike asks → 0 < at →
    IsAt alike asks judged low high lines at queue numbers least flags → (qs : List Question) → asks low qs → AreFlagged flags qs
at_floors alike asks judged low high lines at queue numbers least flags eq adaptive begun o =
    let z = o.opening.nodes.size in
    let s = o.opening.nodes.same in
    let n = node_count o.done o.left in
    floors_asked alike asks low high flags o.done o.left eq adaptive (omega (arith, begun, z)) (o.opening.nodes.cuts 0 (omega (arith, begun, z, s, n)))
    o.opening.nodes.split.finished o.opening.asked
