-- From a moment to the next: when a pass is kept, with no image looked at, whatever judges an image.
use Rattle.std.proofs.Common.{◌≡◌, ℕ, zero, suc, ◌+◌, ◌<◌, ◌≤◌, ◌==◌, nat_lt, Bool, true, false, cond, List, [], ◌∷◌, ◌++◌, inl, inr, Option, None, length, map, get_or, reverse, take, refl, sym, ap, subst, ◌∙◌, arith, true≢false, eqb-true}
use Rattle.std.specs.Prelude.{slice_index_or}
use Rattle.std.specs.List.{AllByRecursion, flat_map}
use Rattle.std.proofs.lemmas.Bool.{cases_Bool}
use Rattle.std.proofs.lemmas.Bool.Decides.{nat_tests}
use Rattle.std.proofs.lemmas.Grind.{flat_map-append}
use Rattle.std.proofs.lemmas.List.{get_or-map, length-map, reverse-append, take_more}
use Rattle.verdict.specs.Branches.{Agree, IsWithin, ShareBranch}
use Rattle.verdict.specs.Numbers.{is_flagged}
use Rattle.store_trace.proofs.Bounds.{floor_le_stores}
use Rattle.store_trace.proofs.Images.{image_from_lines, image_line, length_image}
use Rattle.store_trace.proofs.Lines.{cut_from_within, number_in_within, within_from_cut}
use Rattle.store_trace.specs.Cut.{IsWithin as Bounds, number_in, numbered, stored_lines}
use Rattle.store_trace.specs.Floor.{floor}
use Rattle.store_trace.specs.Image.{image, line_after, lines_after}
use Rattle.store_trace.specs.Stores.{stores}
use Rattle.store_trace.specs.declared.crash_model.step.PersistenceStep.{PersistenceStep}
use Rattle.store_trace.specs.declared.crash_model.step.PersistenceStep.TheVariants as step
use Rattle.line_memory.specs.Lines.{line_at}
use Rattle.verdict.proofs.Branching.{IsAlike}
use Rattle.verdict.specs.Keeping.{IsUnseen}
use Rattle.verdict.specs.Verdicts.{AreFlagged, AreGood, HasManyBranches, IsMomentVerdict}
use Rattle.verdict.specs.declared.branches.question.Question.{Question}
use Rattle.verdict.specs.declared.moment_verdict.verdict.MomentVerdict.TheVariants as moments
use Rattle.store_trace.specs.History.{at_moment, history, steps_of}
use Rattle.store_trace.specs.declared.event.Event.{Event}
use Rattle.store_trace.specs.declared.event.Event.TheVariants.{Store, Clean, Fence, Begin, End}

-- The cut k of the later steps is like the cut c of the earlier ones: in each flagged line its image has the same bytes, whatever it started
-- from, and both give the line the same number.
pub record IsLike (start : List (List ℕ)) (p later : List PersistenceStep) (flags : List Bool) (k c : ℕ → ℕ) : Type 0 where
  pub within : IsWithin (λ l. floor l p) (λ l. stores l p) c
  pub line : (l : ℕ) → is_flagged l flags ≡ true → line_at (image start k later) l ≡ line_at (image start c p) l
  pub number : (l : ℕ) → is_flagged l flags ≡ true → c l ≡ k l
  pub bytes : (bytes : List ℕ) (l : ℕ) → is_flagged l flags ≡ true → line_after bytes l (k l) later ≡ line_after bytes l (k l) p

-- A number of a line that leaves the same bytes at later steps as at these, whatever the line started from.
abbrev pub IsUnchanged : List PersistenceStep → List PersistenceStep → ℕ → ℕ → Type 0
IsUnchanged p later l n = (bytes : List ℕ) → line_after bytes l n later ≡ line_after bytes l n p

-- such numbers are alike at the later steps where they are so at these
abbrev pub StayAlike : List PersistenceStep → List PersistenceStep → (Question → ℕ → ℕ → Bool) → (Question → ℕ → ℕ → Bool) → Type 0
StayAlike p later alike alike_later = (q : Question) (n m : ℕ) → IsUnchanged p later q.line n → IsUnchanged p later q.line m → alike q n m ≡ true → alike_later q n m ≡ true

-- every cut of the later steps is like one of the earlier ones
pub record AreLike (start : List (List ℕ)) (p later : List PersistenceStep) (flags : List Bool) : Type 0 where
  pub of : (ℕ → ℕ) → ℕ → ℕ
  pub each : (k : ℕ → ℕ) → IsWithin (λ l. floor l later) (λ l. stores l later) k → IsLike start p later flags k (of k)

-- an image has the lines of these questions as another one has them
abbrev pub AgreeIn : List (List ℕ) → List (List ℕ) → List Question → Type 0
AgreeIn lines others asked = AllByRecursion (λ q. line_at others q.line ≡ line_at lines q.line) asked

-- What recovery asks of an image, and that it is good, is settled by the lines that it asks, at these steps and at later ones.
pub record IsByLines {Cause : Type 0} (start : List (List ℕ)) (p later : List PersistenceStep) (asks asks_later : (ℕ → ℕ) → List Question → Type 0)
    (found found_later : (ℕ → ℕ) → Option Cause → Type 0) : Type 0 where
  pub asked : (c : ℕ → ℕ) → found c None → (questions : List Question) × asks c questions
  pub same : (c k : ℕ → ℕ) (questions : List Question) → asks c questions → AgreeIn (image start c p) (image start k later) questions → asks_later k questions
  pub once : (k : ℕ → ℕ) (questions others : List Question) → asks_later k questions → asks_later k others → questions ≡ others
  pub good : (c k : ℕ → ℕ) (questions : List Question) → asks c questions → AgreeIn (image start c p) (image start k later) questions → found c None → found_later k None
  pub alike : IsAlike found

flagged_agree : (lines others : List (List ℕ)) (flags : List Bool) (asked : List Question) →
    ((l : ℕ) → is_flagged l flags ≡ true → line_at others l ≡ line_at lines l) → AllByRecursion (λ q. is_flagged q.line flags ≡ true) asked → AgreeIn lines others asked
flagged_agree lines others flags [] h f = tt
flagged_agree lines others flags (q ∷ qs) h f = (h q.line f.0, flagged_agree lines others flags qs h f.1)

-- over many branches were over many before
map_within : (low high more_low more_high : ℕ → ℕ) (f : (ℕ → ℕ) → ℕ → ℕ) (ks : List (ℕ → ℕ)) →
    ((k : ℕ → ℕ) → IsWithin more_low more_high k → IsWithin low high (f k)) →
    AllByRecursion (IsWithin more_low more_high) ks → AllByRecursion (IsWithin low high) (map f ks)
map_within low high more_low more_high f [] w h = tt
map_within low high more_low more_high f (k ∷ ks) w h = (w k h.0, map_within low high more_low more_high f ks w h.1)

all_at : (P : (ℕ → ℕ) → Type 0) (ks : List (ℕ → ℕ)) (i : ℕ) (d : ℕ → ℕ) → i < length ks → AllByRecursion P ks → P (get_or ks i d)
all_at P [] i d l h = absurd (omega arith)
all_at P (k ∷ ks) zero d l h = h.0
all_at P (k ∷ ks) (suc i) d l h = all_at P ks i d (omega arith) h.1

-- cuts like two that agree on flagged lines agree on them
agree_later : (start : List (List ℕ)) (p later : List PersistenceStep) (flags : List Bool) (alike alike_later : Question → ℕ → ℕ → Bool) (c k b a : ℕ → ℕ) (questions : List Question) →
    StayAlike p later alike alike_later → IsLike start p later flags c b → IsLike start p later flags k a →
    AllByRecursion (λ q. is_flagged q.line flags ≡ true) questions → Agree alike a b questions → Agree alike_later k c questions
agree_later start p later flags alike alike_later c k b a [] stay x y f h = tt
agree_later start p later flags alike alike_later c k b a (q ∷ qs) stay x y f h = (
  stay q (k q.line) (c q.line) (λ bytes. y.bytes bytes q.line f.0) (λ bytes. x.bytes bytes q.line f.0)
      (subst (λ (n : ℕ). alike q n (c q.line) ≡ true) (y.number q.line f.0) (subst (λ (n : ℕ). alike q (a q.line) n ≡ true) (x.number q.line f.0) h.0)),
  agree_later start p later flags alike alike_later c k b a qs stay x y f.1 h.1,
)

-- cuts like two that share a branch share one
share_later : (start : List (List ℕ)) (p later : List PersistenceStep) (flags : List Bool) (alike alike_later : Question → ℕ → ℕ → Bool)
    (asks asks_later : (ℕ → ℕ) → List Question → Type 0) (c k b a : ℕ → ℕ) → StayAlike p later alike alike_later →
    ((d e : ℕ → ℕ) (questions : List Question) → asks d questions → AgreeIn (image start d p) (image start e later) questions → asks_later e questions) → AreFlagged asks p flags →
    IsLike start p later flags c b → IsLike start p later flags k a → ShareBranch alike asks b a → ShareBranch alike_later asks_later c k
share_later start p later flags alike alike_later asks asks_later c k b a stay same flagged x y s =
    let mine = flagged b x.within s.questions s.of_one in
    record {
      questions = s.questions;
      of_one = same b c s.questions s.of_one (flagged_agree (image start b p) (image start c later) flags s.questions x.line mine);
      of_other = same a k s.questions s.of_other (flagged_agree (image start a p) (image start k later) flags s.questions y.line mine);
      agree = agree_later start p later flags alike alike_later c k b a s.questions stay x y mine s.agree;
    }

many_before : (start : List (List ℕ)) (p later : List PersistenceStep) (flags : List Bool) (alike alike_later : Question → ℕ → ℕ → Bool)
    (asks asks_later : (ℕ → ℕ) → List Question → Type 0) → StayAlike p later alike alike_later →
    ((d e : ℕ → ℕ) (questions : List Question) → asks d questions → AgreeIn (image start d p) (image start e later) questions → asks_later e questions) → AreFlagged asks p flags →
    AreLike start p later flags → HasManyBranches alike_later asks_later later → HasManyBranches alike asks p
many_before start p later flags alike alike_later asks asks_later stay same flagged a o =
    let longer : length (map a.of o.cuts) ≡ length o.cuts = length-map o.cuts a.of in
    record {
      cuts = map a.of o.cuts;
      more = omega (arith, longer, o.more);
      apart = record {
        each = map_within (λ l. floor l p) (λ l. stores l p) (λ l. floor l later) (λ l. stores l later) a.of o.cuts (λ k w. (a.each k w).within) o.apart.each;
        apart = λ i j d less inside s.
            let there : j < length o.cuts = omega (arith, longer, inside) in
            let first : i < length o.cuts = omega (arith, less, there) in
            let one = a.each (get_or o.cuts i d) (all_at (IsWithin (λ l. floor l later) (λ l. stores l later)) o.cuts i d first o.apart.each) in
            let other = a.each (get_or o.cuts j d) (all_at (IsWithin (λ l. floor l later) (λ l. stores l later)) o.cuts j d there o.apart.each) in
            let near = subst (λ (c : ℕ → ℕ). ShareBranch alike asks c (get_or (map a.of o.cuts) j d)) (get_or-map a.of o.cuts i d d first) s in
            let both = subst (λ (c : ℕ → ℕ). ShareBranch alike asks (a.of (get_or o.cuts i d)) c) (get_or-map a.of o.cuts j d d there) near in
            o.apart.apart i j d less there
            (share_later start p later flags alike alike_later asks asks_later (get_or o.cuts i d) (get_or o.cuts j d) (a.of (get_or o.cuts i d)) (a.of (get_or o.cuts j d))
            stay same flagged one other both);
      };
    }

-- the cuts that are good, as numbers
good_numbers : {Cause : Type 0} (found : (ℕ → ℕ) → Option Cause → Type 0) (p : List PersistenceStep) (c : ℕ → ℕ) → IsAlike found → AreGood found p →
    IsWithin (λ l. floor l p) (λ l. stores l p) c → found c None
good_numbers found p c alike good w =
    let inside : Bounds p c = record { low = w.least; high = w.most } in
    let cut = numbered c (stored_lines p) in
    alike c (number_in cut) None (λ l. sym (number_in_within p c inside l)) (good cut (cut_from_within p c inside))

-- a pass is kept, and each line that recovery asks is still flagged
pub pass_kept : {Cause : Type 0} (further : Bool) (start : List (List ℕ)) (p later : List PersistenceStep) (flags : List Bool) (alike alike_later : Question → ℕ → ℕ → Bool)
    (asks asks_later : (ℕ → ℕ) → List Question → Type 0) (found found_later : (ℕ → ℕ) → Option Cause → Type 0) → StayAlike p later alike alike_later →
    AreLike start p later flags → IsByLines start p later asks asks_later found found_later →
    AreFlagged asks p flags → IsMomentVerdict further alike asks found p moments.Pass →
    AreFlagged asks_later later flags × IsMomentVerdict further alike_later asks_later found_later later moments.Pass
pass_kept further start p later flags alike alike_later asks asks_later found found_later stay a by flagged v = (
  λ k w questions asked.
      let like = a.each k w in
      let c = a.of k in
      let its = by.asked c (good_numbers found p c by.alike v.1 like.within) in
      let mine = flagged c like.within its.0 its.1 in
      let ours = by.same c k its.0 its.1 (flagged_agree (image start c p) (image start k later) flags its.0 like.line mine) in
      subst (λ (qs : List Question). AllByRecursion (λ q. is_flagged q.line flags ≡ true) qs) (by.once k its.0 questions ours asked) mine,
  (
    λ o. v.0 (many_before start p later flags alike alike_later asks asks_later stay by.same flagged a o),
    λ cut c.
        let bounds = within_from_cut later cut c in
        let like = a.each (number_in cut) (record { least = bounds.low; most = bounds.high }) in
        let of = a.of (number_in cut) in
        let good = good_numbers found p of by.alike v.1 like.within in
        let its = by.asked of good in
        by.good of (number_in cut) its.0 its.1
        (flagged_agree (image start of p) (image start (number_in cut) later) flags its.0 like.line (flagged of like.within its.0 its.1)) good,
  ),
)

same_images : (start : List (List ℕ)) (p later : List PersistenceStep) → ((bytes : List ℕ) (l k : ℕ) → line_after bytes l k later ≡ line_after bytes l k p) →
    (k : ℕ → ℕ) → image start k later ≡ image start k p
same_images start p later same k =
    image_from_lines start k p (image start k later) (length_image start k later)
    (λ l h. image_line start k later l [] [] h ∙ same (slice_index_or start l []) l (k l))

-- the same images within bounds that are no wider
narrower : (start : List (List ℕ)) (p later : List PersistenceStep) (flags : List Bool) → ((l : ℕ) → floor l p ≤ floor l later) →
    ((l : ℕ) → stores l later ≤ stores l p) → ((bytes : List ℕ) (l k : ℕ) → line_after bytes l k later ≡ line_after bytes l k p) → AreLike start p later flags
narrower start p later flags low high same = record {
  of = λ k. k;
  each = λ k w. record {
    within = record { least = λ l. omega (arith, low l, w.least l); most = λ l. omega (arith, high l, w.most l) };
    line = λ l f. ap (λ (m : List (List ℕ)). line_at m l) (same_images start p later same k);
    number = λ l f. refl;
    bytes = λ bytes l f. same bytes l (k l);
  };
}

like_clean : (start : List (List ℕ)) (h m : ℕ) (p : List PersistenceStep) (flags : List Bool) → AreLike start p (step.Clean h m ∷ p) flags
like_clean start h m p flags =
    narrower start p (step.Clean h m ∷ p) flags (λ l. omega arith) (λ l. omega arith) (λ bytes l k. refl)

like_fence : (start : List (List ℕ)) (h : ℕ) (p : List PersistenceStep) (flags : List Bool) → AreLike start p (step.Fence h ∷ p) flags
like_fence start h p flags =
    narrower start p (step.Fence h ∷ p) flags (λ l. grind arith) (λ l. omega arith) (λ bytes l k. refl)

like_same : (start : List (List ℕ)) (p : List PersistenceStep) (flags : List Bool) → AreLike start p p flags
like_same start p flags = narrower start p p flags (λ l. omega arith) (λ l. omega arith) (λ bytes l k. refl)

-- a store to a line that recovery asks of no image: a cut with the new store is like the one without it
abbrev clipped : List PersistenceStep → (ℕ → ℕ) → ℕ → ℕ
clipped p k l = cond (nat_lt (stores l p) (k l)) (stores l p) (k l)

clip_low : (l : ℕ) (p : List PersistenceStep) (n : ℕ) → floor l p ≤ n → floor l p ≤ stores l p → floor l p ≤ cond (nat_lt (stores l p) n) (stores l p) n
clip_low l p n a b = grind (arith, nat_tests)

clip_high : (l : ℕ) (p : List PersistenceStep) (n : ℕ) → cond (nat_lt (stores l p) n) (stores l p) n ≤ stores l p
clip_high l p n = grind (arith, nat_tests)

clip_none : (s n : ℕ) → n ≤ s → cond (nat_lt s n) s n ≡ n
clip_none s n h = grind (arith, nat_tests)

unequal : (a b : ℕ) → ¬ (a ≡ b) → (a == b) ≡ false
unequal a b n = elim (cases_Bool (a == b)) [ inl t ↦ absurd (n (eqb-true a b t)) | inr f ↦ f ]

clip_within : (m o w v : ℕ) (p : List PersistenceStep) (k : ℕ → ℕ) →
    IsWithin (λ l. floor l (step.Store m o w v ∷ p)) (λ l. stores l (step.Store m o w v ∷ p)) k → IsWithin (λ l. floor l p) (λ l. stores l p) (clipped p k)
clip_within m o w v p k b = record {
  least = λ l. clip_low l p (k l) (b.least l) (floor_le_stores l p);
  most = λ l. clip_high l p (k l);
}

clip_same : (m o w v : ℕ) (p : List PersistenceStep) (k : ℕ → ℕ) (l : ℕ) → ¬ (m ≡ l) → k l ≤ stores l (step.Store m o w v ∷ p) → clipped p k l ≡ k l
clip_same m o w v p k l n h =
    let e : stores l (step.Store m o w v ∷ p) ≡ stores l p = rw (unequal m l n) refl in
    clip_none (stores l p) (k l) (omega (arith, e, h))

same_line : (i n : ℕ) (lines : List (List ℕ)) (c k : ℕ → ℕ) (p q : List PersistenceStep) →
    ((bytes : List ℕ) → line_after bytes (i + n) (k (i + n)) q ≡ line_after bytes (i + n) (c (i + n)) p) →
    get_or (lines_after i lines k q) n [] ≡ get_or (lines_after i lines c p) n []
same_line i n [] c k p q e = refl
same_line i zero (line ∷ lines) c k p q e =
    let z : i + 0 ≡ i = omega arith in
    subst (λ (x : ℕ). line_after line x (k x) q ≡ line_after line x (c x) p) z (e line)
same_line i (suc n) (line ∷ lines) c k p q e =
    let s : i + suc n ≡ suc i + n = omega arith in
    same_line (suc i) n lines c k p q (λ bytes. subst (λ (x : ℕ). line_after bytes x (k x) q ≡ line_after bytes x (c x) p) s (e bytes))

unstored : (bytes : List ℕ) (m o w v n j : ℕ) (p : List PersistenceStep) → ¬ (m ≡ n) → line_after bytes n j (step.Store m o w v ∷ p) ≡ line_after bytes n j p
unstored bytes m o w v n j p h = rw (unequal m n h) refl

store_line : (start : List (List ℕ)) (m o w v : ℕ) (p : List PersistenceStep) (k : ℕ → ℕ) (n : ℕ) → ¬ (m ≡ n) → k n ≤ stores n (step.Store m o w v ∷ p) →
    line_at (image start k (step.Store m o w v ∷ p)) n ≡ line_at (image start (clipped p k) p) n
store_line start m o w v p k n h b =
    same_line 0 n start (clipped p k) k p (step.Store m o w v ∷ p) (λ bytes.
    let z : n ≡ 0 + n = omega arith in
    subst (λ (x : ℕ). line_after bytes x (k x) (step.Store m o w v ∷ p) ≡ line_after bytes x (clipped p k x) p) z
    (unstored bytes m o w v n (k n) p h ∙ ap (λ (i : ℕ). line_after bytes n i p) (sym (clip_same m o w v p k n h b))))

like_store : (start : List (List ℕ)) (m o w v : ℕ) (p : List PersistenceStep) (flags : List Bool) → is_flagged m flags ≡ false →
    AreLike start p (step.Store m o w v ∷ p) flags
like_store start m o w v p flags f =
    let other : (l : ℕ) → is_flagged l flags ≡ true → ¬ (m ≡ l) = λ l h e. true≢false (sym h ∙ ap (λ (x : ℕ). is_flagged x flags) (sym e) ∙ f) in
    record {
      of = clipped p;
      each = λ k b. record {
        within = clip_within m o w v p k b;
        line = λ l h. store_line start m o w v p k l (other l h) (b.most l);
        number = λ l h. clip_same m o w v p k l (other l h) (b.most l);
        bytes = λ bytes l h. unstored bytes m o w v l (k l) p (other l h);
      };
    }

pub history_append : (xs ys : List Event) → history (xs ++ ys) ≡ history ys ++ history xs
history_append xs ys = ap (λ (es : List Event). flat_map steps_of es) (reverse-append xs ys) ∙ flat_map-append steps_of (reverse ys) (reverse xs)

-- the steps of an event that no image shows
like_steps : (start : List (List ℕ)) (event : Event) (p : List PersistenceStep) (flags : List Bool) → IsUnseen flags event →
    AreLike start p (history (event ∷ []) ++ p) flags
like_steps start (Store hart m o w v) p flags unseen = like_store start m o w v p flags unseen
like_steps start (Clean hart m) p flags unseen = like_clean start hart m p flags
like_steps start (Fence hart) p flags unseen = like_fence start hart p flags
like_steps start (Begin hart op) p flags unseen = like_same start p flags
like_steps start (End hart op) p flags unseen = like_same start p flags

pub like_next : (start : List (List ℕ)) (events : List Event) (i : ℕ) (d : Event) (flags : List Bool) → i < length events → IsUnseen flags (get_or events i d) →
    AreLike start (at_moment events i) (at_moment events (i + 1)) flags
like_next start events i d flags l unseen =
    let event = get_or events i d in
    let more : history (event ∷ []) ++ at_moment events i ≡ at_moment events (i + 1) =
    sym (history_append (take i events) (event ∷ [])) ∙ ap (λ (es : List Event). history es) (sym (take_more events i d l)) in
    subst (λ (p : List PersistenceStep). AreLike start (at_moment events i) p flags) more (like_steps start event (at_moment events i) flags unseen)
