-- Steps with evictions among them, step after step.
use Rattle.std.proofs.Common.{◌≡◌, ℕ, zero, suc, ◌+◌, List, [], ◌∷◌, ◌++◌, replicate, take, length, ◌<◌, get_or, refl, sym, ap, ◌∙◌, arith, append_assoc, append-nil, add-zero, Bool, ltb, eqb, inl, inr}
use Rattle.std.proofs.lemmas.List.{replicate_more, take_more}
use Rattle.std.proofs.lemmas.List.Sums.{sum_by-cons}
use Rattle.std.proofs.lemmas.Bool.{cases_Bool}
use Rattle.std.proofs.lemmas.Bool.Decides.{nat_tests}
use Rattle.std.proofs.lemmas.List.Elements.{filter_agree}
use Rattle.std.proofs.lemmas.Grind.{flat_map-append}
use Rattle.std.specs.List.Sorted.{IsStableByKey, ties}
use Rattle.std.specs.Ordering.{is_lt, nat_cmp}
use Rattle.std.specs.Prelude.{◌&&◌, not}
use Rattle.random_schedule.specs.Weaving.{eviction_steps, those_after, with_evictions}
use Rattle.random_schedule.specs.declared.evictions.Eviction.{Eviction}
use Rattle.machine.specs.Grammar.{hart_steps, steps_in}
use Rattle.machine.specs.Steps.{all_steps, steps_of}
use Rattle.machine.specs.declared.schedule.items.Item.{Item}
use Rattle.machine.specs.declared.schedule.items.Item.TheVariants as items
use Rattle.machine.specs.declared.schedule.items.Step.{Step}
use Rattle.machine.specs.declared.schedule.items.Step.TheVariants.{Hart, Evict}

-- how many hart steps there are, those before among them
abbrev pub counted : ℕ → List Step → ℕ
counted made [] = made
counted made (Hart h ∷ steps) = counted (made + 1) steps
counted made (Evict line ∷ steps) = counted made steps

-- evictions that stand alike at each step
pub woven_alike : (made : ℕ) (a b : List Eviction) (steps : List Step) → ((step : ℕ) → those_after step a ≡ those_after step b)
    → with_evictions made a steps ≡ with_evictions made b steps
woven_alike made a b [] same = refl
woven_alike made a b (Hart h ∷ steps) same =
    let here = same (made + 1) in
    let rest = woven_alike (made + 1) a b steps same in
    rw (here, rest) refl
woven_alike made a b (Evict line ∷ steps) same = ap (λ (rest : List Step). Evict line ∷ rest) (woven_alike made a b steps same)

-- steps after steps
pub woven_more : (made : ℕ) (evictions : List Eviction) (xs ys : List Step)
    → with_evictions made evictions (xs ++ ys) ≡ with_evictions made evictions xs ++ with_evictions (counted made xs) evictions ys
woven_more made evictions [] ys = refl
woven_more made evictions (Hart h ∷ xs) ys =
    let rest = woven_more (made + 1) evictions xs ys in
    let here : List Step = eviction_steps (those_after (made + 1) evictions) in
    ap (λ (steps : List Step). Hart h ∷ (here ++ steps)) rest
    ∙ ap (λ (steps : List Step). Hart h ∷ steps) (sym (append_assoc here (with_evictions (made + 1) evictions xs) (with_evictions (counted (made + 1) xs) evictions ys)))
woven_more made evictions (Evict line ∷ xs) ys = ap (λ (steps : List Step). Evict line ∷ steps) (woven_more made evictions xs ys)

counted_hart : (made n h : ℕ) → counted made (replicate n (Hart h)) ≡ made + n
counted_hart made zero h = omega arith
counted_hart made (suc n) h = let rest = counted_hart (made + 1) n h in rest ∙ omega arith

-- one more step of a hart
pub hart_woven : (made done h : ℕ) (evictions : List Eviction) (old middle before new : List Step)
    → before ≡ old ++ with_evictions made evictions (replicate done (Hart h)) → middle ≡ before ++ Hart h ∷ []
    → new ≡ middle ++ eviction_steps (those_after (made + done + 1) evictions)
    → new ≡ old ++ with_evictions made evictions (replicate (done + 1) (Hart h))
hart_woven made done h evictions old middle before new a b c =
    let first : List Step = with_evictions made evictions (replicate done (Hart h)) in
    let here : List Step = eviction_steps (those_after (made + done + 1) evictions) in
    let count = counted_hart made done h in
    let all : with_evictions made evictions (replicate (done + 1) (Hart h)) ≡ first ++ Hart h ∷ (here ++ []) =
    ap (λ (steps : List Step). with_evictions made evictions steps) (sym (replicate_more done (Hart h)))
    ∙ woven_more made evictions (replicate done (Hart h)) (Hart h ∷ [])
    ∙ ap (λ (n : ℕ). first ++ with_evictions n evictions (Hart h ∷ [])) count in
    let joined : old ++ (first ++ Hart h ∷ here) ≡ old ++ with_evictions made evictions (replicate (done + 1) (Hart h)) =
    ap (λ (steps : List Step). old ++ (first ++ Hart h ∷ steps)) (sym (append-nil here)) ∙ ap (λ (steps : List Step). old ++ steps) (sym all) in
    c
    ∙ ap (λ (steps : List Step). steps ++ here) (b ∙ ap (λ (steps : List Step). steps ++ Hart h ∷ []) a)
    ∙ append_assoc (old ++ first) (Hart h ∷ []) here
    ∙ append_assoc old first (Hart h ∷ here)
    ∙ joined

-- one more item
pub counted_more : (made : ℕ) (xs ys : List Step) → counted made (xs ++ ys) ≡ counted (counted made xs) ys
counted_more made [] ys = refl
counted_more made (Hart h ∷ xs) ys = counted_more (made + 1) xs ys
counted_more made (Evict line ∷ xs) ys = counted_more made xs ys

counted_item : (made : ℕ) (item : Item) → counted made (steps_of item) ≡ made + steps_in item
counted_item made (items.Steps hart count) = counted_hart made count hart
counted_item made (items.Evict line) = sym (add-zero made)

pub counted_all : (made : ℕ) (all : List Item) → counted made (all_steps all) ≡ made + hart_steps all
counted_all made [] = sym (add-zero made)
counted_all made (item ∷ all) =
    let first = counted_item made item in
    let rest = counted_all (counted made (steps_of item)) all in
    let sum : hart_steps (item ∷ all) ≡ steps_in item + hart_steps all = sum_by-cons steps_in item all in
    counted_more made (steps_of item) (all_steps all) ∙ rest ∙ omega (arith, first, sum)

pub item_woven : (evictions : List Eviction) (all : List Item) (i made : ℕ) (d : Item) (old new : List Step) → i < length all
    → made ≡ hart_steps (take i all) → old ≡ with_evictions 0 evictions (all_steps (take i all))
    → new ≡ old ++ with_evictions made evictions (steps_of (get_or all i d))
    → new ≡ with_evictions 0 evictions (all_steps (take (i + 1) all))
item_woven evictions all i made d old new inside count a b =
    let before : List Step = all_steps (take i all) in
    let here : List Step = steps_of (get_or all i d) in
    let steps : all_steps (take (i + 1) all) ≡ before ++ here =
    ap (λ (front : List Item). all_steps front) (take_more all i d inside)
    ∙ flat_map-append steps_of (take i all) (get_or all i d ∷ [])
    ∙ ap (λ (more : List Step). before ++ more) (append-nil here) in
    let made_is : counted 0 before ≡ made = let n = counted_all 0 (take i all) in omega arith in
    b
    ∙ ap (λ (done : List Step). done ++ with_evictions made evictions here) a
    ∙ ap (λ (n : ℕ). with_evictions 0 evictions before ++ with_evictions n evictions here) (sym made_is)
    ∙ sym (woven_more 0 evictions before here)
    ∙ ap (λ (done : List Step). with_evictions 0 evictions done) (sym steps)

-- a stable sort leaves those at one step as they were
below_test : (a b : ℕ) → is_lt (nat_cmp a b) ≡ ltb a b
below_test a b = elim (cases_Bool (ltb a b)) [
  | inl less ↦ rw less refl
  | inr more ↦ elim (cases_Bool (eqb a b)) [
    | inl same ↦ rw (more, same) refl
    | inr other ↦ rw (more, other) refl
  ]
]

tied : (a b : ℕ) → (not (ltb a b) && not (ltb b a)) ≡ eqb b a
tied a b = grind (arith, nat_tests)

pub stays_in_order : (old new : List Eviction) → IsStableByKey (λ (e : Eviction). e.step) nat_cmp old new
    → (step : ℕ) → those_after step new ≡ those_after step old
stays_in_order old new stable step =
    let at : Eviction = record { step = step; line = 0 } in
    let lt : Eviction → Eviction → Bool = λ a b. is_lt (nat_cmp a.step b.step) in
    let same : (e : Eviction) → ties lt at e ≡ eqb e.step step = λ e. rw (below_test step e.step, below_test e.step step) (tied step e.step) in
    sym (filter_agree (λ (e : Eviction). ties lt at e) (λ (e : Eviction). eqb e.step step) same new)
    ∙ stable at
    ∙ filter_agree (λ (e : Eviction). ties lt at e) (λ (e : Eviction). eqb e.step step) same old
