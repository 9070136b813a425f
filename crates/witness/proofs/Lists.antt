-- Lists of steps: their hart steps, and parts of them.
use Rattle.std.proofs.Common.{◌≡◌, ℕ, zero, suc, ◌+◌, ◌-◌, ◌≤◌, List, [], ◌∷◌, ◌++◌, length, take, drop, replicate, refl, sym, ap, ◌∙◌, arith, append_assoc}
use Rattle.std.proofs.lemmas.List.{append-nil, drop-drop, replicate-append-replicate, drop_at, take_at}
use Rattle.std.proofs.lemmas.List.Elements.{filter-append}
use Rattle.machine.specs.Steps.{all_steps}
use Rattle.machine.specs.declared.schedule.items.Item.{Item}
use Rattle.machine.specs.declared.schedule.items.Item.TheVariants.{Steps}
use Rattle.machine.specs.declared.schedule.items.Step.{Step}
use Rattle.machine.specs.declared.schedule.items.Step.TheVariants.{Hart, Evict}
use Rattle.machine.specs.Evicting.{hart_steps, is_hart_step}
use Rattle.witness.specs.Walking.{StepsView, TakesSteps}

take_none : (xs : List Step) (n : ℕ) → xs ≡ [] → take n xs ≡ []
take_none xs zero e = refl
take_none xs (suc n) e = ap (λ (l : List Step). take (suc n) l) e

drop_none : (xs : List Step) (n : ℕ) → xs ≡ [] → drop n xs ≡ []
drop_none xs zero e = e
drop_none xs (suc n) e = ap (λ (l : List Step). drop (suc n) l) e

-- as many elements and then more
pub take_then : (a b : ℕ) (xs : List Step) → take (a + b) xs ≡ take a xs ++ take b (drop a xs)
take_then zero b xs = let e : 0 + b ≡ b = omega arith in ap (λ (n : ℕ). take n xs) e
take_then (suc a) b [] = take_none [] (suc a + b) refl ∙ sym (take_none [] b refl)
take_then (suc a) b (x ∷ xs) =
    let e : suc a + b ≡ suc (a + b) = omega arith in
    ap (λ (n : ℕ). take n (x ∷ xs)) e ∙ ap (λ (l : List Step). x ∷ l) (take_then a b xs)

-- steps of one hart
pub harts_alone : (h n : ℕ) → hart_steps (replicate n (Hart h)) ≡ replicate n (Hart h)
harts_alone h zero = refl
harts_alone h (suc n) = ap (λ (l : List Step). Hart h ∷ l) (harts_alone h n)

pub hart_steps_append : (xs ys : List Step) → hart_steps (xs ++ ys) ≡ hart_steps xs ++ hart_steps ys
hart_steps_append xs ys = filter-append is_hart_step xs ys

-- the hart steps of items after their first
pub after_steps : (h n : ℕ) (items : List Item) → hart_steps (all_steps (Steps h n ∷ items)) ≡ replicate n (Hart h) ++ hart_steps (all_steps items)
after_steps h n items =
    hart_steps_append (replicate n (Hart h)) (all_steps items)
    ∙ ap (λ (l : List Step). l ++ hart_steps (all_steps items)) (harts_alone h n)

-- fewer steps of a hart, and the rest of them
pub parted_steps : (h n m count : ℕ) (rest : List Step) → n + m ≡ count →
    replicate count (Hart h) ++ rest ≡ replicate n (Hart h) ++ (replicate m (Hart h) ++ rest)
parted_steps h n m count rest is =
    ap (λ (l : List Step). l ++ rest)
    (ap (λ (k : ℕ). replicate k (Hart h)) (sym is) ∙ sym (replicate-append-replicate n m (Hart h)))
    ∙ append_assoc (replicate n (Hart h)) (replicate m (Hart h)) rest

-- taking steps
pub takes_none : (a : StepsView) (x : List Step) → TakesSteps a a x x
takes_none a x =
    let none : a.taken - a.taken ≡ 0 = omega arith in record {
      on = omega arith;
      added = rw none (sym (append-nil x));
      left = rw none refl;
    }

pub takes_more : (a b c : StepsView) (x y z run : List Step) → TakesSteps a b x y → c.taken ≡ b.taken + length run →
    b.left ≡ run ++ c.left → z ≡ y ++ run → TakesSteps a c x z
takes_more a b c x y z run t taken left added =
    let on = t.on in
    let sum : c.taken - a.taken ≡ (b.taken - a.taken) + length run = omega arith in
    let rest : drop (b.taken - a.taken) a.left ≡ run ++ c.left = sym t.left ∙ left in
    record {
      on = omega arith;
      added = added ∙ ap (λ (l : List Step). l ++ run) t.added
          ∙ append_assoc x (take (b.taken - a.taken) a.left) run
          ∙ ap (λ (l : List Step). x ++ l) (
          ap (λ (l : List Step). take (b.taken - a.taken) a.left ++ l) (
          sym (take_at run c.left (length run) refl) ∙ ap (λ (l : List Step). take (length run) l) (sym rest))
          ∙ sym (take_then (b.taken - a.taken) (length run) a.left)
          ∙ ap (λ (n : ℕ). take n a.left) (sym sum));
      left = sym (drop_at run c.left (length run) refl) ∙ ap (λ (l : List Step). drop (length run) l) (sym rest)
          ∙ drop-drop (length run) (b.taken - a.taken) a.left ∙ ap (λ (n : ℕ). drop n a.left) (sym sum);
    }

-- where none is left, all are taken
pub takes_all : (a b c : StepsView) (x y : List Step) → TakesSteps a b x y → b.taken ≤ c.taken → b.left ≡ [] → c.left ≡ [] →
    TakesSteps a c x y
takes_all a b c x y t more none still =
    let on = t.on in
    let sum : c.taken - a.taken ≡ (b.taken - a.taken) + (c.taken - b.taken) = omega arith in
    let rest : drop (b.taken - a.taken) a.left ≡ [] = sym t.left ∙ none in
    record {
      on = omega arith;
      added = t.added ∙ ap (λ (l : List Step). x ++ l) (
          sym (append-nil (take (b.taken - a.taken) a.left))
          ∙ ap (λ (l : List Step). take (b.taken - a.taken) a.left ++ l) (sym (take_none _ (c.taken - b.taken) rest))
          ∙ sym (take_then (b.taken - a.taken) (c.taken - b.taken) a.left)
          ∙ ap (λ (n : ℕ). take n a.left) (sym sum));
      left = still ∙ sym (drop_none _ (c.taken - b.taken) rest)
          ∙ drop-drop (c.taken - b.taken) (b.taken - a.taken) a.left ∙ ap (λ (n : ℕ). drop n a.left) (sym sum);
    }

-- the hart steps of hart steps are the same, and so of parts of them
pub harts_of_harts : (xs : List Step) → hart_steps (hart_steps xs) ≡ hart_steps xs
harts_of_harts [] = refl
harts_of_harts (Hart h ∷ xs) = ap (λ (l : List Step). Hart h ∷ l) (harts_of_harts xs)
harts_of_harts (Evict line ∷ xs) = harts_of_harts xs

pub harts_taken : (n : ℕ) (xs : List Step) → hart_steps (take n (hart_steps xs)) ≡ take n (hart_steps xs)
harts_taken zero xs = refl
harts_taken (suc n) [] = refl
harts_taken (suc n) (Hart h ∷ xs) = ap (λ (l : List Step). Hart h ∷ l) (harts_taken n xs)
harts_taken (suc n) (Evict line ∷ xs) = harts_taken (suc n) xs

pub harts_dropped : (n : ℕ) (xs : List Step) → hart_steps (drop n (hart_steps xs)) ≡ drop n (hart_steps xs)
harts_dropped zero xs = harts_of_harts xs
harts_dropped (suc n) [] = refl
harts_dropped (suc n) (Hart h ∷ xs) = harts_dropped n xs
harts_dropped (suc n) (Evict line ∷ xs) = harts_dropped (suc n) xs

pub harts_between : (n m : ℕ) (xs : List Step) → hart_steps (take m (drop n (hart_steps xs))) ≡ take m (drop n (hart_steps xs))
harts_between n m xs =
    ap (λ (l : List Step). hart_steps (take m l)) (sym (harts_dropped n xs))
    ∙ harts_taken m (drop n (hart_steps xs))
    ∙ ap (λ (l : List Step). take m l) (harts_dropped n xs)
