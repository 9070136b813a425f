-- What a filter keeps of a list in order.
use Rattle.std.proofs.Common.{◌≡◌, ℕ, ◌+◌, ◌<◌, ◌≤◌, Bool, true, false, List, [], ◌∷◌, ◌++◌, length, take, drop, get_or, refl, sym, ap, ◌∙◌, arith, leb, ltb, eqb, append-nil}
use Rattle.std.proofs.lemmas.Bool.Decides.{nat_tests}
use Rattle.std.proofs.lemmas.List.{get_or-take, get_or-drop, length-drop, length-take-le, take-append-drop}
use Rattle.std.proofs.lemmas.List.Elements.{All-head, All-tail, All-take, All-weaker, filter-append}
use Rattle.std.specs.Prelude.{All, filter}
use Rattle.std.specs.List.{AllWithin}
use Rattle.std.specs.List.Sorted.{IsPartitionPoint}

pub filter_none : {X : Type 0} (p : X → Bool) (xs : List X) → All (λ x. p x ≡ false) xs → filter p xs ≡ []
filter_none p [] none = refl
filter_none {X} p (x ∷ xs) none =
    let no : p x ≡ false = All-head (λ (y : X). p y ≡ false) x xs none in
    let rest : filter p xs ≡ [] = filter_none p xs (All-tail (λ (y : X). p y ≡ false) x xs none) in
    rw no rest

pub filter_all : {X : Type 0} (p : X → Bool) (xs : List X) → All (λ x. p x ≡ true) xs → filter p xs ≡ xs
filter_all p [] all = refl
filter_all {X} p (x ∷ xs) all =
    let yes : p x ≡ true = All-head (λ (y : X). p y ≡ true) x xs all in
    let rest : filter p xs ≡ xs = filter_all p xs (All-tail (λ (y : X). p y ≡ true) x xs all) in
    rw yes (ap (λ (ys : List X). x ∷ ys) rest)

-- what holds from the front up to a place, and from there on
pub all_before : {X : Type 0} (P : X → Type 0) (xs : List X) (i : ℕ) → i ≤ length xs → AllWithin P xs 0 i → All P (take i xs)
all_before P xs i fits all k d inside =
    let short = length-take-le i xs fits in
    let less : k < i = omega arith in
    rw (get_or-take i xs k d less) (all k d (omega arith) less)

pub all_from : {X : Type 0} (P : X → Type 0) (xs : List X) (i : ℕ) → i ≤ length xs → AllWithin P xs i (length xs) → All P (drop i xs)
all_from P xs i fits all k d inside =
    let long = length-drop i xs in
    rw (get_or-drop i xs k d) (all (i + k) d (omega arith) (omega arith))

-- those up to a bound are the front of a list in order
pub front_is : {X : Type 0} (n : X → ℕ) (xs : List X) (bound i : ℕ) → i ≤ length xs
    → IsPartitionPoint (λ x. leb (n x) bound ≡ true) (λ x. leb (n x) bound ≡ false) xs i → filter (λ x. leb (n x) bound) xs ≡ take i xs
front_is {X} n xs bound i fits point =
    let p : X → Bool = λ x. leb (n x) bound in
    let front = filter_all p (take i xs) (all_before (λ (x : X). p x ≡ true) xs i fits point.0) in
    let back = filter_none p (drop i xs) (all_from (λ (x : X). p x ≡ false) xs i fits point.1) in
    ap (λ (ys : List X). filter p ys) (sym (take-append-drop i xs))
    ∙ filter-append p (take i xs) (drop i xs)
    ∙ ap (λ (ys : List X). filter p (take i xs) ++ ys) back
    ∙ append-nil (filter p (take i xs))
    ∙ front

-- tests of two numbers
apart_below : (a b : ℕ) → ltb a b ≡ true → eqb a b ≡ false
apart_below a b h = grind (arith, nat_tests, h)

apart_above : (a b : ℕ) → leb a b ≡ false → eqb a b ≡ false
apart_above a b h = grind (arith, nat_tests, h)

equal_between : (a b : ℕ) → ltb a b ≡ false → leb a b ≡ true → eqb a b ≡ true
equal_between a b h g = grind (arith, nat_tests, h, g)

-- of a list in order, those at a number: from the first that isn't below it, up to the last that isn't above it
middle_is : {X : Type 0} (n : X → ℕ) (xs : List X) (at low high : ℕ) → low ≤ length xs → high ≤ length (drop low xs)
    → IsPartitionPoint (λ x. ltb (n x) at ≡ true) (λ x. ltb (n x) at ≡ false) xs low
    → IsPartitionPoint (λ x. leb (n x) at ≡ true) (λ x. leb (n x) at ≡ false) (drop low xs) high
    → take high (drop low xs) ≡ filter (λ x. eqb (n x) at) xs
middle_is {X} n xs at low high inside fits a b =
    let p : X → Bool = λ x. eqb (n x) at in
    let ys : List X = drop low xs in
    let less : All (λ (x : X). p x ≡ false) (take low xs) =
    All-weaker (λ (x : X). ltb (n x) at ≡ true) (λ (x : X). p x ≡ false) (λ x h. apart_below (n x) at h) (take low xs)
    (all_before (λ (x : X). ltb (n x) at ≡ true) xs low inside a.0) in
    let more : All (λ (x : X). p x ≡ false) (drop high ys) =
    All-weaker (λ (x : X). leb (n x) at ≡ false) (λ (x : X). p x ≡ false) (λ x h. apart_above (n x) at h) (drop high ys)
    (all_from (λ (x : X). leb (n x) at ≡ false) ys high fits b.1) in
    let from : All (λ (x : X). ltb (n x) at ≡ false) (take high ys) =
    All-take (λ (x : X). ltb (n x) at ≡ false) high ys (all_from (λ (x : X). ltb (n x) at ≡ false) xs low inside a.1) in
    let upto : All (λ (x : X). leb (n x) at ≡ true) (take high ys) = all_before (λ (x : X). leb (n x) at ≡ true) ys high fits b.0 in
    let same : All (λ (x : X). p x ≡ true) (take high ys) = λ k d in_it. equal_between (n (get_or (take high ys) k d)) at (from k d in_it) (upto k d in_it) in
    sym (ap (λ (zs : List X). filter p zs) (sym (take-append-drop low xs))
    ∙ filter-append p (take low xs) ys
    ∙ ap (λ (zs : List X). zs ++ filter p ys) (filter_none p (take low xs) less)
    ∙ ap (λ (zs : List X). filter p zs) (sym (take-append-drop high ys))
    ∙ filter-append p (take high ys) (drop high ys)
    ∙ ap (λ (zs : List X). filter p (take high ys) ++ zs) (filter_none p (drop high ys) more)
    ∙ append-nil (filter p (take high ys))
    ∙ filter_all p (take high ys) same)

pub middle_at : {X : Type 0} (n : X → ℕ) (xs ys : List X) (at low high : ℕ) → ys ≡ drop low xs → low ≤ length xs → high ≤ length ys
    → IsPartitionPoint (λ x. ltb (n x) at ≡ true) (λ x. ltb (n x) at ≡ false) xs low
    → IsPartitionPoint (λ x. leb (n x) at ≡ true) (λ x. leb (n x) at ≡ false) ys high
    → take high ys ≡ filter (λ x. eqb (n x) at) xs
middle_at n xs ys at low high e inside fits a b = rw e (middle_is n xs at low high inside (rw e at fits) a (rw e at b))
