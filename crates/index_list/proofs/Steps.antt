-- How a change of the list changes what follows a number, and what stands before it.
use Rattle.std.proofs.Common.{◌≡◌, ℕ, true, false, not, ◌||◌, eqb, Some, None, List, [], ◌∷◌, ◌++◌, cond, arith, refl}
use Rattle.std.proofs.lemmas.Bool.Decides.{nat_tests}
use Rattle.index_list.specs.Lists.{has, without, last, after, end_of, IsDistinct}
use Rattle.index_list.specs.Links.{next_on, prev_on}
use Rattle.index_list.proofs.Members.{has-end_of}

-- off the way, a number is its own next and its own previous
pub next_off : (e p i : ℕ) (l : List ℕ) → has i (p ∷ l) ≡ false → next_on e p l i ≡ i
next_off e p i [] h = grind (arith, nat_tests)
next_off e p i (x ∷ xs) h = grind (arith, nat_tests, next_off e x i xs)

pub prev_off : (e p i : ℕ) (l : List ℕ) → has i l ≡ false → eqb i e ≡ false → prev_on e p l i ≡ i
prev_off e p i [] h o = grind (arith, nat_tests)
prev_off e p i (x ∷ xs) h o = grind (arith, nat_tests, prev_off e x i xs)

-- what follows stands in the list or is the end
pub next_in : (e p i : ℕ) (l : List ℕ) → has i (p ∷ l) ≡ true → (has (next_on e p l i) l || eqb (next_on e p l i) e) ≡ true
next_in e p i [] h = grind (arith, nat_tests)
next_in e p i (x ∷ xs) h = grind (arith, nat_tests, next_in e x i xs)

-- what stands before is the start or stands in the list
pub prev_in : (e p i : ℕ) (l : List ℕ) → (has i l || eqb i e) ≡ true → has (prev_on e p l i) (p ∷ l) ≡ true
prev_in e p i [] h = grind (arith, nat_tests)
prev_in e p i (x ∷ xs) h = grind (arith, nat_tests, prev_in e x i xs)

-- the last before the end
pub prev_end : (e p : ℕ) (l : List ℕ) → has e l ≡ false → prev_on e p l e ≡ end_of p l
prev_end e p [] h = grind (arith, nat_tests)
prev_end e p (x ∷ xs) h = grind (arith, nat_tests, prev_end e x xs)

-- where the way starts anew at q
pub next_start : (e p q j : ℕ) (l : List ℕ) → has q l ≡ false → has p l ≡ false →
    next_on e q l j ≡ cond (eqb j q) (next_on e p l p) (cond (eqb j p) j (next_on e p l j))
next_start e p q j [] h o = grind (arith, nat_tests)
next_start e p q j (x ∷ xs) h o = grind (arith, nat_tests, next_off e x p xs)

pub next-without : (e p i j : ℕ) (l : List ℕ) → IsDistinct (p ∷ l) → has i l ≡ true → has e l ≡ false →
    next_on e p (without i l) j ≡ cond (eqb j i) i (cond (eqb j (prev_on e p l i)) (next_on e p l i) (next_on e p l j))
next-without e p i j [] d h o = cc
next-without e p i j (x ∷ xs) d h o =
    grind (arith, nat_tests, d.0, d.1.0, next-without e x i j xs d.1, next_off e p j xs, next_start e x p j xs, prev_in e x i xs)

-- what stands before anything but the first is the same from any start
pub prev_start : (e p q j : ℕ) (l : List ℕ) → IsDistinct l → has e l ≡ false →
    prev_on e q l j ≡ cond (eqb j (next_on e p l p)) q (prev_on e p l j)
prev_start e p q j [] d o = grind (arith, nat_tests)
prev_start e p q j (x ∷ xs) d o = grind (arith, nat_tests)

pub prev-without : (e p i j : ℕ) (l : List ℕ) → IsDistinct (p ∷ l) → has i l ≡ true → has e l ≡ false →
    prev_on e p (without i l) j ≡ cond (eqb j i) i (cond (eqb j (next_on e p l i)) (prev_on e p l i) (prev_on e p l j))
prev-without e p i j [] d h o = cc
prev-without e p i j (x ∷ xs) d h o =
    grind (arith, nat_tests, d.0, d.1.0, prev-without e x i j xs d.1, prev_off e x j xs, prev_start e x p j xs d.1.1, next_in e x i xs)

-- a number put at the front
pub next-front : (e p i j : ℕ) (l : List ℕ) → has i (p ∷ l) ≡ false → has p l ≡ false →
    next_on e p (i ∷ l) j ≡ cond (eqb j i) (next_on e p l p) (cond (eqb j p) i (next_on e p l j))
next-front e p i j l h o = grind (arith, nat_tests, next_start e p i j l)

pub prev-front : (e p i j : ℕ) (l : List ℕ) → IsDistinct l → has i l ≡ false → has e l ≡ false → eqb i e ≡ false →
    prev_on e p (i ∷ l) j ≡ cond (eqb j i) p (cond (eqb j (next_on e p l p)) i (prev_on e p l j))
prev-front e p i j l d h o n = grind (arith, nat_tests, prev_start e p i j l d)

-- a number put at the back
pub next-back : (e p i j : ℕ) (l : List ℕ) → IsDistinct (p ∷ l) → has i (p ∷ l) ≡ false →
    next_on e p (l ++ i ∷ []) j ≡ cond (eqb j i) e (cond (eqb j (end_of p l)) i (next_on e p l j))
next-back e p i j [] d h = grind (arith, nat_tests)
next-back e p i j (x ∷ xs) d h = grind (arith, nat_tests, d.0, next-back e x i j xs d.1, has-end_of x xs)

pub prev-back : (e p i j : ℕ) (l : List ℕ) → has i l ≡ false → has e l ≡ false → eqb i e ≡ false →
    prev_on e p (l ++ i ∷ []) j ≡ cond (eqb j i) (end_of p l) (cond (eqb j e) i (prev_on e p l j))
prev-back e p i j [] h o n = grind (arith, nat_tests)
prev-back e p i j (x ∷ xs) h o n = grind (arith, nat_tests, prev-back e x i j xs)

-- what a list answers, by next and previous numbers
pub after-next : (e p i : ℕ) (l : List ℕ) → has i l ≡ true → IsDistinct (p ∷ l) → has e l ≡ false →
    after i l ≡ cond (eqb (next_on e p l i) e) None (Some (next_on e p l i))
after-next e p i [] h d o = cc
after-next e p i (x ∷ []) h d o = grind (arith, nat_tests)
after-next e p i (x ∷ (y ∷ ys)) h d o = grind (arith, nat_tests, d.0, d.1.0, after-next e x i (y ∷ ys))

pub last-prev : (e : ℕ) (l : List ℕ) → has e l ≡ false →
    last l ≡ cond (eqb (prev_on e e l e) e) None (Some (prev_on e e l e))
last-prev e [] o = grind (arith, nat_tests)
last-prev e (x ∷ xs) o = grind (arith, nat_tests, prev_end e x xs, has-end_of x xs)

pub has-next : (e p i : ℕ) (l : List ℕ) → IsDistinct (p ∷ l) → has e l ≡ false → eqb i p ≡ false → eqb i e ≡ false →
    has i l ≡ not (eqb (next_on e p l i) i)
has-next e p i [] d o m n = grind (arith, nat_tests)
has-next e p i (x ∷ xs) d o m n =
    grind (arith, nat_tests, d.0, d.1.0, has-next e x i xs d.1, next_in e x i xs)

-- another number in the place of the end
next_end_moved : (e f p j : ℕ) (l : List ℕ) → IsDistinct (p ∷ l) → next_on f p l j ≡ cond (eqb j (end_of p l)) f (next_on e p l j)
next_end_moved e f p j [] d = grind (arith, nat_tests)
next_end_moved e f p j (x ∷ xs) d = grind (arith, nat_tests, d.0, next_end_moved e f x j xs d.1, has-end_of x xs)

prev_end_moved : (e f p j : ℕ) (l : List ℕ) → has e l ≡ false → has f l ≡ false →
    prev_on f p l j ≡ cond (eqb j f) (end_of p l) (cond (eqb j e) e (prev_on e p l j))
prev_end_moved e f p j [] o q = grind (arith, nat_tests)
prev_end_moved e f p j (x ∷ xs) o q = grind (arith, nat_tests, prev_end_moved e f x j xs)

-- where the end is also the start, and the list isn't empty
pub next_moved : (e f j : ℕ) (l : List ℕ) → IsDistinct l → has e l ≡ false → has f (e ∷ l) ≡ false → eqb (next_on e e l e) e ≡ false →
    next_on f f l j ≡ cond (eqb j e) e (cond (eqb j (prev_on e e l e)) f (cond (eqb j f) (next_on e e l e) (next_on e e l j)))
next_moved e f j [] d o q s = absurd (grind (arith, nat_tests))
next_moved e f j (x ∷ xs) d o q s =
    grind (arith, nat_tests, next_end_moved e f x j xs d, prev_end e x xs, has-end_of x xs, next_off e x e xs)

pub prev_moved : (e f j : ℕ) (l : List ℕ) → has e l ≡ false → has f (e ∷ l) ≡ false → eqb (next_on e e l e) e ≡ false →
    prev_on f f l j ≡ cond (eqb j e) e (cond (eqb j (next_on e e l e)) f (cond (eqb j f) (prev_on e e l e) (prev_on e e l j)))
prev_moved e f j [] o q s = absurd (grind (arith, nat_tests))
prev_moved e f j (x ∷ xs) o q s = grind (arith, nat_tests, prev_end_moved e f x j xs, prev_end e x xs)

-- a list that has no first is empty
pub first_end : (e : ℕ) (l : List ℕ) → has e l ≡ false → next_on e e l e ≡ e → l ≡ []
first_end e [] o s = refl
first_end e (x ∷ xs) o s = absurd (grind (arith, nat_tests))
