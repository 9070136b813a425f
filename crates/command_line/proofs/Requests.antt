-- What one more line adds to a request.
use Rattle.std.proofs.Common.{◌≡◌, ◌∙◌, ℕ, zero, suc, ◌+◌, List, [], ◌∷◌, ◌++◌, ap, refl, sym, append_assoc, arith, rules}
use Rattle.std.specs.List.{flat_map, range_with_len}
use Rattle.routine_judge.specs.OutsideViews.{WantedView}
use Rattle.command_line.specs.Requests.{changed_below, changed_line, raised_below, raised_entry}

append_none : {A : Type 0} (xs : List A) → xs ++ [] ≡ xs
append_none xs = search rules

range_more : {A : Type 0} (f : ℕ → List A) (a n j : ℕ) → a + n ≡ j → flat_map f (range_with_len a (suc n)) ≡ flat_map f (range_with_len a n) ++ f j
range_more f a zero j e = append_none (f a) ∙ ap f (omega arith)
range_more f a (suc n) j e =
    ap (λ (l : List _). f a ++ l) (range_more f (a + 1) n j (omega arith)) ∙ sym (append_assoc (f a) (flat_map f (range_with_len (a + 1) n)) (f j))

one_more : {A : Type 0} (f : ℕ → List A) (n : ℕ) → flat_map f (range_with_len 0 (n + 1)) ≡ flat_map f (range_with_len 0 n) ++ f n
one_more f n =
    let e : n + 1 ≡ suc n = omega arith in
    ap (λ (k : ℕ). flat_map f (range_with_len 0 k)) e ∙ range_more f 0 n n (omega arith)

pub raised_none : (name : ℕ → ℕ) (wanted : WantedView) → raised_below name wanted 0 ≡ []
unfolding raised_below
raised_none name wanted = refl

pub raised_more : (name : ℕ → ℕ) (wanted : WantedView) (n : ℕ) → raised_below name wanted (n + 1) ≡ raised_below name wanted n ++ raised_entry name wanted n
unfolding raised_below
raised_more name wanted n = one_more (raised_entry name wanted) n

pub changed_none : (name : ℕ → ℕ) (wanted : WantedView) → changed_below name wanted 0 ≡ []
unfolding changed_below
changed_none name wanted = refl

pub changed_more : (name : ℕ → ℕ) (wanted : WantedView) (n : ℕ) → changed_below name wanted (n + 1) ≡ changed_below name wanted n ++ changed_line name wanted n
unfolding changed_below
changed_more name wanted n = one_more (changed_line name wanted) n
