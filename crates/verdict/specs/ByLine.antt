-- In the image of a cut a line's number alone decides its bytes.
use Rattle.std.proofs.Common.{◌≡◌, ℕ, zero, suc, ◌+◌, List, [], ◌∷◌, get_or, refl, ap, subst, arith}
use Rattle.line_memory.specs.Lines.{line_at}
use Rattle.store_trace.specs.Image.{image, line_after, lines_after}
use Rattle.store_trace.specs.declared.crash_model.step.PersistenceStep.{PersistenceStep}

same_line : (i n : ℕ) (lines : List (List ℕ)) (c k : ℕ → ℕ) (p : List PersistenceStep) → k (i + n) ≡ c (i + n) →
    get_or (lines_after i lines k p) n [] ≡ get_or (lines_after i lines c p) n []
same_line i n [] c k p e = refl
same_line i zero (line ∷ lines) c k p e =
    let z : i + 0 ≡ i = omega arith in
    ap (λ (m : ℕ). line_after line i m p) (subst (λ (x : ℕ). k x ≡ c x) z e)
same_line i (suc n) (line ∷ lines) c k p e =
    let s : i + suc n ≡ suc i + n = omega arith in
    same_line (suc i) n lines c k p (subst (λ (x : ℕ). k x ≡ c x) s e)

pub line_decides : (start : List (List ℕ)) (c k : ℕ → ℕ) (p : List PersistenceStep) (n : ℕ) → k n ≡ c n → line_at (image start k p) n ≡ line_at (image start c p) n
line_decides start c k p n e = same_line 0 n start c k p (let z : 0 + n ≡ n = omega arith in rw z e)
