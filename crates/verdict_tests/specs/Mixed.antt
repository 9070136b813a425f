-- Images that have each line of one medium or of another.
use Rattle.std.proofs.Common.{◌≡◌, ℕ, zero, suc, ◌+◌, ◌==◌, Bool, true, false, cond, List, [], ◌∷◌, length, get_or, refl, sym, ap, ◌∙◌, arith}
use Rattle.line_memory.specs.Lines.{IsMedium, line_at}

-- from this line on
abbrev pub mixed_from : ℕ → List (List ℕ) → List (List ℕ) → (ℕ → ℕ) → List (List ℕ)
mixed_from i [] others cut = []
mixed_from i (line ∷ lines) [] cut = line ∷ lines
mixed_from i (line ∷ lines) (other ∷ others) cut = cond (cut i == 0) line other ∷ mixed_from (suc i) lines others cut

-- a line that has the number 0 is of the first medium, each other one of the second
abbrev pub mixed : List (List ℕ) → List (List ℕ) → (ℕ → ℕ) → List (List ℕ)
mixed lines others cut = mixed_from 0 lines others cut

length_from : (i : ℕ) (lines others : List (List ℕ)) (cut : ℕ → ℕ) → length (mixed_from i lines others cut) ≡ length lines
length_from i [] others cut = refl
length_from i (line ∷ lines) [] cut = refl
length_from i (line ∷ lines) (other ∷ others) cut = ap suc (length_from (suc i) lines others cut)

pub mixed_length : (lines others : List (List ℕ)) (cut : ℕ → ℕ) → length (mixed lines others cut) ≡ length lines
mixed_length lines others cut = length_from 0 lines others cut

line_from : (i n : ℕ) (lines others : List (List ℕ)) (cut : ℕ → ℕ) → length others ≡ length lines →
    get_or (mixed_from i lines others cut) n [] ≡ cond (cut (i + n) == 0) (get_or lines n []) (get_or others n [])
line_from i n [] [] cut size = both (cut (i + n) == 0)
  where
    both : (b : Bool) → [] ≡ cond {A = List ℕ} b [] []
    both true = refl
    both false = refl
line_from i n [] (other ∷ others) cut size = absurd (omega (arith, size))
line_from i n (line ∷ lines) [] cut size = absurd (omega (arith, size))
line_from i zero (line ∷ lines) (other ∷ others) cut size =
    let at : i ≡ i + 0 = omega arith in
    ap (λ (k : ℕ). cond (cut k == 0) line other) at
line_from i (suc n) (line ∷ lines) (other ∷ others) cut size =
    let at : suc i + n ≡ i + suc n = omega arith in
    line_from (suc i) n lines others cut (omega (arith, size))
    ∙ ap (λ (k : ℕ). cond (cut k == 0) (get_or lines n []) (get_or others n [])) at

pub mixed_line : (lines others : List (List ℕ)) (cut : ℕ → ℕ) (n : ℕ) → length others ≡ length lines →
    line_at (mixed lines others cut) n ≡ cond (cut n == 0) (line_at lines n) (line_at others n)
mixed_line lines others cut n size =
    line_from 0 n lines others cut size ∙ (let at : 0 + n ≡ n = omega arith in ap (λ (k : ℕ). cond (cut k == 0) (line_at lines n) (line_at others n)) at)

pub mixed_decides : (lines others : List (List ℕ)) (cut other : ℕ → ℕ) (n : ℕ) → length others ≡ length lines → other n ≡ cut n →
    line_at (mixed lines others other) n ≡ line_at (mixed lines others cut) n
mixed_decides lines others cut other n size same =
    mixed_line lines others other n size ∙ ap (λ (k : ℕ). cond (k == 0) (line_at lines n) (line_at others n)) same
    ∙ sym (mixed_line lines others cut n size)

either_whole : (b : Bool) (line other : List ℕ) → length line ≡ 64 → length other ≡ 64 → length (cond b line other) ≡ 64
either_whole true line other one two = one
either_whole false line other one two = two

pub mixed_whole : (lines others : List (List ℕ)) (cut : ℕ → ℕ) → length others ≡ length lines → IsMedium lines → IsMedium others → IsMedium (mixed lines others cut)
mixed_whole lines others cut size one two =
    let count = mixed_length lines others cut in
    let least = one.least in
    let most = one.most in
    record {
      least = omega (arith, count, least);
      most = omega (arith, count, most);
      each = record {
        whole = λ n less.
            ap (λ (line : List ℕ). length line) (mixed_line lines others cut n size)
            ∙ either_whole (cut n == 0) (line_at lines n) (line_at others n) (one.each.whole n (omega (arith, count, less)))
            (two.each.whole n (omega (arith, count, less, size)));
      };
    }
