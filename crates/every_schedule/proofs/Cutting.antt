-- The images of a state, line by line.
use Rattle.std.proofs.Common.{◌≡◌, inl, inr, ℕ, zero, suc, ◌+◌, ◌<◌, List, [], ◌∷◌, length, refl, sym, ap, ◌∙◌, arith}
use Rattle.std.proofs.lemmas.Bool.{cases_lt}
use Rattle.std.proofs.lemmas.List.{get_or_past}
use Rattle.line_memory.specs.Lines.{line_at}
use Rattle.schedule_states.specs.Images.{content_of, image_from, image_in, line_in}
use Rattle.schedule_states.specs.Memories.{MemoryView}

image_from_long : (m : MemoryView) (k : ℕ → ℕ) (i : ℕ) (lines : List (List ℕ)) → length (image_from m k i lines) ≡ length lines
image_from_long m k i [] = refl
image_from_long m k i (line ∷ lines) = ap (λ (n : ℕ). suc n) (image_from_long m k (suc i) lines)

pub image_long : (m : MemoryView) (k : ℕ → ℕ) → length (image_in m k) ≡ length m.start.medium
image_long m k = image_from_long m k 0 m.start.medium

line_from : (m : MemoryView) (k : ℕ → ℕ) (i : ℕ) (lines : List (List ℕ)) (l : ℕ) → l < length lines →
    line_at (image_from m k i lines) l ≡ content_of (line_at lines l) (line_in m (i + l)) (k (i + l))
line_from m k i [] l there = absurd (omega (arith, there))
line_from m k i (line ∷ lines) zero there = let here : i + 0 ≡ i = omega arith in rw here refl
line_from m k i (line ∷ lines) (suc l) there =
    let next : i + suc l ≡ suc i + l = omega arith in
    rw next (line_from m k (suc i) lines l (omega (arith, there)))

-- a line has its content
pub line_is : (m : MemoryView) (k : ℕ → ℕ) (l : ℕ) → l < length m.start.medium →
    line_at (image_in m k) l ≡ content_of (line_at m.start.medium l) (line_in m l) (k l)
line_is m k l there =
    let same : 0 + l ≡ l = omega arith in
    rw same at (line_from m k 0 m.start.medium l there)

-- its number alone decides its bytes
pub line_decides : (m : MemoryView) (cut other : ℕ → ℕ) (l : ℕ) → other l ≡ cut l → line_at (image_in m other) l ≡ line_at (image_in m cut) l
line_decides m cut other l same = elim (cases_lt l (length m.start.medium)) [
  | inl there ↦ line_is m other l there ∙ ap (λ (n : ℕ). content_of (line_at m.start.medium l) (line_in m l) n) same ∙ sym (line_is m cut l there)
  | inr past ↦ get_or_past (image_in m other) l [] (rw (image_long m other) past) ∙ sym (get_or_past (image_in m cut) l [] (rw (image_long m cut) past))
]
