-- How many contents a power cut can leave a line with.
-- This project's own.
use Rattle.std.specs.Prelude.{◌≡◌, ℕ, zero, suc, ◌+◌, ◌-◌, ◌^◌, ◌++◌, Bool, if◌then◌else◌, List, [], ◌∷◌, codes, decimal, map, take}
use Rattle.std.specs.List.{join_with_byte}
use Rattle.std.specs.List.Sorted.{IsPermutation, IsSorted}
use Rattle.std.specs.Ordering.{nat_cmp, ordering_then}
use Rattle.std.specs.declared.cmp.Ordering.{Ordering}
use Rattle.verdict.specs.Branches.{is_first, question}
use Rattle.verdict.specs.declared.branches.question.Question.{Question}
use Rattle.verdict.specs.declared.moment_verdict.contents.LineContents.{LineContents}

-- how many of so many numbers from one on have it
abbrev pub how_many : (ℕ → Bool) → ℕ → ℕ → ℕ
how_many holds n zero = 0
how_many holds n (suc more) = (if holds n then 1 else 0) + how_many holds (n + 1) more

-- those of a line: that at its floor, and each after a number of stores that no lower one from the floor on is like in all 64 bytes
abbrev pub contents : (Question → ℕ → ℕ → Bool) → (ℕ → ℕ) → (ℕ → ℕ) → ℕ → ℕ
contents alike low high l = 1 + how_many (is_first (alike (question l (2 ^ 64 - 1))) (low l)) (low l + 1) (high l - low l)

abbrev pub with_contents : (Question → ℕ → ℕ → Bool) → (ℕ → ℕ) → (ℕ → ℕ) → ℕ → LineContents
with_contents alike low high l = record { line = l; contents = contents alike low high l }

-- the line with more contents comes first, and of two with as many the lower one
abbrev pub widest_first : LineContents → LineContents → Ordering
widest_first one other = ordering_then (nat_cmp other.contents one.contents) (nat_cmp one.line other.line)

-- the first eight of these lines in that order
pub record AreWidest (alike : Question → ℕ → ℕ → Bool) (low high : ℕ → ℕ) (lines : List ℕ) (named : List LineContents) : Type 0 where
  pub all : List LineContents
  pub same : IsPermutation (map (with_contents alike low high) lines) all
  pub sorted : IsSorted widest_first all
  pub first : named ≡ take 8 all

-- `lN:K`, a line and how many contents it may have
abbrev pub line_text : LineContents → List ℕ
line_text one = codes "l" ++ (decimal one.line ++ (codes ":" ++ decimal one.contents))

-- with a comma between each two; `none` where there is none
abbrev pub widest_text : List LineContents → List ℕ
widest_text [] = codes "none"
widest_text (first ∷ rest) = join_with_byte 44 (map line_text (first ∷ rest))
