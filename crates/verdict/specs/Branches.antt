-- Branches: classes of cuts of whose images recovery asks the same bytes, and finds them alike.
-- A cut is a number of stores for each line, from the line's lowest number to its highest. A question is of some bytes of a line.
-- `asks c questions` says that recovery asks these of the image of the cut c, in this order; a line may be asked more than once, and each
-- question names just the bytes that it asks itself. `alike q n m` says whether the bytes that q asks are the same for recovery after n of
-- the line's stores as after m.
-- This project's own: crash images (Vinter, USENIX ATC 2022) are told apart only by what recovery looks at.
use Rattle.std.specs.Prelude.{◌≡◌, ℕ, ◌+◌, ◌-◌, ◌≤◌, ◌<◌, ◌==◌, ◌||◌, ◌&&◌, Bool, true, false, not, if◌then◌else◌, zero, suc, Option, Some, None, List, [], ◌∷◌, length, take}
use Rattle.std.specs.List.{AllByRecursion, AllPairs}
use Rattle.verdict.specs.declared.branches.question.Question.{Question}

abbrev pub question : ℕ → ℕ → Question
question line bytes = record { line = line; bytes = bytes }

-- where bytes of a line are asked, it is the same after two numbers of its stores just if the numbers are the same
abbrev pub same_number : Question → ℕ → ℕ → Bool
same_number q n m = (q.bytes == 0) || (n == m)

-- being alike for a question is an equivalence of numbers
pub record IsEquivalence (alike : Question → ℕ → ℕ → Bool) : Type 0 where
  pub itself : (q : Question) (n : ℕ) → alike q n n ≡ true
  pub back : (q : Question) (n m : ℕ) → alike q n m ≡ true → alike q m n ≡ true
  pub on : (q : Question) (n m o : ℕ) → alike q n m ≡ true → alike q m o ≡ true → alike q n o ≡ true

-- none of so many numbers from one on has it
abbrev pub none_of : (ℕ → Bool) → ℕ → ℕ → Bool
none_of holds n zero = true
none_of holds n (suc more) = not (holds n) && none_of holds (n + 1) more

-- no lower number from the floor on is alike to this one
abbrev pub is_first : (ℕ → ℕ → Bool) → ℕ → ℕ → Bool
is_first alike low n = none_of (λ m. alike m n) low (n - low)

-- a line is alike after two numbers of its stores in all that these questions ask of it
abbrev pub all_alike : (Question → ℕ → ℕ → Bool) → ℕ → List Question → ℕ → ℕ → Bool
all_alike alike l [] n m = true
all_alike alike l (q ∷ questions) n m = (if q.line == l then alike q n m else true) && all_alike alike l questions n m

-- two cuts give the lines of these questions numbers that are alike
abbrev pub Agree : (Question → ℕ → ℕ → Bool) → (ℕ → ℕ) → (ℕ → ℕ) → List Question → Type 0
Agree alike k c questions = AllByRecursion (λ q. alike q (k q.line) (c q.line) ≡ true) questions

-- each line stands within its bounds
pub record IsWithin (low high k : ℕ → ℕ) : Type 0 where
  pub least : (l : ℕ) → low l ≤ k l
  pub most : (l : ℕ) → k l ≤ high l

-- what was asked so far, and what was found there, decides what is asked next
abbrev pub IsAdaptive : (Question → ℕ → ℕ → Bool) → ((ℕ → ℕ) → List Question → Type 0) → Type 0
IsAdaptive alike asks = (c k : ℕ → ℕ) (qs rs : List Question) (count : ℕ) → asks c qs → asks k rs → Agree alike k c (take count qs) →
    take (count + 1) rs ≡ take (count + 1) qs

-- of a cut that agrees with another one on all that is asked of that one the same is asked
abbrev pub IsShared : (Question → ℕ → ℕ → Bool) → ((ℕ → ℕ) → List Question → Type 0) → Type 0
IsShared alike asks = (c k : ℕ → ℕ) (questions : List Question) → asks c questions → Agree alike k c questions → asks k questions

-- whether one of the questions is of the line
abbrev pub has_line : ℕ → List Question → Bool
has_line l [] = false
has_line l (q ∷ questions) = (q.line == l) || has_line l questions

-- recovery asks the line of the image of some cut
pub record IsAsked (asks : (ℕ → ℕ) → List Question → Type 0) (low high : ℕ → ℕ) (line : ℕ) : Type 0 where
  pub cut : ℕ → ℕ
  pub questions : List Question
  pub within : IsWithin low high cut
  pub asked : asks cut questions
  pub among : has_line line questions ≡ true

-- recovery asks the same of the images of two cuts, and finds it alike
pub record ShareBranch (alike : Question → ℕ → ℕ → Bool) (asks : (ℕ → ℕ) → List Question → Type 0) (c k : ℕ → ℕ) : Type 0 where
  pub questions : List Question
  pub of_one : asks c questions
  pub of_other : asks k questions
  pub agree : Agree alike k c questions

-- cuts of which no two share a branch
pub record AreApart (alike : Question → ℕ → ℕ → Bool) (asks : (ℕ → ℕ) → List Question → Type 0) (low high : ℕ → ℕ) (cuts : List (ℕ → ℕ)) : Type 0 where
  pub each : AllByRecursion (IsWithin low high) cuts
  pub apart : AllPairs (λ c k. ¬ ShareBranch alike asks c k) cuts

-- there are over so many branches: more cuts than that, of which no two share one
pub record AreOver (alike : Question → ℕ → ℕ → Bool) (asks : (ℕ → ℕ) → List Question → Type 0) (low high : ℕ → ℕ) (limit : ℕ) : Type 0 where
  pub cuts : List (ℕ → ℕ)
  pub more : limit < length cuts
  pub apart : AreApart alike asks low high cuts

-- the order of cuts: the lowest line in which they differ decides
pub record ComesBefore (k c : ℕ → ℕ) : Type 0 where
  pub line : ℕ
  pub lower : k line < c line
  pub same : (m : ℕ) → m < line → k m ≡ c m

-- the least bad cut and its cause: each cut before it is judged well
pub record IsLeastBad {Cause : Type 0} (low high : ℕ → ℕ) (judged : (ℕ → ℕ) → Option Cause → Type 0) (c : ℕ → ℕ) (cause : Cause) : Type 0 where
  pub within : IsWithin low high c
  pub bad : judged c (Some cause)
  pub least : (k : ℕ → ℕ) → IsWithin low high k → ComesBefore k c → judged k None
