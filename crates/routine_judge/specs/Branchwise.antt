-- Recovery over images by line: what the routine loads, and what is found, is the same throughout a branch.
use Rattle.std.proofs.Common.{◌≡◌, ℕ, true, List, Option}
use Rattle.std.specs.Prelude.{◌&&◌, bit_or}
use Rattle.line_memory.specs.Lines.{AreLines}
use Rattle.program.specs.Sections.{Sections}
use Rattle.recovery.proofs.Bytewise.{same_back, same_both, same_itself, same_nowhere, same_on}
use Rattle.recovery.proofs.Imaged.{images_answered}
use Rattle.recovery.specs.Images.{AsksOn, content, has_same_bytes}
use Rattle.routine_judge.specs.ImagesVerdicts.{IsFoundIn}
use Rattle.routine_judge.specs.declared.cause.Cause.{Cause}
use Rattle.routine_judge.specs.declared.right.RightAnswers.{RightAnswers}
use Rattle.verdict.specs.Branches.{Agree, IsEquivalence, question}
use Rattle.verdict.specs.CutImages.{AreByLine}
use Rattle.verdict.specs.declared.branches.question.Question.{Question}

pub bytes_alike : (image : (ℕ → ℕ) → List (List ℕ)) → IsEquivalence (has_same_bytes image)
bytes_alike image = record {
  itself = λ q n. same_itself q.bytes 0 (content image q.line n);
  back = λ q n m h. same_back q.bytes 0 (content image q.line n) (content image q.line m) h;
  on = λ q n m o h g. same_on q.bytes 0 (content image q.line n) (content image q.line m) (content image q.line o) h g;
}

pub bytes_nothing : (image : (ℕ → ℕ) → List (List ℕ)) (l n m : ℕ) → has_same_bytes image (question l 0) n m ≡ true
bytes_nothing image l n m = same_nowhere 0 (content image l n) (content image l m)

pub bytes_both : (image : (ℕ → ℕ) → List (List ℕ)) (l a b n m : ℕ) →
    has_same_bytes image (question l (bit_or a b)) n m ≡ (has_same_bytes image (question l a) n m && has_same_bytes image (question l b) n m)
bytes_both image l a b n m = same_both a b 0 (content image l n) (content image l m)

pub branchwise : (right : RightAnswers) (program : Sections) (steps lines : ℕ) (image : (ℕ → ℕ) → List (List ℕ)) → AreByLine lines image →
    ((cut : ℕ → ℕ) → AreLines (image cut)) → (c k : ℕ → ℕ) (questions : List Question) (found : Option Cause) → AsksOn program steps (image c) questions →
    Agree (has_same_bytes image) k c questions → IsFoundIn right program steps (image c) found → IsFoundIn right program steps (image k) found
branchwise right program steps lines image by whole c k questions found a h f =
    (f.0, images_answered program steps lines image by whole c k questions f.0 a h f.1, f.2)
