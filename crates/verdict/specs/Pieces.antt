-- What recovery came to at entries of the queue that follow each other.
use Rattle.std.specs.Prelude.{◌≡◌, ℕ, ◌+◌, ◌<◌, Bool, Option, IsSome, List, [], ◌∷◌, ◌++◌, length, take, drop}
use Rattle.std.specs.List.{AllByRecursion}
use Rattle.verdict.specs.Branches.{IsWithin}
use Rattle.verdict.specs.Openings.{AreDecided, AreFlagged, IsBest, Node}
use Rattle.verdict.specs.Queue.{AreRaised, IsTree, branching, cut_at, entry_at}
use Rattle.verdict.specs.declared.branches.pieces.Piece.{Piece}
use Rattle.verdict.specs.declared.branches.question.Question.{Question}
use Rattle.verdict.specs.declared.branches.queue.Entry.{Entry}

-- each entry stands for a cut within the bounds
pub record AreCuts (low high : ℕ → ℕ) (lines : ℕ) (queue : List Entry) : Type 0 where
  pub tree : IsTree lines queue
  pub raised : AreRaised low queue
  pub within : (i : ℕ) → i < length queue → IsWithin low high (cut_at low queue i)

-- a node of the cut of entry i: decided is all that recovery asks of its image
pub record IsAnswer (asks : (ℕ → ℕ) → List Question → Type 0) (low : ℕ → ℕ) (lines : ℕ) (queue : List Entry) (i : ℕ) (v : Node) : Type 0 where
  pub there : i < length queue
  pub cut : v.numbers ≡ cut_at low queue i
  pub asked : asks (cut_at low queue i) v.decided
  pub below : AllByRecursion (λ q. q.line < lines) v.decided

-- nodes of the entries from this one on
abbrev pub AreAnswers : ((ℕ → ℕ) → List Question → Type 0) → (ℕ → ℕ) → ℕ → List Entry → ℕ → List Node → Type 0
AreAnswers asks low lines queue i [] = Unit {0}
AreAnswers asks low lines queue i (v ∷ vs) = IsAnswer asks low lines queue i v × AreAnswers asks low lines queue (i + 1) vs

-- what branches off there, one entry after the other
abbrev pub all_branching : (Question → ℕ → ℕ → Bool) → (ℕ → ℕ) → (ℕ → ℕ) → List Entry → ℕ → List Node → List Entry
all_branching alike low high queue i [] = []
all_branching alike low high queue i (v ∷ vs) =
    branching i alike low high (cut_at low queue i) (take (entry_at queue i).decided v.decided) (drop (entry_at queue i).decided v.decided)
    ++ all_branching alike low high queue (i + 1) vs

-- What recovery came to at the entries from one on: the nodes, whose lines are flagged; the least bad cut of them; and what branches off.
pub record AreRuns {Cause : Type 0} (asks : (ℕ → ℕ) → List Question → Type 0) (judged : (ℕ → ℕ) → Option Cause → Type 0) (alike : Question → ℕ → ℕ → Bool) (low high : ℕ → ℕ) (lines first : ℕ)
    (queue : List Entry) (numbers : List ℕ) (least : Option Cause) (flags : List Bool) (more : List Entry) (done : List Node) : Type 0 where
  pub answers : AreAnswers asks low lines queue first done
  pub asked : AllByRecursion (λ v. AreFlagged flags v.decided) done
  pub best : IsBest judged low high numbers least done
  pub branches : more ≡ all_branching alike low high queue first done

-- that of some nodes, as many as the piece counts
pub record IsPiece {Cause : Type 0} (asks : (ℕ → ℕ) → List Question → Type 0) (judged : (ℕ → ℕ) → Option Cause → Type 0) (alike : Question → ℕ → ℕ → Bool) (low high : ℕ → ℕ) (lines : ℕ)
    (queue : List Entry) (piece : Piece Cause) : Type 0 where
  pub done : List Node
  pub count : length done ≡ piece.count
  pub least_size : IsSome piece.cause → length piece.findings.least ≡ lines
  pub asked_size : length piece.findings.asked ≡ lines
  pub only : AreDecided piece.findings.asked done
  pub runs : AreRuns asks judged alike low high lines piece.first queue piece.findings.least piece.cause piece.findings.asked piece.findings.found.items done
