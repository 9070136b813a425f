-- An opening so far: nodes, each the cut that its run finds and the nodes that branch off it. Those of the queue's entries before a
-- place are finished, and the others are left; together they split the cuts.
use Rattle.std.specs.Prelude.{◌≡◌, ◌⊎◌, ℕ, ◌<◌, ◌≤◌, Bool, true, false, Option, Some, None, List, [], ◌∷◌, ◌++◌, length, map, take, drop, slice_index_or}
use Rattle.std.specs.List.{AllByRecursion}
use Rattle.verdict.specs.Branches.{Agree, ComesBefore, IsWithin, all_alike, has_line}
use Rattle.verdict.specs.Numbers.{AreAbove, is_flagged, number_over}
use Rattle.verdict.specs.Queue.{AreRaised, IsTree, branching, cut_at, entry_at}
use Rattle.verdict.specs.declared.branches.question.Question.{Question}
use Rattle.verdict.specs.declared.branches.queue.Entry.{Entry}

-- Cuts that agree with this one on the decided questions, the first that are asked. The lines that none of them asks stand at their floors.
pub record Node : Type 0 where
  pub numbers : ℕ → ℕ
  pub decided : List Question

-- which cuts a node stands for
abbrev pub Holds : (Question → ℕ → ℕ → Bool) → (ℕ → ℕ) → Node → Type 0
Holds alike k v = Agree alike k v.numbers v.decided

abbrev pub Covers : (Question → ℕ → ℕ → Bool) → (ℕ → ℕ) → List Node → Type 0
Covers alike k [] = ⊥
Covers alike k (v ∷ vs) = Holds alike k v ⊎ Covers alike k vs

-- it is one of the questions
abbrev pub IsAmong : Question → List Question → Type 0
IsAmong q [] = ⊥
IsAmong q (x ∷ questions) = (x ≡ q) ⊎ IsAmong q questions

-- two nodes that no cut is of
pub record Conflict (alike : Question → ℕ → ℕ → Bool) (v w : Node) : Type 0 where
  pub question : Question
  pub here : IsAmong question v.decided
  pub there : IsAmong question w.decided
  pub differ : alike question (v.numbers question.line) (w.numbers question.line) ≡ false

abbrev pub Apart : (Question → ℕ → ℕ → Bool) → List Node → Type 0
Apart alike [] = Unit {0}
Apart alike (v ∷ vs) = AllByRecursion (Conflict alike v) vs × Apart alike vs

-- each number is the least from the floor on of those that are alike to it in all that is decided
abbrev pub AreLeast : (Question → ℕ → ℕ → Bool) → (ℕ → ℕ) → Node → Type 0
AreLeast alike low v = (l n : ℕ) → low l ≤ n → n < v.numbers l → all_alike alike l v.decided n (v.numbers l) ≡ false

-- a list with something before it
pub record Begins (qs front : List Question) : Type 0 where
  pub rest : List Question
  pub begins : qs ≡ front ++ rest

-- the decided questions of a node are the first that are asked of its cut, and lines of no such question stand at their floors
pub record IsNode (alike : Question → ℕ → ℕ → Bool) (asks : (ℕ → ℕ) → List Question → Type 0) (low high : ℕ → ℕ) (v : Node) : Type 0 where
  pub within : IsWithin low high v.numbers
  pub begins : (qs : List Question) → asks v.numbers qs → Begins qs v.decided
  pub free : (l : ℕ) → has_line l v.decided ≡ false → v.numbers l ≡ low l
  pub least : AreLeast alike low v

-- all that is asked of its cut is decided
pub record IsFinished (alike : Question → ℕ → ℕ → Bool) (asks : (ℕ → ℕ) → List Question → Type 0) (low high : ℕ → ℕ) (v : Node) : Type 0 where
  pub within : IsWithin low high v.numbers
  pub asked : asks v.numbers v.decided
  pub at_floor : (l : ℕ) → has_line l v.decided ≡ false → v.numbers l ≡ low l
  pub least : AreLeast alike low v

-- every cut is of just one of the nodes
pub record Split (alike : Question → ℕ → ℕ → Bool) (asks : (ℕ → ℕ) → List Question → Type 0) (low high : ℕ → ℕ) (done left : List Node) : Type 0 where
  pub finished : AllByRecursion (IsFinished alike asks low high) done
  pub nodes : AllByRecursion (IsNode alike asks low high) left
  pub apart : Apart alike (done ++ left)
  pub covers : (k : ℕ → ℕ) → IsWithin low high k → Covers alike k (done ++ left)

abbrev pub cuts_of : List Node → List (ℕ → ℕ)
cuts_of vs = map (λ v. v.numbers) vs

-- a node's cut passes, or doesn't come before this one
abbrev pub IsPast : {Cause : Type 0} → ((ℕ → ℕ) → Option Cause → Type 0) → (ℕ → ℕ) → Node → Type 0
IsPast judged best v = judged v.numbers None ⊎ (¬ ComesBefore v.numbers best)

-- the least bad cut of the finished nodes, with its cause
abbrev pub IsBest : {Cause : Type 0} → ((ℕ → ℕ) → Option Cause → Type 0) → (ℕ → ℕ) → (ℕ → ℕ) → List ℕ → Option Cause → List Node → Type 0
IsBest judged low high numbers None done = AllByRecursion (λ v. judged v.numbers None) done
IsBest judged low high numbers (Some cause) done =
    IsWithin low high (number_over low numbers) × judged (number_over low numbers) (Some cause) × AreAbove low numbers
    × AllByRecursion (IsPast judged (number_over low numbers)) done

-- the line of each question is flagged
abbrev pub AreFlagged : List Bool → List Question → Type 0
AreFlagged flags questions = AllByRecursion (λ q. is_flagged q.line flags ≡ true) questions

-- a line is one of which some of these nodes decide a question
abbrev pub SomeDecides : ℕ → List Node → Type 0
SomeDecides line [] = ⊥
SomeDecides line (v ∷ vs) = (has_line line v.decided ≡ true) ⊎ SomeDecides line vs

-- each flagged line is such a one
abbrev pub AreDecided : List Bool → List Node → Type 0
AreDecided flags vs = (line : ℕ) → is_flagged line flags ≡ true → SomeDecides line vs

-- The nodes of the queue's entries: those of the entries before the place are finished, and the others are left.
pub record AreNodes (alike : Question → ℕ → ℕ → Bool) (asks : (ℕ → ℕ) → List Question → Type 0) (low high : ℕ → ℕ) (lines at : ℕ) (queue : List Entry) (done left : List Node) : Type 0 where
  pub split : Split alike asks low high done left
  pub size : length done ≡ at
  pub tree : IsTree lines queue
  pub raised : AreRaised low queue
  pub same : length (cuts_of (done ++ left)) ≡ length queue
  pub cuts : (i : ℕ) → i < length queue → slice_index_or (cuts_of (done ++ left)) i low ≡ cut_at low queue i
  pub counts : map (λ v. length v.decided) left ≡ map (λ e. e.decided) (drop at queue)

-- An opening: its nodes, the lines asked of the finished ones, and the least bad cut of these.
pub record IsOpening {Cause : Type 0} (alike : Question → ℕ → ℕ → Bool) (asks : (ℕ → ℕ) → List Question → Type 0) (judged : (ℕ → ℕ) → Option Cause → Type 0) (low high : ℕ → ℕ) (lines at : ℕ)
    (queue : List Entry) (numbers : List ℕ) (least : Option Cause) (flags : List Bool) (done left : List Node) : Type 0 where
  pub nodes : AreNodes alike asks low high lines at queue done left
  pub asked : AllByRecursion (λ v. AreFlagged flags v.decided) done
  pub only : AreDecided flags done
  pub best : IsBest judged low high numbers least done

-- what one run of recovery came to
pub record IsRun {Cause : Type 0} (asks : (ℕ → ℕ) → List Question → Type 0) (judged : (ℕ → ℕ) → Option Cause → Type 0) (alike : Question → ℕ → ℕ → Bool) (low high : ℕ → ℕ) (lines at : ℕ)
    (queue : List Entry) (numbers : List ℕ) (questions : List Question) (more : List Entry) (found : Option Cause) : Type 0 where
  pub cut : number_over low numbers ≡ cut_at low queue at
  pub above : AreAbove low numbers
  pub asked : asks (cut_at low queue at) questions
  pub below : AllByRecursion (λ q. q.line < lines) questions
  pub judges : judged (cut_at low queue at) found
  pub branches : more ≡ branching at alike low high (cut_at low queue at) (take (entry_at queue at).decided questions) (drop (entry_at queue at).decided questions)

-- some nodes of an opening
pub record IsAt {Cause : Type 0} (alike : Question → ℕ → ℕ → Bool) (asks : (ℕ → ℕ) → List Question → Type 0) (judged : (ℕ → ℕ) → Option Cause → Type 0) (low high : ℕ → ℕ) (lines at : ℕ)
    (queue : List Entry) (numbers : List ℕ) (least : Option Cause) (flags : List Bool) : Type 0 where
  pub done : List Node
  pub left : List Node
  pub opening : IsOpening alike asks judged low high lines at queue numbers least flags done left
