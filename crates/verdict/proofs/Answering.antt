-- What recovery came to at entries of the queue: what it was while others are taken in, and at entries side by side.
use Rattle.std.proofs.Common.{◌≡◌, ℕ, zero, suc, ◌+◌, ◌≤◌, ◌<◌, List, [], ◌∷◌, ◌++◌, Bool, Option, length, set, take, drop, get_or, refl, sym, ap, subst, ◌∙◌, arith, append_assoc}
use Rattle.std.proofs.lemmas.List.{get_or_append_left, get_or-set_other, length-append, length-set}
use Rattle.std.specs.Prelude.{IfOk, Err, Ok, Result}
use Rattle.verdict.specs.Pieces.{AreAnswers, IsPiece, all_branching}
use Rattle.verdict.specs.Queue.{branching, cut_at, entry, entry_at, IsTree}
use Rattle.verdict.specs.declared.branches.pieces.Piece.{Piece}
use Rattle.verdict.specs.declared.branches.question.Question.{Question}
use Rattle.verdict.specs.declared.branches.queue.Entry.{Entry}
use Rattle.verdict.specs.Openings.{Node}
use Rattle.verdict.proofs.Tables.{cut_more}

-- what holds of a result in two respects
pub both_ok : {T E : Type 0} (r : Result T E) (P Q S : T → Type 0) → IfOk r P → IfOk r Q → ((v : T) → P v → Q v → S v) → IfOk r S
both_ok (Ok v) P Q S p q f = f v p q
both_ok (Err e) P Q S p q f = tt

-- what holds of each item of a list from a place on
abbrev pub AreFrom : {X : Type 0} → (X → Type 0) → ℕ → List X → Type 0
AreFrom {X} Q i xs = (k : ℕ) (d : X) → i ≤ k → k < length xs → Q (get_or xs k d)

-- another item at that place changes none behind it
pub from_next : {X : Type 0} (Q : X → Type 0) (xs : List X) (i : ℕ) (x : X) → AreFrom Q i xs → AreFrom Q (i + 1) (set xs i x)
from_next Q xs i x h k d past less =
    let size = length-set xs i x in
    subst Q (sym (get_or-set_other xs i k x d (λ e. absurd (omega (arith, e, past))))) (h k d (omega (arith, past)) (omega (arith, size, less)))

pub longer_still : (before more queue later next : List Entry) → queue ≡ before ++ more → next ≡ queue ++ later → next ≡ before ++ (more ++ later)
longer_still before more queue later next e f = f ∙ ap (λ (q : List Entry). q ++ later) e ∙ append_assoc before more later

-- all entries of the answers stand in the queue
pub answers_end : (asks : (ℕ → ℕ) → List Question → Type 0) (low : ℕ → ℕ) (lines : ℕ) (queue : List Entry) (i : ℕ) (vs : List Node) → i ≤ length queue →
    AreAnswers asks low lines queue i vs → i + length vs ≤ length queue
answers_end asks low lines queue i [] le a = omega (arith, le)
answers_end asks low lines queue i (v ∷ vs) le a =
    let there = a.0.there in
    let rest = answers_end asks low lines queue (i + 1) vs (omega (arith, there)) a.1 in omega (arith, rest)

-- entries that come later change no answer,
pub answers_later : (asks : (ℕ → ℕ) → List Question → Type 0) (low : ℕ → ℕ) (lines : ℕ) (queue more : List Entry) (i : ℕ) (vs : List Node) → IsTree lines queue →
    AreAnswers asks low lines queue i vs → AreAnswers asks low lines (queue ++ more) i vs
answers_later asks low lines queue more i [] tree a = tt
answers_later asks low lines queue more i (v ∷ vs) tree a =
    let cut : cut_at low (queue ++ more) i ≡ cut_at low queue i = cut_more low queue more i i tree.behind a.0.there in (
      record {
        there = let there = a.0.there in let size = length-append queue more in omega (arith, there, size);
        cut = a.0.cut ∙ sym cut;
        asked = subst (λ (c : ℕ → ℕ). asks c v.decided) (sym cut) a.0.asked;
        below = a.0.below;
      },
      answers_later asks low lines queue more (i + 1) vs tree a.1,
    )

-- and nothing that branches off
pub branching_later : (asks : (ℕ → ℕ) → List Question → Type 0) (alike : Question → ℕ → ℕ → Bool) (low high : ℕ → ℕ) (lines : ℕ) (queue more : List Entry) (i : ℕ) (vs : List Node) → IsTree lines queue →
    AreAnswers asks low lines queue i vs → all_branching alike low high (queue ++ more) i vs ≡ all_branching alike low high queue i vs
branching_later asks alike low high lines queue more i [] tree a = refl
branching_later asks alike low high lines queue more i (v ∷ vs) tree a =
    let same : entry_at (queue ++ more) i ≡ entry_at queue i = get_or_append_left queue more (entry 0 0 0 0) i a.0.there in
    let cut : cut_at low (queue ++ more) i ≡ cut_at low queue i = cut_more low queue more i i tree.behind a.0.there in
    ap (λ (e : Entry). branching i alike low high (cut_at low (queue ++ more) i) (take e.decided v.decided) (drop e.decided v.decided) ++ all_branching alike low high (queue ++ more) (i + 1) vs) same
    ∙ ap (λ (c : ℕ → ℕ). branching i alike low high c (take (entry_at queue i).decided v.decided) (drop (entry_at queue i).decided v.decided) ++ all_branching alike low high (queue ++ more) (i + 1) vs) cut
    ∙ ap (λ (es : List Entry). branching i alike low high (cut_at low queue i) (take (entry_at queue i).decided v.decided) (drop (entry_at queue i).decided v.decided) ++ es)
    (branching_later asks alike low high lines queue more (i + 1) vs tree a.1)

pub answers_join : (asks : (ℕ → ℕ) → List Question → Type 0) (low : ℕ → ℕ) (lines : ℕ) (queue : List Entry) (i : ℕ) (vs ws : List Node) →
    AreAnswers asks low lines queue i vs → AreAnswers asks low lines queue (i + length vs) ws → AreAnswers asks low lines queue i (vs ++ ws)
answers_join asks low lines queue i [] ws a b = subst (λ (n : ℕ). AreAnswers asks low lines queue n ws) (omega arith) b
answers_join asks low lines queue i (v ∷ vs) ws a b =
    (a.0, answers_join asks low lines queue (i + 1) vs ws a.1 (subst (λ (n : ℕ). AreAnswers asks low lines queue n ws) (omega arith) b))

pub branching_join : (alike : Question → ℕ → ℕ → Bool) (low high : ℕ → ℕ) (queue : List Entry) (i : ℕ) (vs ws : List Node) →
    all_branching alike low high queue i (vs ++ ws) ≡ all_branching alike low high queue i vs ++ all_branching alike low high queue (i + length vs) ws
branching_join alike low high queue i [] ws = ap (λ (n : ℕ). all_branching alike low high queue n ws) (omega arith)
branching_join alike low high queue i (v ∷ vs) ws =
    let here : List Entry = branching i alike low high (cut_at low queue i) (take (entry_at queue i).decided v.decided) (drop (entry_at queue i).decided v.decided) in
    let place : (i + 1) + length vs ≡ i + length (v ∷ vs) = omega arith in
    ap (λ (es : List Entry). here ++ es) (branching_join alike low high queue (i + 1) vs ws
    ∙ ap (λ (n : ℕ). all_branching alike low high queue (i + 1) vs ++ all_branching alike low high queue n ws) place)
    ∙ sym (append_assoc here (all_branching alike low high queue (i + 1) vs) (all_branching alike low high queue (i + length (v ∷ vs)) ws))

-- a piece, where more was found since
pub piece_later : {Cause : Type 0} (asks : (ℕ → ℕ) → List Question → Type 0) (judged : (ℕ → ℕ) → Option Cause → Type 0) (alike : Question → ℕ → ℕ → Bool) (low high : ℕ → ℕ) (lines : ℕ)
    (before more queue : List Entry) (piece : Piece Cause) → IsTree lines before → queue ≡ before ++ more →
    IsPiece asks judged alike low high lines before piece → IsPiece asks judged alike low high lines queue piece
piece_later asks judged alike low high lines before more queue piece tree grown p =
    subst (λ (q : List Entry). IsPiece asks judged alike low high lines q piece) (sym grown) (record {
      done = p.done;
      count = p.count;
      least_size = p.least_size;
      asked_size = p.asked_size;
      only = p.only;
      runs = record {
        answers = answers_later asks low lines before more piece.first p.done tree p.runs.answers;
        asked = p.runs.asked;
        best = p.runs.best;
        branches = p.runs.branches ∙ sym (branching_later asks alike low high lines before more piece.first p.done tree p.runs.answers);
      };
    })

-- a piece of a round, where more was found since
pub piece_now : {Cause : Type 0} (asks : (ℕ → ℕ) → List Question → Type 0) (judged : (ℕ → ℕ) → Option Cause → Type 0) (alike : Question → ℕ → ℕ → Bool) (low high : ℕ → ℕ) (lines : ℕ)
    (before more queue : List Entry) (pieces : List (Piece Cause)) (i : ℕ) (piece : Piece Cause) → IsTree lines before → queue ≡ before ++ more → i < length pieces →
    AreFrom (IsPiece asks judged alike low high lines before) i pieces → IsPiece asks judged alike low high lines queue (get_or pieces i piece)
piece_now asks judged alike low high lines before more queue pieces i piece tree grown less h =
    piece_later asks judged alike low high lines before more queue (get_or pieces i piece) tree grown (h i piece (omega arith) less)
