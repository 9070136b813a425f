-- What comes of an opening with over so many branches.
use Rattle.std.proofs.Common.{◌≡◌, ℕ, ◌<◌, Bool, true, Option, Some, None, List, [], ◌∷◌, Result, Ok, Err, subst, sym}
use Rattle.std.specs.Prelude.{IfOk}
use Rattle.std.specs.List.{AllByRecursion}
use Rattle.verdict.specs.Branches.{AreOver, IsAsked}
use Rattle.verdict.specs.Edges.{AreAllGood, AreOpen, AreTried, edges}
use Rattle.verdict.specs.Numbers.{has, is_flagged}
use Rattle.verdict.specs.Opened.{ComesOf, IfFew, IsOpened, IsTried}
use Rattle.verdict.specs.Openings.{AreFlagged}
use Rattle.verdict.specs.declared.branches.opener.Opened.{Opened}
use Rattle.verdict.specs.declared.branches.opener.Opened.TheVariants.{Over, OverBad, Pass, Bad}
use Rattle.verdict.specs.declared.branches.question.Question.{Question}

asked_open : (asks : (ℕ → ℕ) → List Question → Type 0) (low high : ℕ → ℕ) (count : ℕ) (flags : List Bool) (lines : List ℕ) → AreOpen low high count lines →
    AllByRecursion (λ l. is_flagged l flags ≡ true) lines → ((l : ℕ) → is_flagged l flags ≡ true → IsAsked asks low high l) →
    AllByRecursion (λ l. IsAsked asks low high l × (low l < high l)) lines
asked_open asks low high count flags [] past flagged only = tt
asked_open asks low high count flags (l ∷ lines) past flagged only =
    ((only l flagged.0, past.0.1), asked_open asks low high count flags lines past.1 flagged.1 only)

open_asked : (low high : ℕ → ℕ) (flags : List Bool) (lines : List ℕ) (qs : List Question) →
    ((l : ℕ) → is_flagged l flags ≡ true → low l < high l → has l lines ≡ true) → AreFlagged flags qs →
    AllByRecursion (λ q. low q.line < high q.line → has q.line lines ≡ true) qs
open_asked low high flags lines [] all flagged = tt
open_asked low high flags lines (q ∷ qs) all flagged = (all q.line flagged.0, open_asked low high flags lines qs all flagged.1)

module _ {Cause : Type 0} (asks : (ℕ → ℕ) → List Question → Type 0) (judged : (ℕ → ℕ) → Option Cause → Type 0) (low high : ℕ → ℕ) (count : ℕ) where
  -- the asked lines with stores past their floors, where their edge images are good
  tried : (flags : List Bool) (lines : List ℕ) → AreOpen low high count lines → AllByRecursion (λ l. is_flagged l flags ≡ true) lines →
      ((l : ℕ) → is_flagged l flags ≡ true → low l < high l → has l lines ≡ true) → ((l : ℕ) → is_flagged l flags ≡ true → IsAsked asks low high l) →
      ((qs : List Question) → asks low qs → AreFlagged flags qs) → AreAllGood judged (edges low high lines) → AreTried asks judged low high lines
  tried flags lines past flagged all only floors good = record {
    asked = asked_open asks low high count flags lines past flagged only;
    at_floors = λ qs h. open_asked low high flags lines qs all (floors qs h);
    good = good;
  }

  pub tried_of : {E : Type 0} (further : Bool) (least : Option Cause) (flags : List Bool) (lines : List ℕ) (r : Result (Opened Cause) E) → further ≡ true → least ≡ None → AreOpen low high count lines →
      AllByRecursion (λ l. is_flagged l flags ≡ true) lines → ((l : ℕ) → is_flagged l flags ≡ true → low l < high l → has l lines ≡ true) →
      ((l : ℕ) → is_flagged l flags ≡ true → IsAsked asks low high l) → ((qs : List Question) → asks low qs → AreFlagged flags qs) →
      IfOk r (ComesOf judged low high count lines) → IfOk r (IsTried further asks judged low high count least)
  tried_of further least flags lines (Ok (Over None)) u none past flagged all only floors c = absurd c
  tried_of further least flags lines (Ok (Over (Some theirs))) u none past flagged all only floors c =
      subst (λ (ls : List ℕ). (further ≡ true) × AreTried asks judged low high ls × AreOpen low high count ls × (least ≡ None)) (sym c.0)
      (u, tried flags lines past flagged all only floors c.1, past, none)
  tried_of further least flags lines (Ok (OverBad numbers cause)) u none past flagged all only floors c = (u, c.0, c.1, rw none tt)
  tried_of further least flags lines (Ok Pass) u none past flagged all only floors c = absurd c
  tried_of further least flags lines (Ok (Bad numbers cause)) u none past flagged all only floors c = absurd c
  tried_of further least flags lines (Err e) u none past flagged all only floors c = tt

  -- that there are over so many branches
  pub opened_of : {E : Type 0} (further : Bool) (least : Option Cause) (alike : Question → ℕ → ℕ → Bool) (limit : ℕ) (r : Result (Opened Cause) E) → AreOver alike asks low high limit →
      IfOk r (IsTried further asks judged low high count least) → IfOk r (IsOpened further alike asks judged low high count limit)
  opened_of further least alike limit (Ok (Over None)) over t = (over, t)
  opened_of further least alike limit (Ok (Over (Some lines))) over t = (over, t.0, t.1, t.2)
  opened_of further least alike limit (Ok (OverBad numbers cause)) over t = (over, t.0, t.1, t.2)
  opened_of further least alike limit (Ok Pass) over t = absurd t
  opened_of further least alike limit (Ok (Bad numbers cause)) over t = absurd t
  opened_of further least alike limit (Err e) over t = tt

  pub few_of_none : {E : Type 0} (further : Bool) (least : Option Cause) (claim : Type 0) (r : Result (Opened Cause) E) → IfOk r (IsTried further asks judged low high count least) →
      IfOk r (λ opened. IfFew opened claim)
  few_of_none further least claim (Ok (Over lines)) t = tt
  few_of_none further least claim (Ok (OverBad numbers cause)) t = tt
  few_of_none further least claim (Ok Pass) t = absurd t
  few_of_none further least claim (Ok (Bad numbers cause)) t = absurd t
  few_of_none further least claim (Err e) t = tt
