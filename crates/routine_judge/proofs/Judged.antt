-- What the tests of a word say.
use Rattle.std.proofs.Common.{◌≡◌, ◌∙◌, Bool, List, map, true, false, sym, subst, true≢false}
use Rattle.std.specs.Prelude.{◌↔◌, IsTrue}
use Rattle.routine_judge.proofs.Fitted.{all_ended, all_follow, fitting}
use Rattle.routine_judge.specs.Fitting.{Fits, HasAllEnded, IsWordOf, MayFollowAll}
use Rattle.routine_judge.specs.Order.{AreAtRest, AreOperations, begun_of}
use Rattle.routine_judge.specs.declared.order.entry.Entry.{Entry}
use Rattle.routine_judge.specs.declared.order.operation.Operation.{Operation}
use Rattle.routine_judge.specs.declared.order.word.Word.{Word}
use Rattle.store_trace.specs.declared.event.Event.{Event}

pub fits_then : (w p : List Event) (word : Word) (entries seen : List Entry) (listed : List Operation) (over follow : Bool) → listed ≡ word.operations.items →
    seen ≡ entries → IsWordOf w word → AreAtRest w → AreOperations p (map begun_of entries) → IsTrue over ↔ HasAllEnded (map begun_of seen) listed → over ≡ true →
    IsTrue follow ↔ MayFollowAll (map begun_of entries) listed → IsTrue follow ↔ Fits w p
fits_then w p word entries seen listed over follow same alike is rest h ends so follows =
    let its = is.begins ∙ sym same in (
      λ t.
          let all : HasAllEnded (map begun_of entries) listed = subst (λ (es : List Entry). HasAllEnded (map begun_of es) listed) alike (ends.0 so) in
          fitting w is.sound p (map begun_of entries) rest h
          (subst (λ (os : List Operation). HasAllEnded (map begun_of entries) os) (sym its) all)
          (subst (λ (os : List Operation). MayFollowAll (map begun_of entries) os) (sym its) (follows.0 t)),
      λ f. follows.1 (subst (λ (os : List Operation). MayFollowAll (map begun_of entries) os) its (all_follow w is.sound p (map begun_of entries) h f)),
    )

pub fits_else : (w p : List Event) (word : Word) (entries seen : List Entry) (listed : List Operation) (over : Bool) → listed ≡ word.operations.items →
    seen ≡ entries → IsWordOf w word → AreOperations p (map begun_of entries) → IsTrue over ↔ HasAllEnded (map begun_of seen) listed → over ≡ false →
    IsTrue over ↔ Fits w p
fits_else w p word entries seen listed over same alike is h ends so =
    let its = is.begins ∙ sym same in (
      λ t. absurd (true≢false (sym t ∙ so)),
      λ f.
          let all : HasAllEnded (map begun_of entries) listed =
          subst (λ (os : List Operation). HasAllEnded (map begun_of entries) os) its (all_ended w is.sound p (map begun_of entries) h f) in
          ends.1 (subst (λ (es : List Entry). HasAllEnded (map begun_of es) listed) (sym alike) all),
    )
