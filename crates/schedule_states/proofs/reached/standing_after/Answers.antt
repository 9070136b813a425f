use Rattle.std.proofs.Common.{◌≡◌, ◌++◌, ◌∷◌, [], List, Some, sym, ◌∙◌, subst, rules}
use Rattle.std.proofs.lemmas.Option.{get_or_from_slice_get, slice_get_within}
use Rattle.store_trace.specs.declared.event.Event.{Event}
use Rattle.schedule_states.proofs.reached.standing_after.Goals as goal

pub returns-in_ok-number_of-in-Some-2-clause-after : goal.returns-in_ok-number_of-in-Some-2-clause-after
returns-in_ok-number_of-in-Some-2-clause-after g c t kept =
    let number = c.in_ok-number_of-in-Some-2.ensures.number in
    let is : c.args.mark ≡ Some c.in-Some.mark = c.in-Some.is in
    let index : c.index-as_slice-standing.result ≡ t = (rw c.as_slice.ensures at c.index-as_slice-standing.is)
    ∙ get_or_from_slice_get c.args.known.now c.args.standing t c.index-as_slice-standing.result kept in
    let after : (events : List Event) → g.J.StateJudge.stands c.args.judge.now c.index-as_slice-standing.result events →
    g.J.StateJudge.stands c.args.judge.now c.in-Some-2.next (events ++ c.in-Some.mark ∷ []) = search rules in (
      number.found,
      number.here,
      λ events more marked stands.
          let one : more ≡ events ++ c.in-Some.mark ∷ [] = (rw is at marked).1 in
          let on : g.J.StateJudge.stands c.args.judge.now c.in-Some-2.next (events ++ c.in-Some.mark ∷ []) =
          after events (subst (λ (x : _). g.J.StateJudge.stands c.args.judge.now x events) (sym index) stands) in
          g.met.J.StateJudge.equal c.args.judge.now c.in-Some-2.next number.found more number.equal
          (subst (λ (es : List Event). g.J.StateJudge.stands c.args.judge.now c.in-Some-2.next es) (sym one) on),
    )

pub returns-in_ok-number_of-in-Some-2-clause-there : goal.returns-in_ok-number_of-in-Some-2-clause-there
returns-in_ok-number_of-in-Some-2-clause-there g c =
    let number = c.in_ok-number_of-in-Some-2.ensures.number in
    slice_get_within c.number_of.new.self c.in_ok-number_of-in-Some-2.field-0 number.found number.here
