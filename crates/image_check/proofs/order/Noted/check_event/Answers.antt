use Rattle.std.proofs.Common.{◌≡◌, None, inl, inr, ap}
use Rattle.store_trace.specs.Marks.{begun_by}
use Rattle.store_trace.specs.declared.event.Event.{Event}
use Rattle.image_check.proofs.Settling.{noted_still, on_ok}
use Rattle.image_check.proofs.order.Noted.check_event.Goals as goal

pub returns-in-End-clause-noted : goal.returns-in-End-clause-noted
returns-in-End-clause-noted c =
    on_ok c.check_end.result (noted_still c.args.before.now c.args.event c.args.self.now (ap (λ (x : Event). begun_by x) c.in-End.is) c.requires.noted)

pub returns-in-Store-clause-noted : goal.returns-in-Store-clause-noted
returns-in-Store-clause-noted c =
    let none : begun_by c.args.event ≡ None = elim c.in-Store.is [
      | inl store ↦ ap (λ (x : Event). begun_by x) store.5
      | inr other ↦ elim other [
        | inl clean ↦ ap (λ (x : Event). begun_by x) clean.2
        | inr fence ↦ ap (λ (x : Event). begun_by x) fence.1
      ]
    ] in
    noted_still c.args.before.now c.args.event c.args.self.now none c.requires.noted
