use Rattle.std.proofs.Common.{◌≡◌, Some, ap, sym, ◌∙◌}
use Rattle.std.proofs.lemmas.Result.{IfOk-weaker}
use Rattle.schedule_states.proofs.Numbering.{numbered_more}
use Rattle.schedule_states.specs.Covering.{ReachedView}
use Rattle.schedule_states.specs.Reaching.{AreThere}
use Rattle.schedule_states.specs.declared.program_state.StateNumbers.{StateNumbers}
use Rattle.schedule_states.proofs.reached.Reached.number_of.Goals as goal

pub invariant_of-self : goal.invariant_of-self
invariant_of-self g c =
    let old : ReachedView _ = record { parts = c.self.inside.parts; hart_parts = c.self.inside.hart_parts; standings = c.self.inside.standings; states = c.self.inside.states; harts = c.self.inside.leads } in
    let there : AreThere old c.args.numbers = rw (sym c.self.view_is) at c.requires.there in
    numbered_more old c.number_of.new.self c.args.numbers c.self.invariant there c.number_of.ensures.appended

pub returns-clause-number : goal.returns-clause-number
returns-clause-number g c = IfOk-weaker c.number_of.result _ _ (λ number has.
    let same : c.args.numbers ≡ has.found = c.equal_numbers_are_same.ensures c.args.numbers has.found has.equal in
    has.here ∙ ap (λ (x : StateNumbers). Some x) (sym same)) c.number_of.ensures.number
