use Rattle.std.proofs.Common.{◌≡◌, true, false, length, refl, sym, ◌∙◌}
use Rattle.std.proofs.lemmas.Option.{slice_get_within}
use Rattle.std.proofs.lemmas.Result.{IfOk-weaker}
use Rattle.machine.specs.Histories.{is_renewing}
use Rattle.schedule_states.proofs.Fetching.{text_same}
use Rattle.schedule_states.proofs.Putting.{lists_more}
use Rattle.schedule_states.specs.HeldLines.{AreBelow}
use Rattle.schedule_states.proofs.parts.Parts.text_after.Goals as goal

pub invariant_of-self : goal.invariant_of-self
invariant_of-self c =
    let lines : AreBelow (length c.self.inside.lines.states) c.args.lines.now = rw (sym c.self.view_is) at c.requires.below in
    let below : AreBelow (length c.self.inside.lines.states) c.in_ok-low-in-FenceI.low.items =
    c.in_ok-low-in-FenceI.ensures.below (length c.self.inside.lines.states) lines in (
      lists_more c.self.inside.lines.states c.self.inside.lists c.number_of.new.self c.in_ok-low-in-FenceI.low.items c.number_of.ensures.appended
          c.number_of.ensures.kept below c.self.invariant.0,
      c.self.invariant.1,
    )

pub returns-in_ok-low-in-FenceI-clause-text : goal.returns-in_ok-low-in-FenceI-clause-text
returns-in_ok-low-in-FenceI-clause-text c = IfOk-weaker c.number_of.result _ _
    (λ number found. record {
      kept = λ h. let both : is_renewing c.args.request ≡ true = rw c.in-FenceI.is refl in let no : true ≡ false = sym both ∙ h in absurd cc;
      renewed = λ h. (
        c.in_ok-low-in-FenceI.low.items,
        found,
        text_same c.self.inside.lines.states c.in_ok-low-in-FenceI.low.items c.args.lines.now _
            c.in_ok-low-in-FenceI.ensures.found,
      );
    }) c.number_of.ensures.number

pub returns-in_ok-low-in-FenceI-clause-there : goal.returns-in_ok-low-in-FenceI-clause-there
returns-in_ok-low-in-FenceI-clause-there c = IfOk-weaker c.number_of.result _ _
    (λ number found. slice_get_within c.number_of.new.self number c.in_ok-low-in-FenceI.low.items found) c.number_of.ensures.number
