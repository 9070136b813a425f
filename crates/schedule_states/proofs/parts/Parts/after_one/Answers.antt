use Rattle.std.proofs.Common.{◌≡◌, ◌≢◌, ◌<◌, Some, [], length, slice_get, slice_index_or, refl, ◌∙◌, ap, sym, subst, arith, rules}
use Rattle.std.proofs.lemmas.Result.{IfOk-weaker}
use Rattle.std.proofs.lemmas.Option.{slice_get-get_or}
use Rattle.hart.specs.declared.state.Status.TheVariants.{Running}
use Rattle.machine.specs.Histories.{text_of}
use Rattle.schedule_states.proofs.Answered.{stopped_asks_not}
use Rattle.schedule_states.proofs.Happening.{if_state}
use Rattle.schedule_states.specs.Ahead.{IsNext}
use Rattle.schedule_states.specs.Claims.{KeepsClaims, claim_in}
use Rattle.schedule_states.specs.Successors.{IsAskingOf, memory_held}
use Rattle.schedule_states.specs.declared.ahead.Next.TheVariants as nexts
use Rattle.schedule_states.specs.declared.program_state.HartPart.{HartPart}
use Rattle.schedule_states.proofs.parts.Parts.after_one.Goals as goal

pub returns-in-Stopped-clause-successor : goal.returns-in-Stopped-clause-successor
returns-in-Stopped-clause-successor c =
    let part : slice_get c.args.state.now.harts.items c.args.hart ≡ Some c.index-part.result.now =
    slice_get-get_or c.args.state.now.harts.items c.args.hart c.index-part.result.now c.requires.there
    ∙ ap (λ (p : HartPart). Some p) (sym c.index-part.ensures) in
    let stopped : c.index-part.result.now.state.status ≢ Running = rw c.in-Stopped.is at c.in-Some.ensures in
    λ k d. stopped_asks_not c.args.self.now c.args.state.now k d c.args.hart c.index-part.result.now part stopped

pub returns-else-not-keeps-clause-asks : goal.returns-else-not-keeps-clause-asks
returns-else-not-keeps-clause-asks c =
    let next : IsNext (text_of (memory_held c.args.self.now (slice_index_or c.args.self.now.lists c.index-part.result.now.text []))) c.index-part.result.now.state
    (nexts.Asks c.in-Asks.instr c.in-Asks.request) = rw c.in-Asks.is at c.in-Some.ensures in
    let asking : IsAskingOf c.args.self.now c.args.state.now (record { hart = c.args.hart; part = c.index-part.result.now; instr = c.in-Asks.instr; request = c.in-Asks.request }) =
    record {
      few = omega (arith, c.requires.there, c.requires.few);
      text = subst (λ (part : HartPart). part.text < length c.args.self.now.lists) (sym c.index-part.ensures)
          (c.requires.lists.texts c.args.hart c.index-part.result.now c.requires.there);
      part = slice_get-get_or c.args.state.now.harts.items c.args.hart c.index-part.result.now c.requires.there
          ∙ ap (λ (p : HartPart). Some p) (sym c.index-part.ensures);
      asks = next.0;
      spelled = next.1;
      request = next.2;
    } in
    let keeps : KeepsClaims (claim_in c.args.self.now.claims) c.args.hart c.in-Asks.request = search rules in
    IfOk-weaker c.serve.result _ _ (λ found count. if_state found _ ((record { hart = c.args.hart; part = c.index-part.result.now; instr = c.in-Asks.instr; request = c.in-Asks.request }, refl, asking), keeps))
    c.serve.ensures.harts
