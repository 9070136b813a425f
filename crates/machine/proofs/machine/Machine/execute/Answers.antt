use Rattle.std.proofs.Common.{◌≡◌, ◌<◌, refl, rules, ap, arith}
use Rattle.std.proofs.lemmas.Option.{slice_get_within}
use Rattle.hart.specs.declared.state.Status.TheVariants.{Running, Trapped}
use Rattle.machine.specs.declared.schedule.items.Step.TheVariants.{Hart}
use Rattle.machine.specs.Refusals.{Refuses}
use Rattle.machine.specs.Represents.{MachineView}
use Rattle.machine.proofs.Refusing.{refused_with_request}
use Rattle.machine.proofs.Stepped.{stepped_alone, stepped_answered, stepped_trap}
use Rattle.machine.proofs.Stepping.{put_there}
use Rattle.machine.proofs.machine.Machine.execute.Goals.{in-Done, in-Stop, in-Ask+in_ok-ask-in-Ask}
use Rattle.machine.proofs.machine.Machine.execute.Goals as goal

pub returns-in-Err-clause-ok : goal.returns-in-Err-clause-ok
returns-in-Err-clause-ok c =
    let s = c.index_mut-state.result.now in
    let harts = ap (λ (m : MachineView). m.harts) c.self.view_is in
    let there = put_there c.args.self.now.harts c.args.hart c.hart.result.now s c.hart.ensures (rw harts at c.index_mut-state.ensures.value) in
    let same : c.hart.result.now ≡ s = search rules in
    let running : s.status ≡ Running = rw there at c.requires.running in
    stepped_trap c.args.self.now _ c.args.hart s (record s { status = Trapped c.in-Err.trap }) c.in-Err.trap there running
    (rw same at (c.in-Err.ensures.traps s)) refl (rw (← c.self.view_is) refl)

pub ask-requires-clause-hart : goal.ask-requires-clause-hart
ask-requires-clause-hart c =
    let harts = ap (λ (m : MachineView). m.harts) c.self.view_is in
    let most = rw harts at c.self.invariant.0 in
    let inside = slice_get_within c.args.self.now.harts c.args.hart c.hart.result.now c.hart.ensures in
    omega arith

pub renew_after-requires-clause-there : goal.renew_after-requires-clause-there
renew_after-requires-clause-there c =
    let harts = ap (λ (m : MachineView). m.harts) c.self.view_is in
    let each = rw harts at c.self.invariant.1 in
    let inside = slice_get_within c.args.self.now.harts c.args.hart c.hart.result.now c.hart.ensures in
    rw each inside

pub returns-clause-ok : goal.returns-clause-ok
returns-clause-ok c =
    let s = c.index_mut-state.result.now in
    let harts = ap (λ (m : MachineView). m.harts) c.self.view_is in
    let there = put_there c.args.self.now.harts c.args.hart c.hart.result.now s c.hart.ensures (rw harts at c.index_mut-state.ensures.value) in
    let same : c.hart.result.now ≡ s = search rules in
    let running : s.status ≡ Running = rw there at c.requires.running in
    let needs = rw same at (c.in-Ok.ensures.needs s) in
    rw c.outcome_of.ensures (elim c.match-advance.branch [
      | in-Done w ↦
          stepped_alone c.args.self.now _ c.args.hart s c.match-advance.state there running (rw (← w.in-Done.ensures.effect, ← w.state-is) at needs)
          (rw (w.self-inside-is, ← c.self.view_is) refl)
      | in-Stop w ↦
          stepped_trap c.args.self.now _ c.args.hart s c.match-advance.state w.in-Stop.trap there running (rw (← w.in-Stop.ensures.effect) at needs)
          (rw w.in-Stop.ensures.kept at w.state-is)
          (rw (w.self-inside-is, ← c.self.view_is) refl)
      | in-Ask+in_ok-ask-in-Ask w ↦
          let copies = ap (λ (m : MachineView). m.copies) c.self.view_is in
          let shared = ap (λ (m : MachineView). m.shared) c.self.view_is in
          let each = rw (copies, harts) at c.self.invariant.1 in
          let most = rw harts at c.self.invariant.0 in
          let inside = slice_get_within c.args.self.now.harts c.args.hart s there in
          let few : c.args.hart < 8 = omega arith in
          let spelled = rw same at c.in-Ok.ensures.spelled in
          stepped_answered c.args.self.now _ w.ask.new.shared c.args.hart s c.match-advance.state c.in-Ok.instr w.in-Ask.request few each
          there running (rw (← w.in-Ask.ensures.effect) at needs) spelled
          (rw (shared, w.in-Ask.ensures.kept, ← w.state-is) at w.in_ok-ask-in-Ask.ensures.ok)
          (rw (w.self-inside-is, w.renew_after.ensures.copies, w.text.ensures.value, ← c.self.view_is) refl)
    ])

pub returns-in_err-ask-in-Ask-clause-refused : goal.returns-in_err-ask-in-Ask-clause-refused
returns-in_err-ask-in-Ask-clause-refused c =
    let s = c.hart.result.now in
    let harts = ap (λ (m : MachineView). m.harts) c.self.view_is in
    let shared = ap (λ (m : MachineView). m.shared) c.self.view_is in
    let there = put_there c.args.self.now.harts c.args.hart s c.index_mut-state.result.now c.hart.ensures (rw harts at c.index_mut-state.ensures.value) in
    let same : c.index_mut-state.result.now ≡ s = search rules in
    let running : s.status ≡ Running = rw c.hart.ensures at c.requires.running in
    let needs = rw (← c.in-Ask.ensures.effect, same) at (c.in-Ok.ensures.needs c.index_mut-state.result.now) in
    let refused : Refuses c.args.self.now (Hart c.args.hart) c.in_err-ask-in-Ask.field-0.0 =
    refused_with_request c.args.self.now c.args.hart s c.in-Ask.request _ c.hart.ensures running needs
    (rw shared at c.in_err-ask-in-Ask.ensures.refused) in search rules
