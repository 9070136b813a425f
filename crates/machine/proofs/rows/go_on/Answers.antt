use Rattle.std.proofs.Common.{◌≡◌, ◌+◌, None, inl, inr, refl, arith, ◌∙◌}
use Rattle.machine.proofs.RowsMade.{one_more_of}
use Rattle.machine.specs.Rows.{IsStepOf}
use Rattle.machine.specs.Represents.{text_bytes}
use Rattle.machine.proofs.rows.go_on.Goals.{in-Done, in-Ask+in-Quietly}
use Rattle.machine.proofs.rows.go_on.Goals as goal

pub returns-in-Exited : goal.returns-in-Exited
returns-in-Exited c =
    let s = c.loop-made.state in
    let needs = c.in-Ok.ensures.needs s in
    let made : IsStepOf (text_bytes c.args.copy.now) c.args.hart s c.match-advance.state c.loop-made.shared c.match-advance.shared
    × (c.match-advance.shared.trace ≡ c.loop-made.shared.trace) = elim c.match-advance.branch [
      | in-Done w ↦ (
        record { running = c.loop-made.invariant.running; made = inl (rw (← w.in-Done.ensures.effect, ← w.state-is) at needs, w.shared-is) },
        rw w.shared-is refl,
      )
      | in-Ask+in-Quietly w ↦
          let answer = rw (w.in-Quietly.is, w.in-Ask.ensures.kept, ← w.state-is, ← w.shared-is) at w.answer.ensures in (
            record {
              running = c.loop-made.invariant.running;
              made = inr (record {
                instr = c.in-Ok.instr;
                request = w.in-Ask.request;
                width = w.in-Ask.ensures.request;
                kept = answer.1;
                needs = rw (← w.in-Ask.ensures.effect) at needs;
                spelled = c.in-Ok.ensures.spelled;
                answers = answer.0;
              });
            },
            answer.2,
          )
    ] in
    let quiet : c.quiet-in-Exited.result ≡ record { steps = c.loop-made.made + 1; event_pc = None } = c.quiet-in-Exited.ensures in
    record {
      most = rw quiet (omega arith);
      row = rw quiet (one_more_of _ _ _ _ _ _ _ _ _ c.loop-made.invariant.steps made.0, made.1 ∙ c.loop-made.invariant.same);
    }

pub loop-made-preserved : goal.loop-made-preserved
loop-made-preserved c =
    let s = c.loop-made.state in
    let needs = c.in-Ok.ensures.needs s in
    let made : IsStepOf (text_bytes c.args.copy.now) c.args.hart s c.match-advance.state c.loop-made.shared c.match-advance.shared
    × (c.match-advance.shared.trace ≡ c.loop-made.shared.trace) = elim c.match-advance.branch [
      | in-Done w ↦ (
        record { running = c.loop-made.invariant.running; made = inl (rw (← w.in-Done.ensures.effect, ← w.state-is) at needs, w.shared-is) },
        rw w.shared-is refl,
      )
      | in-Ask+in-Quietly w ↦
          let answer = rw (w.in-Quietly.is, w.in-Ask.ensures.kept, ← w.state-is, ← w.shared-is) at w.answer.ensures in (
            record {
              running = c.loop-made.invariant.running;
              made = inr (record {
                instr = c.in-Ok.instr;
                request = w.in-Ask.request;
                width = w.in-Ask.ensures.request;
                kept = answer.1;
                needs = rw (← w.in-Ask.ensures.effect) at needs;
                spelled = c.in-Ok.ensures.spelled;
                answers = answer.0;
              });
            },
            answer.2,
          )
    ] in
    record {
      steps = one_more_of _ _ _ _ _ _ _ _ _ c.loop-made.invariant.steps made.0;
      same = made.1 ∙ c.loop-made.invariant.same;
      running = c.in-Running.is;
    }
