use Rattle.std.proofs.Common.{◌≡◌, true, false, Some, sym, ◌∙◌, arith}
use Rattle.schedule_states.proofs.Marking.{out_marked, some_weaker}
use Rattle.schedule_states.proofs.ways.first_stuck.Goals as goal

pub returns-clause-none : goal.returns-clause-none
returns-clause-none c told n few =
    c.mark_back.ensures.sound n (c.first_unmarked.ensures.none told n (omega (arith, few, c.mark_back.ensures.count, c.requires.count)))

pub returns-clause-stuck : goal.returns-clause-stuck
returns-clause-stuck c = some_weaker c.first_unmarked.result _ _ (λ n was leads.
    let both : Some false ≡ Some true = sym was ∙ out_marked c.args.next.now c.args.marks.now c.mark_back.new.marks c.mark_back.ensures.kept c.mark_back.ensures.back n leads in
    absurd cc) c.first_unmarked.ensures.unmarked

pub returns-clause-first : goal.returns-clause-first
returns-clause-first c = some_weaker c.first_unmarked.result _ _ (λ k all n below. c.mark_back.ensures.sound n (all n below)) c.first_unmarked.ensures.first
