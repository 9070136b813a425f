use Rattle.std.proofs.Common.{◌<◌, ◌∙◌, ℕ, List, ap, length, subst, sym}
use Rattle.std.specs.Prelude.{All}
use Rattle.crash_image.specs.Named.{IsNamed}
use Rattle.routine_judge.proofs.OutsideAsking.{named_below}
use Rattle.store_trace.specs.declared.crash_model.step.PersistenceStep.{PersistenceStep}
use Rattle.routine_judge.proofs.outside.judging.OutsideRun.cut_numbers.Goals as goal

pub numbers_of_lines-requires : goal.numbers_of_lines-requires
numbers_of_lines-requires c =
    let i = c.self.inside in
    let v = c.self.invariant in
    let cut = c.in-Ok-named.cut in
    let is = subst (λ (p : List PersistenceStep). IsNamed p c.args.image.now cut) c.in-Ok.ensures.ok.1 c.in-Ok-named.ensures.ok in
    let below = named_below i.medium.now i.trace.now.events c.args.moment c.args.image.now cut v.4 is in
    subst (λ (n : ℕ). All (λ (entry : ℕ × ℕ). entry.0 < n) c.entries.result.now)
    (sym (c.lines.ensures.count ∙ ap (λ (lines : List (List ℕ)). length lines) v.0))
    (subst (λ (es : List (ℕ × ℕ)). All (λ (entry : ℕ × ℕ). entry.0 < length i.medium.now) es) (sym c.entries.ensures) below)
