use Rattle.std.proofs.Common.{◌≡◌, eqb, false, true}
use Rattle.std.specs.List.{list_any}
use Rattle.plan.proofs.Rules.{forbidden_by_text, line_forbidden, line_keeps, line_says, line_taken}
use Rattle.plan.proofs.plan.Plan.next_action.Goals as goal

pub returns-then-is_taken-clause-err : goal.returns-then-is_taken-clause-err
returns-then-is_taken-clause-err c =
    let taken : list_any (λ operation. eqb operation.number c.in-Some.wording.number) c.self.inside.operations.items ≡ true = cc in
    rw (← c.self.view_is) (line_taken _ _ c.in-Some.wording c.self.invariant c.in-Some.ensures.some taken)

pub returns-in-Ok-clause-says : goal.returns-in-Ok-clause-says
returns-in-Ok-clause-says c = line_says _ _ c.in-Some.wording _ c.self.invariant c.in-Some.ensures.some c.in-Ok.ensures.ok

pub returns-in-Ok-clause-rules : goal.returns-in-Ok-clause-rules
returns-in-Ok-clause-rules c =
    let free : list_any (λ operation. eqb operation.number c.in-Some.wording.number) c.self.inside.operations.items ≡ false = cc in
    rw (← c.self.view_is) (line_keeps _ _ c.in-Some.wording _ c.self.invariant c.in-Some.ensures.some free c.in-Ok.ensures.ok)

pub returns-in-Err-clause-err : goal.returns-in-Err-clause-err
returns-in-Err-clause-err c =
    let free : list_any (λ operation. eqb operation.number c.in-Some.wording.number) c.self.inside.operations.items ≡ false = cc in
    rw (← c.self.view_is) (line_forbidden _ _ c.in-Some.wording _ c.self.invariant c.in-Some.ensures.some free c.in-Err.ensures.err)

pub returns-in-Err-clause-memory : goal.returns-in-Err-clause-memory
returns-in-Err-clause-memory c = forbidden_by_text _ _ _ c.in-Some.wording _ c.in-Some.ensures.some c.in-Err.ensures.err
