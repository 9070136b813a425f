use Rattle.std.proofs.Common.{◌≡◌, ◌∙◌, ◌++◌, ◌∷◌, [], ap, not, refl, true}
use Rattle.std.specs.Result.{is_ok}
use Rattle.plan.proofs.Rules.{line_added}
use Rattle.plan.specs.Plans.{made, with_operation}
use Rattle.plan.proofs.plan.Plan.add.Goals as goal

pub invariant_of-self-2 : goal.invariant_of-self-2
invariant_of-self-2 c =
    let ok : is_ok c.push.result ≡ true = c.is_err.ensures.negation ∙ ap not c.if-is_err.false in
    let grown : c.push.new.self.items ≡ c.self.inside.operations.items ++ made c.in_ok-number.number c.in_ok-number.action ∷ [] = c.push.ensures.items ∙ rw ok refl in
    rw grown (rw (← c.self.view_is) at c.in_ok-number.ensures.rules)

pub returns-clause-ok : goal.returns-clause-ok
returns-clause-ok c =
    let ok : is_ok c.push.result ≡ true = c.is_err.ensures.negation ∙ ap not c.if-is_err.false in
    let grown : c.push.new.self.items ≡ c.self.inside.operations.items ++ made c.in_ok-number.number c.in_ok-number.action ∷ [] = c.push.ensures.items ∙ rw ok refl in
    line_added _ _ _ (made c.in_ok-number.number c.in_ok-number.action) c.in_ok-number.ensures.says c.in_ok-number.ensures.rules
    (rw (← c.self.view_is, grown) refl)

pub returns-then-is_err-clause-memory : goal.returns-then-is_err-clause-memory
returns-then-is_err-clause-memory c e =
    let operation = made c.in_ok-number.number c.in_ok-number.action in
    let grown = with_operation c.args.self.now operation in
    (grown, line_added c.args.self.now grown _ operation c.in_ok-number.ensures.says c.in_ok-number.ensures.rules refl)
