use Rattle.std.proofs.Common.{◌≡◌, ◌∙◌, sym, arith, eqb-true, eq-eqb, vec_len}
use Rattle.routine_judge.proofs.Entering.{none_begun}
use Rattle.routine_judge.proofs.order.precedence.Precedence.is_empty.Goals as goal

pub returns : goal.returns
returns c = λ events ordered.
    let v = c.args.self.now.entries in
    none_begun events v.items c.is_empty.result ordered (
      λ t. (let n : vec_len v ≡ 0 = eqb-true (vec_len v) 0 (sym c.is_empty.ensures ∙ t) in omega (arith, n, v.ok.0)),
      λ e. (let n : vec_len v ≡ 0 = omega (arith, e, v.ok.0) in c.is_empty.ensures ∙ eq-eqb (vec_len v) 0 n),
    )
