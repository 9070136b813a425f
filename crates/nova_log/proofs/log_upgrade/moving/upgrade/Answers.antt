use Rattle.std.proofs.Common.{◌≡◌, Ok, arith, inl, inr, ◌∙◌}
use Rattle.std.proofs.lemmas.Result.{err_from_is_err_and}
use Rattle.nova_log.proofs.Again.{recovered}
use Rattle.nova_log.proofs.Upgrading.{fault_kept, few_journals, old_size, upgraded_is}
use Rattle.nova_log.specs.Upgraded.{upgraded}
use Rattle.nova_log.proofs.log_upgrade.moving.upgrade.Goals as goal

pub returns-in_err-volume-clause-err : goal.returns-in_err-volume-clause-err
returns-in_err-volume-clause-err c =
    let p = err_from_is_err_and c.from_residual.result c.from_residual.ensures.1 in
    rw (p.1, p.2) (elim c.in_err-volume.ensures.err [
      | inl memory ↦ inl memory
      | inr found ↦ inr (fault_kept c.args.medium.now c.in_err-volume.field-0.0 c.args.pages c.args.lines found)
    ])

pub load-journals-requires-clause-there : goal.load-journals-requires-clause-there
load-journals-requires-clause-there c =
    let size = old_size c.args.medium.now c.in_ok-volume.volume c.in_ok-volume.ensures.ok in
    omega arith

pub overflow_cast-journals : goal.overflow_cast-journals
overflow_cast-journals c =
    let few = few_journals c.args.medium.now c.in_ok-volume.volume c.in_ok-volume.ensures.ok in
    omega (arith, c.load-journals.ensures.line)

pub returns-in_err-made-clause-err : goal.returns-in_err-made-clause-err
returns-in_err-made-clause-err c =
    let p = err_from_is_err_and c.from_residual-in_err-made.result c.from_residual-in_err-made.ensures.1 in
    let is = upgraded_is c.args.medium.now c.in_ok-volume.volume c.in_ok-volume.ensures.ok c.load-journals.result c.args.pages c.args.lines c.load-journals.ensures.line in
    rw (p.1, p.2) (elim c.in_err-made.ensures.err [
      | inl memory ↦ inl memory.0
      | inr refused ↦ inr (is ∙ refused)
    ])

pub returns-clause-ok : goal.returns-clause-ok
returns-clause-ok c =
    upgraded_is c.args.medium.now c.in_ok-volume.volume c.in_ok-volume.ensures.ok c.load-journals.result c.args.pages c.args.lines c.load-journals.ensures.line
    ∙ c.in_ok-made.ensures.ok

pub returns-clause-recovered : goal.returns-clause-recovered
returns-clause-recovered c =
    let is : upgraded c.args.medium.now c.args.pages c.args.lines ≡ Ok c.in_ok-made.made =
    upgraded_is c.args.medium.now c.in_ok-volume.volume c.in_ok-volume.ensures.ok c.load-journals.result c.args.pages c.args.lines c.load-journals.ensures.line
    ∙ c.in_ok-made.ensures.ok in
    recovered c.args.medium.now c.in_ok-made.made c.args.pages c.args.lines c.is_of_bytes.ensures is
