use Rattle.std.proofs.Common.{◌≡◌, true, get_or, length, refl, sym, arith}
use Rattle.std.proofs.lemmas.Bool.{eq-eqb}
use Rattle.std.proofs.lemmas.List.Sums.{position_or_len_is}
use Rattle.nova_log.specs.Parts.{is_part, part}
use Rattle.nova_log.proofs.log_upgrade.parts.page_of.Goals as goal

pub returns-then-part-index-clause-place : goal.returns-then-part-index-clause-place
returns-then-part-index-clause-place c =
    let held = get_or c.args.parts.now c.loop-page.page (part 0 0) in
    let here : is_part c.args.inode c.args.index held ≡ true =
    rw (eq-eqb held.inode c.args.inode c.if-part-inode.true, eq-eqb held.index c.args.index c.if-part-index.true) refl in
    sym (position_or_len_is (is_part c.args.inode c.args.index) c.args.parts.now c.loop-page.page (part 0 0) (omega arith)
    (λ k less. c.loop-page.invariant k (part 0 0) less) (λ within. here))

pub returns-clause-place : goal.returns-clause-place
returns-clause-place c =
    sym (position_or_len_is (is_part c.args.inode c.args.index) c.args.parts.now (length c.args.parts.now) (part 0 0) (omega arith)
    (λ k less. c.loop-page.invariant k (part 0 0) (omega arith)) (λ within. absurd (omega arith)))
