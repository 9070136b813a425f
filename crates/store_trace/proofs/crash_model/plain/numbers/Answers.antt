use Rattle.std.proofs.Common.{◌∙◌, ◌*◌, ℕ, reverse, take, arith, ap}
use Rattle.std.proofs.lemmas.Bool.Decides.{nat_tests}
use Rattle.store_trace.proofs.Product.{count_more}
use Rattle.store_trace.specs.Cut.{count_of, stored_lines}
use Rattle.store_trace.proofs.crash_model.plain.numbers.Goals as goal

pub returns-in-Store-clause-product : goal.returns-in-Store-clause-product
returns-in-Store-clause-product c =
    count_more (reverse c.args.steps.now) c.args.steps.now c.args.at c.in-Store.line c.in-Store.offset c.in-Store.width c.in-Store.value _ c.requires.place c.in-Store.is
    ∙ ap (λ (f : ℕ). f * count_of (reverse c.args.steps.now) (stored_lines (reverse (take c.args.at c.args.steps.now))))
    (grind (arith, nat_tests, c.if-stores-eq0.true, c.stores.ensures.value, c.stores-in-Store.ensures.value, c.floor.ensures, c.from.ensures))

pub returns-in_default-clause-product : goal.returns-in_default-clause-product
returns-in_default-clause-product c =
    count_more (reverse c.args.steps.now) c.args.steps.now c.args.at c.in-Store.line c.in-Store.offset c.in-Store.width c.in-Store.value _ c.requires.place c.in-Store.is
    ∙ ap (λ (f : ℕ). f * count_of (reverse c.args.steps.now) (stored_lines (reverse (take c.args.at c.args.steps.now))))
    (grind (arith, nat_tests, c.if-stores-eq0.false, c.stores.ensures.value))
