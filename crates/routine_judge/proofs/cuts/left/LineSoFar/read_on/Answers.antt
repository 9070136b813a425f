use Rattle.std.proofs.Common.{◌∙◌, sym}
use Rattle.routine_judge.proofs.Afters.{read_other, read_store}
use Rattle.routine_judge.proofs.Gathering.{on_ok}
use Rattle.routine_judge.proofs.cuts.left.LineSoFar.read_on.Goals as goal

pub returns-then-not-read-clause-ok : goal.returns-then-not-read-clause-ok
returns-then-not-read-clause-ok c = λ start p before r.
    read_other start p c.args.event before c.args.left.now c.args.self.now c.read.new.self (sym c.read.ensures.is ∙ c.if-not-read.true)
    c.read.ensures.line c.read.ensures.low (c.read.ensures.made start p r.after) r

pub returns-clause-ok : goal.returns-clause-ok
returns-clause-ok c =
    on_ok c.add_to.result
    (λ added. λ start p before r.
    read_store start p c.args.event before c.args.left.now c.add_to.new.left c.args.self.now c.read.new.self (sym c.read.ensures.is ∙ c.if-not-read.false)
    c.read.ensures.line c.read.ensures.low (c.read.ensures.made start p r.after) added r)
    c.add_to.ensures
