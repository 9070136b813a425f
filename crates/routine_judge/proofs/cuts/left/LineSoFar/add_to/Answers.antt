use Rattle.std.proofs.lemmas.Bool.{le-leb}
use Rattle.routine_judge.proofs.Unions.{union_one}
use Rattle.routine_judge.proofs.cuts.left.LineSoFar.add_to.Goals as goal

pub returns-in_ok-add : goal.returns-in_ok-add
returns-in_ok-add c =
    let line = c.args.self.now in
    rw (le-leb line.low line.stores c.if-self.true) (union_one c.args.left.now c.add.new.self line.bytes c.in_ok-add.ensures.ok)
