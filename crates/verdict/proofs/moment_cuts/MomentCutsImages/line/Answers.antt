use Rattle.std.proofs.Common.{arith}
use Rattle.verdict.proofs.CutLines.{shown_line, stores_at_moment}
use Rattle.verdict.proofs.moment_cuts.MomentCutsImages.line.Goals as goal

pub line-requires-clause-number : goal.line-requires-clause-number
line-requires-clause-number c =
    let cuts = c.args.self.now in
    let fewer = stores_at_moment c.args.line cuts.index.now.events cuts.moment in
    let most = c.requires.number in
    omega (arith, fewer, most)

pub returns : goal.returns
returns c = λ cut same.
    let cuts = c.args.self.now in
    shown_line cuts.index.now.start cuts.index.now.events cuts.moment cut c.args.line c.args.number c.line.result.now c.requires.line same
    (c.line.ensures.at cuts.moment cuts.there c.requires.number)
