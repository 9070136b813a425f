use Rattle.std.proofs.Common.{arith, ap, length}
use Rattle.crash_image.specs.TraceIndexView.{IndexView}
use Rattle.routine_judge.proofs.OutsideAsking.{numbers_in}
use Rattle.routine_judge.proofs.outside.judging.OutsideRun.ask.Goals as goal

pub returns-clause-known : goal.returns-clause-known
returns-clause-known g c =
    let view = c.args.self.now in
    let same = ap (λ (w : IndexView). length w.start) c.self.view_is in
    c.in_ok-add.ensures.known view c.requires.known (record {
      numbers = numbers_in view.start view.events c.args.moment c.args.numbers.items c.requires.wanted.numbers_are;
      there = λ l named. let h = c.in-Ok.ensures.there l named in omega (arith, h, same);
    })
