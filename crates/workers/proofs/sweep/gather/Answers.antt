use Rattle.std.proofs.Common.{◌∙◌, ap, arith}
use Rattle.workers.specs.Counts.{weigh_below}
use Rattle.workers.specs.Desks.{all_bad, all_claimed, all_found}
use Rattle.workers.proofs.Sweeping.{swept_of}
use Rattle.workers.proofs.sweep.gather.Goals as goal

pub returns : goal.returns
returns g c =
    let seats = c.take_in.new.seats.items in
    let e = c.in_ok-take_in.ensures in
    let f = c.close.ensures in
    let given = f.full (let ended = e.ended in let all = c.requires.all in let some = c.requires.workers.0 in omega (arith, ended, all, some)) in
    swept_of (g.J.Judge.passes c.args.job.now) (g.J.Judge.fails c.args.job.now) c.args.desk.name.moments (all_claimed seats) (all_bad seats) (all_found seats)
    c.take_in.new.best c.close.result.least_bad c.requires.small e.best (λ h. f.once h ∙ ap (weigh_below h) given) f.least f.found
