-- Moments that all pass are settled, and so are those up to the first with too many branches.
use Rattle.verdict.proofs.GoingOn.{settles_all, settles_to}
use Rattle.verdict.proofs.part.Part.row.Goals as goal

pub returns-in-Pass : goal.returns-in-Pass
returns-in-Pass g c =
    let part = c.args.self.now in
    let row = rw c.in-Pass.is at c.requires.verdict in
    settles_all c.args.goes_on (g.M.Moments.judged part.run) (g.M.Moments.events part.run) c.args.first c.args.until c.in-Pass.moments c.in-Pass.images
    c.requires.order row

pub returns-in_ok-images-in-TooMany : goal.returns-in_ok-images-in-TooMany
returns-in_ok-images-in-TooMany g c =
    let part = c.args.self.now in
    let least = rw c.in-TooMany.is at c.requires.verdict in
    let sum = rw c.run.ensures at c.in_ok-images-in-TooMany.ensures in
    rw c.if-goes_on.true (settles_to (g.M.Moments.judged part.run) (g.M.Moments.events part.run) c.args.first c.args.until c.in-TooMany.moment
    c.in-TooMany.lines c.in_ok-images-in-TooMany.field-0 least sum)
