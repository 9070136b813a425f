use Rattle.std.proofs.Common.{◌≡◌, true}
use Rattle.debugger.specs.Points.{has_watch, line_start}
use Rattle.debugger.proofs.debugger.Debugger.watch_line.Goals as goal

pub returns-then-has_watch-clause-full : goal.returns-then-has_watch-clause-full
returns-then-has_watch-clause-full c =
    let on : has_watch c.args.self.now.points (line_start c.args.address) ≡ true = cc in
    (λ e. absurd (cc), λ h. let off = h.1 in cc)
