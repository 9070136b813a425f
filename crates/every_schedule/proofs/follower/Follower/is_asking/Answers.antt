use Rattle.std.proofs.Common.{slice_get, rules}
use Rattle.hart.specs.declared.need.Need.TheVariants.{Ask}
use Rattle.machine.specs.Represents.{IsRunning, NeedsAt}
use Rattle.every_schedule.proofs.Asking.{asking_asks, running_of}
use Rattle.every_schedule.proofs.follower.Follower.is_asking.Goals as goal

pub returns-in-Ask : goal.returns-in-Ask
returns-in-Ask c = λ told k d stands steps.
    let needs : NeedsAt c.args.self.now.machine c.args.hart (slice_get c.args.self.now.machine.harts c.args.hart) (Ask c.in-Ask.field-0) = rw c.in-Ask.is at c.need.ensures in
    let runs : IsRunning (slice_get c.args.self.now.machine.harts c.args.hart) = search rules in
    asking_asks c.args.self.now.machine k d c.args.hart c.in-Ask.field-0 needs (λ own got. running_of c.args.self.now.machine.harts c.args.hart own runs got) stands steps
