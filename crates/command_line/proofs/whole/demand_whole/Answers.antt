use Rattle.std.proofs.Common.{Bool, subst, sym}
use Rattle.command_line.specs.Demanding.{MeetsIf}
use Rattle.crash_test.specs.Origins.{origin_of}
use Rattle.unfinished.specs.Causes.{numbers_of}
use Rattle.command_line.proofs.whole.demand_whole.Goals as goal

pub returns-then-whole : goal.returns-then-whole
returns-then-whole c = record {
  meets = subst (λ (whole : Bool). MeetsIf whole (origin_of c.args.made.now.file.items) c.args.made.now.run.harts c.args.made.now.run.events
      (numbers_of c.args.planned.now) c.refuse_unfinished.result) (sym c.if-whole.true)
      (rw (c.deref.ensures.value, c.harts.ensures.value, c.events.ensures.value, c.trace.ensures.value) at c.refuse_unfinished.ensures);
}
