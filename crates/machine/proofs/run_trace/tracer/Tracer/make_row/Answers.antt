use Rattle.std.proofs.Common.{◌+◌, ◌%◌, ◌^◌, refl}
use Rattle.machine.specs.Rows.{EndsByEventOf}
use Rattle.machine.specs.Tracers.{TracerView}
use Rattle.machine.proofs.OneHart.{makes_quietly, makes_row}
use Rattle.machine.proofs.run_trace.tracer.Tracer.make_row.Goals as goal

pub returns-in-Some-clause-made : goal.returns-in-Some-clause-made
returns-in-Some-clause-made c =
    let row : EndsByEventOf c.self.inside.machine c.args.hart c.make_row-row.result.steps c.in-Some.pc c.make_row-row.new.self =
    rw c.in-Some.is at c.make_row-row.ensures.row in
    let started : TracerView = record { machine = c.self.inside.machine; made = c.self.inside.made; places = c.self.inside.places.items } in
    let ended : TracerView = record {
      machine = c.make_row-row.new.self;
      made = (c.self.inside.made + c.make_row-row.result.steps) % 2 ^ 32;
      places = c.push_reserved.new.places.items;
    } in
    rw (← c.self.view_is) (makes_row started ended c.args.hart c.make_row-row.result.steps c.in-Some.pc
    (rw c.reserve.ensures.items at c.push_reserved.ensures) row refl refl refl)

pub returns-in_default-clause-made : goal.returns-in_default-clause-made
returns-in_default-clause-made c =
    rw (← c.self.view_is) (makes_quietly _ _ c.args.hart c.make_row-row.result.steps c.make_row-row.ensures.runs
    (rw c.in_default.is at c.make_row-row.ensures.row) refl c.reserve.ensures.items)
