use Rattle.std.proofs.Common.{◌≡◌, ◌<◌, length, length-set, ap, arith, refl, Some, slice_get, slice_index_or, []}
use Rattle.machine.specs.Represents.{MachineView}
use Rattle.machine.proofs.RowsMade.{row_named, row_of, row_running, row_runs, state_there, text_there}
use Rattle.machine.proofs.machine.Machine.make_row.Goals as goal

pub invariant_of-self : goal.invariant_of-self
invariant_of-self c =
    let named = row_named _ c.args.hart _ _ _ _ _ _ c.go_on.ensures.row c.self.invariant.2 c.self.invariant.3 in
    (rw length-set c.self.invariant.0, rw length-set c.self.invariant.1, named.0, named.1)

pub returns-clause-runs : goal.returns-clause-runs
returns-clause-runs c =
    let s = c.index_mut-state.result.now in
    let harts = ap (λ (m : MachineView). m.harts) c.self.view_is in
    let copies = ap (λ (m : MachineView). m.copies) c.self.view_is in
    let shared = ap (λ (m : MachineView). m.shared) c.self.view_is in
    let each = rw (harts, copies) at c.self.invariant.1 in
    let count = c.harts.ensures.count in
    let limit = c.harts.ensures.limit in
    let few : c.args.hart < 8 = omega arith in
    let inside : c.args.hart < length c.args.self.now.harts = omega arith in
    let among : c.args.hart < length c.args.self.now.copies = omega arith in
    let there : slice_get c.args.self.now.harts c.args.hart ≡ Some s =
    state_there c.args.self.now.harts c.args.hart s inside (rw harts at c.index_mut-state.ensures.value) in
    let text : c.index-copy.result.now ≡ slice_index_or c.args.self.now.copies c.args.hart [] =
    text_there c.args.self.now.copies c.args.hart c.index-copy.result.now among (rw copies at c.index-copy.ensures) in
    row_runs c.args.self.now _ c.args.hart _ _ s c.go_on.new.state c.go_on.new.shared few each there
    (rw (text, shared) at c.go_on.ensures.row) (rw (← c.self.view_is) refl)

pub returns-clause-running : goal.returns-clause-running
returns-clause-running c =
    let s = c.index_mut-state.result.now in
    let harts = ap (λ (m : MachineView). m.harts) c.self.view_is in
    let copies = ap (λ (m : MachineView). m.copies) c.self.view_is in
    let shared = ap (λ (m : MachineView). m.shared) c.self.view_is in
    let each = rw (harts, copies) at c.self.invariant.1 in
    let count = c.harts.ensures.count in
    let limit = c.harts.ensures.limit in
    let few : c.args.hart < 8 = omega arith in
    let inside : c.args.hart < length c.args.self.now.harts = omega arith in
    let among : c.args.hart < length c.args.self.now.copies = omega arith in
    let there : slice_get c.args.self.now.harts c.args.hart ≡ Some s =
    state_there c.args.self.now.harts c.args.hart s inside (rw harts at c.index_mut-state.ensures.value) in
    let text : c.index-copy.result.now ≡ slice_index_or c.args.self.now.copies c.args.hart [] =
    text_there c.args.self.now.copies c.args.hart c.index-copy.result.now among (rw copies at c.index-copy.ensures) in
    row_running c.args.self.now c.args.hart _ _ s c.go_on.new.state c.go_on.new.shared few each there
    (rw (text, shared) at c.go_on.ensures.row)

pub returns-clause-row : goal.returns-clause-row
returns-clause-row c =
    let s = c.index_mut-state.result.now in
    let harts = ap (λ (m : MachineView). m.harts) c.self.view_is in
    let copies = ap (λ (m : MachineView). m.copies) c.self.view_is in
    let shared = ap (λ (m : MachineView). m.shared) c.self.view_is in
    let each = rw (harts, copies) at c.self.invariant.1 in
    let count = c.harts.ensures.count in
    let limit = c.harts.ensures.limit in
    let few : c.args.hart < 8 = omega arith in
    let inside : c.args.hart < length c.args.self.now.harts = omega arith in
    let among : c.args.hart < length c.args.self.now.copies = omega arith in
    let there : slice_get c.args.self.now.harts c.args.hart ≡ Some s =
    state_there c.args.self.now.harts c.args.hart s inside (rw harts at c.index_mut-state.ensures.value) in
    let text : c.index-copy.result.now ≡ slice_index_or c.args.self.now.copies c.args.hart [] =
    text_there c.args.self.now.copies c.args.hart c.index-copy.result.now among (rw copies at c.index-copy.ensures) in
    row_of c.args.self.now _ c.args.hart _ _ s c.go_on.new.state c.go_on.new.shared few each there
    (rw (text, shared) at c.go_on.ensures.row) (rw (← c.self.view_is) refl)
