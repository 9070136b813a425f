use Rattle.std.proofs.Common.{◌≡◌, ◌<◌, [], ◌∷◌, length, refl, sym}
use Rattle.schedule_states.proofs.Numbering.{met_of, numbered_parts, numbers_of_there}
use Rattle.schedule_states.specs.Reaching.{AreNumbersOf}
use Rattle.schedule_states.specs.Successors.{HasLists}
use Rattle.schedule_states.specs.declared.program_state.StateNumbers.{StateNumbers}
use Rattle.schedule_states.proofs.reached.Reached.numbers_for.Goals as goal

pub invariant_of-self : goal.invariant_of-self
invariant_of-self g c = numbered_parts
    (record { parts = c.self.inside.parts; hart_parts = c.self.inside.hart_parts; standings = c.self.inside.standings; states = c.self.inside.states; harts = c.self.inside.leads })
    c.numbers_of.new.known c.numbers_of.ensures.kept c.self.invariant

pub invariant_of-self-2 : goal.invariant_of-self-2
invariant_of-self-2 g c = numbered_parts
    (record { parts = c.self.inside.parts; hart_parts = c.self.inside.hart_parts; standings = c.self.inside.standings; states = c.self.inside.states; harts = c.self.inside.leads })
    c.numbers_of.new.known c.numbers_of.ensures.kept c.self.invariant

pub returns-clause-met : goal.returns-clause-met
returns-clause-met g c =
    let count : length c.args.state.now.harts.items ≡ c.self.inside.leads = rw (sym c.self.view_is) at c.requires.count in
    let numbers : StateNumbers = record { harts = c.in_ok-harts.harts; memory = c.args.state.now.memory; standing = c.args.standing } in
    let are : AreNumbersOf c.numbers_of.new.known c.args.state.now.harts.items (length c.args.state.now.harts.items) c.in_ok-harts.harts =
    rw c.deref.ensures.value at c.in_ok-harts.ensures.numbers in
    λ t kept. met_of (record { parts = c.self.inside.parts; hart_parts = c.numbers_of.new.known; standings = c.self.inside.standings; states = numbers ∷ []; harts = c.self.inside.leads })
    c.args.state.now t numbers 0 count refl (rw (sym c.self.view_is) at kept) are refl

pub returns-clause-there : goal.returns-clause-there
returns-clause-there g c =
    let lists : HasLists c.self.inside.parts c.args.state.now = rw (sym c.self.view_is) at c.requires.lists in
    let count : length c.args.state.now.harts.items ≡ c.self.inside.leads = rw (sym c.self.view_is) at c.requires.count in
    let standing : c.args.standing < length c.self.inside.standings = rw (sym c.self.view_is) at c.requires.standing in
    let numbers : StateNumbers = record { harts = c.in_ok-harts.harts; memory = c.args.state.now.memory; standing = c.args.standing } in
    let are : AreNumbersOf c.numbers_of.new.known c.args.state.now.harts.items (length c.args.state.now.harts.items) c.in_ok-harts.harts =
    rw c.deref.ensures.value at c.in_ok-harts.ensures.numbers in
    numbers_of_there (record { parts = c.self.inside.parts; hart_parts = c.numbers_of.new.known; standings = c.self.inside.standings; states = c.self.inside.states; harts = c.self.inside.leads })
    c.args.state.now numbers lists count refl standing are
