use Rattle.std.proofs.Common.{refl, sym}
use Rattle.schedule_states.proofs.Numbering.{grown_by, numbered_grown}
use Rattle.schedule_states.proofs.Returning.{stands_before}
use Rattle.schedule_states.proofs.reached.Reached.listed_numbers.Goals as goal

pub invariant_of-self : goal.invariant_of-self
invariant_of-self g c = numbered_grown
    (record { parts = c.self.inside.parts; hart_parts = c.self.inside.hart_parts; standings = c.self.inside.standings; states = c.self.inside.states; harts = c.self.inside.leads })
    c.number_of.new.self c.self.inside.standings c.number_of.ensures.grown (λ n value found. found) c.self.invariant

pub returns-in_err-memory-clause-grown : goal.returns-in_err-memory-clause-grown
returns-in_err-memory-clause-grown g c = rw (sym c.self.view_is) (
  grown_by (record { parts = c.self.inside.parts; hart_parts = c.self.inside.hart_parts; standings = c.self.inside.standings; states = c.self.inside.states; harts = c.self.inside.leads })
      c.number_of.new.self c.number_of.ensures.grown,
  λ s k lists stands. stands_before c.self.inside.parts c.number_of.new.self s k c.number_of.ensures.grown c.lists_are_there.ensures lists stands,
  refl,
)

pub invariant_of-self-2 : goal.invariant_of-self-2
invariant_of-self-2 g c = numbered_grown
    (record { parts = c.self.inside.parts; hart_parts = c.self.inside.hart_parts; standings = c.self.inside.standings; states = c.self.inside.states; harts = c.self.inside.leads })
    c.number_of.new.self c.self.inside.standings c.number_of.ensures.grown (λ n value found. found) c.self.invariant

pub returns-clause-grown : goal.returns-clause-grown
returns-clause-grown g c = rw (sym c.self.view_is) (
  grown_by (record { parts = c.self.inside.parts; hart_parts = c.self.inside.hart_parts; standings = c.self.inside.standings; states = c.self.inside.states; harts = c.self.inside.leads })
      c.number_of.new.self c.number_of.ensures.grown,
  λ s k lists stands. stands_before c.self.inside.parts c.number_of.new.self s k c.number_of.ensures.grown c.lists_are_there.ensures lists stands,
  refl,
)
