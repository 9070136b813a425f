use Rattle.std.proofs.Common.{◌≡◌, ◌++◌, ◌∷◌, [], ℕ, subst, rules}
use Rattle.schedule_states.proofs.Begun.{part_pushed, start_lists, start_stands}
use Rattle.schedule_states.specs.Successors.{AreStartParts, IsStartPart}
use Rattle.schedule_states.proofs.parts.Parts.start.Goals as goal

pub loop-hart-preserved : goal.loop-hart-preserved
loop-hart-preserved c =
    let pushed : c.push.new.self.items ≡ c.loop-hart.parts.items ++ c.in-Some.part ∷ [] = search rules in
    let is : IsStartPart c.args.self.now c.loop-hart.hart c.in-Some.part = search rules in
    rw pushed (part_pushed c.args.self.now c.loop-hart.parts.items c.loop-hart.hart c.in-Some.part c.loop-hart.invariant is)

pub returns-clause-stands : goal.returns-clause-stands
returns-clause-stands c =
    let end : c.loop-hart.hart ≡ c.args.harts = search rules in
    let are : AreStartParts c.args.self.now c.args.harts c.loop-hart.parts.items =
    subst (λ (n : ℕ). AreStartParts c.args.self.now n c.loop-hart.parts.items) end c.loop-hart.invariant in
    start_stands c.args.self.now _ c.args.harts c.requires c.first-memory.ensures.list c.first-memory.ensures.number are

pub returns-clause-lists : goal.returns-clause-lists
returns-clause-lists c =
    let end : c.loop-hart.hart ≡ c.args.harts = search rules in
    let are : AreStartParts c.args.self.now c.args.harts c.loop-hart.parts.items =
    subst (λ (n : ℕ). AreStartParts c.args.self.now n c.loop-hart.parts.items) end c.loop-hart.invariant in
    start_lists c.args.self.now _ c.args.harts c.first-memory.ensures.list c.first-memory.ensures.number are
