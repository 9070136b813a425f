use Rattle.std.proofs.Common.{◌<◌, length, inl, inr, arith}
use Rattle.store_trace.specs.declared.event.Event.{Event}
use Rattle.store_trace.specs.declared.event.Event.TheVariants.{Store}
use Rattle.durability.proofs.Firsts.{event_here}
use Rattle.durability.proofs.Nexts.{next_cleaned, next_fenced, next_stays}
use Rattle.durability.proofs.fates.read.Goals as goal

pub returns-in-Clean : goal.returns-in-Clean
returns-in-Clean c =
    let none : Event = Store 0 0 0 0 0 in
    let named = rw c.in-Clean.is at (c.requires.named c.args.at none c.requires.there) in
    let hart = rw c.in-Clean.is at (c.requires.each c.args.at none c.requires.there) in
    let here = event_here c.args.events.now c.args.at none _ c.requires.there c.in-Clean.is in
    rw c.first_completion.ensures
    (next_cleaned c.args.events.now c.args.at c.in-Clean.hart c.in-Clean.line c.args.fences.now c.args.next.now _ _ here hart named c.requires.after)

pub returns-in-Fence : goal.returns-in-Fence
returns-in-Fence c =
    let none : Event = Store 0 0 0 0 0 in
    let hart = rw c.in-Fence.is at (c.requires.each c.args.at none c.requires.there) in
    let here = event_here c.args.events.now c.args.at none _ c.requires.there c.in-Fence.is in
    let within : c.in-Fence.hart < length c.args.fences.now = omega (arith, hart) in
    next_fenced c.args.events.now c.args.at c.in-Fence.hart c.args.fences.now c.args.next.now here within c.requires.after

pub returns-in-Store : goal.returns-in-Store
returns-in-Store c =
    let none : Event = Store 0 0 0 0 0 in
    elim c.in-Store.is [
      | inl stores ↦
          next_stays c.args.events.now c.args.at _ c.args.fences.now c.args.next.now
          (event_here c.args.events.now c.args.at none _ c.requires.there stores.5) (λ h l e. cc) (λ h e. cc) c.requires.after
      | inr mark ↦ elim mark [
        | inl begins ↦
            next_stays c.args.events.now c.args.at _ c.args.fences.now c.args.next.now
            (event_here c.args.events.now c.args.at none _ c.requires.there begins.2) (λ h l e. cc) (λ h e. cc) c.requires.after
        | inr ends ↦
            next_stays c.args.events.now c.args.at _ c.args.fences.now c.args.next.now
            (event_here c.args.events.now c.args.at none _ c.requires.there ends.2) (λ h l e. cc) (λ h e. cc) c.requires.after
      ]
    ]
