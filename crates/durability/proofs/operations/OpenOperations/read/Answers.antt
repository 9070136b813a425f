use Rattle.std.proofs.Common.{◌≡◌, ◌+◌, inl, inr, Some, length, refl, sym, ◌∙◌, arith}
use Rattle.std.specs.BTreeMap.{get}
use Rattle.store_trace.specs.declared.event.Event.{Event}
use Rattle.store_trace.specs.declared.event.Event.TheVariants.{Store}
use Rattle.durability.proofs.Firsts.{event_here}
use Rattle.durability.proofs.Linked.{counted, first_of, none_ended, one_ended, read_begin, read_end, read_end_none, read_other, room}
use Rattle.durability.proofs.Marks.{ends_nothing}
use Rattle.durability.specs.Operations.{operation_cmp}
use Rattle.durability.proofs.operations.OpenOperations.read.Goals as goal

pub overflow_add-self : goal.overflow_add-self
overflow_add-self c =
    let none : Event = Store 0 0 0 0 0 in
    let hart = rw c.in-Begin.is at (c.requires.each c.args.at none c.requires.there) in
    omega (arith, room c.args.events.now c.args.at c.in-Begin.hart 0 c.args.self.now c.requires.there hart c.requires.before, c.requires.there, c.requires.limit)

pub returns-in_default-clause-after : goal.returns-in_default-clause-after
returns-in_default-clause-after c =
    let none : Event = Store 0 0 0 0 0 in
    let here = event_here c.args.events.now c.args.at none _ c.requires.there c.in-End.is in
    read_end_none c.args.events.now c.args.at c.in-End.hart c.in-End.op c.args.self.now _ here c.in_ok-push-in-End.ensures.items refl refl
    (sym c.last_begin.ensures ∙ c.in_default.is) c.requires.before

pub returns-in_default-clause-ended : goal.returns-in_default-clause-ended
returns-in_default-clause-ended c =
    let none : Event = Store 0 0 0 0 0 in
    let here = event_here c.args.events.now c.args.at none _ c.requires.there c.in-End.is in
    none_ended c.args.events.now c.args.at c.in-End.hart c.in-End.op c.args.self.now here (sym c.last_begin.ensures ∙ c.in_default.is) c.requires.before

pub overflow_sub-begin : goal.overflow_sub-begin
overflow_sub-begin c =
    let some : get operation_cmp c.args.self.now.last (c.in-End.hart, c.in-End.op) ≡ Some c.in-Some.begin = sym c.last_begin.ensures ∙ c.in-Some.is in
    omega (arith, (first_of c.args.events.now c.args.at c.in-End.hart c.in-End.op c.in-Some.begin c.args.self.now some c.requires.before).above)

pub index-before-requires : goal.index-before-requires
index-before-requires c =
    let some : get operation_cmp c.args.self.now.last (c.in-End.hart, c.in-End.op) ≡ Some c.in-Some.begin = sym c.last_begin.ensures ∙ c.in-Some.is in
    let first = first_of c.args.events.now c.args.at c.in-End.hart c.in-End.op c.in-Some.begin c.args.self.now some c.requires.before in
    omega (arith, first.above, first.low, c.in_ok-push-in-End.ensures.len)

pub overflow_sub-self : goal.overflow_sub-self
overflow_sub-self c =
    let none : Event = Store 0 0 0 0 0 in
    let hart = rw c.in-End.is at (c.requires.each c.args.at none c.requires.there) in
    let some : get operation_cmp c.args.self.now.last (c.in-End.hart, c.in-End.op) ≡ Some c.in-Some.begin = sym c.last_begin.ensures ∙ c.in-Some.is in
    counted c.args.events.now c.args.at c.in-End.hart c.in-End.op c.in-Some.begin 0 c.args.self.now hart some c.requires.before

pub returns-in_ok-set_last-in-Begin-clause-after : goal.returns-in_ok-set_last-in-Begin-clause-after
returns-in_ok-set_last-in-Begin-clause-after c =
    let none : Event = Store 0 0 0 0 0 in
    let hart = rw c.in-Begin.is at (c.requires.each c.args.at none c.requires.there) in
    let here = event_here c.args.events.now c.args.at none _ c.requires.there c.in-Begin.is in
    let items = rw c.last_begin-before.ensures at c.in_ok-push-in-Begin.ensures.items in
    let harts : length c.args.self.now.counts ≡ 8 = omega arith in
    read_begin c.args.events.now c.args.at c.in-Begin.hart c.in-Begin.op c.args.self.now _ c.requires.there here items
    c.in_ok-set_last-in-Begin.ensures hart harts refl c.requires.before

pub returns-in_ok-set_last-in-Begin-clause-ended : goal.returns-in_ok-set_last-in-Begin-clause-ended
returns-in_ok-set_last-in-Begin-clause-ended c =
    let none : Event = Store 0 0 0 0 0 in
    let here = event_here c.args.events.now c.args.at none _ c.requires.there c.in-Begin.is in
    ends_nothing c.args.events.now (c.args.at + 1) _ here (λ h op e. cc)

pub returns-in_ok-set_last-in-End-clause-after : goal.returns-in_ok-set_last-in-End-clause-after
returns-in_ok-set_last-in-End-clause-after c =
    let none : Event = Store 0 0 0 0 0 in
    let hart = rw c.in-End.is at (c.requires.each c.args.at none c.requires.there) in
    let here = event_here c.args.events.now c.args.at none _ c.requires.there c.in-End.is in
    let some : get operation_cmp c.args.self.now.last (c.in-End.hart, c.in-End.op) ≡ Some c.in-Some.begin = sym c.last_begin.ensures ∙ c.in-Some.is in
    let harts : length c.args.self.now.counts ≡ 8 = omega arith in
    read_end c.args.events.now c.args.at c.in-End.hart c.in-End.op c.in-Some.begin c.index-before.result.now _ c.args.self.now _ here
    c.in_ok-push-in-End.ensures.items some (rw c.in_ok-push-in-End.ensures.items at c.index-before.ensures) c.in_ok-set_last-in-End.ensures hart harts refl c.requires.before

pub returns-in_ok-set_last-in-End-clause-ended : goal.returns-in_ok-set_last-in-End-clause-ended
returns-in_ok-set_last-in-End-clause-ended c =
    let none : Event = Store 0 0 0 0 0 in
    let here = event_here c.args.events.now c.args.at none _ c.requires.there c.in-End.is in
    one_ended c.args.events.now c.args.at c.in-End.hart c.in-End.op c.in-Some.begin c.args.self.now here (sym c.last_begin.ensures ∙ c.in-Some.is)
    c.requires.before

pub returns-in_ok-push-in-Store : goal.returns-in_ok-push-in-Store
returns-in_ok-push-in-Store c =
    let none : Event = Store 0 0 0 0 0 in
    let items = c.in_ok-push-in-Store.ensures.items in
    elim c.in-Store.is [
      | inl stores ↦
          let here = event_here c.args.events.now c.args.at none _ c.requires.there stores.5 in
          record {
            after = read_other c.args.events.now c.args.at _ c.args.self.now _ here (λ h op p. refl) (λ p. refl) items refl refl c.requires.before;
            ended = ends_nothing c.args.events.now (c.args.at + 1) _ here (λ h op e. cc);
          }
      | inr mark ↦ elim mark [
        | inl cleans ↦
            let here = event_here c.args.events.now c.args.at none _ c.requires.there cleans.2 in
            record {
              after = read_other c.args.events.now c.args.at _ c.args.self.now _ here (λ h op p. refl) (λ p. refl) items refl refl c.requires.before;
              ended = ends_nothing c.args.events.now (c.args.at + 1) _ here (λ h op e. cc);
            }
        | inr fences ↦
            let here = event_here c.args.events.now c.args.at none _ c.requires.there fences.1 in
            record {
              after = read_other c.args.events.now c.args.at _ c.args.self.now _ here (λ h op p. refl) (λ p. refl) items refl refl c.requires.before;
              ended = ends_nothing c.args.events.now (c.args.at + 1) _ here (λ h op e. cc);
            }
      ]
    ]
