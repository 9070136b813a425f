use Rattle.std.proofs.Common.{◌≡◌, ◌<◌, ◌+◌, length, ap, sym, ◌∙◌, arith, rules}
use Rattle.std.specs.Prelude.{sum_by}
use Rattle.schedule_states.proofs.Looking.{kept_appended}
use Rattle.schedule_states.proofs.Sizing.{sum_grown}
use Rattle.schedule_states.specs.HeldLines.{lists_in}
use Rattle.schedule_states.proofs.memory_lists.MemoryLists.number_of.Goals as goal

pub invariant_of-self : goal.invariant_of-self
invariant_of-self c =
    let more : length (lists_in c.self.inside.lists) < length (lists_in c.number_of-number.new.self) =
    omega (arith, c.if-count-known.true, c.count-known.ensures, c.count.ensures) in
    let sum : sum_by length (lists_in c.number_of-number.new.self)
    ≡ sum_by length (lists_in c.self.inside.lists) + length c.args.list.items =
    sum_grown length (lists_in c.self.inside.lists) (lists_in c.number_of-number.new.self) c.args.list.items
    c.number_of-number.ensures.appended more in
    let same : c.in_ok-lines.lines ≡ c.self.inside.lines + length c.args.list.items = search rules in
    same ∙ ap (λ (n : _). n + length c.args.list.items) c.self.invariant ∙ sym sum

pub returns-then-count-known-clause-kept : goal.returns-then-count-known-clause-kept
returns-then-count-known-clause-kept c =
    rw (sym c.self.view_is) (kept_appended (lists_in c.self.inside.lists) (lists_in c.number_of-number.new.self) c.args.list.items
    c.number_of-number.ensures.appended)

pub returns-else-count-known-clause-kept : goal.returns-else-count-known-clause-kept
returns-else-count-known-clause-kept c =
    rw (sym c.self.view_is) (kept_appended (lists_in c.self.inside.lists) (lists_in c.number_of-number.new.self) c.args.list.items
    c.number_of-number.ensures.appended)
