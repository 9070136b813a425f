use Rattle.std.proofs.Common.{◌∙◌, List, ap, false, subst, ◌≤◌, length}
use Rattle.routine_judge.proofs.Entering.{begins_newly, entered, entered_in_order}
use Rattle.routine_judge.specs.Order.{begun_of, operations_in}
use Rattle.routine_judge.specs.declared.order.entry.Entry.{Entry}
use Rattle.std.specs.Prelude.{map}
use Rattle.std.specs.List.{AllPairs}
use Rattle.std.specs.List.Sorted.{IsPartitionPoint}
use Rattle.std.proofs.Common.{◌<◌}
use Rattle.routine_judge.proofs.order.precedence.Precedence.entries_with.Goals as goal

pub returns : goal.returns
returns c =
    let entry : Entry = record { op = c.args.op; hart = c.args.hart; ended = false; earlier = c.in_ok-earlier.earlier } in
    let entries = c.in_ok-entries.entries.items in
    let same = c.in_ok-entries.ensures ∙ ap (λ (es : List Entry). map begun_of es) c.deref-2.ensures.value in
    let begins = begins_newly c.args.self.now.entries.items c.deref.result.now c.args.hart c.args.op c.in_ok-earlier.earlier.items c.deref.ensures.value c.in_ok-earlier.ensures in
    let within = subst (λ (es : List Entry). c.place_of-place.result ≤ length es) c.deref-3.ensures.value c.place_of-place.ensures.bound in
    let point =
    subst
    (λ (es : List Entry). AllPairs (λ (one other : Entry). one.op < other.op) es →
    IsPartitionPoint (λ (e : Entry). e.op < c.args.op) (λ (e : Entry). c.args.op ≤ e.op) es c.place_of-place.result)
    c.deref-3.ensures.value c.place_of-place.ensures.place in (
      entered (operations_in c.args.self.now) entries c.insert.new.self.items c.place_of-place.result entry _ same begins c.in_ok-insert.ensures.items,
      entered_in_order (operations_in c.args.self.now) entries c.insert.new.self.items c.place_of-place.result entry same within point c.in_ok-insert.ensures.items,
    )
