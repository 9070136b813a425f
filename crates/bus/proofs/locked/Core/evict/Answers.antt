use Rattle.std.proofs.Common.{reverse, sym}
use Rattle.std.proofs.lemmas.Result.{err_from_is_err_and}
use Rattle.std.proofs.Common.{◌∙◌}
use Rattle.machine.proofs.Naming.{evicted_named}
use Rattle.bus.proofs.Refusing.{line_for_memory, refuses_line}
use Rattle.bus.proofs.Replaying.{evicted_below, evicted_kept, evicted_lines, evicted_stays_exact, evicts_is}
use Rattle.bus.proofs.locked.Core.evict.Goals as goal

pub invariant_of-self-2 : goal.invariant_of-self-2
invariant_of-self-2 c =
    let i = c.self.invariant in
    let added = rw c.make_room.ensures.items at c.add_entry.ensures in
    let evicts = c.in_ok-evict.ensures.ok in (
      evicted_kept _ _ c.self.inside.history.items c.add_entry.new.history.items _ c.evict.new.self c.args.line i.0 evicts added,
      evicted_below c.self.inside.harts c.self.inside.history.items c.add_entry.new.history.items c.args.line i.1 added,
      evicts.steps.sizes.lines ∙ i.2,
      evicts.steps.sizes.capacity ∙ i.3,
      i.4,
      c.evict.ensures.limit,
      evicted_lines _ c.self.inside.history.items c.add_entry.new.history.items c.args.line (rw i.2 at c.in_ok-evict.ensures.there) i.6 added,
      evicted_named c.self.inside.shared c.evict.new.self c.args.line evicts i.7,
      evicted_stays_exact _ _ c.self.inside.history.items c.add_entry.new.history.items _ c.evict.new.self c.args.line i.8 evicts added,
    )

pub returns-in_err-make_room-clause-refused : goal.returns-in_err-make_room-clause-refused
returns-in_err-make_room-clause-refused c =
    let p = err_from_is_err_and c.from_residual.result c.from_residual.ensures.1 in
    rw (p.1, p.2) (line_for_memory c.args.self.now c.args.line _ c.in_err-make_room.ensures.err)

pub returns-in_err-evict-clause-refused : goal.returns-in_err-evict-clause-refused
returns-in_err-evict-clause-refused c =
    let p = err_from_is_err_and c.from_residual-in_err-evict.result c.from_residual-in_err-evict.ensures.1 in
    rw (p.1, p.2, ← c.self.view_is) (refuses_line (record {
      program = c.self.inside.program.now;
      start = c.self.inside.start;
      harts = c.self.inside.harts;
      capacity = c.self.inside.capacity;
      shared = c.self.inside.shared;
      history = reverse c.self.inside.history.items;
    }) c.args.line _ c.self.invariant.2 c.in_err-evict.ensures.no_line)

pub returns-clause-ok : goal.returns-clause-ok
returns-clause-ok c =
    evicts_is _ _ _ _ c.self.inside.history.items c.add_entry.new.history.items _ c.evict.new.self c.args.line c.in_ok-evict.ensures.ok
    (rw c.make_room.ensures.items at c.add_entry.ensures) c.args.self.now (sym c.self.view_is)

pub returns-clause-there : goal.returns-clause-there
returns-clause-there c = rw (← c.self.view_is) (rw c.self.invariant.2 at c.in_ok-evict.ensures.there)
