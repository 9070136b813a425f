use Rattle.std.proofs.Common.{ap, refl, sym, ◌∙◌, rules}
use Rattle.hart.specs.declared.need.Request.TheVariants.{Amo}
use Rattle.machine.specs.SharedMemoryRefusals.{RefusesRequest}
use Rattle.machine.specs.SharedView.{Reads, SharedView, reserved_lines}
use Rattle.machine.proofs.Serving.{amo_refused_there, combines_with, found_in_lines, read_in_lines, stored_more, wide, written_in_lines}
use Rattle.machine.proofs.shared_memory.shared.Shared.amo_in_cache.Goals as goal

pub returns-in_err-reserve_one-clause-refused : goal.returns-in_err-reserve_one-clause-refused
returns-in_err-reserve_one-clause-refused c =
    let trace = ap (λ (s : SharedView). s.trace) c.self.view_is in
    let refused : RefusesRequest c.args.self.now c.args.hart (Amo c.args.op c.args.address c.args.width c.args.operand) c.in_err-reserve_one.field-0.0 =
    amo_refused_there c.args.self.now c.args.op c.args.hart c.args.address c.args.width c.args.offset c.args.operand _
    (wide c.args.width c.requires.width) c.requires.place (rw trace at c.in_err-reserve_one.ensures.refused) in search rules

pub returns-clause-ok : goal.returns-clause-ok
returns-clause-ok c =
    let opened = c.self.view_is in
    let cache = ap (λ (s : SharedView). s.cache) opened in
    let trace = ap (λ (s : SharedView). s.trace) opened in
    let middle : SharedView = record c.args.self.now { cache = c.load-old.new.self } in
    let finds = found_in_lines c.args.self.now c.args.address c.args.width c.args.offset c.load-old.result
    (wide c.args.width c.requires.width) c.requires.place (rw cache at c.load-old.ensures.value) in
    let reads : Reads c.args.self.now (record c.args.self.now { cache = c.load-old.new.self }) c.args.address =
    read_in_lines c.args.self.now (record c.args.self.now { cache = c.load-old.new.self }) c.args.address c.args.offset _ c.requires.place.place
    refl refl refl
    (rw cache at c.load-old.ensures.memory) (rw cache at c.load-old.ensures.changed) (rw cache at c.load-old.ensures.steps) in
    combines_with c.args.self.now (record c.args.self.now { cache = c.load-old.new.self }) _ c.args.op c.args.hart c.args.address c.args.width
    c.args.operand c.load-old.result c.amo_result-value.result c.amo_result-value.ensures.value finds reads
    (written_in_lines (record c.args.self.now { cache = c.load-old.new.self }) _ c.args.hart c.args.address c.args.width c.args.offset
    c.amo_result-value.result _ c.requires.place.place (ap (λ (s : SharedView). s.ram) opened)
    (c.push_reserved.ensures ∙ rw (c.reserve_one.ensures.same, trace, c.store_event.ensures) refl)
    c.store.ensures.bytes c.store.ensures.changed c.store.ensures.steps
    (stored_more c.args.self.now.reserved (reserved_lines c.stored.new.self 0 8) c.self.inside.reservations c.stored.new.self c.args.hart
    c.args.address c.reserved_line.result (sym (ap (λ (s : SharedView). s.reserved) opened)) refl c.reserved_line.ensures
    c.stored.ensures))
