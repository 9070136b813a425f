use Rattle.std.proofs.Common.{◌≡◌, ◌/◌, true, false, ap, refl, sym, ◌∙◌}
use Rattle.machine.specs.SharedView.{SharedView, holds}
use Rattle.machine.proofs.Reserving.{restored, told_line}
use Rattle.machine.proofs.Serving.{ends, fails, sc_refused, succeeds}
use Rattle.machine.proofs.shared_memory.shared.Shared.store_conditional.Goals as goal

pub returns-then-not-take-clause-ok : goal.returns-then-not-take-clause-ok
returns-then-not-take-clause-ok c =
    let was = sym (ap (λ (s : SharedView). s.reserved) c.self.view_is) in
    let told = told_line c.self.inside.reservations c.args.hart c.reserved_line-line.result c.take.result c.take.ensures.reserved in
    let free : holds c.args.self.now c.args.hart (c.args.address / 64) ≡ false =
    rw (was, ← c.reserved_line-line.ensures) (sym told ∙ c.if-not-take.true) in
    fails c.args.self.now _ c.args.hart c.args.address c.args.width c.args.value c.in-Ok.ensures.no_fault free
    (ends c.args.self.now _ c.self.inside.reservations c.take.new.self c.args.hart was (rw (← c.self.view_is) refl) c.take.ensures.ended)

pub returns-in-Err-write-clause-err : goal.returns-in-Err-write-clause-err
returns-in-Err-write-clause-err c =
    let told = told_line c.self.inside.reservations c.args.hart c.reserved_line-line.result c.take.result c.take.ensures.reserved in
    let same = c.self-2.view_is ∙ c.in-Err-write.ensures.err in
    let ram = ap (λ (s : SharedView). s.ram) same in
    let cache = ap (λ (s : SharedView). s.cache) same in
    let trace = ap (λ (s : SharedView). s.trace) same in
    let reserved = ap (λ (s : SharedView). s.reserved) same in
    let back = restored c.self.inside.reservations c.take.new.self c.self-2.inside.reservations c.reserve.new.self c.args.hart
    c.reserved_line-line.result c.take.ensures.ended reserved c.reserve.ensures (sym told ∙ c.if-not-take.false) in
    rw (ram, cache, trace, back) c.self.view_is

pub returns-in-Err-write-clause-refused : goal.returns-in-Err-write-clause-refused
returns-in-Err-write-clause-refused c =
    let was = sym (ap (λ (s : SharedView). s.reserved) c.self.view_is) in
    let told = told_line c.self.inside.reservations c.args.hart c.reserved_line-line.result c.take.result c.take.ensures.reserved in
    let held : holds c.args.self.now c.args.hart (c.args.address / 64) ≡ true =
    rw (was, ← c.reserved_line-line.ensures) (sym told ∙ c.if-not-take.false) in
    sc_refused c.args.self.now _ c.args.hart c.args.address c.args.width c.args.value c.in-Err-write.fault c.in-Ok.ensures.no_fault held
    (ap (λ (s : SharedView). s.trace) c.self.view_is) c.in-Err-write.ensures.refused

pub returns-clause-ok : goal.returns-clause-ok
returns-clause-ok c =
    let was = sym (ap (λ (s : SharedView). s.reserved) c.self.view_is) in
    let told = told_line c.self.inside.reservations c.args.hart c.reserved_line-line.result c.take.result c.take.ensures.reserved in
    let held : holds c.args.self.now c.args.hart (c.args.address / 64) ≡ true =
    rw (was, ← c.reserved_line-line.ensures) (sym told ∙ c.if-not-take.false) in
    succeeds c.args.self.now _ c.write.new.self c.args.hart c.args.address c.args.width c.args.value c.in-Ok.ensures.no_fault held
    (ends c.args.self.now _ c.self.inside.reservations c.take.new.self c.args.hart was (rw (← c.self.view_is) refl) c.take.ensures.ended)
    c.in_default.ensures.ok
