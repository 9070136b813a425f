use Rattle.std.proofs.Common.{◌≡◌, ap, length, arith}
use Rattle.crash_image.proofs.Places.{place_last}
use Rattle.crash_image.specs.Lines.{LineView, store_event}
use Rattle.crash_image.proofs.trace_index.line.LineIndex.stores_at.Goals as goal

pub returns-then-are_before-clause-place : goal.returns-then-are_before-clause-place
returns-then-are_before-clause-place c = λ count p.
    let same = ap (λ (line : LineView). length line.stores) c.self.view_is in
    let all : length c.args.self.now.stores ≡ count =
    place_last store_event c.args.self.now.stores c.args.moment count (c.are_before.ensures c.if-are_before.true).stores p in
    omega (arith, c.len.ensures, c.self.inside.stores.ok.0, same, all)

pub returns-else-are_before-clause-place : goal.returns-else-are_before-clause-place
returns-else-are_before-clause-place c = λ count p.
    let same = ap (λ (line : LineView). line.stores) c.self.view_is in
    c.stores_before.ensures.place count (rw (c.deref.ensures.value, same) p)
