use Rattle.std.proofs.Common.{rules, ◌≡◌, length, arith}
use Rattle.workers.proofs.sweep.judge_all.Goals as goal

pub gather-requires-clause-each : goal.gather-requires-clause-each
gather-requires-clause-each g c = λ k d l.
    let e = c.in_ok-worked.ensures in
    let len : length c.in_ok-worked.worked.items ≡ length c.in_ok-desk.seats.items = search rules in
    (e.each k d (omega (arith, len, l))).1.call.met
