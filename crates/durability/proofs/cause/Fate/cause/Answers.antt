use Rattle.std.proofs.Common.{◌≡◌, ◌<◌, ◌≤◌, Some, subst, sym, arith}
use Rattle.durability.proofs.Opens.{another_fences}
use Rattle.durability.proofs.cause.Fate.cause.Goals as goal

pub returns-in-Some-Some-2 : goal.returns-in-Some-Some-2
returns-in-Some-Some-2 c = λ events line store fate.
    another_fences events line store c.args.moment c.args.self c.in-Some-default.clean c.in-Some-Some.first
    c.in-Some-default.is-0 c.in-Some-Some.is-1 c.if-moment-clean.false c.if-clean-first.false fate
