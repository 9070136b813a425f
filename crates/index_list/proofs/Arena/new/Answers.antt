use Rattle.std.proofs.Common.{◌≡◌, arith, refl}
use Rattle.index_list.specs.Links.{IsArena}
use Rattle.index_list.proofs.Rings.{empty_arena, lists_of_empty}
use Rattle.index_list.proofs.Arena.new.Goals as goal

pub invariant_of-result : goal.invariant_of-result
invariant_of-result g c =
    let all : c.loop.counter ≡ g.row.K = omega arith in
    rw (c.loop.invariant, all) (empty_arena g.row.K c.args.n)

pub returns-clause-made : goal.returns-clause-made
returns-clause-made g c =
    let all : c.loop.counter ≡ g.row.K = omega arith in
    rw (c.loop.invariant, all, lists_of_empty g.row.K c.args.n) refl

pub returns-clause-sound : goal.returns-clause-sound
returns-clause-sound g c =
    let all : c.loop.counter ≡ g.row.K = omega arith in
    let made : IsArena g.row.K c.args.n c.loop.rings.items = rw (c.loop.invariant, all) (empty_arena g.row.K c.args.n) in
    made.sound
