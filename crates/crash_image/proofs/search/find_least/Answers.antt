use Rattle.std.proofs.Common.{◌≡◌, ◌∙◌, List, length, ap, arith}
use Rattle.store_trace.specs.Cut.{number_in}
use Rattle.crash_image.specs.declared.search.Sought.{Sought}
use Rattle.crash_image.proofs.Slices.{written}
use Rattle.crash_image.proofs.search.find_least.Goals as goal

pub look_through-requires-clause-sought : goal.look_through-requires-clause-sought
look_through-requires-clause-sought c = (number_in c.args.floors.now, rw c.deref_mut.ensures.value c.in_ok-all.ensures.sought)

pub numbers_found-requires : goal.numbers_found-requires
numbers_found-requires c = omega (arith, c.deref.ensures.len, c.in_ok-all.all.ok.0, c.in_ok-all.ensures.few)

pub returns-clause-ok : goal.returns-clause-ok
returns-clause-ok c =
    let same : c.deref.result.now ≡ c.look_through.new.all =
    c.deref.ensures.value
    ∙ written c.in_ok-all.all.items c.look_through.new.all c.in_ok-all.all.len c.in_ok-all.all.ok.0
    (c.look_through.auto.all ∙ ap (λ (ts : List Sought). length ts) c.deref_mut.ensures.value) in
    rw (c.in_ok-found.ensures, same)
    (c.in_ok-look_through.ensures.ok (number_in c.args.floors.now) (rw c.deref_mut.ensures.value c.in_ok-all.ensures.sought))
