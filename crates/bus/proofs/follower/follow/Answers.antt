use Rattle.std.proofs.Common.{◌≡◌, List, ap, refl, slice_index_or}
use Rattle.std.proofs.lemmas.Result.{IfErr-weaker, on_ok_weaker}
use Rattle.bus.specs.declared.finish_fault.FinishFault.TheVariants.{Memory as NoMemory}
use Rattle.bus.specs.declared.follower.Follower.{Follower}
use Rattle.bus.specs.Following.{CannotFollow, CannotMake, IfForeign}
use Rattle.bus.proofs.Following.{asked_followed, evicted_followed}
use Rattle.bus.proofs.Foreign.{follow_cannot, memory_is}
use Rattle.bus.proofs.follower.follow.Goals as goal

pub returns-in-Asked-clause-ok : goal.returns-in-Asked-clause-ok
returns-in-Asked-clause-ok c =
    let below = rw c.in-Asked.is at c.requires.below in
    let fs : List Follower = c.args.followers.now in
    let f : Follower = slice_index_or fs c.in-Asked.hart c.index-followers-place.result in
    rw c.in-Asked.is (on_ok_weaker c.make_again.result
    (λ m. asked_followed c.args.core.now c.make_again.new.core c.args.seats.now fs _ c.in-Asked.hart c.in-Asked.request c.in-Asked.reply
    c.index-seats-place.result f c.make_again.new.follower c.requires.paired
    below.0 c.index-seats-place.is (ap (λ (x : Follower). slice_index_or fs c.in-Asked.hart x) c.index-followers-place.is) refl m)
    c.make_again.ensures.ok)

pub returns-in-Asked-clause-err : goal.returns-in-Asked-clause-err
returns-in-Asked-clause-err c =
    let below = rw c.in-Asked.is at c.requires.below in
    let fs : List Follower = c.args.followers.now in
    let f : Follower = slice_index_or fs c.in-Asked.hart c.index-followers-place.result in
    IfErr-weaker c.make_again.result (IfForeign (CannotMake c.args.core.now c.index-seats-place.result f c.in-Asked.request c.in-Asked.reply))
    (IfForeign (CannotFollow c.args.core.now c.args.seats.now fs c.args.entry))
    (λ fault refused. follow_cannot c.args.core.now c.args.seats.now fs c.args.entry c.in-Asked.hart c.in-Asked.request c.in-Asked.reply
    c.index-seats-place.result f fault c.requires.paired below.0 c.index-seats-place.is
    (ap (λ (x : Follower). slice_index_or fs c.in-Asked.hart x) c.index-followers-place.is) c.in-Asked.is refused)
    c.make_again.ensures.err

pub returns-in-Evicted-clause-ok : goal.returns-in-Evicted-clause-ok
returns-in-Evicted-clause-ok c =
    rw c.in-Evicted.is (on_ok_weaker c.follow_eviction.result
    (λ m. evicted_followed c.args.core.now c.follow_eviction.new.core c.args.seats.now c.args.followers.now c.in-Evicted.line m)
    c.follow_eviction.ensures.ok)

pub returns-in-Evicted-clause-err : goal.returns-in-Evicted-clause-err
returns-in-Evicted-clause-err c =
    IfErr-weaker c.follow_eviction.result (λ fault. fault ≡ NoMemory)
    (IfForeign (CannotFollow c.args.core.now c.args.seats.now c.args.followers.now c.args.entry)) (λ fault is. memory_is _ fault is)
    c.follow_eviction.ensures.err
