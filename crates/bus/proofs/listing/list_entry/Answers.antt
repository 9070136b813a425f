use Rattle.std.proofs.Common.{◌≡◌, refl}
use Rattle.std.proofs.lemmas.Result.{IfErr-weaker, on_ok_weaker}
use Rattle.bus.specs.declared.finish_fault.FinishFault.TheVariants.{Memory as NoMemory}
use Rattle.bus.proofs.Foreign.{memory_is}
use Rattle.bus.proofs.Comparing.{asked_listed, asked_unlisted, listed_evicted}
use Rattle.bus.proofs.listing.list_entry.Goals as goal

pub returns-in-Asked-clause-ok : goal.returns-in-Asked-clause-ok
returns-in-Asked-clause-ok c =
    let below = rw c.in-Asked.is at c.requires.below in
    rw c.in-Asked.is (on_ok_weaker c.list_exchange.result
    (λ next. asked_listed c.args.seats.now c.args.counts.now _ c.in-Asked.hart c.in-Asked.request c.in-Asked.reply c.args.runs.now
    c.list_exchange.new.runs c.index-seats-place.result c.list_exchange.new.count c.requires.places below.0 c.index-seats-place.is refl next)
    c.list_exchange.ensures.ok)

pub returns-in-Asked-clause-err : goal.returns-in-Asked-clause-err
returns-in-Asked-clause-err c =
    let below = rw c.in-Asked.is at c.requires.below in
    rw c.in-Asked.is (IfErr-weaker c.list_exchange.result _ _
    (λ fault refused. asked_unlisted c.args.seats.now c.args.counts.now c.in-Asked.hart c.in-Asked.request c.in-Asked.reply c.args.runs.now
    c.index-seats-place.result fault c.requires.places below.0 c.index-seats-place.is refused)
    c.list_exchange.ensures.err)

pub returns-in-Evicted-clause-ok : goal.returns-in-Evicted-clause-ok
returns-in-Evicted-clause-ok c =
    rw c.in-Evicted.is (on_ok_weaker c.evict.result
    (λ added. listed_evicted c.args.seats.now c.args.counts.now c.in-Evicted.line c.args.runs.now c.evict.new.self added)
    c.evict.ensures.ok)

pub returns-in-Evicted-clause-err : goal.returns-in-Evicted-clause-err
returns-in-Evicted-clause-err c =
    IfErr-weaker c.evict.result (λ fault. fault ≡ NoMemory) _ (λ fault is. memory_is _ fault is) c.evict.ensures.err
