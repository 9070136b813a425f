use Rattle.std.proofs.Common.{◌≡◌, ℕ, ◌+◌, ◌<◌, List, ◌++◌, length, get_or, inl, inr, ap, ◌∙◌}
use Rattle.store_trace.specs.Stores.{stores}
use Rattle.store_trace.specs.History.{at_moment, steps_of}
use Rattle.store_trace.specs.declared.event.Event.{Event}
use Rattle.store_trace.specs.declared.event.Event.TheVariants.{Store}
use Rattle.crash_image.specs.Lines.{unstored}
use Rattle.crash_image.proofs.Indexed.{indexed_cleaned, indexed_fenced, indexed_stays, indexed_stored, moment_more}
use Rattle.crash_image.proofs.trace_index.build.read.Goals as goal

-- one moment more, by the event at this place
more : (events : List Event) (i : ℕ) (event : Event) → i < length events → get_or events i (Store 0 0 0 0 0) ≡ event →
    at_moment events (i + 1) ≡ steps_of event ++ at_moment events i
more events i event h is = moment_more events i (Store 0 0 0 0 0) h ∙ ap (λ (e : Event). steps_of e ++ at_moment events i) is

pub returns-in_ok-store-in-Store : goal.returns-in_ok-store-in-Store
returns-in_ok-store-in-Store c =
    let none : Event = Store 0 0 0 0 0 in
    let named = rw c.in-Store.is at (c.requires.named c.args.at none c.requires.there) in
    let e = more c.args.events.now c.args.at _ c.requires.there c.in-Store.is in
    let stored = c.in_ok-store-in-Store.ensures in
    let made = rw c.read_line-start.ensures.value at stored.stores in
    rw stored.set (indexed_stored c.args.medium.now (at_moment c.args.events.now) c.args.at c.args.lines.now c.args.pending.now
    c.in-Store.line c.in-Store.offset c.in-Store.width c.in-Store.value unstored stored.line
    named e made stored.raises c.requires.before)

pub returns-in_ok-push-in-Clean : goal.returns-in_ok-push-in-Clean
returns-in_ok-push-in-Clean c =
    let none : Event = Store 0 0 0 0 0 in
    let named = rw c.in-Clean.is at (c.requires.named c.args.at none c.requires.there) in
    let hart = rw c.in-Clean.is at (c.requires.each c.args.at none c.requires.there) in
    let e = more c.args.events.now c.args.at _ c.requires.there c.in-Clean.is in
    let line = c.requires.before.lines_are.each c.in-Clean.line unstored named in
    let count : c.count-stores.result ≡ stores c.in-Clean.line (at_moment c.args.events.now c.args.at) = c.count-stores.ensures ∙ line.stored.count in
    indexed_cleaned c.args.medium.now (at_moment c.args.events.now) c.args.at c.args.lines.now c.args.pending.now
    c.in-Clean.hart c.in-Clean.line c.count-stores.result c.index-pending-hart.result c.push.new.self hart named e
    count c.in_ok-push-in-Clean.ensures.items c.requires.before

pub returns-in_ok-raise_all-in-Fence : goal.returns-in_ok-raise_all-in-Fence
returns-in_ok-raise_all-in-Fence c =
    let none : Event = Store 0 0 0 0 0 in
    let hart = rw c.in-Fence.is at (c.requires.each c.args.at none c.requires.there) in
    let e = more c.args.events.now c.args.at _ c.requires.there c.in-Fence.is in
    let pending = c.requires.before.pending_are in
    let own = pending.each c.in-Fence.hart c.index-pending-hart-in-Fence.result hart in
    let raised = c.in_ok-raise_all-in-Fence.ensures c.args.medium.now (at_moment c.args.events.now) c.in-Fence.hart e
    (rw c.deref.ensures.value own) c.requires.before.lines_are in
    indexed_fenced c.args.medium.now (at_moment c.args.events.now) c.args.at c.raise_all.new.lines c.args.pending.now
    c.in-Fence.hart c.clear.new.self hart e c.clear.ensures.items pending raised

pub returns-in-Begin : goal.returns-in-Begin
returns-in-Begin c =
    let e : at_moment c.args.events.now (c.args.at + 1) ≡ at_moment c.args.events.now c.args.at = elim c.in-Begin.is [
      | inl begins ↦ more c.args.events.now c.args.at _ c.requires.there begins.2
      | inr ends ↦ more c.args.events.now c.args.at _ c.requires.there ends.2
    ] in
    indexed_stays c.args.medium.now (at_moment c.args.events.now) c.args.at c.args.lines.now c.args.pending.now e c.requires.before
