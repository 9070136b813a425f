use Rattle.std.proofs.Common.{◌≡◌, ℕ, ◌+◌, ◌-◌, ◌<◌, List, ◌++◌, length, get_or, take, drop, subst, sym, ◌∙◌, ap, arith}
use Rattle.store_trace.specs.declared.event.Event.{Event}
use Rattle.store_trace.specs.declared.event.Event.TheVariants.{Store}
use Rattle.durability.proofs.Nexts.{fate_found, fates_more, slice_back}
use Rattle.durability.specs.Causes.{AreFates, AreNext, IsFate}
use Rattle.durability.specs.declared.cause.Fate.{Fate}
use Rattle.durability.proofs.fates.fates_of.Goals as goal

pub loop-at-preserved : goal.loop-at-preserved
loop-at-preserved c =
    let none : Event = Store 0 0 0 0 0 in
    let events = c.args.events.now in
    let k = c.loop-at.at - 1 in
    let e : c.loop-at.at ≡ k + 1 = omega arith in
    let there : k < length events = omega arith in
    let fates = subst (λ (n : ℕ). AreFates events n c.loop-at.fates.items) e c.loop-at.invariant.fates in
    let next = subst (λ (n : ℕ). AreNext events n c.loop-at.fences c.loop-at.next.items) e c.loop-at.invariant.next in
    let long : length c.read.new.next ≡ c.loop-at.next.len = omega (arith, c.read.auto.next, c.deref_mut.ensures.len, c.loop-at.next.ok.0) in
    let same : take c.loop-at.next.len (c.read.new.next ++ drop (length c.read.new.next) c.loop-at.next.items) ≡ c.read.new.next =
    slice_back c.loop-at.next.len c.read.new.next c.loop-at.next.items long in
    let here : (h l o w v : ℕ) → get_or events k none ≡ Store h l o w v → IsFate events l (k + 1) c.fate_of.result = λ h l o w v is.
    let named = rw is at (c.requires.named k none there) in
    let within : l < length c.loop-at.next.items = omega (arith, named, c.loop-at.invariant.size) in
    let found : c.fate_of.result ≡ get_or c.loop-at.next.items l c.fate_of.result =
    c.fate_of.ensures h l o w v is ∙ ap (λ (xs : List Fate). get_or xs l c.fate_of.result) c.deref.ensures.value in
    fate_found events (k + 1) l c.loop-at.fences c.loop-at.next.items c.fate_of.result next within found in
    record {
      fates = fates_more events k none c.loop-at.fates.items c.fate_of.result there here fates;
      next = subst (λ (xs : List Fate). AreNext events k c.read.new.fences xs) (sym same) c.read.ensures;
      size = omega (arith, ap (λ (xs : List Fate). length xs) same, long, c.loop-at.next.ok.0, c.loop-at.invariant.size);
    }
