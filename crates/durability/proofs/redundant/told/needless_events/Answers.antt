use Rattle.std.proofs.Common.{◌≡◌, ℕ, ◌+◌, ◌<◌, List, ◌++◌, Option, length, replicate, set, take, drop, arith, refl, subst, sym, ap, ◌∙◌}
use Rattle.std.proofs.lemmas.List.{get_or-replicate, length-replicate, length-set}
use Rattle.std.specs.Prelude.{◌↔◌}
use Rattle.store_trace.specs.declared.event.Event.{Event}
use Rattle.durability.proofs.Start.{no_events, no_fences, none_told, slice_back}
use Rattle.durability.proofs.Telling.{told_one_more}
use Rattle.durability.proofs.Whole.{needless_are_told}
use Rattle.durability.specs.Found.{AreNeedless, with_reasons}
use Rattle.durability.specs.Reading.{AreLines, AreTold}
use Rattle.durability.specs.declared.redundant.reading.LastClean.{LastClean}
use Rattle.durability.specs.declared.redundant.reading.LineState.{LineState}
use Rattle.durability.specs.declared.redundant.reason.Reason.{Reason}
use Rattle.durability.proofs.redundant.told.needless_events.Goals as goal

pub loop-at-init : goal.loop-at-init
loop-at-init c =
    let events = c.events-events.result.now in
    let none : LastClean = record { event = 0; stores = 0 } in
    let start : LineState = record { stores = 0; floor = 0; cleans = replicate 8 none } in
    let items : c.in_ok-states.states.items ≡ replicate c.args.lines start = c.in_ok-states.ensures.items_if_clones_equal (λ y same. same) in
    let count : length c.in_ok-states.states.items ≡ c.args.lines = rw items (length-replicate c.args.lines start) in
    record {
      size = omega (arith, c.in_ok-told.told.ok.0, c.in_ok-told.ensures.len);
      count = count;
      fences = no_fences events (replicate 8 0) (λ h d low. get_or-replicate 8 h 0 d low);
      lines = no_events events c.in_ok-states.states.items start
          (λ l d within. let low : l < c.args.lines = omega (arith, within, count) in rw items (get_or-replicate c.args.lines l start d low))
          refl refl refl (λ h d low. get_or-replicate 8 h none d low);
      told = none_told events c.in_ok-told.told.items;
    }

pub loop-at-preserved : goal.loop-at-preserved
loop-at-preserved c =
    let events = c.events-events.result.now in
    let at = c.loop-at.at in
    let many : length c.read.new.lines ≡ c.loop-at.states.len = omega (arith, c.read.auto.lines, c.deref_mut.ensures.len, c.loop-at.states.ok.0) in
    let lines : take c.loop-at.states.len (c.read.new.lines ++ drop (length c.read.new.lines) c.loop-at.states.items) ≡ c.read.new.lines =
    slice_back c.loop-at.states.len c.read.new.lines c.loop-at.states.items many in
    let long : length c.read.new.told ≡ c.loop-at.told.len = omega (arith, c.read.auto.told, c.deref_mut-in-loop-at.ensures.len, c.loop-at.told.ok.0) in
    let told : take c.loop-at.told.len (c.read.new.told ++ drop (length c.read.new.told) c.loop-at.told.items) ≡ c.read.new.told =
    slice_back c.loop-at.told.len c.read.new.told c.loop-at.told.items long in
    let within : at < length c.read.new.told = omega (arith, long, c.loop-at.told.ok.0, c.loop-at.invariant.size, c.loop-at-test.true) in
    record {
      size = subst (λ (xs : List (Option Reason)). length (set xs at c.read.result) ≡ length events) (sym told)
          (length-set c.read.new.told at c.read.result ∙ omega (arith, long, c.loop-at.told.ok.0, c.loop-at.invariant.size));
      count = ap (λ (xs : List LineState). length xs) lines ∙ omega (arith, many, c.loop-at.states.ok.0, c.loop-at.invariant.count);
      fences = c.read.ensures.fences;
      lines = subst (λ (xs : List LineState). AreLines events (at + 1) xs) (sym lines) c.read.ensures.lines;
      told = subst (λ (xs : List (Option Reason)). AreTold events (at + 1) (at + 1) (set xs at c.read.result)) (sym told)
          (told_one_more events (at + 1) at c.read.new.told c.read.result within c.read.ensures.told c.read.ensures.this);
    }

pub read-requires-clause-lines : goal.read-requires-clause-lines
read-requires-clause-lines c =
    subst (λ (xs : List LineState). AreLines c.events-events.result.now c.loop-at.at xs) (sym c.deref_mut.ensures.value) c.loop-at.invariant.lines

pub read-requires-clause-told : goal.read-requires-clause-told
read-requires-clause-told c =
    subst (λ (xs : List (Option Reason)). AreTold c.events-events.result.now c.loop-at.at c.loop-at.at xs)
    (sym c.deref_mut-in-loop-at.ensures.value) c.loop-at.invariant.told

pub read-requires-clause-fences : goal.read-requires-clause-fences
read-requires-clause-fences c = c.loop-at.invariant.fences

pub returns-clause-needless : goal.returns-clause-needless
returns-clause-needless c = λ found.
    let events = c.events-events.result.now in
    let end : c.loop-at.at ≡ length events = omega arith in
    let told : AreTold events (length events) (length events) c.loop-at.told.items =
    subst (λ (n : ℕ). AreTold events n n c.loop-at.told.items) end c.loop-at.invariant.told in
    let all : AreNeedless events found ↔ (found ≡ with_reasons 1 c.loop-at.told.items) =
    needless_are_told events c.loop-at.told.items c.loop-at.invariant.size told found in
    subst (λ (es : List Event). AreNeedless es found ↔ (found ≡ with_reasons 1 c.loop-at.told.items)) c.events-events.ensures.value all
