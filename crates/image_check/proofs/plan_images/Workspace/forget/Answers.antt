use Rattle.std.proofs.Common.{◌≡◌, ◌≢◌, ℕ, ◌+◌, ◌<◌, false, inl, inr, List, ◌++◌, length, get_or, take, drop, refl, sym, ap, ◌∙◌, subst, arith, true≢false, length-append, length-drop, get_or-set_same, get_or-set_other, set}
use Rattle.std.proofs.lemmas.Bool.{cases_lt}
use Rattle.std.proofs.lemmas.List.{get_or-take, get_or_append_left, length-take}
use Rattle.nova_log.specs.declared.kept.LogReading.{LogReading}
use Rattle.image_check.proofs.plan_images.Workspace.forget.Goals as goal

-- the readings, as they are written back
none_kept : (size : ℕ) (new old : List LogReading) → length new ≡ length old → ((n : ℕ) (d : LogReading) → n < length new → (get_or new n d).is_kept ≡ false) →
    (n : ℕ) (d : LogReading) → n < length (take size (new ++ drop (length new) old)) →
    (get_or (take size (new ++ drop (length new) old)) n d).is_kept ≡ false
none_kept size new old same none n d inside =
    let long = length-take size (new ++ drop (length new) old) in
    let both = length-append new (drop (length new) old) in
    let rest = length-drop (length new) old in
    let here : n < length new = omega arith in
    ap (λ (r : LogReading). r.is_kept) (get_or-take size (new ++ drop (length new) old) n d (omega arith) ∙ get_or_append_left new (drop (length new) old) d n here) ∙ none n d here

-- one reading more
one_more : (items : List LogReading) (i : ℕ) (reading : LogReading) → i < length items → reading.is_kept ≡ false →
    ((n : ℕ) (d : LogReading) → n < i → (get_or items n d).is_kept ≡ false) →
    (n : ℕ) (d : LogReading) → n < i + 1 → (get_or (set items i reading) n d).is_kept ≡ false
one_more items i reading inside none before n d l = elim (cases_lt n i) [
  | inl less ↦
      let other : n ≢ i = omega arith in
      ap (λ (r : LogReading). r.is_kept) (get_or-set_other items i n reading d other) ∙ before n d less
  | inr last ↦
      let same : i ≡ n = omega arith in
      subst (λ (k : ℕ). (get_or (set items i reading) k d).is_kept ≡ false) same
      (ap (λ (r : LogReading). r.is_kept) (get_or-set_same items i reading d inside) ∙ none)
]

pub loop-reading-preserved : goal.loop-reading-preserved
loop-reading-preserved c =
    one_more c.loop-reading.reading-items c.loop-reading.reading-index _ (omega arith) refl c.loop-reading.invariant

pub returns : goal.returns
returns c = λ medium n d l kept.
    absurd (true≢false (sym kept
    ∙ none_kept c.args.self.now.kept.readings.len c.loop-reading.reading-items c.args.self.now.kept.readings.items
    (c.loop-reading.auto.reading-items ∙ ap length c.deref_mut-reading-items.ensures.value)
    (λ m e inside. c.loop-reading.invariant m e (omega arith)) n d l))
