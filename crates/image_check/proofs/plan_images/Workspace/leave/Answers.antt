use Rattle.std.proofs.Common.{◌≡◌, ◌≢◌, ◌<◌, ℕ, Bool, true, List, length, get_or, sym, ap, subst, ◌∙◌, arith, true≢false}
use Rattle.std.proofs.Math.ListN.{length-set}
use Rattle.std.proofs.lemmas.List.{get_or_read}
use Rattle.std.specs.List.{AllByRecursion}
use Rattle.nova_log.specs.Logs.{log_of}
use Rattle.nova_log.specs.declared.kept.LogReading.{LogReading}
use Rattle.image_check.proofs.Leaving.{IsLeft, kept_on, left_more, rest_more}
use Rattle.image_check.proofs.plan_images.Workspace.leave.Goals as goal
use Rattle.image_check.proofs.plan_images.Workspace.leave.Goals.{then-reading, else-reading}

-- a reading that is kept on was kept, and isn't by this line
own_left : (line : ℕ) (reading here : LogReading) (is_kept : Bool) → reading ≡ here →
    (is_kept ≡ true → (reading.is_kept ≡ true) × AllByRecursion (λ l. l ≢ line) reading.lines.items) → IsLeft line (record reading { is_kept = is_kept }) here
own_left line reading here is_kept same own is =
    let both = own is in
    subst (λ (x : LogReading). (record reading { is_kept = is_kept } ≡ x) × AllByRecursion (λ l. l ≢ line) x.lines.items) same
    (ap (λ (b : Bool). record reading { is_kept = b }) (is ∙ sym both.0), both.1)

pub loop-n-preserved : goal.loop-n-preserved
loop-n-preserved c =
    let before = c.loop-n.invariant in
    let items = c.loop-n.self.kept.readings.items in
    let old = c.args.self.now.kept.readings.items in
    let reading = c.index_mut-reading.result.now in
    let new : LogReading = record reading { is_kept = c.if-reading.reading } in
    let inside : c.loop-n.n < length items = omega (arith, before.size, c.loop-n-test.true, c.len-n-end.ensures) in
    let own : c.if-reading.reading ≡ true → (reading.is_kept ≡ true) × AllByRecursion (λ l. l ≢ c.args.line) reading.lines.items = elim c.if-reading.branch [
      | then-reading w ↦ λ is.
          let lines : w.deref.result.now ≡ reading.lines.items = cc in
          (w.if-reading.true, subst (λ (xs : List ℕ). AllByRecursion (λ l. l ≢ c.args.line) xs) lines (w.is_without-reading.ensures (sym w.reading-is ∙ is)))
      | else-reading w ↦ λ is. absurd (true≢false (sym is ∙ w.reading-is ∙ w.if-reading.false))
    ] in
    record {
      geometry = before.geometry;
      volume = before.volume;
      size = length-set items c.loop-n.n new ∙ before.size;
      rest = rest_more items old c.loop-n.n new before.rest;
      left = left_more c.args.line items old c.loop-n.n new inside before.rest before.left
          (λ d. own_left c.args.line reading (get_or items c.loop-n.n d) c.if-reading.reading (get_or_read items c.loop-n.n reading inside c.index_mut-reading.ensures.value d) own);
    }

pub returns : goal.returns
returns c = λ medium other differ kept n d inside is.
    let end = c.loop-n.invariant in
    let old = c.args.self.now.kept in
    let less : n < c.loop-n.n = omega arith in
    rw (end.geometry, end.volume) (kept_on c.args.line medium other old.geometry (get_or c.loop-n.self.kept.readings.items n d) (get_or old.readings.items n d)
    (log_of old.volume n) differ (end.left n d less) (kept n d (omega (arith, inside, end.size))) is)
