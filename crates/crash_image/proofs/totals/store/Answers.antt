use Rattle.std.proofs.Common.{◌∙◌, List, length, ap, subst, arith}
use Rattle.crash_image.proofs.Totaling.{end_store, kept_store, new_store}
use Rattle.crash_image.specs.Totals.{IsFreePlace}
use Rattle.crash_image.specs.declared.totals.FreeLine.{FreeLine}
use Rattle.crash_image.proofs.totals.store.Goals as goal
use Rattle.crash_image.proofs.totals.store.Goals.{else-at-len-via-then-at-len+else-index-line, else-at-len-via-else-at-len}

pub returns-then-index-line : goal.returns-then-index-line
returns-then-index-line c =
    let place : IsFreePlace c.args.free.now.items c.args.line c.place_of-at.result =
    subst (λ (fs : List FreeLine). IsFreePlace fs c.args.line c.place_of-at.result) c.deref.ensures.value c.place_of-at.ensures in
    kept_store c.args.free.now.items c.args.line c.place_of-at.result c.index.result.now c.index_mut.result.now
    (omega (arith, c.if-at-len.true, c.len.ensures, c.deref.ensures.len, ap (λ (fs : List FreeLine). length fs) c.deref.ensures.value)) place
    c.index.ensures c.if-index-line.true c.index_mut.ensures.value

pub returns : goal.returns
returns c =
    let place : IsFreePlace c.args.free.now.items c.args.line c.place_of-at.result =
    subst (λ (fs : List FreeLine). IsFreePlace fs c.args.line c.place_of-at.result) c.deref.ensures.value c.place_of-at.ensures in
    elim c.else-at-len.branch [
      | else-at-len-via-then-at-len+else-index-line w ↦
          c.in_ok-insert.ensures.items
          ∙ new_store c.args.free.now.items c.args.line c.place_of-at.result w.index.result.now place w.index.ensures (λ h. w.if-index-line.false)
      | else-at-len-via-else-at-len w ↦
          c.in_ok-insert.ensures.items
          ∙ end_store c.args.free.now.items c.args.line c.place_of-at.result place
          (omega (arith, w.if-at-len.false, c.len.ensures, c.deref.ensures.len, ap (λ (fs : List FreeLine). length fs) c.deref.ensures.value))
    ]
