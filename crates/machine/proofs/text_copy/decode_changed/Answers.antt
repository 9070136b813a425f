use Rattle.std.proofs.Common.{◌≡◌, ◌+◌, ◌-◌, ◌*◌, sym, ◌∙◌, arith}
use Rattle.std.proofs.Math.ListN.{drop, take}
use Rattle.std.proofs.lemmas.Bool.{not-false}
use Rattle.std.proofs.lemmas.Slice.Eq.{bytes_eq-Decides}
use Rattle.machine.proofs.Decoding.{same_line}
use Rattle.machine.proofs.text_copy.decode_changed.Goals.{then-ne, else-ne}
use Rattle.machine.proofs.text_copy.decode_changed.Goals as goal

pub loop-line-preserved : goal.loop-line-preserved
loop-line-preserved c =
    let text = c.args.text.now in
    let before = c.args.before.now in
    let line = c.loop-line.line in
    let next : 16 * (line + 1) ≡ 16 * line + 16 = omega arith in
    elim c.if-ne.branch [
      | then-ne w ↦ rw (next, w.decoded-is) (w.decode_line.ensures.mixed before c.loop-line.invariant)
      | else-ne w ↦
          let place : line * 64 ≡ 64 * line = omega arith in
          let size : line * 64 + 64 - line * 64 ≡ 64 = omega arith in
          let equal = not-false _ (sym c.ne.ensures ∙ w.if-ne.false) in
          let same : take 64 (drop (64 * line) before) ≡ take 64 (drop (64 * line) text) =
          (bytes_eq-Decides (take 64 (drop (64 * line) before)) (take 64 (drop (64 * line) text))).0 (rw (size, place) at equal) in
          rw (next, w.decoded-is) (same_line text before line c.loop-line.decoded same c.loop-line.invariant)
    ]
