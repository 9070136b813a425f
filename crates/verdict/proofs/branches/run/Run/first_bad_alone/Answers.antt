use Rattle.std.proofs.Common.{◌∙◌, ℕ, List, get_or, length, subst, sym, ap}
use Rattle.std.specs.Prelude.{None}
use Rattle.verdict.specs.Branches.{IsWithin}
use Rattle.verdict.specs.Numbers.{number_over}
use Rattle.verdict.specs.Queue.{with_number}
use Rattle.verdict.proofs.Edging.{IsPut, all_more, none_again, open_at, over_alone, passes, within_alone}
use Rattle.verdict.proofs.branches.run.Run.first_bad_alone.Goals as goal

pub judge-requires-clause-within : goal.judge-requires-clause-within
judge-requires-clause-within g c κs within =
    let r = g.R.Recovery in
    let s = c.args.recovery.now in
    let line : ℕ = get_or c.args.lines.now c.loop-line.line-index 0 in
    let opened = open_at (r.low s) (r.high s) (r.lines s) c.args.lines.now c.loop-line.line-index 0 c.loop-line-test.true c.requires.past in
    let cut = over_alone (r.low s) (r.high s) c.loop-line.self.numbers c.put.new.self line c.stores.result c.stores.ensures opened.1 c.loop-line.invariant.0 c.in_ok-put.ensures.put in
    subst (λ (k : ℕ → ℕ). IsWithin (r.low s) (r.high s) k) (sym cut) (within_alone (r.low s) (r.high s) line (g.met.R.Recovery.ordered s))

pub loop-line-preserved : goal.loop-line-preserved
loop-line-preserved g c =
    let r = g.R.Recovery in
    let s = c.args.recovery.now in
    let i = c.loop-line.invariant in
    let line : ℕ = get_or c.args.lines.now c.loop-line.line-index 0 in
    let opened = open_at (r.low s) (r.high s) (r.lines s) c.args.lines.now c.loop-line.line-index 0 c.loop-line-test.true c.requires.past in
    let put = c.in_ok-put.ensures in
    let judged = c.in_ok-judged.ensures in
    let back = c.in_ok-put-2.ensures in
    let cut = over_alone (r.low s) (r.high s) c.loop-line.self.numbers c.put.new.self line c.stores.result c.stores.ensures opened.1 i.0 put.put in
    let none = subst (λ (numbers : List ℕ). IsPut numbers c.put-in-loop-line.new.self line 0) judged.numbers back.put in (
      none_again c.loop-line.self.numbers c.put.new.self c.put-in-loop-line.new.self line c.stores.result i.0 put.put none,
      all_more (λ m. r.judged s (with_number (r.low s) m (r.high s m)) None) c.args.lines.now c.loop-line.line-index 0 c.loop-line-test.true
          (passes (r.judged s) (number_over (r.low s) c.put.new.self) (with_number (r.low s) line (r.high s line)) c.in_ok-judged.judged c.if-is_some.ensures cut judged.judged) i.1,
      back.size ∙ ap length judged.numbers ∙ put.size ∙ i.2,
      judged.fits,
    )
