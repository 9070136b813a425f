use Rattle.std.proofs.Common.{◌∙◌, ℕ, List, get_or, length, subst, sym, ap}
use Rattle.std.specs.Prelude.{None}
use Rattle.verdict.specs.Branches.{IsWithin}
use Rattle.verdict.specs.Edges.{all_full}
use Rattle.verdict.specs.Numbers.{number_over}
use Rattle.verdict.specs.Queue.{with_number}
use Rattle.verdict.proofs.Edging.{IsPut, all_more, full_again, has_at, over_without, passes, within_without}
use Rattle.verdict.proofs.branches.run.Run.first_bad_without.Goals as goal

pub judge-requires-clause-within : goal.judge-requires-clause-within
judge-requires-clause-within g c κs within =
    let r = g.R.Recovery in
    let s = c.args.recovery.now in
    let lines = c.args.lines.now in
    let line : ℕ = get_or lines c.loop-line.line-index 0 in
    let cut = over_without (r.low s) (r.high s) (r.lines s) lines c.loop-line.self.numbers c.put.new.self line c.requires.past c.loop-line.invariant.0 c.in_ok-put.ensures.put in
    subst (λ (k : ℕ → ℕ). IsWithin (r.low s) (r.high s) k) (sym cut) (within_without (r.low s) (r.high s) lines line (g.met.R.Recovery.ordered s))

pub loop-line-preserved : goal.loop-line-preserved
loop-line-preserved g c =
    let r = g.R.Recovery in
    let s = c.args.recovery.now in
    let i = c.loop-line.invariant in
    let lines = c.args.lines.now in
    let line : ℕ = get_or lines c.loop-line.line-index 0 in
    let put = c.in_ok-put.ensures in
    let judged = c.in_ok-judged.ensures in
    let back = c.in_ok-put-2.ensures in
    let cut = over_without (r.low s) (r.high s) (r.lines s) lines c.loop-line.self.numbers c.put.new.self line c.requires.past i.0 put.put in
    let full = subst (λ (numbers : List ℕ). IsPut numbers c.put-in-loop-line.new.self line c.stores.result) judged.numbers back.put in (
      full_again (r.high s) lines c.loop-line.self.numbers c.put.new.self c.put-in-loop-line.new.self line c.stores.result
          (has_at lines c.loop-line.line-index 0 c.loop-line-test.true) c.stores.ensures i.0 put.put full,
      all_more (λ m. r.judged s (with_number (all_full (r.low s) (r.high s) lines) m (r.low s m)) None) lines c.loop-line.line-index 0 c.loop-line-test.true
          (passes (r.judged s) (number_over (r.low s) c.put.new.self) (with_number (all_full (r.low s) (r.high s) lines) line (r.low s line)) c.in_ok-judged.judged
          c.if-is_some.ensures cut judged.judged) i.1,
      back.size ∙ ap length judged.numbers ∙ put.size ∙ i.2,
      judged.fits,
    )
