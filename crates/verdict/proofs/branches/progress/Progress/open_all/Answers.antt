use Rattle.std.proofs.Common.{◌∙◌, ℕ, None, ap, arith, inl, inr, length, refl, subst, sym}
use Rattle.std.proofs.lemmas.Bool.{cases_lt}
use Rattle.verdict.specs.Openings.{IsAt}
use Rattle.verdict.proofs.Opening.{at_first}
use Rattle.verdict.proofs.branches.progress.Progress.open_all.Goals as goal

pub loop-alloc-init : goal.loop-alloc-init
loop-alloc-init g c =
    let r = g.R.Recovery in
    let s = c.args.recovery.now in
    let laws = g.met.R.Recovery g.world.𝓛 g.world.𝓜 g.world.𝓡 ((λ s x. x), (λ x. x), (λ x. x), λ x. x) in
    let p = c.begin.new.self in
    let e = c.in_ok-begin.ensures in
    let first = at_first (r.alike s) (r.asks s) (r.judged s) (r.low s) (r.high s) (r.lines s) p.findings.found.items p.findings.least p.findings.asked (laws.ordered s) e.queue c.begin.ensures.none in (
      subst (λ (n : ℕ). IsAt (r.alike s) (r.asks s) (r.judged s) (r.low s) (r.high s) (r.lines s) n p.findings.found.items p.findings.least None p.findings.asked) (sym e.opened) first,
      c.begin.ensures.asked,
      ap length c.begin.ensures.least,
      refl,
      c.requires.fits,
      λ none. ap length e.queue,
      λ k d less. absurd (omega (arith, less)),
    )

pub open_next-requires-clause-there : goal.open_next-requires-clause-there
open_next-requires-clause-there g c κs within = (c.is_open.ensures.open c.loop-alloc-test.true).0

pub open_next-requires-clause-size : goal.open_next-requires-clause-size
open_next-requires-clause-size g c κs within = c.loop-alloc.invariant.1 ∙ c.requires.size

pub open_next-requires-clause-least_size : goal.open_next-requires-clause-least_size
open_next-requires-clause-least_size g c κs within = c.loop-alloc.invariant.2 ∙ c.requires.least_size

pub open_next-requires-clause-run_size : goal.open_next-requires-clause-run_size
open_next-requires-clause-run_size g c κs within = c.loop-alloc.invariant.3 ∙ c.requires.run_size

pub open_next-requires-clause-fits : goal.open_next-requires-clause-fits
open_next-requires-clause-fits g c κs within = c.loop-alloc.invariant.4

pub open_next-requires-clause-at : goal.open_next-requires-clause-at
open_next-requires-clause-at g c κs within = c.loop-alloc.invariant.0

pub loop-alloc-preserved : goal.loop-alloc-preserved
loop-alloc-preserved g c =
    let i = c.loop-alloc.invariant in
    let e = c.in_ok-least.ensures in
    let f = c.in_ok-least-2.ensures in (
      f.at,
      f.size ∙ (e.size ∙ i.1),
      f.least_size ∙ (e.least_size ∙ i.2),
      e.run_size ∙ i.3,
      c.open_next.ensures.fits,
      λ none. let one = e.one in let on = f.on in absurd (omega (arith, none, one, on)),
      f.lanes,
    )

pub loop-alloc-smaller : goal.loop-alloc-smaller
loop-alloc-smaller g c =
    let left = c.is_open.ensures.open c.loop-alloc-test.true in
    let there = left.0 in
    let few = left.1 in
    let one = c.in_ok-least.ensures.one in
    let on = c.in_ok-least-2.ensures.on in omega (arith, there, few, one, on)

pub open_many-requires-clause-size : goal.open_many-requires-clause-size
open_many-requires-clause-size g c κs within = c.open_next.ensures.size ∙ (c.loop-alloc.invariant.1 ∙ c.requires.size)

pub open_many-requires-clause-least_size : goal.open_many-requires-clause-least_size
open_many-requires-clause-least_size g c κs within = c.open_next.ensures.least_size ∙ (c.loop-alloc.invariant.2 ∙ c.requires.least_size)

pub open_many-requires-clause-lanes : goal.open_many-requires-clause-lanes
open_many-requires-clause-lanes g c κs within = c.loop-alloc.invariant.6

pub open_many-requires-clause-at : goal.open_many-requires-clause-at
open_many-requires-clause-at g c κs within = c.in_ok-least.ensures.at

pub returns-clause-at : goal.returns-clause-at
returns-clause-at g c = c.loop-alloc.invariant.0

pub returns-clause-whole : goal.returns-clause-whole
returns-clause-whole g c = c.is_open.ensures.whole c.loop-alloc-test.false

pub returns-clause-begun : goal.returns-clause-begun
returns-clause-begun g c = elim (cases_lt 0 c.loop-alloc.self.opened) [
  | inl some ↦ some
  | inr none ↦
      let one = c.loop-alloc.invariant.5 (omega (arith, none)) in
      let limit = c.requires.some in
      let all = c.is_open.ensures.whole c.loop-alloc-test.false (omega (arith, one, limit)) in
      absurd (omega (arith, one, all, none))
]
