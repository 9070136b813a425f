use Rattle.std.proofs.Common.{◌≡◌, ◌≤◌, ◌+◌, ◌*◌, ℕ, Option, Some, None, subst, arith}
use Rattle.verdict.specs.declared.moment_verdict.verdict.MomentVerdict.{MomentVerdict}
use Rattle.verdict.specs.declared.moment_verdict.verdict.Verdict.{Verdict}
use Rattle.workers.specs.Sweeps.{IsSwept}
use Rattle.store_trace.specs.declared.event.Event.{Event}
use Rattle.std.specs.Prelude.{List}
use Rattle.verdict.specs.Stretches.{StretchFails, StretchPasses}
use Rattle.verdict.proofs.Stretching.{swept_fail, swept_pass}
use Rattle.verdict.proofs.part.Part.judge_between.Goals as goal

-- a sweep over the stretches of a row of moments
abbrev Swept : {Cause : Type 0} → (ℕ → MomentVerdict Cause → Type 0) → List Event → ℕ → ℕ → ℕ → ℕ → Option (ℕ × Verdict Cause) → Type 0
Swept judged events first end size count best = IsSwept (λ k. StretchPasses judged first end size k) (λ k v. StretchFails judged events first end size k v) count best

-- that of stretches is one of the row that they are made of
renamed : {Cause : Type 0} (judged : ℕ → MomentVerdict Cause → Type 0) (events : List Event) (first end size count f e : ℕ) (best : Option (ℕ × Verdict Cause)) →
    f ≡ first → e ≡ end → Swept judged events f e size count best → Swept judged events first end size count best
renamed judged events first end size count f e best one other swept =
    subst (λ (x : ℕ). Swept judged events first x size count best) other (subst (λ (x : ℕ). Swept judged events x e size count best) one swept)

pub returns-in-Some : goal.returns-in-Some
returns-in-Some g c =
    let s = c.new-stretches.result in
    let judged = g.M.Moments.judged c.args.self.now.run in
    let events = g.M.Moments.events c.args.self.now.run in
    let swept = rw (c.in-Some.is, c.new-stretches.ensures.run) at c.in_ok-best.ensures in
    swept_fail judged events c.args.first c.args.end s.size s.count c.in-Some.found
    (renamed judged events c.args.first c.args.end s.size s.count s.first s.end (Some c.in-Some.found) c.new-stretches.ensures.first c.new-stretches.ensures.end swept)

pub returns-in_ok-images-in-None : goal.returns-in_ok-images-in-None
returns-in_ok-images-in-None g c =
    let s = c.new-stretches.result in
    let judged = g.M.Moments.judged c.args.self.now.run in
    let events = g.M.Moments.events c.args.self.now.run in
    let swept = rw (c.in-None.is, c.new-stretches.ensures.run) at c.in_ok-best.ensures in
    let ours = renamed judged events c.args.first c.args.end s.size s.count s.first s.end None c.new-stretches.ensures.first c.new-stretches.ensures.end swept in
    let whole : c.args.end ≤ c.args.first + s.count * s.size =
    subst (λ (e : ℕ). e ≤ c.args.first + s.count * s.size) c.new-stretches.ensures.end (subst (λ (f : ℕ). s.end ≤ f + s.count * s.size) c.new-stretches.ensures.first s.whole) in
    swept_pass judged events c.args.first c.args.end s.size s.count c.from.result c.in_ok-images-in-None.field-0 ours whole (omega (arith, c.from.ensures, c.requires.order))
    c.in_ok-images-in-None.ensures
