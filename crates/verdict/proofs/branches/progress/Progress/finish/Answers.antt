use Rattle.std.proofs.Common.{◌≡◌, ◌↔◌, ◌<◌, ◌≤◌, ◌∙◌, Bool, false, ℕ, ap, subst, sym, inl, inr, true≢false, List, Option, length}
use Rattle.std.proofs.lemmas.Bool.{cases_lt}
use Rattle.std.specs.Prelude.{IsTrue}
use Rattle.verdict.specs.Branches.{IsLeastBad}
use Rattle.verdict.specs.Numbers.{number_over}
use Rattle.verdict.specs.Openings.{IsAt}
use Rattle.verdict.proofs.Opening.{at_asked, at_bad, at_few, at_only, at_over, at_pass}
use Rattle.verdict.proofs.Trying.{few_of_none, opened_of}
use Rattle.verdict.proofs.branches.progress.Progress.finish.Goals as goal

-- there are not over so many
few_of : {over : Bool} {limit count : ℕ} → IsTrue over ↔ (limit < count) → over ≡ false → count ≤ limit
few_of {over} {limit} {count} e none = elim (cases_lt limit count) [
  | inl more ↦ absurd (true≢false (sym (e.1 more) ∙ none))
  | inr few ↦ few
]

pub returns-then-is_over-clause-opened : goal.returns-then-is_over-clause-opened
returns-then-is_over-clause-opened g c =
    let r = g.R.Recovery in
    let s = c.args.recovery.now in
    let p = c.args.self.now in
    let over = at_over (r.alike s) (r.asks s) (r.judged s) (r.low s) (r.high s) (r.lines s) p.opened c.args.limit p.findings.found.items p.findings.least c.args.least p.findings.asked
    (g.met.R.Recovery.equivalent s) (g.met.R.Recovery.adaptive s) (c.is_over.ensures.0 c.if-is_over.true) c.requires.at in
    opened_of (r.asks s) (r.judged s) (r.low s) (r.high s) (r.lines s) (r.further s) c.args.least (r.alike s) c.args.limit c.finish_over.result over c.finish_over.ensures.tried

pub returns-then-is_over-clause-asked : goal.returns-then-is_over-clause-asked
returns-then-is_over-clause-asked g c =
    let r = g.R.Recovery in
    let s = c.args.recovery.now in
    few_of_none (r.asks s) (r.judged s) (r.low s) (r.high s) (r.lines s) (r.further s) c.args.least _ c.finish_over.result c.finish_over.ensures.tried

pub returns-in_ok-to_vec-in-Some-clause-opened : goal.returns-in_ok-to_vec-in-Some-clause-opened
returns-in_ok-to_vec-in-Some-clause-opened g c =
    let r = g.R.Recovery in
    let s = c.args.recovery.now in
    let p = c.args.self.now in
    let some = subst (λ (x : Option g.row.R-Cause.Denot). IsAt (r.alike s) (r.asks s) (r.judged s) (r.low s) (r.high s) (r.lines s) p.opened p.findings.found.items p.findings.least x p.findings.asked) c.in-Some.is c.requires.at in
    let e = c.in_ok-to_vec-in-Some.ensures.items_if_clones_equal (λ x y same. same) ∙ c.as_slice.ensures in
    let bad = at_bad (r.alike s) (r.asks s) (r.judged s) (r.low s) (r.high s) (r.lines s) p.opened p.findings.found.items p.findings.least c.in-Some.cause p.findings.asked
    (g.met.R.Recovery.branchwise s) (c.requires.whole (few_of c.is_over.ensures c.if-is_over.false)) some in (
      at_few (r.alike s) (r.asks s) (r.judged s) (r.low s) (r.high s) (r.lines s) p.opened c.args.limit p.findings.found.items p.findings.least c.args.least p.findings.asked
          (g.met.R.Recovery.equivalent s) (g.met.R.Recovery.adaptive s) (g.met.R.Recovery.shared s) (c.requires.whole (few_of c.is_over.ensures c.if-is_over.false))
          (few_of c.is_over.ensures c.if-is_over.false) c.requires.at,
      subst (λ (numbers : List ℕ). IsLeastBad (r.low s) (r.high s) (r.judged s) (number_over (r.low s) numbers) c.in-Some.cause) (sym e) bad,
      ap (λ (numbers : List ℕ). length numbers) e ∙ c.requires.sizes.least,
    )

pub returns-in_ok-to_vec-in-Some-clause-asked : goal.returns-in_ok-to_vec-in-Some-clause-asked
returns-in_ok-to_vec-in-Some-clause-asked g c =
    let r = g.R.Recovery in
    let s = c.args.recovery.now in
    let p = c.args.self.now in
    at_asked (r.alike s) (r.asks s) (r.judged s) (r.low s) (r.high s) (r.lines s) p.opened p.findings.found.items p.findings.least c.args.least p.findings.asked
    (g.met.R.Recovery.adaptive s) (c.requires.whole (few_of c.is_over.ensures c.if-is_over.false)) c.requires.at

pub returns-in-None-clause-opened : goal.returns-in-None-clause-opened
returns-in-None-clause-opened g c =
    let r = g.R.Recovery in
    let s = c.args.recovery.now in
    let p = c.args.self.now in
    let none = subst (λ (x : Option g.row.R-Cause.Denot). IsAt (r.alike s) (r.asks s) (r.judged s) (r.low s) (r.high s) (r.lines s) p.opened p.findings.found.items p.findings.least x p.findings.asked) c.in-None.is c.requires.at in (
      at_few (r.alike s) (r.asks s) (r.judged s) (r.low s) (r.high s) (r.lines s) p.opened c.args.limit p.findings.found.items p.findings.least c.args.least p.findings.asked
          (g.met.R.Recovery.equivalent s) (g.met.R.Recovery.adaptive s) (g.met.R.Recovery.shared s) (c.requires.whole (few_of c.is_over.ensures c.if-is_over.false))
          (few_of c.is_over.ensures c.if-is_over.false) c.requires.at,
      at_pass (r.alike s) (r.asks s) (r.judged s) (r.low s) (r.high s) (r.lines s) p.opened p.findings.found.items p.findings.least p.findings.asked
          (g.met.R.Recovery.branchwise s) (c.requires.whole (few_of c.is_over.ensures c.if-is_over.false)) none,
    )

pub returns-in-None-clause-asked : goal.returns-in-None-clause-asked
returns-in-None-clause-asked g c =
    let r = g.R.Recovery in
    let s = c.args.recovery.now in
    let p = c.args.self.now in
    at_asked (r.alike s) (r.asks s) (r.judged s) (r.low s) (r.high s) (r.lines s) p.opened p.findings.found.items p.findings.least c.args.least p.findings.asked
    (g.met.R.Recovery.adaptive s) (c.requires.whole (few_of c.is_over.ensures c.if-is_over.false)) c.requires.at

pub returns-then-is_over-clause-only : goal.returns-then-is_over-clause-only
returns-then-is_over-clause-only g c =
    let r = g.R.Recovery in
    let s = c.args.recovery.now in
    let p = c.args.self.now in
    at_only (r.alike s) (r.asks s) (r.judged s) (r.low s) (r.high s) (r.lines s) p.opened p.findings.found.items p.findings.least c.args.least p.findings.asked c.requires.at

pub returns-in_err-to_vec-in-Some-clause-only : goal.returns-in_err-to_vec-in-Some-clause-only
returns-in_err-to_vec-in-Some-clause-only g c =
    let r = g.R.Recovery in
    let s = c.args.recovery.now in
    let p = c.args.self.now in
    at_only (r.alike s) (r.asks s) (r.judged s) (r.low s) (r.high s) (r.lines s) p.opened p.findings.found.items p.findings.least c.args.least p.findings.asked c.requires.at

pub returns-in_ok-to_vec-in-Some-clause-only : goal.returns-in_ok-to_vec-in-Some-clause-only
returns-in_ok-to_vec-in-Some-clause-only g c =
    let r = g.R.Recovery in
    let s = c.args.recovery.now in
    let p = c.args.self.now in
    at_only (r.alike s) (r.asks s) (r.judged s) (r.low s) (r.high s) (r.lines s) p.opened p.findings.found.items p.findings.least c.args.least p.findings.asked c.requires.at

pub returns-in-None-clause-only : goal.returns-in-None-clause-only
returns-in-None-clause-only g c =
    let r = g.R.Recovery in
    let s = c.args.recovery.now in
    let p = c.args.self.now in
    at_only (r.alike s) (r.asks s) (r.judged s) (r.low s) (r.high s) (r.lines s) p.opened p.findings.found.items p.findings.least c.args.least p.findings.asked c.requires.at
