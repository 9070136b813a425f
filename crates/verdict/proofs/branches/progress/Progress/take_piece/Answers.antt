use Rattle.std.proofs.Common.{◌≡◌, ◌∙◌, ◌+◌, ◌++◌, ◌||◌, Bool, ℕ, List, ◌≤◌, inl, inr, ap, length, sym, subst, arith, true≢false}
use Rattle.std.proofs.lemmas.Bool.{cases_lt}
use Rattle.verdict.specs.Numbers.{has, is_flagged}
use Rattle.verdict.specs.Openings.{IsAt}
use Rattle.verdict.specs.Pieces.{AreRuns}
use Rattle.verdict.specs.declared.branches.queue.Entry.{Entry}
use Rattle.verdict.proofs.Answering.{answers_end}
use Rattle.verdict.proofs.Opening.{at_many, at_most, best_above, flagged_from, flagged_now, flagged_still}
use Rattle.verdict.proofs.branches.progress.Progress.take_piece.Goals as goal

pub returns-clause-at : goal.returns-clause-at
returns-clause-at g c =
    let r = g.R.Recovery in
    let s = c.args.recovery.now in
    let p = c.args.self.now in
    let piece = c.args.piece.now in
    let theirs = c.requires.piece in
    let queue = p.findings.found.items in
    let new = c.add.new.self in
    let first : piece.first ≡ p.opened = c.if-piece-self.false in
    let runs = subst (λ (n : ℕ). AreRuns (r.asks s) (r.judged s) (r.alike s) (r.low s) (r.high s) (r.lines s) n queue piece.findings.least piece.cause piece.findings.asked
    piece.findings.found.items theirs.done) first theirs.runs in
    let less = c.in_ok-kept.ensures.less (r.low s) (best_above (r.judged s) (r.low s) (r.high s) piece.findings.least piece.cause theirs.done theirs.runs.best)
    (best_above (r.judged s) (r.low s) (r.high s) p.findings.least c.args.least c.requires.at.done c.requires.at.opening.best) in
    let lines = c.lines.result.now in
    let flags : (l : ℕ) → is_flagged l new.asked ≡ (is_flagged l p.findings.asked || has l lines) =
    λ l. ap (λ (fs : List Bool). is_flagged l fs) c.add.ensures.asked ∙ c.in_ok-insert_all.ensures.after l in
    let next = at_many (r.alike s) (r.asks s) (r.judged s) (r.low s) (r.high s) (r.lines s) p.opened queue piece.findings.found.items piece.findings.least p.findings.least new.least
    piece.cause c.args.least c.in_ok-kept.kept p.findings.asked piece.findings.asked new.asked theirs.done (g.met.R.Recovery.equivalent s) (g.met.R.Recovery.adaptive s) runs less
    (flagged_still p.findings.asked new.asked (λ l. has l lines) flags) (λ l t. flagged_now p.findings.asked new.asked (λ l. has l lines) flags l (c.lines.ensures.all l t))
    (λ l t. elim (flagged_from p.findings.asked new.asked (λ l. has l lines) flags l t) [ inl was ↦ inl was | inr here ↦ inr (theirs.only l (c.lines.ensures.only l here)) ]) c.requires.at in
    let items : new.found.items ≡ queue ++ piece.findings.found.items = subst (λ (es : List Entry). new.found.items ≡ queue ++ es) c.deref.ensures.value c.in_ok-kept.ensures.found in
    subst (λ (n : ℕ). IsAt (r.alike s) (r.asks s) (r.judged s) (r.low s) (r.high s) (r.lines s) (p.opened + n) new.found.items new.least c.in_ok-kept.kept new.asked) theirs.count
    (subst (λ (q : List Entry). IsAt (r.alike s) (r.asks s) (r.judged s) (r.low s) (r.high s) (r.lines s) (p.opened + length theirs.done) q new.least c.in_ok-kept.kept new.asked)
    (sym {A = List Entry} items) next)

pub overflow_add-self : goal.overflow_add-self
overflow_add-self g c =
    let r = g.R.Recovery in
    let s = c.args.recovery.now in
    let p = c.args.self.now in
    let piece = c.args.piece.now in
    let theirs = c.requires.piece in
    let queue = p.findings.found.items in
    let first : piece.first ≡ p.opened = c.if-piece-self.false in
    let count : length theirs.done ≡ piece.count = theirs.count in
    let most = at_most (r.alike s) (r.asks s) (r.judged s) (r.low s) (r.high s) (r.lines s) p.opened queue p.findings.least c.args.least p.findings.asked c.requires.at in
    let end = answers_end (r.asks s) (r.low s) (r.lines s) queue piece.first theirs.done (omega (arith, first, most)) theirs.runs.answers in
    let few : length queue ≤ c.args.limit = elim (cases_lt c.args.limit (length queue)) [
      | inl more ↦ absurd (true≢false (sym (c.is_over.ensures.1 more) ∙ c.if-is_over.false))
      | inr h ↦ omega (arith, h)
    ] in
    let fits = c.ranges.limit.fits in omega (arith, first, count, end, few, fits)
