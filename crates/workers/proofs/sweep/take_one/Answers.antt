use Rattle.std.proofs.Common.{rules, ◌≡◌, ◌<◌, ◌≤◌, ◌∙◌, ℕ, List, [], ◌∷◌, ◌++◌, MatchBool, ap, length, length-append, sym, subst, refl, arith}
use Rattle.std.specs.List.{Contains}
use Rattle.std.proofs.lemmas.List.Elements.{Contains-push}
use Rattle.workers.specs.Desks.{last_moment}
use Rattle.workers.specs.Sweeps.{better}
use Rattle.workers.proofs.Sweeping.{tally_at, tally_none, tally_found, tally_skipped, tally_passed, tally_bad, seen_found}
use Rattle.workers.proofs.sweep.take_one.Goals as goal

-- one moment more was claimed
more_of : (old new : List ℕ) (moment n : ℕ) → new ≡ old ++ moment ∷ [] → length old ≤ moment → moment < n → (length old < length new) × (length new ≤ n)
more_of old new moment n is from inside =
    let l = ap length is in
    let a = length-append old (moment ∷ []) in
    (omega (arith, l, a), omega (arith, l, a, from, inside))

pub returns-in_default-clause-more : goal.returns-in_default-clause-more
returns-in_default-clause-more g c = (c.in_default.ensures.ended, c.in_default.ensures.none)

pub returns-then-is_below-clause-more : goal.returns-then-is_below-clause-more
returns-then-is_below-clause-more g c =
    let some = c.in-Some.ensures.some in
    more_of c.args.seat.now.claimed c.claim.new.seat.claimed c.in-Some.moment c.args.desk.now.name.moments some.3 some.1 some.2

pub returns-in-Passed-clause-more : goal.returns-in-Passed-clause-more
returns-in-Passed-clause-more g c =
    let some = c.in-Some.ensures.some in
    more_of c.args.seat.now.claimed c.claim.new.seat.claimed c.in-Some.moment c.args.desk.now.name.moments some.3 some.1 some.2

pub returns-in-Bad-clause-more : goal.returns-in-Bad-clause-more
returns-in-Bad-clause-more g c =
    let some = c.in-Some.ensures.some in
    more_of c.args.seat.now.claimed c.report.new.seat.claimed c.in-Some.moment c.args.desk.now.name.moments (c.report.ensures.same.1 ∙ some.3) some.1 some.2

pub returns-in_default-clause-best : goal.returns-in_default-clause-best
returns-in_default-clause-best g c =
    let s = c.args.seat.now in
    let e = c.in_default.ensures in
    tally_none (g.J.Judge.passes c.args.job.now) (g.J.Judge.fails c.args.job.now) c.args.desk.now.name.moments s.ended s c.claim.new.seat c.args.best.now
    e.found e.none e.same.1 c.requires.best

pub returns-then-is_below-clause-best : goal.returns-then-is_below-clause-best
returns-then-is_below-clause-best g c =
    let s = c.args.seat.now in
    let u = c.claim.new.seat in
    let e = c.in-Some.ensures in
    let some = e.some in
    let m = c.in-Some.moment in
    let P = g.J.Judge.passes c.args.job.now in let F = g.J.Judge.fails c.args.job.now in let n = c.args.desk.now.name.moments in
    let found = subst (λ b. MatchBool b (u ≡ s) ((word : ℕ) × (u.found ≡ s.found ++ word ∷ []))) some.0 e.found in
    let seen = c.if-is_below.ensures refl in
    let x = seen.0 in
    let there : Contains (s.found ++ found.0 ∷ []) x = seen_found s.found found.0 x (ap (λ l. last_moment l) (sym found.1) ∙ (sym c.seen.ensures ∙ seen.1)) in
    tally_at P F n (s.claimed ++ m ∷ []) s.bad (s.found ++ found.0 ∷ []) u.claimed u.bad u.found c.args.best.now c.args.best.now some.3 e.same.1 found.1 refl
    (tally_skipped P F n s.claimed s.bad (s.found ++ found.0 ∷ []) m x c.args.best.now (tally_found P F n s.claimed s.bad s.found found.0 c.args.best.now c.requires.best) there seen.2 some.2)

pub report-requires-clause-claimed : goal.report-requires-clause-claimed
report-requires-clause-claimed g c =
    let s = c.args.seat.now in
    let some = c.in-Some.ensures.some in
    subst (λ l. Contains l c.in-Some.moment) (sym some.3) (Contains-push s.claimed c.in-Some.moment)

pub returns-in-Passed-clause-best : goal.returns-in-Passed-clause-best
returns-in-Passed-clause-best g c =
    let s = c.args.seat.now in
    let u = c.claim.new.seat in
    let e = c.in-Some.ensures in
    let some = e.some in
    let m = c.in-Some.moment in
    let P = g.J.Judge.passes c.args.job.now in let F = g.J.Judge.fails c.args.job.now in let n = c.args.desk.now.name.moments in
    let found = subst (λ b. MatchBool b (u ≡ s) ((word : ℕ) × (u.found ≡ s.found ++ word ∷ []))) some.0 e.found in
    let passed = c.in_ok-judge.ensures.passed (search rules) in
    tally_at P F n (s.claimed ++ m ∷ []) s.bad (s.found ++ found.0 ∷ []) u.claimed u.bad u.found c.args.best.now c.args.best.now some.3 e.same.1 found.1 refl
    (tally_passed P F n s.claimed s.bad (s.found ++ found.0 ∷ []) m c.args.best.now (tally_found P F n s.claimed s.bad s.found found.0 c.args.best.now c.requires.best) passed some.2)

pub returns-in-Bad-clause-best : goal.returns-in-Bad-clause-best
returns-in-Bad-clause-best g c =
    let s = c.args.seat.now in
    let u = c.claim.new.seat in
    let w = c.report.new.seat in
    let e = c.in-Some.ensures in
    let r = c.report.ensures in
    let some = e.some in
    let m = c.in-Some.moment in
    let P = g.J.Judge.passes c.args.job.now in let F = g.J.Judge.fails c.args.job.now in let n = c.args.desk.now.name.moments in
    let found = subst (λ b. MatchBool b (u ≡ s) ((word : ℕ) × (u.found ≡ s.found ++ word ∷ []))) some.0 e.found in
    let bad = c.in_ok-judge.ensures.bad c.in-Bad.bad (search rules) in
    tally_at P F n (s.claimed ++ m ∷ []) (s.bad ++ m ∷ []) (s.found ++ found.0 ∷ []) w.claimed w.bad w.found (better c.args.best.now m c.in-Bad.bad) c.note.new.best (r.same.1 ∙ some.3) (r.bad ∙ ap (λ l. l ++ m ∷ []) e.same.1) (r.same.3 ∙ found.1) c.note.ensures
    (tally_bad P F n s.claimed s.bad (s.found ++ found.0 ∷ []) m c.in-Bad.bad c.args.best.now (tally_found P F n s.claimed s.bad s.found found.0 c.args.best.now c.requires.best) bad some.2)
