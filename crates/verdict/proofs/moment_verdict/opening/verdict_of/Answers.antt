use Rattle.verdict.proofs.Branching.{bad_moment, below_of, fail_moment, flags_moment, many_moment, pass_moment}
use Rattle.store_trace.specs.History.{at_moment}
use Rattle.verdict.proofs.moment_verdict.opening.verdict_of.Goals as goal

pub of-requires : goal.of-requires
of-requires g c =
    let r = g.R.Recovery in
    let s = c.args.recovery.now in
    let opened = rw c.in-Over-Some.lines-is at (rw c.in-Over-Some.is at c.requires.opened) in
    (c.type_bounds.send-R-Cause, (c.type_bounds.send-R-Workspace, rw c.deref.ensures.value (below_of (r.low s) (r.high s) (r.lines s) c.in-Over-Some.lines.items opened.3)))

pub returns-in_ok-of-in-Over-Some-clause-ok : goal.returns-in_ok-of-in-Over-Some-clause-ok
returns-in_ok-of-in-Over-Some-clause-ok g c =
    let r = g.R.Recovery in
    let s = c.args.recovery.now in
    let opened = rw c.in-Over-Some.lines-is at (rw c.in-Over-Some.is at c.requires.opened) in
    many_moment (r.further s) (r.alike s) (r.asks s) (r.judged s) (r.low s) (r.high s) (at_moment c.args.trace.now.events c.args.moment) c.in-Over-Some.lines.items c.deref.result.now
    c.in_ok-of-in-Over-Some.field-0 c.requires.low c.requires.high c.deref.ensures.value opened.0 opened.1 opened.2 c.in_ok-of-in-Over-Some.ensures

pub returns-in_ok-name_cut-in-OverBad-clause-ok : goal.returns-in_ok-name_cut-in-OverBad-clause-ok
returns-in_ok-name_cut-in-OverBad-clause-ok g c =
    let r = g.R.Recovery in
    let s = c.args.recovery.now in
    let opened = rw c.in-OverBad.is at c.requires.opened in
    bad_moment (r.further s) (r.alike s) (r.asks s) (r.judged s) (r.low s) (r.high s) (at_moment c.args.trace.now.events c.args.moment) c.in-OverBad.numbers.items c.deref-in-OverBad.result.now
    c.in_ok-name_cut-in-OverBad.field-0 c.in-OverBad.cause c.requires.low c.requires.high c.deref-in-OverBad.ensures.value c.requires.alike opened.0 opened.1 opened.2
    c.in_ok-name_cut-in-OverBad.ensures

pub returns-in-Pass-clause-ok : goal.returns-in-Pass-clause-ok
returns-in-Pass-clause-ok g c =
    let r = g.R.Recovery in
    let s = c.args.recovery.now in
    let opened = rw c.in-Pass.is at c.requires.opened in
    pass_moment (r.further s) (r.alike s) (r.asks s) (r.judged s) (r.low s) (r.high s) (at_moment c.args.trace.now.events c.args.moment) c.requires.low c.requires.high opened.0 opened.1

pub returns-in-Pass-clause-asked : goal.returns-in-Pass-clause-asked
returns-in-Pass-clause-asked g c =
    let r = g.R.Recovery in
    let s = c.args.recovery.now in
    flags_moment (r.asks s) (r.low s) (r.high s) (at_moment c.args.trace.now.events c.args.moment) c.args.opener.now c.requires.low c.requires.high
    (rw c.in-Pass.is at c.requires.asked)

pub returns-in_ok-name_cut-in-Bad-clause-ok : goal.returns-in_ok-name_cut-in-Bad-clause-ok
returns-in_ok-name_cut-in-Bad-clause-ok g c =
    let r = g.R.Recovery in
    let s = c.args.recovery.now in
    let opened = rw c.in-Bad.is at c.requires.opened in
    fail_moment (r.further s) (r.alike s) (r.asks s) (r.judged s) (r.low s) (r.high s) (at_moment c.args.trace.now.events c.args.moment) c.in-Bad.numbers.items c.deref-in-Bad.result.now
    c.in_ok-name_cut-in-Bad.field-0 c.in-Bad.cause c.requires.low c.requires.high c.deref-in-Bad.ensures.value c.requires.alike opened.0 opened.1
    c.in_ok-name_cut-in-Bad.ensures
