use Rattle.std.proofs.Common.{ℕ, ◌<◌, get_or, refl, subst, sym, ap, ◌∙◌, arith}
use Rattle.verdict.specs.Numbers.{number_over}
use Rattle.verdict.specs.declared.branches.question.Question.{Question}
use Rattle.verdict.proofs.BranchesBranching.{AreBytes, found_all, found_closed, found_first, found_more, found_same}
use Rattle.verdict.proofs.Listed.{asked_below}
use Rattle.verdict.proofs.branches.run.branch_off.Goals as goal
use Rattle.verdict.proofs.branches.run.branch_off.Goals.{then-place-cut+then-before-question+in_ok-push_siblings, else-place-cut, else-place-cut-via-then-place-cut+else-before-question, else-place-cut-via-else-place-cut}

abbrev none : Question
none = record { line = 0; bytes = 0 }

pub loop-place-init : goal.loop-place-init
loop-place-init g c =
    let r = g.R.Recovery in
    let s = c.args.recovery.now in (
      found_first (r.alike s) (r.low s) (r.high s) (number_over (r.low s) c.args.cut.numbers.now) c.args.cut.place c.args.cut.decided c.args.asked.now
          c.clear.new.self c.clear-2.new.self.items c.clear.ensures.clear c.clear-2.ensures.items,
      c.clear.ensures.size,
    )

pub add-requires : goal.add-requires
add-requires g c =
    let size = c.loop-place.invariant.1 ∙ c.requires.size in
    subst (λ (n : ℕ). (get_or c.args.asked.now c.loop-place.place none).line < n) (sym size)
    (asked_below (g.R.Recovery.lines c.args.recovery.now) c.args.asked.now c.loop-place.place none c.loop-place-test.true c.requires.below)

pub push_siblings-requires : goal.push_siblings-requires
push_siblings-requires g c =
    let below = asked_below (g.R.Recovery.lines c.args.recovery.now) c.args.asked.now c.loop-place.place none c.loop-place-test.true c.requires.below in
    (c.type_bounds.send-R-Cause, (c.type_bounds.send-R-Workspace, (below, (c.requires.numbers, c.requires.within))))

pub loop-place-preserved-then-not-is_open : goal.loop-place-preserved-then-not-is_open
loop-place-preserved-then-not-is_open g c =
    let r = g.R.Recovery in
    let s = c.args.recovery.now in
    let q : Question = get_or c.args.asked.now c.loop-place.place none in (
      found_closed (r.alike s) (r.low s) (r.high s) (number_over (r.low s) c.args.cut.numbers.now) c.args.cut.place c.args.cut.decided c.args.asked.now
          c.loop-place.place q none c.loop-place.seen c.loop-place.found.items (c.is_open.ensures.one c.if-not-is_open.true) (c.requires.within.least q.line) c.loop-place-test.true refl
          c.loop-place.invariant.0,
      c.loop-place.invariant.1,
    )

pub loop-place-preserved : goal.loop-place-preserved
loop-place-preserved g c =
    let r = g.R.Recovery in
    let s = c.args.recovery.now in
    let laws = g.met.R.Recovery in
    let bytes : AreBytes (r.alike s) = record { nothing = laws.nothing s; both = laws.both s } in
    let own : ℕ → ℕ = number_over (r.low s) c.args.cut.numbers.now in
    let place : ℕ = c.loop-place.place in
    let q : Question = get_or c.args.asked.now place none in
    let several = c.is_open.ensures.several c.if-not-is_open.false in
    let e = c.in_ok-before.ensures in (
      elim c.if-place-cut.branch [
        | then-place-cut+then-before-question+in_ok-push_siblings w ↦
            found_more (r.alike s) (r.low s) (r.high s) own c.args.cut.place c.args.cut.decided c.args.asked.now place q none c.in_ok-before.before
            c.loop-place.seen c.add.new.self c.loop-place.found.items w.push_siblings.new.found.items c.if-place-cut.found.items bytes several
            (ap (λ v. v.items) w.found-is) c.loop-place-test.true refl e.before w.if-place-cut.true e.after w.in_ok-push_siblings.ensures
            c.loop-place.invariant.0
        | else-place-cut w ↦ elim w.else-place-cut.branch [
          | else-place-cut-via-then-place-cut+else-before-question w' ↦
              found_same (r.alike s) (r.low s) (r.high s) own c.args.cut.place c.args.cut.decided c.args.asked.now place q none c.in_ok-before.before
              c.loop-place.seen c.add.new.self c.loop-place.found.items c.if-place-cut.found.items (laws.equivalent s) bytes several (c.requires.within.least q.line)
              (ap (λ v. v.items) w.found-is) c.loop-place-test.true refl e.before (λ le. w'.if-before-question.false) e.after c.loop-place.invariant.0
          | else-place-cut-via-else-place-cut w' ↦
              found_same (r.alike s) (r.low s) (r.high s) own c.args.cut.place c.args.cut.decided c.args.asked.now place q none c.in_ok-before.before
              c.loop-place.seen c.add.new.self c.loop-place.found.items c.if-place-cut.found.items (laws.equivalent s) bytes several (c.requires.within.least q.line)
              (ap (λ v. v.items) w.found-is) c.loop-place-test.true refl e.before
              (λ le. let early = w'.if-place-cut.false in absurd (omega (arith, le, early))) e.after c.loop-place.invariant.0
        ]
      ],
      e.size ∙ c.loop-place.invariant.1,
    )

pub returns-clause-found : goal.returns-clause-found
returns-clause-found g c =
    let r = g.R.Recovery in
    let s = c.args.recovery.now in
    found_all (r.alike s) (r.low s) (r.high s) (number_over (r.low s) c.args.cut.numbers.now) c.args.cut.place c.args.cut.decided c.args.asked.now
    c.loop-place.place c.loop-place.seen c.loop-place.found.items c.loop-place-test.false c.loop-place.invariant.0
