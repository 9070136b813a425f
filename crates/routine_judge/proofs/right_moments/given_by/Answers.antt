-- One moment of the window more, and in the end all of them.
use Rattle.std.proofs.Common.{◌∙◌, sym, arith}
use Rattle.routine_judge.specs.RightAnswers.{is_among}
use Rattle.routine_judge.proofs.GivenAnswers.{given_left, given_taken, given_whole}
use Rattle.routine_judge.proofs.right_moments.given_by.Goals as goal
use Rattle.routine_judge.proofs.right_moments.given_by.Goals.{then-is_among+in_ok-found+in_ok-add, else-is_among}

pub loop-at-preserved : goal.loop-at-preserved
loop-at-preserved c = elim c.if-is_among.branch [
  | then-is_among+in_ok-found+in_ok-add w ↦ record {
    program = rw w.routine-is w.run_full.ensures.program;
    lines = rw w.routine-is w.run_full.ensures.lines;
    given = rw w.right-is (given_taken c.args.run.now (is_among c.args.window c.args.moment) c.loop-at.at w.in_ok-found.found c.loop-at.right.items w.add.new.right.items
        (sym c.is_among.ensures ∙ w.if-is_among.true) w.in_ok-found.ensures.ok (λ v among. w.in_ok-add.ensures v among) c.loop-at.invariant.given);
  }
  | else-is_among w ↦ record {
    program = rw w.routine-is c.loop-at.invariant.program;
    lines = rw w.routine-is c.loop-at.invariant.lines;
    given = rw w.right-is (given_left c.args.run.now (is_among c.args.window c.args.moment) c.loop-at.at c.loop-at.right.items
        (sym c.is_among.ensures ∙ w.if-is_among.false) c.loop-at.invariant.given);
  }
]

pub returns : goal.returns
returns c =
    given_whole c.args.run.now (is_among c.args.window c.args.moment) c.loop-at.at c.loop-at.right.items
    (λ j t.
    let within = c.requires.inside j t in
    omega (arith, within, c.loop-at-test.false, c.moments-at-end.ensures.count))
    c.loop-at.invariant.given
