use Rattle.std.proofs.Common.{◌≡◌, ◌+◌, ◌<◌, ◌≤◌, List, length, take, subst, sym, ◌∙◌}
use Rattle.std.specs.List.{Contains}
use Rattle.std.proofs.lemmas.List.{take_all}
use Rattle.std.proofs.lemmas.List.Elements.{Contains-get_or}
use Rattle.routine_judge.proofs.Noting.{AreNoted, noted_left, noted_lent, noted_none, noted_right, word_fits, word_fits_not}
use Rattle.routine_judge.specs.Fitting.{IsWordOf}
use Rattle.routine_judge.specs.Order.{AreAtRest}
use Rattle.routine_judge.specs.SequentialRuns.{AreSequentialRuns, notes_in}
use Rattle.routine_judge.specs.declared.order.sequential_runs.SequentialRun.{SequentialRun}
use Rattle.routine_judge.specs.declared.right.RightAnswers.{RightAnswers}
use Rattle.store_trace.specs.declared.event.Event.{Event}
use Rattle.routine_judge.proofs.right.RightAnswers.of_fitting.Goals as goal
use Rattle.routine_judge.proofs.right.RightAnswers.of_fitting.Goals.{then-fits+in_ok-add_copy, else-fits}

pub loop-note-init : goal.loop-note-init
loop-note-init c = λ view p all ordered.
    noted_none view p c.as_slice-notes.result.now c.none-right.result c.none-right.ensures.answers c.none-right.ensures.cause c.none-right.ensures.on

pub loop-note-preserved : goal.loop-note-preserved
loop-note-preserved c = λ view p all ordered.
    let notes = c.as_slice-notes.result.now in
    let i = c.loop-note.note-index in
    let note = c.note-item.result in
    let inside : i < length notes = c.loop-note-test.true in
    let before = c.loop-note.invariant view p all ordered in
    let says = λ (w : List Event) (is : IsWordOf w note.word) (rest : AreAtRest w). c.fits.ensures w p is rest ordered in
    let there : Contains notes note =
    subst (λ (n : SequentialRun). Contains notes n) (sym c.note-item.is) (Contains-get_or notes i note inside) in
    elim c.if-fits.branch [
      | then-fits+in_ok-add_copy w ↦
          subst (λ (right : RightAnswers). AreNoted view p (take (i + 1) notes) right) (sym w.right-is)
          (noted_lent view p notes i note inside c.note-item.is c.loop-note.right w.add_copy.new.self (all.each note there)
          (word_fits view p note c.fits.result says w.if-fits.true) w.in_ok-add_copy.ensures.ok before)
      | else-fits w ↦
          subst (λ (right : RightAnswers). AreNoted view p (take (i + 1) notes) right) (sym w.right-is)
          (noted_left view p notes i note inside c.note-item.is c.loop-note.right (word_fits_not view p note c.fits.result says w.if-fits.false) before)
    ]

pub returns : goal.returns
returns c = λ view p all ordered.
    let notes = c.as_slice-notes.result.now in
    let i = c.loop-note.note-index in
    let right = c.loop-note.right in
    let same : notes ≡ notes_in c.args.runs.now = c.as_slice-notes.ensures in
    let past : length notes ≤ i = c.loop-note-test.false in
    let whole : take i notes ≡ notes_in c.args.runs.now = take_all i notes past ∙ same in
    noted_right view p (notes_in c.args.runs.now) right all
    (subst (λ (ns : List SequentialRun). AreNoted view p ns right) whole
    (c.loop-note.invariant view p (subst (λ (ns : List SequentialRun). AreSequentialRuns view ns) (sym same) all) ordered))
