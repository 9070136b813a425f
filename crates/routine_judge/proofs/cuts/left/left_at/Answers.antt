use Rattle.std.proofs.Common.{◌∙◌, ◌<◌, ℕ, List, length, get_or, take, ap, sym, subst, arith}
use Rattle.recovery.specs.Boxes.{contents_of, left_of_line}
use Rattle.routine_judge.proofs.Afters.{some_left}
use Rattle.routine_judge.proofs.LeftBoxes.{AreLeftSoFar, entry_low, left_covers, left_next, left_within, lines_all, lines_more}
use Rattle.routine_judge.proofs.Unions.{same_some}
use Rattle.routine_judge.specs.LeftContents.{HaveSame}
use Rattle.store_trace.specs.Cut.{stored_lines}
use Rattle.store_trace.specs.Floor.{floor}
use Rattle.store_trace.specs.History.{at_moment, history}
use Rattle.store_trace.specs.declared.event.Event.{Event}
use Rattle.routine_judge.proofs.cuts.left.left_at.Goals as goal

pub contents_left-requires-clause-low : goal.contents_left-requires-clause-low
contents_left-requires-clause-low c =
    let p = at_moment c.args.trace.now.events c.args.moment in
    let entries = c.entries-entry-items.result.now in
    let i = c.loop-entry.entry-index in
    entry_low (λ l. floor l p) (stored_lines p) entries i (0, 0) (c.entries-entry-items.ensures ∙ c.in_ok-floors.ensures.value) c.loop-entry-test.true
    ∙ ap (λ (events : List Event). floor (get_or entries i (0, 0)).0 (history events)) (sym c.events_before-events.ensures.value)

pub put-requires-clause-some : goal.put-requires-clause-some
put-requires-clause-some c =
    let line = (get_or c.entries-entry-items.result.now c.loop-entry.entry-index (0, 0)).0 in
    let p = history c.events_before-events.result.now in
    same_some c.in_ok-contents.contents (left_of_line line p c.contents.result.now) c.in_ok-contents.ensures (some_left line p c.contents.result.now c.contents.ensures.some)

pub loop-entry-preserved : goal.loop-entry-preserved
loop-entry-preserved c =
    let p = at_moment c.args.trace.now.events c.args.moment in
    let box = c.args.images.now in
    let entries = c.entries-entry-items.result.now in
    let floors = c.in_ok-floors.floors in
    let i = c.loop-entry.entry-index in
    let line = (get_or entries i (0, 0)).0 in
    let there : i < length floors =
    subst (λ (n : ℕ). i < n) (ap (λ (es : List (ℕ × ℕ)). length es) c.entries-entry-items.ensures) c.loop-entry-test.true in
    let below : (get_or floors i (0, 0)).0 < length c.medium.result.now = c.in_ok-floors.ensures.below i (0, 0) there in
    let inside : line < length box =
    subst (λ (es : List (ℕ × ℕ)). (get_or es i (0, 0)).0 < length box) (sym c.entries-entry-items.ensures) (omega (arith, below, c.medium.ensures)) in
    let same : HaveSame c.in_ok-contents.contents (left_of_line line p (contents_of box line)) =
    subst (λ (events : List Event). HaveSame c.in_ok-contents.contents (left_of_line line (history events) (contents_of box line))) c.events_before-events.ensures.value
    (subst (λ (contents : List (List ℕ)). HaveSame c.in_ok-contents.contents (left_of_line line (history c.events_before-events.result.now) contents)) c.contents.ensures.value
    c.in_ok-contents.ensures) in
    subst (λ (lines : List ℕ). AreLeftSoFar p box c.put.new.self lines)
    (lines_more (λ l. floor l p) (stored_lines p) entries i (0, 0) (c.entries-entry-items.ensures ∙ c.in_ok-floors.ensures.value) c.loop-entry-test.true)
    (left_next p box c.loop-entry.left c.put.new.self (take i (stored_lines p)) line c.in_ok-contents.contents inside c.put.ensures same c.loop-entry.invariant)

pub returns-clause-within : goal.returns-clause-within
returns-clause-within c =
    let p = at_moment c.args.trace.now.events c.args.moment in
    let i = c.loop-entry.entry-index in
    left_within p c.args.images.now c.loop-entry.left (take i (stored_lines p))
    (lines_all (λ l. floor l p) (stored_lines p) c.entries-entry-items.result.now i (c.entries-entry-items.ensures ∙ c.in_ok-floors.ensures.value) c.loop-entry-test.false)
    c.loop-entry.invariant

pub returns-clause-all : goal.returns-clause-all
returns-clause-all c =
    let p = at_moment c.args.trace.now.events c.args.moment in
    let i = c.loop-entry.entry-index in
    left_covers p c.args.images.now c.loop-entry.left (take i (stored_lines p))
    (lines_all (λ l. floor l p) (stored_lines p) c.entries-entry-items.result.now i (c.entries-entry-items.ensures ∙ c.in_ok-floors.ensures.value) c.loop-entry-test.false)
    c.loop-entry.invariant
