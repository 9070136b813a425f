use Rattle.std.proofs.Common.{◌≡◌, ◌∙◌, ◌∷◌, [], ℕ, List, length, ap, subst, sym}
use Rattle.std.specs.Prelude.{All}
use Rattle.std.proofs.lemmas.List.{length-map}
use Rattle.std.proofs.lemmas.Result.{IfOk-weaker}
use Rattle.recovery.specs.Boxes.{IsIn, LiesWithin, left_of}
use Rattle.routine_judge.proofs.ClosedBoxes.{moment_in, moment_size}
use Rattle.store_trace.specs.Cut.{IsCutImage}
use Rattle.store_trace.specs.History.{at_moment}
use Rattle.store_trace.specs.TraceView.{NamesLine}
use Rattle.routine_judge.proofs.cuts.moment.images_at.Goals as goal

pub left_at-requires-clause-lines : goal.left_at-requires-clause-lines
left_at-requires-clause-lines c =
    let medium = c.args.at.medium.now in
    let size : length c.in_ok-start.start ≡ length medium =
    ap (λ (box : List (List (List ℕ))). length box) c.in_ok-start.ensures ∙ length-map medium (λ (line : List ℕ). line ∷ []) in
    subst (λ (n : ℕ). All (NamesLine n) c.args.at.trace.now.events) (sym size) c.requires.0

pub returns-clause-all : goal.returns-clause-all
returns-clause-all c =
    let medium = c.args.at.medium.now in
    let p = at_moment c.args.at.trace.now.events c.args.at.moment in
    let start = c.in_ok-start.start in
    IfOk-weaker c.left_at.result (λ (left : List (List (List ℕ))). LiesWithin (left_of p start) left)
    (λ (left : List (List (List ℕ))). (image : List (List ℕ)) → IsCutImage medium p image → IsIn left image)
    (λ left within. moment_in medium p start left c.in_ok-start.ensures within) c.left_at.ensures.all

pub returns-clause-lines : goal.returns-clause-lines
returns-clause-lines c =
    let medium = c.args.at.medium.now in
    let p = at_moment c.args.at.trace.now.events c.args.at.moment in
    let start = c.in_ok-start.start in
    IfOk-weaker c.left_at.result (λ (left : List (List (List ℕ))). LiesWithin left (left_of p start)) (λ (left : List (List (List ℕ))). length left ≡ length medium)
    (λ left within. moment_size medium p start left c.in_ok-start.ensures within) c.left_at.ensures.within
