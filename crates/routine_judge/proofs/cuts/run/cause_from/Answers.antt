use Rattle.std.proofs.Common.{◌≡◌, ◌∙◌, ◌∷◌, [], ℕ, List, length, ap, sym}
use Rattle.std.proofs.lemmas.List.{length-map}
use Rattle.routine_judge.proofs.ClosedBoxes.{bad_medium}
use Rattle.routine_judge.proofs.cuts.run.cause_from.Goals as goal

pub close_all-requires : goal.close_all-requires
close_all-requires c =
    let medium = c.args.medium.now in
    let size : length c.in_ok-images.images ≡ length medium =
    ap (λ (box : List (List (List ℕ))). length box) c.in_ok-images.ensures ∙ length-map medium (λ (line : List ℕ). line ∷ []) in
    c.requires ∙ sym (c.in_ok-boxes.ensures.lines ∙ size)

pub returns-in-Bad-clause-ok : goal.returns-in-Bad-clause-ok
returns-in-Bad-clause-ok c =
    let rule = c.args.rule in
    bad_medium c.args.routine.now.program rule.steps rule.right.now rule.most c.args.medium.now c.in_ok-images.images c.in_ok-boxes.boxes.boxes c.close_all.new.self.boxes
    c.in_ok-cause.field-0 c.in-Bad.cause c.in-Bad.is c.in_ok-images.ensures c.in_ok-boxes.ensures.boxes c.in_ok-cause.ensures.grows c.in_ok-cause.ensures.ok
