use Rattle.std.proofs.Common.{◌≡◌, ◌∙◌, List, [], ℕ, not, ap, sym, arith}
use Rattle.std.specs.Prelude.{filter, slice_set}
use Rattle.std.proofs.lemmas.Grind.{common_steps}
use Rattle.std.proofs.lemmas.List.{nil_from_length}
use Rattle.recovery.specs.Boxes.{contents_of}
use Rattle.routine_judge.proofs.Boxing.{first_like, first_stays, like_first, like_is, no_image, nothing_else, others_are, some_pass}
use Rattle.routine_judge.specs.BoxViews.{first_image}
use Rattle.routine_judge.proofs.cuts.image_box.ImageBox.split.Goals as goal

pub returns-then-is_empty-clause-kept : goal.returns-then-is_empty-clause-kept
returns-then-is_empty-clause-kept c =
    let box = c.args.self.now in
    let q = c.args.question in
    let are = others_are box q.line q.bytes c.first.result.now c.contents.result.now c.in_ok-same.others c.first.ensures.value c.contents.ensures.value c.in_ok-same.ensures.others in
    let none : c.in_ok-same.others ≡ [] = nil_from_length c.in_ok-same.others (grind (arith, common_steps)) in
    sym (nothing_else (like_first box q.line q.bytes) box q.line (sym are ∙ none))

pub returns-then-is_empty-clause-rest : goal.returns-then-is_empty-clause-rest
returns-then-is_empty-clause-rest c = λ image h.
    let box = c.args.self.now in
    let q = c.args.question in
    let are = others_are box q.line q.bytes c.first.result.now c.contents.result.now c.in_ok-same.others c.first.ensures.value c.contents.ensures.value c.in_ok-same.ensures.others in
    let none : c.in_ok-same.others ≡ [] = nil_from_length c.in_ok-same.others (grind (arith, common_steps)) in
    no_image box q.line (filter (λ line. not (like_first box q.line q.bytes line)) (contents_of box q.line)) image c.requires (sym are ∙ none) h

pub put-requires-2-clause-some : goal.put-requires-2-clause-some
put-requires-2-clause-some c =
    let box = c.args.self.now in
    let q = c.args.question in
    let is = like_is box q.line q.bytes c.first.result.now c.contents.result.now c.in_ok-same.same c.first.ensures.value c.contents.ensures.value c.in_ok-same.ensures.alike in
    rw is (some_pass (like_first box q.line q.bytes) (contents_of box q.line) (rw c.contents.ensures.value at c.contents.ensures.some) (first_like box q.line q.bytes c.requires))

pub returns-clause-first : goal.returns-clause-first
returns-clause-first c =
    let box = c.args.self.now in
    let q = c.args.question in
    let is = like_is box q.line q.bytes c.first.result.now c.contents.result.now c.in_ok-same.same c.first.ensures.value c.contents.ensures.value c.in_ok-same.ensures.alike in
    ap (λ (b : List (List (List ℕ))). first_image b) (c.put-2.ensures ∙ ap (λ (xs : List (List ℕ)). slice_set box q.line xs) is)
    ∙ first_stays box q.line q.bytes (rw c.contents.ensures.value at c.contents.ensures.some) c.requires
