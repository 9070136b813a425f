-- Boxes: sets of images of which each line has one of some contents, whichever the other lines have.
-- This project's own: crash images (Vinter, USENIX ATC 2022) are told apart only by the bytes that recovery asks.
use Rattle.std.specs.Prelude.{◌≡◌, ◌⊎◌, ℕ, zero, suc, ◌+◌, List, [], ◌∷◌, not, filter, flat_map, length, slice_index_or, slice_set, All}
use Rattle.std.specs.List.{AllByRecursion, AllZip, Contains}
use Rattle.line_memory.specs.Lines.{line_at}
use Rattle.store_trace.specs.Cut.{width_of}
use Rattle.store_trace.specs.Floor.{floor}
use Rattle.store_trace.specs.Image.{line_after}
use Rattle.store_trace.specs.declared.crash_model.step.PersistenceStep.{PersistenceStep}
use Rattle.store_trace.specs.declared.event.Event.{Event}
use Rattle.store_trace.specs.declared.event.Event.TheVariants.{Store, Clean, Fence, Begin, End}
use Rattle.recovery.specs.Images.{same_at}
use Rattle.verdict.specs.declared.branches.question.Question.{Question}

-- the image has one of each line's contents
abbrev pub IsIn : List (List (List ℕ)) → List (List ℕ) → Type 0
IsIn box image = AllZip Contains box image

-- each line's contents are among those that it has in another box
abbrev pub LiesWithin : List (List (List ℕ)) → List (List (List ℕ)) → Type 0
LiesWithin box other = AllZip (λ contents others. All (Contains others) contents) box other

-- the contents of a line
abbrev pub contents_of : List (List (List ℕ)) → ℕ → List (List ℕ)
contents_of box l = slice_index_or box l []

-- the bytes of line l after each of so many numbers of its stores, from k on
abbrev pub after_each : List ℕ → ℕ → List PersistenceStep → ℕ → ℕ → List (List ℕ)
after_each bytes l p k zero = []
after_each bytes l p k (suc more) = line_after bytes l k p ∷ after_each bytes l p (k + 1) more

-- the contents that cuts leave of these contents of line l: after each number of its stores, from its floor to all of them
abbrev pub left_of_line : ℕ → List PersistenceStep → List (List ℕ) → List (List ℕ)
left_of_line l p contents = flat_map (λ bytes. after_each bytes l p (floor l p) (width_of p l)) contents

-- what cuts leave of the images of a box, by line, from line l on
abbrev pub left_from : ℕ → List PersistenceStep → List (List (List ℕ)) → List (List (List ℕ))
left_from l p [] = []
left_from l p (contents ∷ box) = left_of_line l p contents ∷ left_from (suc l) p box

abbrev pub left_of : List PersistenceStep → List (List (List ℕ)) → List (List (List ℕ))
left_of p box = left_from 0 p box

-- the images of a box that have the bytes of a question as this image has them, and the others
abbrev pub alike : List (List (List ℕ)) → List (List ℕ) → Question → List (List (List ℕ))
alike box image q = slice_set box q.line (filter (λ line. same_at q.bytes 0 (line_at image q.line) line) (contents_of box q.line))

abbrev pub unlike : List (List (List ℕ)) → List (List ℕ) → Question → List (List (List ℕ))
unlike box image q = slice_set box q.line (filter (λ line. not (same_at q.bytes 0 (line_at image q.line) line)) (contents_of box q.line))

-- the images of a box that have the bytes of these questions as this image has them
abbrev pub part_of : List (List (List ℕ)) → List (List ℕ) → List Question → List (List (List ℕ))
part_of box image [] = box
part_of box image (q ∷ questions) = part_of (alike box image q) image questions

-- the others, by the first question whose bytes they have otherwise
abbrev pub others_of : List (List (List ℕ)) → List (List ℕ) → List Question → List (List (List (List ℕ)))
others_of box image [] = []
others_of box image (q ∷ questions) = unlike box image q ∷ others_of (alike box image q) image questions

-- the image is in one of these boxes
abbrev pub IsInOne : List (List (List (List ℕ))) → List (List ℕ) → Type 0
IsInOne [] image = ⊥
IsInOne (box ∷ boxes) image = IsIn box image ⊎ IsInOne boxes image

-- no image is in two of these boxes
abbrev pub AreApart : List (List (List (List ℕ))) → Type 0
AreApart [] = Unit {0}
AreApart (box ∷ boxes) = ((image : List (List ℕ)) → IsIn box image → IsInOne boxes image → ⊥) × AreApart boxes

-- each content has 64 bytes
abbrev pub AreWhole : List (List (List ℕ)) → Type 0
AreWhole box = AllByRecursion (All (λ line. length line ≡ 64)) box

-- the event is no fence: floors stay where they are
abbrev pub IsNoFence : Event → Type 0
IsNoFence (Store hart line offset width value) = Unit {0}
IsNoFence (Clean hart line) = Unit {0}
IsNoFence (Fence hart) = ⊥
IsNoFence (Begin hart op) = Unit {0}
IsNoFence (End hart op) = Unit {0}
