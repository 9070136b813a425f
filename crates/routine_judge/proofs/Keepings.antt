-- The part of a box that is kept while others go to a list.
use Rattle.std.proofs.Common.{◌≡◌, ◌⊎◌, ℕ, ◌+◌, ◌<◌, ◌≤◌, List, [], ◌∷◌, ◌++◌, Option, Some, None, Result, length, drop, get_or, refl, sym, ap, subst, ◌∙◌, inl, inr}
use Rattle.std.specs.List.{AllByRecursion}
use Rattle.std.specs.Prelude.{All}
use Rattle.std.proofs.lemmas.List.{drop_all, drop_more, length-set}
use Rattle.std.proofs.lemmas.List.Elements.{All-push}
use Rattle.program.specs.Sections.{Sections}
use Rattle.recovery.specs.Asking.{asked}
use Rattle.recovery.specs.Boxes.{IsIn, IsInOne, alike, others_of, part_of, unlike}
use Rattle.recovery.specs.Routine.{RecoversWith}
use Rattle.recovery.specs.declared.recovery_run.Cause as run
use Rattle.routine_judge.proofs.Boxing.{first_in, length_first}
use Rattle.routine_judge.proofs.EventLines.{run_names_lines}
use Rattle.routine_judge.specs.BoxViews.{IsBoxOfMedia, IsRest, first_image}
use Rattle.routine_judge.specs.OpenedBoxes.{AreAdded, IsOpened, with_rest}
use Rattle.store_trace.specs.TraceView.{NamesLine}
use Rattle.store_trace.specs.declared.event.Event.{Event}
use Rattle.verdict.specs.declared.branches.question.Question.{Question}

-- of a box, by these questions, this is kept, and these are left to be looked at
pub record KeepsPart (box now : List (List (List ℕ))) (questions left : List Question) (old others : List (List (List (List ℕ)))) : Type 0 where
  pub first : first_image now ≡ first_image box
  pub count : length now ≡ length box
  pub sizes : All (λ b. length b ≡ length box) old → All (λ b. length b ≡ length box) others
  pub below : AllByRecursion (λ q. q.line < length box) left
  pub part : part_of now (first_image box) left ≡ part_of box (first_image box) questions
  pub into : (image : List (List ℕ)) → IsInOne others image ⊎ IsInOne (others_of now (first_image box) left) image
      → IsInOne old image ⊎ IsInOne (others_of box (first_image box) questions) image
  pub back : (image : List (List ℕ)) → IsInOne old image ⊎ IsInOne (others_of box (first_image box) questions) image
      → IsInOne others image ⊎ IsInOne (others_of now (first_image box) left) image

pub keeps_start : (box : List (List (List ℕ))) (questions : List Question) (old : List (List (List (List ℕ)))) → AllByRecursion (λ q. q.line < length box) questions
    → KeepsPart box box questions questions old old
keeps_start box questions old below = record {
  first = refl;
  count = refl;
  sizes = λ all. all;
  below = below;
  part = refl;
  into = λ image h. h;
  back = λ image h. h;
}

-- one more box in a list
pub one_more : (boxes : List (List (List (List ℕ)))) (box : List (List (List ℕ))) (image : List (List ℕ)) → IsInOne (boxes ++ box ∷ []) image → IsInOne boxes image ⊎ IsIn box image
one_more [] box image (inl h) = inr h
one_more [] box image (inr h) = absurd h
one_more (first ∷ boxes) box image (inl h) = inl (inl h)
one_more (first ∷ boxes) box image (inr h) = elim (one_more boxes box image h) [ inl a ↦ inl (inr a) | inr b ↦ inr b ]

pub more_one : (boxes : List (List (List (List ℕ)))) (box : List (List (List ℕ))) (image : List (List ℕ)) → IsInOne boxes image ⊎ IsIn box image → IsInOne (boxes ++ box ∷ []) image
more_one [] box image (inl h) = absurd h
more_one [] box image (inr h) = inl h
more_one (first ∷ boxes) box image (inl (inl h)) = inl h
more_one (first ∷ boxes) box image (inl (inr h)) = inr (more_one boxes box image (inl h))
more_one (first ∷ boxes) box image (inr h) = inr (more_one boxes box image (inr h))

with_into : (boxes : List (List (List (List ℕ)))) (box : List (List (List ℕ))) (rest : Option (List (List (List ℕ)))) (image : List (List ℕ)) → IsRest box rest
    → IsInOne (with_rest boxes rest) image → IsInOne boxes image ⊎ IsIn box image
with_into boxes box None image r h = inl h
with_into boxes box (Some b) image r h = subst (λ (c : List (List (List ℕ))). IsInOne boxes image ⊎ IsIn c image) r (one_more boxes b image h)

with_back : (boxes : List (List (List (List ℕ)))) (box : List (List (List ℕ))) (rest : Option (List (List (List ℕ)))) (image : List (List ℕ)) → IsRest box rest
    → IsInOne boxes image ⊎ IsIn box image → IsInOne (with_rest boxes rest) image
with_back boxes box None image r (inl h) = h
with_back boxes box None image r (inr h) = absurd (r image h)
with_back boxes box (Some b) image r h = more_one boxes b image (subst (λ (c : List (List (List ℕ))). IsInOne boxes image ⊎ IsIn c image) (sym r) h)

length_unlike : (box : List (List (List ℕ))) (image : List (List ℕ)) (q : Question) → length (unlike box image q) ≡ length box
length_unlike box image q = length-set box q.line _

with_size : (n : ℕ) (boxes : List (List (List (List ℕ)))) (box : List (List (List ℕ))) (rest : Option (List (List (List ℕ)))) → IsRest box rest → length box ≡ n
    → All (λ b. length b ≡ n) boxes → All (λ b. length b ≡ n) (with_rest boxes rest)
with_size n boxes box None r size all = all
with_size n boxes box (Some b) r size all = All-push (λ (c : List (List (List ℕ))). length c ≡ n) boxes b all (ap (λ (c : List (List (List ℕ))). length c) r ∙ size)

across : {A B C : Type 0} → (A ⊎ B) ⊎ C → A ⊎ (B ⊎ C)
across (inl (inl a)) = inl a
across (inl (inr b)) = inr (inl b)
across (inr c) = inr (inr c)

uncross : {A B C : Type 0} → A ⊎ (B ⊎ C) → (A ⊎ B) ⊎ C
uncross (inl a) = inl (inl a)
uncross (inr (inl b)) = inl (inr b)
uncross (inr (inr c)) = inr c

pub keeps_next : (box now next : List (List (List ℕ))) (q : Question) (questions left : List Question) (old others more : List (List (List (List ℕ))))
    (rest : Option (List (List (List ℕ)))) → KeepsPart box now questions (q ∷ left) old others → next ≡ alike now (first_image now) q → first_image next ≡ first_image now
    → length next ≡ length now → IsRest (unlike now (first_image now) q) rest → more ≡ with_rest others rest → KeepsPart box next questions left old more
keeps_next box now next q questions left old others more rest k kept first count r grown =
    let same : next ≡ alike now (first_image box) q = kept ∙ ap (λ (image : List (List ℕ)). alike now image q) k.first in
    let is_rest = subst (λ (image : List (List ℕ)). IsRest (unlike now image q) rest) k.first r in record {
      first = first ∙ k.first;
      count = count ∙ k.count;
      sizes = λ all. subst (λ (boxes : List (List (List (List ℕ)))). All (λ b. length b ≡ length box) boxes) (sym grown)
          (with_size (length box) others (unlike now (first_image box) q) rest is_rest (length_unlike now (first_image box) q ∙ k.count) (k.sizes all));
      below = k.below.1;
      part = ap (λ (b : List (List (List ℕ))). part_of b (first_image box) left) same ∙ k.part;
      into = λ image h.
          let here = subst (λ (b : List (List (List ℕ))). IsInOne more image ⊎ IsInOne (others_of b (first_image box) left) image) same h in
          let there = subst (λ (boxes : List (List (List (List ℕ)))). IsInOne boxes image ⊎ IsInOne (others_of (alike now (first_image box) q) (first_image box) left) image) grown here in
          k.into image (across (elim there [
            | inl a ↦ inl (with_into others (unlike now (first_image box) q) rest image is_rest a)
            | inr b ↦ inr b
          ]));
      back = λ image h.
          let apart = uncross (k.back image h) in
          let there : IsInOne (with_rest others rest) image ⊎ IsInOne (others_of (alike now (first_image box) q) (first_image box) left) image = elim apart [
            | inl a ↦ inl (with_back others (unlike now (first_image box) q) rest image is_rest a)
            | inr b ↦ inr b
          ] in
          let here = subst (λ (boxes : List (List (List (List ℕ)))). IsInOne boxes image ⊎ IsInOne (others_of (alike now (first_image box) q) (first_image box) left) image) (sym grown) there in
          subst (λ (b : List (List (List ℕ))). IsInOne more image ⊎ IsInOne (others_of b (first_image box) left) image) (sym same) here;
    }

pub keeps_step : (box now next : List (List (List ℕ))) (questions : List Question) (i : ℕ) (d : Question) (old others more : List (List (List (List ℕ))))
    (rest : Option (List (List (List ℕ)))) → i < length questions → KeepsPart box now questions (drop i questions) old others → next ≡ alike now (first_image now) (get_or questions i d)
    → first_image next ≡ first_image now → length next ≡ length now → IsRest (unlike now (first_image now) (get_or questions i d)) rest → more ≡ with_rest others rest
    → KeepsPart box next questions (drop (i + 1) questions) old more
keeps_step box now next questions i d old others more rest there k kept first count r grown =
    keeps_next box now next (get_or questions i d) questions (drop (i + 1) questions) old others more rest
    (subst (λ (left : List Question). KeepsPart box now questions left old others) (drop_more questions i d there) k) kept first count r grown

-- no question is left
pub keeps_end : (box now : List (List (List ℕ))) (questions : List Question) (i : ℕ) (old others : List (List (List (List ℕ)))) → length questions ≤ i
    → KeepsPart box now questions (drop i questions) old others → KeepsPart box now questions [] old others
keeps_end box now questions i old others past k = subst (λ (left : List Question). KeepsPart box now questions left old others) (drop_all i questions past) k

pub below_as : (n m : ℕ) (qs rs : List Question) → n ≡ m → rs ≡ qs → AllByRecursion (λ q. q.line < n) qs → AllByRecursion (λ q. q.line < m) rs
below_as n m qs rs e f h =
    subst (λ (all : List Question). AllByRecursion (λ q. q.line < m) all) (sym f) (subst (λ (k : ℕ). AllByRecursion (λ q. q.line < k) qs) e h)

none_left : {A : Type 0} → A ⊎ ⊥ → A
none_left (inl a) = a
none_left (inr none) = absurd none

pub keeps_part : (box now : List (List (List ℕ))) (questions : List Question) (old others : List (List (List (List ℕ)))) → KeepsPart box now questions [] old others
    → now ≡ part_of box (first_image box) questions
keeps_part box now questions old others k = k.part

pub keeps_sizes : (box now : List (List (List ℕ))) (questions : List Question) (old others : List (List (List (List ℕ)))) → KeepsPart box now questions [] old others
    → All (λ b. length b ≡ length box) old → All (λ b. length b ≡ length box) others
keeps_sizes box now questions old others k = k.sizes

pub keeps_added : (box now : List (List (List ℕ))) (questions : List Question) (old others : List (List (List (List ℕ)))) → KeepsPart box now questions [] old others
    → AreAdded (others_of box (first_image box) questions) old others
keeps_added box now questions old others k = λ image. (λ h. k.into image (inl h), λ h. none_left (k.back image h))

-- a box that was opened
pub opened_of : (program : Sections) (steps : ℕ) (box part : List (List (List ℕ))) (questions asks : List Question) (events : List Event) (found : Result (List ℕ) run.Cause)
    (old new : List (List (List (List ℕ)))) → RecoversWith program (first_image box) steps questions events found → asks ≡ questions → IsBoxOfMedia box
    → AllByRecursion (λ q. q.line < length box) asks → part ≡ part_of box (first_image box) asks → AreAdded (others_of box (first_image box) asks) old new
    → IsOpened program steps box part events found old new
opened_of program steps box part questions asks events found old new r same w below kept added =
    let own : asks ≡ asked r.end.common.history = same ∙ r.asks in
    record {
      end = r.end;
      full = r.full;
      opened = record {
        whole = w.whole;
        inside = first_in box w;
        runs = r.runs;
        below = subst (λ (qs : List Question). AllByRecursion (λ q. q.line < length box) qs) own below;
      };
      traces = r.traces;
      comes = r.comes;
      keeps = kept ∙ ap (λ (qs : List Question). part_of box (first_image box) qs) own;
      others = subst (λ (qs : List Question). AreAdded (others_of box (first_image box) qs) old new) own added;
    }

-- its events name lines of its images
pub named_of : (program : Sections) (steps : ℕ) (box : List (List (List ℕ))) (questions : List Question) (events : List Event) (found : Result (List ℕ) run.Cause)
    → RecoversWith program (first_image box) steps questions events found → All (NamesLine (length box)) events
named_of program steps box questions events found r =
    subst (λ (n : ℕ). All (NamesLine n) events) (length_first box)
    (subst (λ (es : List Event). All (NamesLine (length (first_image box))) es) (sym r.traces) (run_names_lines program (first_image box) steps r.end r.full r.runs))
