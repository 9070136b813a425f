-- In boxes out of which no cut leads, answers are right and stay, however often the power is cut.
use Rattle.std.proofs.Common.{◌≡◌, ◌⊎◌, ℕ, zero, suc, ◌+◌, ◌<◌, ◌≤◌, ◌==◌, List, [], ◌∷◌, Option, None, Result, Ok, Err, length, refl, sym, subst, ◌∙◌, inl, inr, arith}
use Rattle.std.specs.Prelude.{IfSome}
use Rattle.std.specs.List.{AllByRecursion}
use Rattle.std.proofs.lemmas.Bool.{cases_Bool}
use Rattle.program.specs.Sections.{Sections}
use Rattle.machine.specs.Replies.{trace_in}
use Rattle.recovery.specs.Answers.{answer}
use Rattle.recovery.specs.Boxes.{IsIn}
use Rattle.recovery.specs.Closed.{AreClosed, AreClosedTo, BoundBox, Covers, IsCovered, IsFollowed, IsWell}
use Rattle.recovery.specs.Cuts.{AnswersWell, IsCutOf, IsLeft, shown_at}
use Rattle.recovery.specs.declared.recovery_run.Cause.{Cause}

-- where nothing was shown before, no more is shown after than where something was
shown_weaker : (moment events : ℕ) (found : Result (List ℕ) Cause) (bound : Option (List ℕ))
    → (shown_at moment events found None ≡ None) ⊎ (shown_at moment events found None ≡ shown_at moment events found bound)
shown_weaker moment events (Err cause) bound = inl refl
shown_weaker moment events (Ok bytes) bound = elim (cases_Bool (moment == events)) [ inl e ↦ inr (rw e refl) | inr e ↦ inl (rw e refl) ]

record Stronger (program : Sections) (steps : ℕ) (before : List (List ℕ)) (bound : Option (List ℕ)) (left : List (List ℕ)) (shown : Option (List ℕ)) : Type 0 where
  more : Option (List ℕ)
  cut : IsCutOf program steps before bound left more
  weaker : (shown ≡ None) ⊎ (shown ≡ more)

stronger : (program : Sections) (steps : ℕ) (before : List (List ℕ)) (bound : Option (List ℕ)) (left : List (List ℕ)) (shown : Option (List ℕ))
    → IsCutOf program steps before None left shown → Stronger program steps before bound left shown
stronger program steps before bound left shown c = record {
  more = shown_at c.moment (length (trace_in c.end.common)) (answer c.end c.full) bound;
  cut = record {
    end = c.end;
    full = c.full;
    runs = c.runs;
    moment = c.moment;
    there = c.there;
    cut = c.cut;
    within = c.within;
    leaves = c.leaves;
    shows = refl;
  };
  weaker = elim (shown_weaker c.moment (length (trace_in c.end.common)) (answer c.end c.full) bound) [ inl e ↦ inl (c.shows ∙ e) | inr e ↦ inr (c.shows ∙ e) ];
}

-- covered is what is covered with more shown, or by fewer cuts
bound_weaker : (shown more other : Option (List ℕ)) → (shown ≡ None) ⊎ (shown ≡ more) → (more ≡ None) ⊎ (more ≡ other) → (shown ≡ None) ⊎ (shown ≡ other)
bound_weaker shown more other (inl e) h = inl e
bound_weaker shown more other (inr e) (inl f) = inl (e ∙ f)
bound_weaker shown more other (inr e) (inr f) = inr (e ∙ f)

covers_weaker : (box : BoundBox) (few cuts : ℕ) (image : List (List ℕ)) (shown more : Option (List ℕ)) → few ≤ cuts → (shown ≡ None) ⊎ (shown ≡ more)
    → Covers box few image more → Covers box cuts image shown
covers_weaker box few cuts image shown more fits weaker c = record {
  soon = (let h = c.soon in omega arith);
  inside = c.inside;
  bound = bound_weaker shown more box.shown weaker c.bound;
}

covered_weaker : (boxes : List BoundBox) (few cuts : ℕ) (image : List (List ℕ)) (shown more : Option (List ℕ)) → few ≤ cuts → (shown ≡ None) ⊎ (shown ≡ more)
    → IsCovered boxes few image more → IsCovered boxes cuts image shown
covered_weaker [] few cuts image shown more fits weaker h = h
covered_weaker (box ∷ boxes) few cuts image shown more fits weaker (inl c) = inl (covers_weaker box few cuts image shown more fits weaker c)
covered_weaker (box ∷ boxes) few cuts image shown more fits weaker (inr h) = inr (covered_weaker boxes few cuts image shown more fits weaker h)

-- the box that covers, with what holds of each
record CoveredBy (P : BoundBox → Type 0) (cuts : ℕ) (image : List (List ℕ)) (shown : Option (List ℕ)) : Type 0 where
  box : BoundBox
  holds : P box
  covers : Covers box cuts image shown

covered_by : (P : BoundBox → Type 0) (boxes : List BoundBox) (cuts : ℕ) (image : List (List ℕ)) (shown : Option (List ℕ)) → AllByRecursion P boxes
    → IsCovered boxes cuts image shown → CoveredBy P cuts image shown
covered_by P [] cuts image shown all h = absurd h
covered_by P (box ∷ boxes) cuts image shown all (inl c) = record { box = box; holds = all.0; covers = c }
covered_by P (box ∷ boxes) cuts image shown all (inr h) = covered_by P boxes cuts image shown all.1 h

-- a further cut from a covered image
followed : (program : Sections) (steps : ℕ) (boxes : List BoundBox) (box : BoundBox) (cuts : ℕ) (before left : List (List ℕ)) (earlier shown : Option (List ℕ))
    → IsFollowed program steps boxes box → box.cuts ≤ cuts → IsIn box.images before → (earlier ≡ None) ⊎ (earlier ≡ box.shown)
    → IsCutOf program steps before earlier left shown → IsCovered boxes (suc cuts) left shown
followed program steps boxes box cuts before left earlier shown follows soon inside (inl none) c =
    let s = stronger program steps before box.shown left shown (subst (λ (e : Option (List ℕ)). IsCutOf program steps before e left shown) none c) in
    covered_weaker boxes (box.cuts + 1) (suc cuts) left shown s.more (omega (arith, soon)) s.weaker (follows before left s.more inside s.cut)
followed program steps boxes box cuts before left earlier shown follows soon inside (inr same) c =
    covered_weaker boxes (box.cuts + 1) (suc cuts) left shown shown (omega (arith, soon)) (inr refl)
    (follows before left shown inside (subst (λ (e : Option (List ℕ)). IsCutOf program steps before e left shown) same c))

-- all that up to so many cuts leave is covered
covered_to : (program : Sections) (steps : ℕ) (right : List ℕ → Type 0) (first : List (List ℕ) → Type 0) (most : ℕ) (boxes : List BoundBox)
    → ((image : List (List ℕ)) → first image → IsCovered boxes 0 image None) → AreClosedTo program steps right most boxes
    → (cuts : ℕ) (left : List (List ℕ)) (shown : Option (List ℕ)) → cuts ≤ most → IsLeft program steps first cuts left shown → IsCovered boxes cuts left shown
covered_to program steps right first most boxes starts closed zero left shown fits (h, none) =
    subst (λ (s : Option (List ℕ)). IsCovered boxes 0 left s) (sym none) (starts left h)
covered_to program steps right first most boxes starts closed (suc cuts) left shown fits (before, earlier, h, c) =
    let one = covered_by (λ box. (box.cuts ≤ most → IsWell program steps right box) × (box.cuts < most → IsFollowed program steps boxes box)) boxes cuts before earlier closed
    (covered_to program steps right first most boxes starts closed cuts before earlier (omega (arith, fits)) h) in
    let soon = one.covers.soon in
    followed program steps boxes one.box cuts before left earlier shown (one.holds.1 (omega arith)) soon one.covers.inside one.covers.bound c

-- an answer that is well where more was shown
stays_weaker : (bytes : List ℕ) (shown more : Option (List ℕ)) → (shown ≡ None) ⊎ (shown ≡ more) → IfSome more (λ was. bytes ≡ was) → IfSome shown (λ was. bytes ≡ was)
stays_weaker bytes shown more (inl none) h = subst (λ (s : Option (List ℕ)). IfSome s (λ was. bytes ≡ was)) (sym none) tt
stays_weaker bytes shown more (inr same) h = subst (λ (s : Option (List ℕ)). IfSome s (λ was. bytes ≡ was)) (sym same) h

well_weaker : (program : Sections) (steps : ℕ) (right : List ℕ → Type 0) (image : List (List ℕ)) (shown more : Option (List ℕ)) → (shown ≡ None) ⊎ (shown ≡ more)
    → AnswersWell program steps right image more → AnswersWell program steps right image shown
well_weaker program steps right image shown more weaker a = record {
  bytes = a.bytes;
  answers = a.answers;
  is_right = a.is_right;
  stays = stays_weaker a.bytes shown more weaker a.stays;
}

pub closed_to_stays : (program : Sections) (steps : ℕ) (right : List ℕ → Type 0) (first : List (List ℕ) → Type 0) (most : ℕ) (boxes : List BoundBox)
    → ((image : List (List ℕ)) → first image → IsCovered boxes 0 image None) → AreClosedTo program steps right most boxes
    → (cuts : ℕ) (left : List (List ℕ)) (shown : Option (List ℕ)) → cuts ≤ most → IsLeft program steps first cuts left shown
    → AnswersWell program steps right left shown
closed_to_stays program steps right first most boxes starts closed cuts left shown fits h =
    let one = covered_by (λ box. (box.cuts ≤ most → IsWell program steps right box) × (box.cuts < most → IsFollowed program steps boxes box)) boxes cuts left shown closed
    (covered_to program steps right first most boxes starts closed cuts left shown fits h) in
    let soon = one.covers.soon in
    well_weaker program steps right left shown one.box.shown one.covers.bound (one.holds.0 (omega (arith, fits)) left one.covers.inside)

-- closed boxes are closed to any number of cuts
closed_each : (program : Sections) (steps : ℕ) (right : List ℕ → Type 0) (most : ℕ) (all boxes : List BoundBox)
    → AllByRecursion (λ box. IsWell program steps right box × IsFollowed program steps all box) boxes
    → AllByRecursion (λ box. (box.cuts ≤ most → IsWell program steps right box) × (box.cuts < most → IsFollowed program steps all box)) boxes
closed_each program steps right most all [] h = tt
closed_each program steps right most all (box ∷ boxes) h = ((λ few. h.0.0, λ few. h.0.1), closed_each program steps right most all boxes h.1)

pub closed_stays : (program : Sections) (steps : ℕ) (right : List ℕ → Type 0) (first : List (List ℕ) → Type 0) (boxes : List BoundBox)
    → ((image : List (List ℕ)) → first image → IsCovered boxes 0 image None) → AreClosed program steps right boxes
    → (cuts : ℕ) (left : List (List ℕ)) (shown : Option (List ℕ)) → IsLeft program steps first cuts left shown
    → AnswersWell program steps right left shown
closed_stays program steps right first boxes starts closed cuts left shown h =
    closed_to_stays program steps right first cuts boxes starts (closed_each program steps right cuts boxes boxes closed) cuts left shown (omega arith) h
