-- Lists of boxes that cover images.
use Rattle.std.proofs.Common.{◌≡◌, ◌⊎◌, ℕ, zero, suc, ◌+◌, ◌-◌, ◌<◌, ◌≤◌, ◌==◌, true, false, List, [], ◌∷◌, ◌++◌, Option, Some, None, Result, Ok, Err, length, get_or, refl, sym, ap, subst, ◌∙◌, inl, inr, arith, append_assoc}
use Rattle.std.specs.Prelude.{All, IfOk, IfSome, OnOk}
use Rattle.std.specs.List.{Contains}
use Rattle.std.proofs.lemmas.Bool.{cases_Bool, cases_eq, cases_lt, eq-eqb, ne_eqb}
use Rattle.std.proofs.lemmas.List.{append-nil, get_or_default}
use Rattle.std.proofs.lemmas.List.Elements.{All-push, length_all_zip}
use Rattle.program.specs.Sections.{Sections}
use Rattle.recovery.proofs.Boxed.{in_wider}
use Rattle.recovery.proofs.Opened.{moment_grows}
use Rattle.recovery.specs.Boxes.{IsIn, IsNoFence, LiesWithin, left_of}
use Rattle.recovery.specs.Closed.{BoundBox, Covers, IsCovered}
use Rattle.recovery.specs.Cuts.{shown_at}
use Rattle.recovery.specs.declared.recovery_run.Cause as run
use Rattle.routine_judge.specs.Closing.{AreCovered, AreLeft, AreReached, Grows, GrowsAfter, GrowsWith, IsAsShown, IsMomentCovered}
use Rattle.store_trace.specs.History.{at_moment}
use Rattle.store_trace.specs.declared.event.Event.{Event}

-- the box that covers
pub covers_of : (images : List (List (List ℕ))) (shown : Option (List ℕ)) (cuts : ℕ) (box : BoundBox) (others : List (List (List ℕ))) (other_shown : Option (List ℕ)) (other_cuts : ℕ)
    → ◌≡◌ {A = BoundBox} (record { images = images; shown = shown; cuts = cuts }) box → cuts ≤ other_cuts → (other_shown ≡ None) ⊎ (other_shown ≡ shown)
    → LiesWithin others images → (image : List (List ℕ)) → IsIn others image → Covers box other_cuts image other_shown
covers_of images shown cuts box others other_shown other_cuts e soon weaker w image h =
    subst (λ (b : BoundBox). Covers b other_cuts image other_shown) e
    (record { soon = soon; inside = in_wider others images image w h; bound = weaker })

pub covered_at : (boxes : List BoundBox) (i : ℕ) (d : BoundBox) (cuts : ℕ) (image : List (List ℕ)) (shown : Option (List ℕ)) → i < length boxes
    → Covers (get_or boxes i d) cuts image shown → IsCovered boxes cuts image shown
covered_at [] i d cuts image shown there c = absurd (omega (arith, there))
covered_at (box ∷ boxes) zero d cuts image shown there c = inl c
covered_at (box ∷ boxes) (suc i) d cuts image shown there c = inr (covered_at boxes i d cuts image shown (omega (arith, there)) c)

covered_more : (boxes more : List BoundBox) (cuts : ℕ) (image : List (List ℕ)) (shown : Option (List ℕ)) → IsCovered boxes cuts image shown
    → IsCovered (boxes ++ more) cuts image shown
covered_more [] more cuts image shown h = absurd h
covered_more (box ∷ boxes) more cuts image shown (inl c) = inl c
covered_more (box ∷ boxes) more cuts image shown (inr h) = inr (covered_more boxes more cuts image shown h)

covered_last : (boxes : List BoundBox) (box : BoundBox) (cuts : ℕ) (image : List (List ℕ)) (shown : Option (List ℕ)) → Covers box cuts image shown
    → IsCovered (boxes ++ box ∷ []) cuts image shown
covered_last [] box cuts image shown c = inl c
covered_last (first ∷ boxes) box cuts image shown c = inr (covered_last boxes box cuts image shown c)

pub grows_none : (boxes : List BoundBox) → Grows boxes boxes
grows_none boxes = ([], sym (append-nil boxes))

pub grows_one : (old new : List BoundBox) (box : BoundBox) → new ≡ old ++ box ∷ [] → Grows old new
grows_one old new box e = (box ∷ [], e)

pub grows_on : (old middle new : List BoundBox) → Grows old middle → Grows middle new → Grows old new
grows_on old middle new (more, e) (further, f) =
    (more ++ further, f ∙ ap (λ (boxes : List BoundBox). boxes ++ further) e ∙ append_assoc old more further)

pub covered_grows : (old new : List BoundBox) (cuts : ℕ) (image : List (List ℕ)) (shown : Option (List ℕ)) → Grows old new → IsCovered old cuts image shown
    → IsCovered new cuts image shown
covered_grows old new cuts image shown (more, e) h =
    subst (λ (boxes : List BoundBox). IsCovered boxes cuts image shown) (sym e) (covered_more old more cuts image shown h)

-- where less was shown
bound_weaker : (shown more other : Option (List ℕ)) → (shown ≡ None) ⊎ (shown ≡ more) → (more ≡ None) ⊎ (more ≡ other) → (shown ≡ None) ⊎ (shown ≡ other)
bound_weaker shown more other (inl e) h = inl e
bound_weaker shown more other (inr e) (inl f) = inl (e ∙ f)
bound_weaker shown more other (inr e) (inr f) = inr (e ∙ f)

covered_weaker : (boxes : List BoundBox) (cuts : ℕ) (image : List (List ℕ)) (shown more : Option (List ℕ)) → (shown ≡ None) ⊎ (shown ≡ more)
    → IsCovered boxes cuts image more → IsCovered boxes cuts image shown
covered_weaker [] cuts image shown more weaker h = h
covered_weaker (box ∷ boxes) cuts image shown more weaker (inl c) =
    inl (record { soon = c.soon; inside = c.inside; bound = bound_weaker shown more box.shown weaker c.bound })
covered_weaker (box ∷ boxes) cuts image shown more weaker (inr h) = inr (covered_weaker boxes cuts image shown more weaker h)

-- images that a box of the list covers, and images that were added
pub have_covered : (boxes : List BoundBox) (i : ℕ) (d : BoundBox) (cuts : ℕ) (images : List (List (List ℕ))) (shown : Option (List ℕ)) → i < length boxes
    → ((image : List (List ℕ)) → IsIn images image → Covers (get_or boxes i d) cuts image shown) → AreCovered boxes cuts images shown
have_covered boxes i d cuts images shown there each = λ image h. covered_at boxes i d cuts image shown there (each image h)

pub added_covered : (old new : List BoundBox) (cuts : ℕ) (images : List (List (List ℕ))) (shown copy : Option (List ℕ)) → copy ≡ shown
    → new ≡ old ++ record { images = images; shown = copy; cuts = cuts } ∷ [] → AreCovered new cuts images shown
added_covered old new cuts images shown copy same e = λ image h.
    subst (λ (boxes : List BoundBox). IsCovered boxes cuts image shown) (sym e)
    (covered_last old (record { images = images; shown = copy; cuts = cuts }) cuts image shown (record { soon = omega arith; inside = h; bound = inr (sym same) }))

pub with_none : (boxes : List BoundBox) (cuts : ℕ) (images : List (List (List ℕ))) (shown : Option (List ℕ)) → GrowsWith boxes boxes cuts images shown
with_none boxes cuts images shown = record { grows = grows_none boxes; reached = λ program steps origin left all. all }

pub with_one : (old new : List BoundBox) (cuts : ℕ) (images : List (List (List ℕ))) (shown copy : Option (List ℕ)) → copy ≡ shown
    → new ≡ old ++ record { images = images; shown = copy; cuts = cuts } ∷ [] → GrowsWith old new cuts images shown
with_one old new cuts images shown copy same e = record {
  grows = (record { images = images; shown = copy; cuts = cuts } ∷ [], e);
  reached = λ program steps origin left all.
      subst (λ (boxes : List BoundBox). AreReached program steps origin boxes) (sym e)
      (All-push (λ (box : BoundBox). AreLeft program steps origin box.cuts box.images box.shown) old (record { images = images; shown = copy; cuts = cuts }) all
      (subst (λ (s : Option (List ℕ)). AreLeft program steps origin cuts images s) (sym same) left));
}

-- wider images
pub wider_covered : (boxes : List BoundBox) (cuts : ℕ) (images wider : List (List (List ℕ))) (shown : Option (List ℕ)) → LiesWithin images wider
    → AreCovered boxes cuts wider shown → AreCovered boxes cuts images shown
wider_covered boxes cuts images wider shown w all = λ image h. all image (in_wider images wider image w h)

pub with_wider : (old new : List BoundBox) (cuts : ℕ) (images wider : List (List (List ℕ))) (shown : Option (List ℕ)) → LiesWithin images wider
    → GrowsWith old new cuts images shown → GrowsWith old new cuts wider shown
with_wider old new cuts images wider shown w g = record {
  grows = g.grows;
  reached = λ program steps origin left all. g.reached program steps origin (λ image h. left image (in_wider images wider image w h)) all;
}

pub all_grow : (old new : List BoundBox) (cuts : ℕ) (images : List (List (List ℕ))) (shown : Option (List ℕ)) → Grows old new → AreCovered old cuts images shown
    → AreCovered new cuts images shown
all_grow old new cuts images shown g all = λ image h. covered_grows old new cuts image shown g (all image h)

-- what two clauses say of a call that went well
pub on_both : {X E : Type 0} {P Q R : Type 0} (r : Result X E) → (P → Q → R) → OnOk r P → OnOk r Q → OnOk r R
on_both (Ok x) f p q = f p q
on_both (Err e) f p q = tt

pub ok_with : {X E : Type 0} {P : X → Type 0} {Q : Type 0} {R : X → Type 0} (r : Result X E) → ((x : X) → P x → Q → R x) → IfOk r P → OnOk r Q → IfOk r R
ok_with (Ok x) f p q = f x p q
ok_with (Err e) f p q = tt

pub within_size : (box other : List (List (List ℕ))) → LiesWithin box other → length box ≡ length other
within_size box other w = length_all_zip (λ contents others. All (Contains others) contents) box other w

pub no_fence_at : (events others : List Event) (m : ℕ) (e : Event) → others ≡ events → m < length others → IsNoFence (get_or others m e) → (d : Event) → IsNoFence (get_or events m d)
no_fence_at events others m e same there h = λ d.
    subst (λ (event : Event). IsNoFence event) (get_or_default others m e d there ∙ ap (λ (es : List Event). get_or es m d) same) h

-- at each moment what is left is left at the next one right before a fence, or at the last
shown_before : (m events : ℕ) (found : Result (List ℕ) run.Cause) (shown : Option (List ℕ)) → m < events → shown_at m events found shown ≡ shown
shown_before m events (Ok bytes) shown early = let other : (m == events) ≡ false = ne_eqb m events (λ e. omega (arith, early, e)) in rw other refl
shown_before m events (Err cause) shown early = refl

shown_last : (m : ℕ) (bytes : List ℕ) (shown : Option (List ℕ)) → shown_at m m (Ok bytes) shown ≡ Some bytes
shown_last m bytes shown = let same : (m == m) ≡ true = eq-eqb m m refl in rw same refl

as_shown : (bytes : List ℕ) (shown : Option (List ℕ)) → IfSome shown (λ was. bytes ≡ was) → (shown ≡ None) ⊎ (shown ≡ Some bytes)
as_shown bytes None h = inl refl
as_shown bytes (Some was) h = inr (ap (λ (b : List ℕ). Some b) (sym h))

shown_later : (m events : ℕ) (bytes : List ℕ) (shown : Option (List ℕ)) → IfSome shown (λ was. bytes ≡ was)
    → (shown ≡ None) ⊎ (shown ≡ shown_at m events (Ok bytes) shown)
shown_later m events bytes shown h = elim (cases_Bool (m == events)) [ inl e ↦ rw e (as_shown bytes shown h) | inr e ↦ rw e (inr refl) ]

-- what cuts leave of a part at each moment of a run is left
abbrev IsAllLeft : Sections → ℕ → List (List (List ℕ)) → ℕ → List (List (List ℕ)) → List Event → Result (List ℕ) run.Cause → Option (List ℕ) → Type 0
IsAllLeft program steps origin cuts part events found shown =
    (m : ℕ) → m ≤ length events → AreLeft program steps origin cuts (left_of (at_moment events m) part) (shown_at m (length events) found shown)

-- what was covered of the moments right before a fence
pub record AreWidestCovered (old new : List BoundBox) (cuts : ℕ) (part : List (List (List ℕ))) (events : List Event) (found : Result (List ℕ) run.Cause) (shown : Option (List ℕ)) (upto : ℕ) : Type 0 where
  pub grows : GrowsAfter old new cuts part events found shown
  pub each : (m : ℕ) (d : Event) → m < upto → IsNoFence (get_or events m d) ⊎ AreCovered new cuts (left_of (at_moment events m) part) shown

pub after_none : (boxes : List BoundBox) (cuts : ℕ) (part : List (List (List ℕ))) (events : List Event) (found : Result (List ℕ) run.Cause) (shown : Option (List ℕ))
    → GrowsAfter boxes boxes cuts part events found shown
after_none boxes cuts part events found shown = record { grows = grows_none boxes; reached = λ program steps origin left all. all }

pub widest_none : (boxes : List BoundBox) (cuts : ℕ) (part : List (List (List ℕ))) (events : List Event) (found : Result (List ℕ) run.Cause) (shown : Option (List ℕ))
    → AreWidestCovered boxes boxes cuts part events found shown 0
widest_none boxes cuts part events found shown = record { grows = after_none boxes cuts part events found shown; each = λ m d below. absurd (omega (arith, below)) }

lower : (m n : ℕ) → m < n + 1 → (m ≡ n → ⊥) → m < n
lower m n below apart = elim (cases_lt m n) [ inl less ↦ less | inr from ↦ absurd (apart (omega (arith, below, from))) ]

widest_more : (old middle new : List BoundBox) (cuts : ℕ) (part : List (List (List ℕ))) (events : List Event) (found : Result (List ℕ) run.Cause) (shown : Option (List ℕ)) (upto : ℕ)
    → Grows middle new
    → ((program : Sections) (steps : ℕ) (origin : List (List (List ℕ))) → IsAllLeft program steps origin cuts part events found shown
    → AreReached program steps origin middle → AreReached program steps origin new)
    → ((d : Event) → IsNoFence (get_or events upto d) ⊎ AreCovered new cuts (left_of (at_moment events upto) part) shown)
    → AreWidestCovered old middle cuts part events found shown upto → AreWidestCovered old new cuts part events found shown (upto + 1)
widest_more old middle new cuts part events found shown upto g more next w = record {
  grows = record {
    grows = grows_on old middle new w.grows.grows g;
    reached = λ program steps origin left all. more program steps origin left (w.grows.reached program steps origin left all);
  };
  each = λ m d below. elim (cases_eq m upto) [
    | inl here ↦ subst (λ (n : ℕ). IsNoFence (get_or events n d) ⊎ AreCovered new cuts (left_of (at_moment events n) part) shown) (sym here) (next d)
    | inr apart ↦ elim (w.each m d (lower m upto below apart)) [
      | inl no_fence ↦ inl no_fence
      | inr all ↦ inr (all_grow middle new cuts (left_of (at_moment events m) part) shown g all)
    ]
  ];
}

pub widest_fence : (old middle new : List BoundBox) (cuts : ℕ) (part : List (List (List ℕ))) (events : List Event) (found : Result (List ℕ) run.Cause) (shown : Option (List ℕ)) (upto : ℕ)
    → upto < length events → GrowsWith middle new cuts (left_of (at_moment events upto) part) shown → AreCovered new cuts (left_of (at_moment events upto) part) shown
    → AreWidestCovered old middle cuts part events found shown upto → AreWidestCovered old new cuts part events found shown (upto + 1)
widest_fence old middle new cuts part events found shown upto early g all w =
    widest_more old middle new cuts part events found shown upto g.grows
    (λ program steps origin left reached. g.reached program steps origin
    (subst (λ (s : Option (List ℕ)). AreLeft program steps origin cuts (left_of (at_moment events upto) part) s) (shown_before upto (length events) found shown early)
    (left upto (omega (arith, early)))) reached)
    (λ d. inr all) w

pub widest_skip : (old middle : List BoundBox) (cuts : ℕ) (part : List (List (List ℕ))) (events : List Event) (found : Result (List ℕ) run.Cause) (shown : Option (List ℕ)) (upto : ℕ)
    → ((d : Event) → IsNoFence (get_or events upto d)) → AreWidestCovered old middle cuts part events found shown upto
    → AreWidestCovered old middle cuts part events found shown (upto + 1)
widest_skip old middle cuts part events found shown upto no_fence w =
    widest_more old middle middle cuts part events found shown upto (grows_none middle) (λ program steps origin left reached. reached) (λ d. inl (no_fence d)) w

pub after_last : (old middle new : List BoundBox) (cuts : ℕ) (part : List (List (List ℕ))) (events : List Event) (found : Result (List ℕ) run.Cause) (bytes : List ℕ)
    (shown : Option (List ℕ)) (upto : ℕ) → found ≡ Ok bytes → AreWidestCovered old middle cuts part events found shown upto
    → GrowsWith middle new cuts (left_of (at_moment events (length events)) part) (Some bytes) → GrowsAfter old new cuts part events found shown
after_last old middle new cuts part events found bytes shown upto is w g =
    let last : shown_at (length events) (length events) found shown ≡ Some bytes =
    ap (λ (f : Result (List ℕ) run.Cause). shown_at (length events) (length events) f shown) is ∙ shown_last (length events) bytes shown in
    record {
      grows = grows_on old middle new w.grows.grows g.grows;
      reached = λ program steps origin left all.
          g.reached program steps origin
          (subst (λ (s : Option (List ℕ)). AreLeft program steps origin cuts (left_of (at_moment events (length events)) part) s) last (left (length events) (omega arith)))
          (w.grows.reached program steps origin left all);
    }

each_moment : (boxes : List BoundBox) (cuts : ℕ) (part : List (List (List ℕ))) (events : List Event) (bytes : List ℕ) (shown : Option (List ℕ)) (d : Event)
    → IfSome shown (λ was. bytes ≡ was)
    → ((m : ℕ) → m < length events → IsNoFence (get_or events m d) ⊎ AreCovered boxes cuts (left_of (at_moment events m) part) shown)
    → AreCovered boxes cuts (left_of (at_moment events (length events)) part) (Some bytes)
    → (k m : ℕ) → m + k ≡ length events → IsMomentCovered boxes cuts part events (Ok bytes) shown m
each_moment boxes cuts part events bytes shown d stays each last zero m e =
    let here : m ≡ length events = omega (arith, e) in
    subst (λ (n : ℕ). IsMomentCovered boxes cuts part events (Ok bytes) shown n) (sym here)
    (subst (λ (s : Option (List ℕ)). AreCovered boxes cuts (left_of (at_moment events (length events)) part) s) (sym (shown_last (length events) bytes shown)) last)
each_moment boxes cuts part events bytes shown d stays each last (suc k) m e =
    let early : m < length events = omega (arith, e) in
    let now : shown_at m (length events) (Ok bytes) shown ≡ shown = shown_before m (length events) (Ok bytes) shown early in
    subst (λ (s : Option (List ℕ)). AreCovered boxes cuts (left_of (at_moment events m) part) s) (sym now)
    (elim (each m early) [
      | inl no_fence ↦ λ image h.
          covered_weaker boxes cuts image shown (shown_at (m + 1) (length events) (Ok bytes) shown) (shown_later (m + 1) (length events) bytes shown stays)
          (each_moment boxes cuts part events bytes shown d stays each last k (m + 1) (omega (arith, e)) image (moment_grows events m d part image early no_fence h))
      | inr all ↦ all
    ])

wide_at : (old middle new : List BoundBox) (cuts : ℕ) (part : List (List (List ℕ))) (events : List Event) (found : Result (List ℕ) run.Cause) (shown : Option (List ℕ)) (upto m : ℕ) (d : Event)
    → Grows middle new → m < upto → AreWidestCovered old middle cuts part events found shown upto
    → IsNoFence (get_or events m d) ⊎ AreCovered new cuts (left_of (at_moment events m) part) shown
wide_at old middle new cuts part events found shown upto m d g below w = elim (w.each m d below) [
  | inl no_fence ↦ inl no_fence
  | inr all ↦ inr (all_grow middle new cuts (left_of (at_moment events m) part) shown g all)
]

pub moments_covered : (old middle new : List BoundBox) (cuts : ℕ) (part : List (List (List ℕ))) (events : List Event) (found : Result (List ℕ) run.Cause) (bytes : List ℕ)
    (shown : Option (List ℕ)) (d : Event) (upto : ℕ) → found ≡ Ok bytes → IsAsShown shown found → length events ≤ upto → AreWidestCovered old middle cuts part events found shown upto
    → Grows middle new → AreCovered new cuts (left_of (at_moment events (length events)) part) (Some bytes)
    → (m : ℕ) → m ≤ length events → IsMomentCovered new cuts part events found shown m
moments_covered old middle new cuts part events found bytes shown d upto is stays past w g last m there =
    let same : IfSome shown (λ was. bytes ≡ was) = subst (λ (f : Result (List ℕ) run.Cause). IsAsShown shown f) is stays in
    subst (λ (f : Result (List ℕ) run.Cause). IsMomentCovered new cuts part events f shown m) (sym is)
    (each_moment new cuts part events bytes shown d same (λ n below. wide_at old middle new cuts part events found shown upto n d g (omega (arith, below, past)) w) last
    (length events - m) m (omega (arith, there)))
