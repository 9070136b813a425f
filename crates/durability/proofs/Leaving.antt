-- What is left of a run without its needless events.
use Rattle.std.proofs.Common.{◌≡◌, ℕ, zero, suc, ◌+◌, ◌<◌, inl, inr, ◌==◌, true, false, List, [], ◌∷◌, ◌++◌, Option, Some, None, get_or, take, arith, refl, ap, ◌∙◌, sym, subst}
use Rattle.std.specs.Prelude.{◌↔◌, Contains, slice_index_or}
use Rattle.std.proofs.lemmas.Bool.Decides.{nat_tests}
use Rattle.std.proofs.lemmas.List.{append-nil}
use Rattle.store_trace.proofs.Images.{image_from_lines, image_line, length_image}
use Rattle.store_trace.specs.Cut.{IsCut, stored_lines, with_line}
use Rattle.store_trace.specs.Floor.{cleaned, floor}
use Rattle.store_trace.specs.Image.{image, line_after}
use Rattle.store_trace.specs.Stores.{stores, writes}
use Rattle.store_trace.specs.declared.crash_model.step.PersistenceStep.{PersistenceStep}
use Rattle.store_trace.specs.declared.crash_model.step.PersistenceStep.TheVariants as step
use Rattle.store_trace.specs.History.{at_moment, history, steps_of}
use Rattle.store_trace.specs.declared.event.Event.{Event}
use Rattle.store_trace.specs.declared.event.Event.TheVariants.{Store, Clean, Fence, Begin, End}
use Rattle.durability.proofs.Alike.{but_back, but_clean, cleaned_step, own_clean}
use Rattle.durability.proofs.Answers.{Answers, IsNeeded, cons_head, cons_tail, left_out_from, needless_from, out_by_reason}
use Rattle.durability.proofs.Back.{back, history_back, history_more, one_more}
use Rattle.durability.proofs.Decisions.{answer, is_fence, le_or_gt}
use Rattle.durability.proofs.Greedy.{IsAwaited, Settled, Tracks, awaited_left, awaited_step, changes_from, needed_is_awaited, own_settled, settled_kept, settled_left, tracks_kept, tracks_left}
use Rattle.durability.proofs.Lacks.{no_head, none_in_cons, none_in_nil}
use Rattle.durability.specs.Found.{AreFound, AreNeedless, IsFoundFirst, is_found, left_at, without}
use Rattle.durability.specs.Needless.{ChangesFloor, IsCleanOrFence, IsNeedless}
use Rattle.durability.specs.Reasons.{IsReason, place_of}
use Rattle.durability.specs.declared.redundant.reason.Needless.{Needless}
use Rattle.durability.specs.declared.redundant.reason.Reason.{Reason}
use Rattle.durability.specs.declared.redundant.reason.Reason.TheVariants.{NotFenced, NothingToComplete, CleanedAgain, AlreadyThere}

-- the numbers found from event n on are n and above
not_among : (kept rest : List Event) (n : ℕ) (found : List Needless) → AreFound kept rest n found → (k : ℕ) → k < n → is_found k found ≡ false
not_among kept [] n found f k low = rw f refl
not_among kept (event ∷ rest) n found (inl (more, first, others)) k low =
    let later = not_among kept rest (n + 1) more others k (omega (arith, low)) in
    let other : (first.entry.event == k) ≡ false = grind (arith, nat_tests, first.number, low) in
    rw first.place (rw other later)
not_among kept (event ∷ rest) n found (inr (needed, others)) k low =
    not_among (kept ++ event ∷ []) rest (n + 1) found others k (omega (arith, low))

-- what is left from event n on is decided by the numbers found from there on
without_more : (entry : Needless) (more : List Needless) (n : ℕ) (events : List Event) → entry.event < n →
    without (entry ∷ more) n events ≡ without more n events
without_more entry more n [] low = refl
without_more entry more n (event ∷ events) low =
    let other : (entry.event == n) ≡ false = grind (arith, nat_tests, low) in
    let later : without (entry ∷ more) (n + 1) events ≡ without more (n + 1) events = without_more entry more (n + 1) events (omega (arith, low)) in
    rw (other, later) refl

without_found : (kept rest : List Event) (event : Event) (n : ℕ) (found more : List Needless) (events : List Event) →
    IsFoundFirst kept event rest n found more → without found n (event ∷ events) ≡ without more (n + 1) events
without_found kept rest event n found more events first =
    let here : (first.entry.event == n) ≡ true = grind (arith, nat_tests, first.number) in
    let both : without (first.entry ∷ more) n (event ∷ events) ≡ without more (n + 1) events =
    rw here (without_more first.entry more (n + 1) events (omega (arith, first.number))) in
    subst (λ (entries : List Needless). without entries n (event ∷ events) ≡ without more (n + 1) events) (sym first.place) both

without_kept : (kept rest : List Event) (event : Event) (n : ℕ) (found : List Needless) (events : List Event) →
    AreFound (kept ++ event ∷ []) rest (n + 1) found → without found n (event ∷ events) ≡ event ∷ without found (n + 1) events
without_kept kept rest event n found events others =
    rw (not_among (kept ++ event ∷ []) rest (n + 1) found others n (omega arith)) refl

-- leaving them out keeps the floors
floors_left : (kept rest : List Event) (n : ℕ) (found : List Needless) (q : List PersistenceStep) → AreFound kept rest n found →
    Tracks (history kept) q rest → (l m : ℕ) →
    floor l (back (without found n (take m rest)) (history kept)) ≡ floor l (back (take m rest) q)
floors_left kept [] n found q f t l zero = t.floors l 0
floors_left kept [] n found q f t l (suc m) = t.floors l 0
floors_left kept (event ∷ rest) n found q f t l zero = t.floors l 0
floors_left kept (event ∷ rest) n found q (inl (more, first, others)) t l (suc m) =
    let out = left_out_from kept event rest first.needless in
    rw (without_found kept rest event n found more (take m rest) first)
    (floors_left kept rest (n + 1) more (steps_of event ++ q) others (tracks_left (history kept) q event rest t first.needless.kind out) l m)
floors_left kept (event ∷ rest) n found q (inr (needed, others)) t l (suc m) =
    let now = history_more kept event in
    let next : Tracks (history (kept ++ event ∷ [])) (steps_of event ++ q) rest =
    subst (λ (r : List PersistenceStep). Tracks r (steps_of event ++ q) rest) (sym now) (tracks_kept (history kept) q event rest t) in
    rw (without_kept kept rest event n found (take m rest) others)
    (ap (λ (r : List PersistenceStep). floor l (back (without found (n + 1) (take m rest)) r)) (sym now)
    ∙ floors_left (kept ++ event ∷ []) rest (n + 1) found (steps_of event ++ q) others next l m)

pub floors_same : (events : List Event) (found : List Needless) → AreNeedless events found → (l m : ℕ) →
    floor l (history (left_at events found m)) ≡ floor l (at_moment events m)
floors_same events found f l m =
    let both = floors_left [] events 1 found [] f (record { floors = λ k i. refl; counts = λ k. refl }) l m in
    ap (λ (p : List PersistenceStep). floor l p) (history_back [] (left_at events found m))
    ∙ both
    ∙ sym (ap (λ (p : List PersistenceStep). floor l p) (history_back [] (take m events)))

-- the stores alone
stores_alone : List PersistenceStep → List PersistenceStep
stores_alone [] = []
stores_alone (step.Store m o w v ∷ p) = step.Store m o w v ∷ stores_alone p
stores_alone (step.Clean h m ∷ p) = stores_alone p
stores_alone (step.Fence h ∷ p) = stores_alone p
stores_alone (step.Evict m ∷ p) = stores_alone p

alone_left : (kind : Event) (p : List PersistenceStep) → IsCleanOrFence kind → stores_alone (steps_of kind ++ p) ≡ stores_alone p
unfolding stores_alone
alone_left (Store h m o w v) p kind = absurd kind
alone_left (Clean h m) p kind = refl
alone_left (Fence h) p kind = refl
alone_left (Begin h op) p kind = refl
alone_left (End h op) p kind = refl

alone_kept : (event : Event) (p q : List PersistenceStep) → stores_alone p ≡ stores_alone q →
    stores_alone (steps_of event ++ p) ≡ stores_alone (steps_of event ++ q)
unfolding stores_alone
alone_kept (Store h m o w v) p q e = ap (λ (r : List PersistenceStep). step.Store m o w v ∷ r) e
alone_kept (Clean h m) p q e = e
alone_kept (Fence h) p q e = e
alone_kept (Begin h op) p q e = e
alone_kept (End h op) p q e = e

stores_left : (kept rest : List Event) (n : ℕ) (found : List Needless) (p q : List PersistenceStep) → AreFound kept rest n found →
    stores_alone p ≡ stores_alone q → (m : ℕ) →
    stores_alone (back (without found n (take m rest)) p) ≡ stores_alone (back (take m rest) q)
stores_left kept [] n found p q f e zero = e
stores_left kept [] n found p q f e (suc m) = e
stores_left kept (event ∷ rest) n found p q f e zero = e
stores_left kept (event ∷ rest) n found p q (inl (more, first, others)) e (suc m) =
    rw (without_found kept rest event n found more (take m rest) first)
    (stores_left kept rest (n + 1) more p (steps_of event ++ q) others (e ∙ sym (alone_left event q first.needless.kind)) m)
stores_left kept (event ∷ rest) n found p q (inr (needed, others)) e (suc m) =
    rw (without_kept kept rest event n found (take m rest) others)
    (stores_left (kept ++ event ∷ []) rest (n + 1) found (steps_of event ++ p) (steps_of event ++ q) others (alone_kept event p q e) m)

alone_same : (events : List Event) (found : List Needless) → AreNeedless events found → (m : ℕ) →
    stores_alone (history (left_at events found m)) ≡ stores_alone (at_moment events m)
alone_same events found f m =
    ap (λ (p : List PersistenceStep). stores_alone p) (history_back [] (left_at events found m))
    ∙ stores_left [] events 1 found [] [] f refl m
    ∙ sym (ap (λ (p : List PersistenceStep). stores_alone p) (history_back [] (take m events)))

writes_alone : (l : ℕ) (p : List PersistenceStep) → writes l (stores_alone p) ≡ writes l p
unfolding stores_alone
writes_alone l [] = refl
writes_alone l (step.Store m o w v ∷ p) = rw (writes_alone l p) refl
writes_alone l (step.Clean h m ∷ p) = writes_alone l p
writes_alone l (step.Fence h ∷ p) = writes_alone l p
writes_alone l (step.Evict m ∷ p) = writes_alone l p

counts_alone : (l : ℕ) (p : List PersistenceStep) → stores l (stores_alone p) ≡ stores l p
unfolding stores_alone
counts_alone l [] = refl
counts_alone l (step.Store m o w v ∷ p) = rw (counts_alone l p) refl
counts_alone l (step.Clean h m ∷ p) = counts_alone l p
counts_alone l (step.Fence h ∷ p) = counts_alone l p
counts_alone l (step.Evict m ∷ p) = counts_alone l p

lines_alone : (p : List PersistenceStep) → stored_lines (stores_alone p) ≡ stored_lines p
unfolding stores_alone
lines_alone [] = refl
lines_alone (step.Store m o w v ∷ p) = ap (λ (ls : List ℕ). with_line m ls) (lines_alone p)
lines_alone (step.Clean h m ∷ p) = lines_alone p
lines_alone (step.Fence h ∷ p) = lines_alone p
lines_alone (step.Evict m ∷ p) = lines_alone p

line_alone : (start : List ℕ) (l k : ℕ) (p : List PersistenceStep) → line_after start l k (stores_alone p) ≡ line_after start l k p
unfolding stores_alone
line_alone start l k [] = refl
line_alone start l k (step.Store m o w v ∷ p) = rw (counts_alone l p, line_alone start l k p) refl
line_alone start l k (step.Clean h m ∷ p) = line_alone start l k p
line_alone start l k (step.Fence h ∷ p) = line_alone start l k p
line_alone start l k (step.Evict m ∷ p) = line_alone start l k p

-- what the stores alone decide is the same
pub writes_same : (events : List Event) (found : List Needless) → AreNeedless events found → (l m : ℕ) →
    writes l (history (left_at events found m)) ≡ writes l (at_moment events m)
writes_same events found f l m =
    sym (writes_alone l (history (left_at events found m)))
    ∙ ap (λ (p : List PersistenceStep). writes l p) (alone_same events found f m)
    ∙ writes_alone l (at_moment events m)

counts_same : (events : List Event) (found : List Needless) → AreNeedless events found → (l m : ℕ) →
    stores l (history (left_at events found m)) ≡ stores l (at_moment events m)
counts_same events found f l m =
    sym (counts_alone l (history (left_at events found m)))
    ∙ ap (λ (p : List PersistenceStep). stores l p) (alone_same events found f m)
    ∙ counts_alone l (at_moment events m)

lines_same : (events : List Event) (found : List Needless) → AreNeedless events found → (m : ℕ) →
    stored_lines (history (left_at events found m)) ≡ stored_lines (at_moment events m)
lines_same events found f m =
    sym (lines_alone (history (left_at events found m)))
    ∙ ap (λ (p : List PersistenceStep). stored_lines p) (alone_same events found f m)
    ∙ lines_alone (at_moment events m)

line_same : (events : List Event) (found : List Needless) → AreNeedless events found → (start : List ℕ) (l k m : ℕ) →
    line_after start l k (history (left_at events found m)) ≡ line_after start l k (at_moment events m)
line_same events found f start l k m =
    sym (line_alone start l k (history (left_at events found m)))
    ∙ ap (λ (p : List PersistenceStep). line_after start l k p) (alone_same events found f m)
    ∙ line_alone start l k (at_moment events m)

cut_same : (p q : List PersistenceStep) (cut : List (ℕ × ℕ)) → stored_lines p ≡ stored_lines q →
    ((l : ℕ) → floor l q ≡ floor l p) → ((l : ℕ) → stores l q ≡ stores l p) → IsCut p cut → IsCut q cut
cut_same p q cut lines floors counts c = record {
  lines = c.lines ∙ lines;
  low = λ i d h. rw (floors (get_or cut i d).0) (c.low i d h);
  high = λ i d h. rw (counts (get_or cut i d).0) (c.high i d h);
}

pub cuts_same : (events : List Event) (found : List Needless) → AreNeedless events found → (m : ℕ) (cut : List (ℕ × ℕ)) →
    IsCut (at_moment events m) cut ↔ IsCut (history (left_at events found m)) cut
cuts_same events found f m cut =
    let all = at_moment events m in
    let left = history (left_at events found m) in (
      cut_same all left cut (sym (lines_same events found f m)) (λ l. floors_same events found f l m) (λ l. counts_same events found f l m),
      cut_same left all cut (lines_same events found f m) (λ l. sym (floors_same events found f l m)) (λ l. sym (counts_same events found f l m)),
    )

pub images_same : (events : List Event) (found : List Needless) → AreNeedless events found → (start : List (List ℕ)) (k : ℕ → ℕ) (m : ℕ) →
    image start k (history (left_at events found m)) ≡ image start k (at_moment events m)
images_same events found f start k m =
    let left = history (left_at events found m) in
    image_from_lines start k (at_moment events m) (image start k left) (length_image start k left)
    (λ l h. image_line start k left l [] [] h ∙ line_same events found f (slice_index_or start l []) l (k l) m)

-- the event itself is the fence that is waited for
awaited_now : (p : List PersistenceStep) (h l : ℕ) (event : Event) (rest between later : List Event) →
    event ∷ rest ≡ between ++ (Fence h ∷ later) → (Contains between (Fence h) → ⊥) → floor l (back between p) < cleaned l h p →
    event ≡ Fence h → floor l p < cleaned l h p
awaited_now p h l event rest [] later place fence low e = low
awaited_now p h l event rest (b ∷ bs) later place fence low e =
    absurd (no_head b bs (Fence h) fence (sym (cons_head event b rest (bs ++ (Fence h ∷ later)) place) ∙ e))

-- it isn't, and so it is no clean of the line by the hart
awaited_other : (h l : ℕ) (event : Event) (rest between later : List Event) → event ∷ rest ≡ between ++ (Fence h ∷ later) →
    (Contains between (Clean h l) → ⊥) → (event ≡ Fence h → ⊥) → event ≡ Clean h l → ⊥
awaited_other h l event rest [] later place none other e = other (cons_head event (Fence h) rest later place)
awaited_other h l event rest (b ∷ bs) later place none other e =
    no_head b bs (Clean h l) none (sym (cons_head event b rest (bs ++ (Fence h ∷ later)) place) ∙ e)

awaited_cons : (p : List PersistenceStep) (h l : ℕ) (event : Event) (rest : List Event) → (event ≡ Fence h → ⊥) → (event ≡ Clean h l → ⊥) →
    IsAwaited (steps_of event ++ p) h l rest → IsAwaited p h l (event ∷ rest)
awaited_cons p h l event rest no_fence no_clean a = record {
  between = event ∷ a.between;
  later = a.later;
  fence = record {
    place = ap (λ (es : List Event). event ∷ es) a.fence.place;
    next = none_in_cons event a.between (Fence h) no_fence a.fence.next;
  };
  none = none_in_cons event a.between (Clean h l) no_clean a.none;
  low = omega (arith, a.low, cleaned_step h l event p no_clean);
}

-- what waits for a fence waits for it in what is left too
awaited_rest : (kept rest : List Event) (n : ℕ) (found : List Needless) (h l : ℕ) → AreFound kept rest n found →
    IsAwaited (history kept) h l rest → IsAwaited (history kept) h l (without found n rest)
awaited_rest kept [] n found h l f a = a
awaited_rest kept (event ∷ rest) n found h l (inl (more, first, others)) a =
    rw (without_found kept rest event n found more rest first)
    (awaited_rest kept rest (n + 1) more h l others
    (awaited_left (history kept) h l event rest a (left_out_from kept event rest first.needless)))
awaited_rest kept (event ∷ rest) n found h l (inr (needed, others)) a =
    let p = history kept in
    let left = without found (n + 1) rest in
    rw (without_kept kept rest event n found rest others)
    (elim (is_fence h event) [
      | inl e ↦ record {
        between = [];
        later = left;
        fence = record { place = ap (λ (x : Event). x ∷ left) e; next = none_in_nil (Fence h) };
        none = none_in_nil (Clean h l);
        low = awaited_now p h l event rest a.between a.later a.fence.place a.fence.next a.low e;
      }
      | inr other ↦
          let no_clean : event ≡ Clean h l → ⊥ = awaited_other h l event rest a.between a.later a.fence.place a.none other in
          let next = awaited_step p h l event rest a other (cleaned_step h l event p no_clean) in
          let now : history (kept ++ event ∷ []) ≡ steps_of event ++ p = history_more kept event in
          let later = awaited_rest (kept ++ event ∷ []) rest (n + 1) found h l others
          (subst (λ (r : List PersistenceStep). IsAwaited r h l rest) (sym now) next) in
          awaited_cons p h l event left other no_clean (subst (λ (r : List PersistenceStep). IsAwaited r h l left) now later)
    ])

needed_from : (p : List PersistenceStep) (h l : ℕ) (rest : List Event) → IsAwaited (step.Clean h l ∷ p) h l rest → IsNeeded p h l rest
needed_from p h l rest a =
    let but = but_back h l a.between (step.Clean h l ∷ p) p a.fence.next (but_clean h l p) in
    record {
      between = a.between;
      later = a.later;
      fence = a.fence;
      none = a.none;
      low = omega (arith, but.level, rw (own_clean h l p) at a.low);
    }

-- an event that is kept has no reason
no_reason : (kept : List Event) (event : Event) (rest : List Event) (reason : Option Reason) → (IsNeedless kept event rest → ⊥) →
    Answers (history kept) event rest reason → Answers (history kept) event rest None
no_reason kept event rest None needed a = a
no_reason kept event rest (Some reason) needed a =
    let out = out_by_reason (history kept) event rest reason a in
    absurd (needed (needless_from kept event rest out.0 out.1))

kept_answer : (kept : List Event) (event : Event) (rest : List Event) → (IsNeedless kept event rest → ⊥) → Answers (history kept) event rest None
kept_answer kept event rest needed =
    let one = answer (history kept) event rest in no_reason kept event rest one.0 needed one.1

-- and has none in what is left
left_answer : (kept : List Event) (event : Event) (rest : List Event) (n : ℕ) (found : List Needless) →
    AreFound (kept ++ event ∷ []) rest (n + 1) found → Answers (history kept) event rest None →
    Answers (history kept) event (without found (n + 1) rest) None
left_answer kept (Store h l o w v) rest n found f a = a
left_answer kept (Clean h l) rest n found f a =
    let p = history kept in
    let now : history (kept ++ Clean h l ∷ []) ≡ step.Clean h l ∷ p = history_more kept (Clean h l) in
    let awaited = awaited_rest (kept ++ Clean h l ∷ []) rest (n + 1) found h l f
    (subst (λ (r : List PersistenceStep). IsAwaited r h l rest) (sym now) (needed_is_awaited p h l rest a)) in
    needed_from p h l (without found (n + 1) rest)
    (subst (λ (r : List PersistenceStep). IsAwaited r h l (without found (n + 1) rest)) now awaited)
left_answer kept (Fence h) rest n found f a = a
left_answer kept (Begin h op) rest n found f a = a
left_answer kept (End h op) rest n found f a = a

no_place : (before : List Event) (event : Event) (after : List Event) → [] ≡ before ++ (event ∷ after) → ⊥
no_place [] event after e = cc
no_place (b ∷ bs) event after e = cc

-- leaving out a further clean or fence changes a floor
left_changes : (kept rest : List Event) (n : ℕ) (found : List Needless) → AreFound kept rest n found → Settled (history kept) rest →
    (before : List Event) (event : Event) (after : List Event) → without found n rest ≡ before ++ (event ∷ after) → IsCleanOrFence event →
    ChangesFloor (kept ++ before) event after
left_changes kept [] n found f s before event after place kind = absurd (no_place before event after place)
left_changes kept (x ∷ rest) n found (inl (more, first, others)) s before event after place kind =
    left_changes kept rest (n + 1) more others (settled_left (history kept) x rest s (left_out_from kept x rest first.needless))
    before event after (sym (without_found kept rest x n found more rest first) ∙ place) kind
left_changes kept (x ∷ rest) n found (inr (needed, others)) s [] event after place kind =
    let p = history kept in
    let left = without found (n + 1) rest in
    let here : x ∷ left ≡ event ∷ after = sym (without_kept kept rest x n found rest others) ∙ place in
    let same : x ≡ event = cons_head x event left after here in
    let tail : left ≡ after = cons_tail x event left after here in
    let a = left_answer kept x rest n found others (kept_answer kept x rest needed) in
    let changes : ChangesFloor kept x left = changes_from kept x left (rw same kind) a (own_settled p x rest s) in
    subst (λ (es : List Event). ChangesFloor es event after) (sym (append-nil kept))
    (subst (λ (e : Event). ChangesFloor kept e after) same (subst (λ (es : List Event). ChangesFloor kept x es) tail changes))
left_changes kept (x ∷ rest) n found (inr (needed, others)) s (b ∷ bs) event after place kind =
    let p = history kept in
    let left = without found (n + 1) rest in
    let here : x ∷ left ≡ b ∷ (bs ++ (event ∷ after)) = sym (without_kept kept rest x n found rest others) ∙ place in
    let same : x ≡ b = cons_head x b left (bs ++ (event ∷ after)) here in
    let tail : left ≡ bs ++ (event ∷ after) = cons_tail x b left (bs ++ (event ∷ after)) here in
    let settled : Settled (history (kept ++ x ∷ [])) rest =
    subst (λ (r : List PersistenceStep). Settled r rest) (sym (history_more kept x)) (settled_kept p x rest s (kept_answer kept x rest needed)) in
    let changes = left_changes (kept ++ x ∷ []) rest (n + 1) found others settled bs event after tail kind in
    subst (λ (es : List Event). ChangesFloor es event after)
    (sym (one_more kept bs x) ∙ ap (λ (y : Event). kept ++ (y ∷ bs)) same) changes

pub further_changes : (events : List Event) (found : List Needless) → AreNeedless events found →
    (before : List Event) (event : Event) (after : List Event) → without found 1 events ≡ before ++ (event ∷ after) → IsCleanOrFence event →
    ChangesFloor before event after
further_changes events found f before event after place kind =
    left_changes [] events 1 found f (λ l h. inl (omega arith)) before event after place kind

-- the reason that is the first to hold is one alone
reason_at : ℕ → Reason
reason_at zero = NotFenced
reason_at (suc zero) = NothingToComplete
reason_at (suc (suc zero)) = CleanedAgain
reason_at (suc (suc (suc n))) = AlreadyThere

reason_back : (reason : Reason) → reason_at (place_of reason) ≡ reason
unfolding reason_at
reason_back NotFenced = refl
reason_back NothingToComplete = refl
reason_back CleanedAgain = refl
reason_back AlreadyThere = refl

reason_once : (before : List Event) (event : Event) (after : List Event) (reason other : Reason) → IsReason before event after reason →
    IsReason before event after other → other ≡ reason
reason_once before event after reason other r o = elim (le_or_gt (place_of reason) (place_of other)) [
  | inl low ↦ elim (le_or_gt (place_of other) (place_of reason)) [
    | inl high ↦
        let same : place_of other ≡ place_of reason = omega (arith, low, high) in
        sym (reason_back other) ∙ ap (λ (n : ℕ). reason_at n) same ∙ reason_back reason
    | inr less ↦ absurd (o.first reason less r.holds)
  ]
  | inr less ↦ absurd (r.first other less o.holds)
]

entry_once : (entry other : Needless) → other.event ≡ entry.event → other.reason ≡ entry.reason → other ≡ entry
entry_once entry other e i =
    ap (λ (n : ℕ). record { event = n; reason = other.reason }) e ∙ ap (λ (r : Reason). record { event = entry.event; reason = r }) i

found_once : (kept rest : List Event) (n : ℕ) (found others : List Needless) → AreFound kept rest n found → AreFound kept rest n others →
    others ≡ found
found_once kept [] n found others f g = g ∙ sym f
found_once kept (event ∷ rest) n found others (inl (more, first, later)) (inl (rest_of, other, last)) =
    let entry : other.entry ≡ first.entry =
    entry_once first.entry other.entry (other.number ∙ sym first.number)
    (reason_once kept event rest first.entry.reason other.entry.reason first.reason other.reason) in
    let tail : rest_of ≡ more = found_once kept rest (n + 1) more rest_of later last in
    other.place
    ∙ ap (λ (x : Needless). x ∷ rest_of) entry
    ∙ ap (λ (xs : List Needless). first.entry ∷ xs) tail
    ∙ sym first.place
found_once kept (event ∷ rest) n found others (inl (more, first, later)) (inr (needed, last)) = absurd (needed first.needless)
found_once kept (event ∷ rest) n found others (inr (needed, later)) (inl (rest_of, other, last)) = absurd (needed other.needless)
found_once kept (event ∷ rest) n found others (inr (needed, later)) (inr (again, last)) =
    found_once (kept ++ event ∷ []) rest (n + 1) found others later last

pub needless_once : (events : List Event) (found others : List Needless) → AreNeedless events found → AreNeedless events others →
    others ≡ found
needless_once events found others f g = found_once [] events 1 found others f g
