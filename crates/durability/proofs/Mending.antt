-- What an event that is put in changes, and what makes a lost store durable in time.
use Rattle.std.proofs.Common.{◌≡◌, ℕ, zero, suc, ◌+◌, ◌-◌, ◌<◌, ◌≤◌, ◌==◌, true, List, [], ◌∷◌, ◌++◌, Some, length, get_or, take, drop, arith, ap, subst, sym, ◌∙◌}
use Rattle.std.proofs.Math.Seq.{get_or-append_seam}
use Rattle.std.proofs.lemmas.Bool.Decides.{nat_tests}
use Rattle.std.proofs.lemmas.List.{get_or-append_right, get_or_append_left, get_or-drop, get_or-take, length-append, length-drop, length-take-le, take-append-le}
use Rattle.std.proofs.lemmas.Grind.{common_steps}
use Rattle.std.proofs.lemmas.Option.{get_or_from_slice_get, slice_get-get_or, slice_get_within}
use Rattle.store_trace.specs.Floor.{floor}
use Rattle.store_trace.specs.History.{at_moment, history}
use Rattle.store_trace.specs.Stores.{stores}
use Rattle.store_trace.specs.declared.event.Event.{Event}
use Rattle.store_trace.specs.declared.event.Event.TheVariants.{Clean, Fence}
use Rattle.durability.proofs.Firsts.{event_here, event_within}
use Rattle.durability.proofs.Floors.{floor_after, no_event}
use Rattle.durability.proofs.Marks.{same_event}
use Rattle.durability.specs.Mends.{is_clean_by, IsEventOf, LacksClean, LacksFence, with_event}
use Rattle.durability.specs.Numbered.{event_at, IsCleanOf, IsFence}
use Rattle.durability.specs.declared.cut.Lost.{Lost}

module _ (events : List Event) (n : ℕ) (new : Event) (within : n ≤ length events) where
  front : length (take n events) ≡ n
  front = length-take-le n events within

  pub length_with : length (with_event events n new) ≡ length events + 1
  length_with = omega (arith, length-append (take n events) (new ∷ drop n events), front, length-drop n events, within)

  pub event_new : event_at (with_event events n new) (n + 1) ≡ Some new
  event_new =
      event_here (with_event events n new) n new new (omega (arith, length_with, within))
      (subst (λ (i : ℕ). get_or (with_event events n new) i new ≡ new) front (get_or-append_seam (take n events) new (drop n events) new))

  pub event_before : (k : ℕ) (event : Event) → k ≤ n → event_at events k ≡ Some event → event_at (with_event events n new) k ≡ Some event
  event_before zero event low is = absurd (no_event events event is)
  event_before (suc j) event low is =
      let left : j < length (take n events) = omega (arith, front, low) in
      let read : get_or (with_event events n new) j event ≡ event =
      get_or_append_left (take n events) (new ∷ drop n events) event j left
      ∙ get_or-take n events j event (omega (arith, low))
      ∙ get_or_from_slice_get events j event event is in
      slice_get-get_or (with_event events n new) j event (omega (arith, length_with, within, low)) ∙ ap (λ (e : Event). Some e) read

  pub event_after : (k : ℕ) (event : Event) → n < k → event_at events k ≡ Some event → event_at (with_event events n new) (k + 1) ≡ Some event
  event_after zero event high is = absurd (no_event events event is)
  event_after (suc j) event high is =
      let there : j < length events = slice_get_within events j event is in
      let place : suc j - n ≡ suc (j - n) = omega (arith, high) in
      let own : n + (j - n) ≡ j = omega (arith, high) in
      let read : get_or (with_event events n new) (suc j) event ≡ event =
      get_or-append_right (take n events) (new ∷ drop n events) n (suc j) event front (omega (arith, high))
      ∙ ap (λ (i : ℕ). get_or (new ∷ drop n events) i event) place
      ∙ get_or-drop n events (j - n) event
      ∙ ap (λ (i : ℕ). get_or events i event) own
      ∙ get_or_from_slice_get events j event event is in
      event_here (with_event events n new) (suc j) event event (omega (arith, length_with, there)) read

  pub moment_before : (k : ℕ) → k ≤ n → at_moment (with_event events n new) k ≡ at_moment events k
  moment_before k low =
      ap (λ (es : List Event). history es)
      (take-append-le k (take n events) (new ∷ drop n events) (omega (arith, front, low))
      ∙ take_front k low)
    where
      take_front : (k : ℕ) → k ≤ n → take k (take n events) ≡ take k events
      take_front k low = grind (arith, common_steps, low, within)

-- the fence of the hart whose clean is behind the store
fence_reaches : (events : List Event) (l h e c place deadline : ℕ) → IsCleanOf events h l e c → c ≤ place → place < deadline → deadline ≤ length events →
    stores l (at_moment events e) ≤ floor l (at_moment (with_event events place (Fence h)) deadline)
fence_reaches events l h e c place deadline clean behind before last =
    let within : place ≤ length events = omega (arith, before, last) in
    let same = moment_before events place (Fence h) within e (omega (arith, clean.later, behind)) in
    let cleans : IsCleanOf (with_event events place (Fence h)) h l e c = record {
      later = clean.later;
      is = event_before events place (Fence h) within c (Clean h l) behind clean.is;
    } in
    let fences : IsFence (with_event events place (Fence h)) h c (place + 1) = record {
      later = omega (arith, behind);
      is = event_new events place (Fence h) within;
    } in
    rw (← same) (floor_after (with_event events place (Fence h)) l h e c (place + 1) deadline cleans fences (omega (arith, before))
    (omega (arith, length_with events place (Fence h) within, last)))

hart_of_clean : (h g l m : ℕ) → is_clean_by h (Clean g m) ≡ true → g ≡ h
hart_of_clean h g l m test = grind (arith, nat_tests, test)

itself : (n : ℕ) → (n == n) ≡ true
itself n = grind (arith, nat_tests)

-- a clean by a hart passes the test of that hart
pub clean_passes : (events : List Event) (h l n : ℕ) → event_at events n ≡ Some (Clean h l) → IsEventOf (is_clean_by h) events n
clean_passes events h l n is = record { event = Clean h l; is = is; passes = itself h }

pub lacks_fence : (events : List Event) (lost : Lost) (behind deadline h l place : ℕ) → LacksFence events lost behind deadline → deadline ≤ length events →
    event_at events behind ≡ Some (Clean h l) → behind ≤ place → place < deadline →
    stores lost.line (at_moment events lost.store) ≤ floor lost.line (at_moment (with_event events place (Fence h)) deadline)
lacks_fence events lost behind deadline h l place lacks last is low high =
    let own = lacks.last.holds.1 in
    let same : own.event ≡ Clean h l = same_event events behind own.event (Clean h l) own.is is in
    let hart : h ≡ lacks.hart = hart_of_clean lacks.hart h l l (subst (λ (e : Event). is_clean_by lacks.hart e ≡ true) same own.passes) in
    let first : lacks.clean ≤ behind =
    lacks.last.last lacks.clean (lacks.before, clean_passes events lacks.hart lost.line lacks.clean lacks.cleans.is) in
    rw hart (fence_reaches events lost.line lacks.hart lost.store lacks.clean place deadline lacks.cleans (omega (arith, first, low)) high last)

pub lacks_clean : (events : List Event) (lost : Lost) (behind deadline h place further : ℕ) → LacksClean events lost behind deadline → deadline ≤ length events →
    behind ≤ place → place ≤ further → further < deadline →
    stores lost.line (at_moment events lost.store)
    ≤ floor lost.line (at_moment (with_event (with_event events further (Fence h)) place (Clean h lost.line)) (deadline + 1))
lacks_clean events lost behind deadline h place further lacks last low middle high =
    let fenced : List Event = with_event events further (Fence h) in
    let both : List Event = with_event fenced place (Clean h lost.line) in
    let within : further ≤ length events = omega (arith, high, last) in
    let size = length_with events further (Fence h) within in
    let inside : place ≤ length (with_event events further (Fence h)) = omega (arith, size, middle, within) in
    let before : lost.store ≤ place = omega (arith, lacks.after, low) in
    let one = moment_before events further (Fence h) within lost.store (omega (arith, before, middle)) in
    let two = moment_before (with_event events further (Fence h)) place (Clean h lost.line) inside lost.store before in
    let cleans : IsCleanOf (with_event (with_event events further (Fence h)) place (Clean h lost.line)) h lost.line lost.store (place + 1) = record {
      later = omega (arith, before);
      is = event_new (with_event events further (Fence h)) place (Clean h lost.line) inside;
    } in
    let fences : IsFence (with_event (with_event events further (Fence h)) place (Clean h lost.line)) h (place + 1) (further + 1 + 1) = record {
      later = omega (arith, middle);
      is = event_after (with_event events further (Fence h)) place (Clean h lost.line) inside (further + 1) (Fence h) (omega (arith, middle))
          (event_new events further (Fence h) within);
    } in
    rw (← one) (rw (← two) (
    floor_after (with_event (with_event events further (Fence h)) place (Clean h lost.line)) lost.line h lost.store (place + 1) (further + 1 + 1) (deadline + 1)
    cleans fences (omega (arith, high))
    (omega (arith, length_with (with_event events further (Fence h)) place (Clean h lost.line) inside, size, last))))
