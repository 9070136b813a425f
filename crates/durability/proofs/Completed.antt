-- The cleans of a hart that its fence completes, one event further.
use Rattle.std.proofs.Common.{◌≡◌, ◌≢◌, ℕ, zero, suc, ◌+◌, ◌-◌, ◌<◌, ◌≤◌, ◌⊎◌, inl, inr, Bool, true, false, List, [], Option, Some, None, length, get_or, max, arith, refl, ap, ◌∙◌, sym, subst}
use Rattle.std.proofs.lemmas.Bool.Decides.{nat_tests}
use Rattle.std.proofs.lemmas.List.{get_or-set_other, get_or-set_same, get_or_default, length-set}
use Rattle.std.proofs.lemmas.Option.{slice_get-get_or}
use Rattle.std.specs.Prelude.{All, slice_get, slice_set}
use Rattle.store_trace.specs.Floor.{cleaned, floor}
use Rattle.store_trace.specs.Stores.{stores}
use Rattle.store_trace.specs.History.{at_moment}
use Rattle.store_trace.specs.TraceView.{NamesLine}
use Rattle.store_trace.specs.declared.event.Event.{Event}
use Rattle.store_trace.specs.declared.event.Event.TheVariants.{Clean, Fence}
use Rattle.durability.proofs.Alike.{cleaned_step, eq_or_not}
use Rattle.durability.proofs.Decisions.{le_or_gt}
use Rattle.durability.proofs.Moments.{below_or_at, cleaned_more, floor_more, none_narrower, same_event}
use Rattle.durability.proofs.Readings.{counted_stays}
use Rattle.durability.proofs.Telling.{told_at, told_one_more, told_past, told_stays}
use Rattle.durability.specs.Completing.{AreCompleted, IsMet}
use Rattle.durability.specs.Reading.{AreLines, AreTold, HasWithin, IsAnswered, IsFenced, IsLastClean, IsLastFence, IsToldAt}
use Rattle.durability.specs.declared.redundant.reading.LastClean.{LastClean}
use Rattle.durability.specs.declared.redundant.reading.LineState.{LineState}
use Rattle.durability.specs.declared.redundant.reason.Reason.{Reason}
use Rattle.durability.specs.declared.redundant.reason.Reason.TheVariants.{CleanedAgain, AlreadyThere}

settled_line : (events : List Event) (at h l since : ℕ) (clean : LastClean) → IsLastFence events at h since → IsLastClean events at h l clean →
    clean.event ≤ since → cleaned l h (at_moment events at) ≤ floor l (at_moment events at)
settled_line events at h l since clean f c low = f.settled l (none_narrower events clean.event since at at (Clean h l) c.last low (omega arith))

level_met : (s f c : ℕ) → s ≡ f → c ≤ f → s ≡ max f c
level_met s f c e low = omega arith

-- nothing is completed yet
pub completed_none : (events : List Event) (at h since : ℕ) (lines : List LineState) (told : List (Option Reason)) →
    slice_get events at ≡ Some (Fence h) → h < 8 → IsLastFence events at h since → AreLines events at lines → AreTold events at at told →
    AreCompleted events at h since lines told false
completed_none events at h since lines told here hart f a t =
    let p = at_moment events at in
    record {
      each = λ l d within.
          let state : LineState = get_or lines l d in
          let line = a l d within in
          record {
            counted = line.counted;
            met = λ e low.
                level_met state.floor (floor l p) (cleaned l h p) line.level
                (settled_line events at h l since (get_or state.cleans h e) f (line.counted.cleans h e hart) low);
            unmet = λ e high. line.level;
          };
      before = λ i d low event is.
          told_past events at i h since event (get_or told i d) here f low is (t i d (omega (arith, low, f.within)) event is);
      after = λ i d high low. t i d low;
      fence = here;
      next = f.last;
      rising = λ e. absurd (cc);
      still = λ e l d x within low.
          settled_line events at h l since (get_or (get_or lines l d).cleans h x) f ((a l d within).counted.cleans h x hart) low;
    }

met_or_now : (n place : ℕ) → n ≤ place + 1 → (n ≤ place) ⊎ (n ≡ place + 1)
met_or_now n place low = grind (arith, nat_tests, low)

-- a line whose last clean by the hart isn't the event
pub met_stays : (events : List Event) (at h place l : ℕ) (state : LineState) → ((e : LastClean) → (get_or state.cleans h e).event ≡ place + 1 → ⊥) →
    IsMet events at h place l state → IsMet events at h (place + 1) l state
met_stays events at h place l state other m = record {
  counted = m.counted;
  met = λ e low. elim (met_or_now (get_or state.cleans h e).event place low) [
    | inl before ↦ m.met e before
    | inr now ↦ absurd (other e now)
  ];
  unmet = λ e high. m.unmet e (omega (arith, high));
}

still_stays : (events : List Event) (at h place l n : ℕ) → (n ≡ place + 1 → ⊥) → n ≤ place + 1 →
    (n ≤ place → cleaned l h (at_moment events at) ≤ floor l (at_moment events at)) →
    cleaned l h (at_moment events at) ≤ floor l (at_moment events at)
still_stays events at h place l n other low before = elim (met_or_now n place low) [
  | inl early ↦ before early
  | inr now ↦ absurd (other now)
]

-- of no line it is the last clean by the hart
pub record IsNoLast (place h : ℕ) (lines : List LineState) : Type 0 where
  pub each : (l : ℕ) (d : LineState) (e : LastClean) → l < length lines → (get_or (get_or lines l d).cleans h e).event ≡ place + 1 → ⊥

-- what doesn't change with the event
pub record IsPassed (events : List Event) (at h place : ℕ) (told : List (Option Reason)) : Type 0 where
  pub before : AreTold events (at + 1) place told
  pub after : (i : ℕ) (d : Option Reason) → place ≤ i → i < at → IsToldAt events at i (get_or told i d)

pub passed_set : (events : List Event) (at h place : ℕ) (told : List (Option Reason)) (reason : Option Reason) → place < length told →
    AreTold events (at + 1) place told → ((i : ℕ) (d : Option Reason) → place ≤ i → i < at → IsToldAt events at i (get_or told i d)) →
    IsToldAt events (at + 1) place reason → IsPassed events at h (place + 1) (slice_set told place reason)
passed_set events at h place told reason within before after this = record {
  before = told_one_more events (at + 1) place told reason within before this;
  after = λ i d high low.
      let ne : i ≢ place = omega (arith, high) in
      subst (λ (r : Option Reason). IsToldAt events at i r) (sym (get_or-set_other told place i reason d ne)) (after i d (omega (arith, high)) low);
}

passed_on : (events : List Event) (at h place : ℕ) (lines : List LineState) (told now : List (Option Reason)) (rises : Bool) →
    IsNoLast place h lines → IsPassed events at h (place + 1) now → AreCompleted events at h place lines told rises →
    AreCompleted events at h (place + 1) lines now rises
passed_on events at h place lines told now rises none passed a = record {
  each = λ l d within. met_stays events at h place l (get_or lines l d) (λ e. none.each l d e within) (a.each l d within);
  before = passed.before;
  after = passed.after;
  fence = a.fence;
  next = none_narrower events place (place + 1) at at (Fence h) a.next (omega arith) (omega arith);
  rising = a.rising;
  still = λ e l d x within low.
      still_stays events at h place l (get_or (get_or lines l d).cleans h x).event (none.each l d x within) low
      (λ early. a.still e l d x within early);
}

fence_hart : (h g : ℕ) → Fence h ≡ Fence g → g ≡ h
fence_hart h g e = cc

-- an event that is no clean by the hart
pub completed_skips : (events : List Event) (at h place : ℕ) (here : Event) (lines : List LineState) (told : List (Option Reason)) (rises : Bool) →
    slice_get events place ≡ Some here → ((l : ℕ) → here ≡ Clean h l → ⊥) → h < 8 → place < at →
    AreCompleted events at h place lines told rises → AreCompleted events at h (place + 1) lines told rises
completed_skips events at h place here lines told rises is other hart low a =
    passed_on events at h place lines told told rises
    (record {
      each = λ l d e within now.
          other l (same_event events place place here (Clean h l) is (((a.each l d within).counted.cleans h e hart).is place now) refl);
    })
    (record {
      before = λ i d less. elim (below_or_at i place less) [
        | inl early ↦ a.before i d early
        | inr same ↦ rw same (told_at events (at + 1) place here (get_or told place d) is
            (told_stays events at place here (Fence h) (get_or told place d) a.fence
            (λ g l clean fence. other l (rw (← fence_hart h g fence) clean))
            (a.after place d (omega arith) low here is)))
      ];
      after = λ i d high less. a.after i d (omega (arith, high)) less;
    })
    a

clean_line : (h l m : ℕ) → Clean h l ≡ Clean h m → l ≡ m
clean_line h l m e = cc

-- only of its own line it may be the last clean
last_of_line : (events : List Event) (at h place l m : ℕ) (clean : LastClean) → slice_get events place ≡ Some (Clean h m) →
    IsLastClean events at h l clean → clean.event ≡ place + 1 → l ≡ m
last_of_line events at h place l m clean here c now =
    clean_line h l m (same_event events place place (Clean h l) (Clean h m) (c.is place now) here refl)

-- the next fence answers the clean at this place
pub answered_here : (events : List Event) (at h place l : ℕ) (reason : Option Reason) → slice_get events place ≡ Some (Clean h l) →
    slice_get events at ≡ Some (Fence h) → place < at → (HasWithin events place at (Fence h) → ⊥) → IsAnswered events place h l at reason →
    IsToldAt events (at + 1) place reason
answered_here events at h place l reason here fence low next answered =
    let done : IsFenced events (at + 1) place h l reason = record {
      fence = at;
      later = low;
      read = omega arith;
      is = fence;
      next = none_narrower events place (place + 1) at at (Fence h) next (omega arith) (omega arith);
      answered = answered;
    } in
    told_at events (at + 1) place (Clean h l) reason here (inr done)

cleaned_later : (events : List Event) (at h place l : ℕ) (clean : LastClean) → slice_get events place ≡ Some (Clean h l) → place < at →
    IsLastClean events at h l clean → clean.event ≢ place + 1 → HasWithin events (place + 1) at (Clean h l)
cleaned_later events at h place l clean here low c other = elim (le_or_gt clean.event place) [
  | inl early ↦ absurd (c.last (record { place = place; from = early; below = low; is = here }))
  | inr late ↦
      let k = clean.event - 1 in
      let number : clean.event ≡ k + 1 = omega (arith, late) in
      record { place = k; from = omega (arith, late, other, number); below = omega (arith, c.within, number); is = c.is k number }
]

-- a clean that isn't the last one of its line by the hart
pub completed_again : (events : List Event) (at h place m : ℕ) (lines : List LineState) (told : List (Option Reason)) (rises : Bool) (d : LineState) (e : LastClean) →
    slice_get events place ≡ Some (Clean h m) → h < 8 → m < length lines → place < length told → place < at →
    (get_or (get_or lines m d).cleans h e).event ≢ place + 1 → AreCompleted events at h place lines told rises →
    AreCompleted events at h (place + 1) lines (slice_set told place (Some CleanedAgain)) rises
completed_again events at h place m lines told rises d e here hart line within low other a =
    let c = (a.each m d line).counted.cleans h e hart in
    let there : h < length (get_or lines m d).cleans = omega (arith, hart, (a.each m d line).counted.harts) in
    passed_on events at h place lines told (slice_set told place (Some CleanedAgain)) rises
    (record {
      each = λ l f x inside now.
          let same : l ≡ m = last_of_line events at h place l m (get_or (get_or lines l f).cleans h x) here ((a.each l f inside).counted.cleans h x hart) now in
          let state : get_or lines l f ≡ get_or lines m d = ap (λ (i : ℕ). get_or lines i f) same ∙ get_or_default lines m f d line in
          let last : get_or (get_or lines l f).cleans h x ≡ get_or (get_or lines m d).cleans h e =
          ap (λ (s : LineState). get_or s.cleans h x) state ∙ get_or_default (get_or lines m d).cleans h x e there in
          other (sym (ap (λ (one : LastClean). one.event) last) ∙ now);
    })
    (passed_set events at h place told (Some CleanedAgain) within a.before a.after
    (answered_here events at h place m (Some CleanedAgain) here a.fence low a.next
    (cleaned_later events at h place m (get_or (get_or lines m d).cleans h e) here low c other)))
    a

-- what is known at a clean that is the last one of its line by the hart
record IsLastHere (events : List Event) (at h place m : ℕ) (state : LineState) (last : LastClean) : Type 0 where
  here : slice_get events place ≡ Some (Clean h m)
  clean : IsLastClean events at h m last
  number : last.event ≡ place + 1
  count : stores m (at_moment events place) ≡ last.stores
  level : state.floor ≡ floor m (at_moment events at)

last_here : (events : List Event) (at h place m : ℕ) (state : LineState) (e : LastClean) → slice_get events place ≡ Some (Clean h m) → h < 8 →
    (get_or state.cleans h e).event ≡ place + 1 → IsMet events at h place m state →
    IsLastHere events at h place m state (get_or state.cleans h e)
last_here events at h place m state e here hart number met =
    let clean = met.counted.cleans h e hart in
    record {
      here = here;
      clean = clean;
      number = number;
      count = clean.before place number;
      level = met.unmet e (omega (arith, number));
    }

none_later : (events : List Event) (at h place m : ℕ) (state : LineState) (last : LastClean) → IsLastHere events at h place m state last →
    HasWithin events (place + 1) at (Clean h m) → ⊥
none_later events at h place m state last k =
    none_narrower events last.event (place + 1) at at (Clean h m) k.clean.last (omega (arith, k.number)) (omega arith)

level_there : (s f c n : ℕ) → s ≡ f → n ≡ c → n ≤ s → s ≡ max f c
level_there s f c n e i low = omega arith

there_settled : (s f c n : ℕ) → s ≡ f → n ≡ c → n ≤ s → c ≤ f
there_settled s f c n e i low = omega arith

met_there : (events : List Event) (at h place m : ℕ) (state : LineState) (last : LastClean) → IsLastHere events at h place m state last →
    last.stores ≤ state.floor → IsMet events at h place m state → IsMet events at h (place + 1) m state
met_there events at h place m state last k there met =
    let p = at_moment events at in
    record {
      counted = met.counted;
      met = λ e low. level_there state.floor (floor m p) (cleaned m h p) last.stores k.level k.clean.count there;
      unmet = λ e high. met.unmet e (omega (arith, high));
    }

-- one whose number of stores the floor has
pub completed_there : (events : List Event) (at h place m : ℕ) (lines : List LineState) (told : List (Option Reason)) (rises : Bool) (d : LineState) (e : LastClean) →
    slice_get events place ≡ Some (Clean h m) → h < 8 → m < length lines → place < length told → place < at →
    (get_or (get_or lines m d).cleans h e).event ≡ place + 1 →
    (get_or (get_or lines m d).cleans h e).stores ≤ (get_or lines m d).floor → AreCompleted events at h place lines told rises →
    AreCompleted events at h (place + 1) lines (slice_set told place (Some AlreadyThere)) rises
completed_there events at h place m lines told rises d e here hart line within low number there a =
    let p = at_moment events at in
    let state : LineState = get_or lines m d in
    let last : LastClean = get_or state.cleans h e in
    let k : IsLastHere events at h place m state last = last_here events at h place m state e here hart number (a.each m d line) in
    let passed = passed_set events at h place told (Some AlreadyThere) within a.before a.after
    (answered_here events at h place m (Some AlreadyThere) here a.fence low a.next
    (none_later events at h place m state last k, omega (arith, k.count, k.level, there))) in
    record {
      each = λ l f inside. elim (eq_or_not l m) [
        | inl same ↦
            rw same (subst (λ (s : LineState). IsMet events at h (place + 1) m s) (get_or_default lines m d f line)
            (met_there events at h place m state last k there (a.each m d line)))
        | inr ne ↦ met_stays events at h place l (get_or lines l f)
            (λ x now. ne (last_of_line events at h place l m (get_or (get_or lines l f).cleans h x) here ((a.each l f inside).counted.cleans h x hart) now))
            (a.each l f inside)
      ];
      before = passed.before;
      after = passed.after;
      fence = a.fence;
      next = none_narrower events place (place + 1) at at (Fence h) a.next (omega arith) (omega arith);
      rising = a.rising;
      still = λ no l f x inside early. elim (eq_or_not l m) [
        | inl same ↦ rw same (there_settled state.floor (floor m p) (cleaned m h p) last.stores k.level k.clean.count there)
        | inr ne ↦ still_stays events at h place l (get_or (get_or lines l f).cleans h x).event
            (λ now. ne (last_of_line events at h place l m (get_or (get_or lines l f).cleans h x) here ((a.each l f inside).counted.cleans h x hart) now))
            early (λ before. a.still no l f x inside before)
      ];
    }

level_raised : (s f c n : ℕ) → s ≡ f → n ≡ c → s < n → n ≡ max f c
level_raised s f c n e i low = omega arith

raises : (s f c n : ℕ) → s ≡ f → n ≡ c → s < n → f < c
raises s f c n e i low = omega arith

met_raised : (events : List Event) (at h place m : ℕ) (state : LineState) (last : LastClean) (e : LastClean) → h < 8 → last ≡ get_or state.cleans h e →
    IsLastHere events at h place m state last → state.floor < last.stores → IsMet events at h place m state →
    IsMet events at h (place + 1) m (record state { floor = last.stores })
met_raised events at h place m state last e hart is k low met =
    let p = at_moment events at in
    record {
      counted = record {
        count = met.counted.count;
        few = met.counted.few;
        harts = met.counted.harts;
        cleans = met.counted.cleans;
      };
      met = λ x early. level_raised state.floor (floor m p) (cleaned m h p) last.stores k.level k.clean.count low;
      unmet = λ x late.
          let there : h < length state.cleans = omega (arith, hart, met.counted.harts) in
          let same : last.event ≡ (get_or state.cleans h x).event =
          ap (λ (one : LastClean). one.event) (is ∙ get_or_default state.cleans h e x there) in
          absurd (omega (arith, late, same, k.number));
    }

-- one that raises the floor
pub completed_raises : (events : List Event) (at h place m : ℕ) (lines : List LineState) (told : List (Option Reason)) (rises : Bool) (d : LineState) (e : LastClean) →
    slice_get events place ≡ Some (Clean h m) → h < 8 → m < length lines → place < length told → place < at →
    (get_or (get_or lines m d).cleans h e).event ≡ place + 1 →
    (get_or lines m d).floor < (get_or (get_or lines m d).cleans h e).stores → AreCompleted events at h place lines told rises →
    AreCompleted events at h (place + 1)
    (slice_set lines m (record (get_or lines m d) { floor = (get_or (get_or lines m d).cleans h e).stores })) (slice_set told place None) true
completed_raises events at h place m lines told rises d e here hart line within low number under a =
    let p = at_moment events at in
    let state : LineState = get_or lines m d in
    let last : LastClean = get_or state.cleans h e in
    let new : LineState = record state { floor = last.stores } in
    let k : IsLastHere events at h place m state last = last_here events at h place m state e here hart number (a.each m d line) in
    let passed = passed_set events at h place told None within a.before a.after
    (answered_here events at h place m None here a.fence low a.next
    (none_later events at h place m state last k, omega (arith, k.count, k.level, under))) in
    record {
      each = λ l f inside. elim (eq_or_not l m) [
        | inl same ↦
            rw same (subst (λ (s : LineState). IsMet events at h (place + 1) m s) (sym (get_or-set_same lines m new f line))
            (met_raised events at h place m state last e hart refl k under (a.each m d line)))
        | inr ne ↦
            let there : l < length lines = omega (arith, inside, length-set lines m new) in
            subst (λ (s : LineState). IsMet events at h (place + 1) l s) (sym (get_or-set_other lines m l new f ne))
            (met_stays events at h place l (get_or lines l f)
            (λ x now. ne (last_of_line events at h place l m (get_or (get_or lines l f).cleans h x) here ((a.each l f there).counted.cleans h x hart) now))
            (a.each l f there))
      ];
      before = passed.before;
      after = passed.after;
      fence = a.fence;
      next = none_narrower events place (place + 1) at at (Fence h) a.next (omega arith) (omega arith);
      rising = λ yes. (m, raises state.floor (floor m p) (cleaned m h p) last.stores k.level k.clean.count under);
      still = λ no. absurd (cc);
    }

-- all are completed
pub lines_completed : (events : List Event) (at h : ℕ) (lines : List LineState) (told : List (Option Reason)) (rises : Bool) → h < 8 →
    AreCompleted events at h at lines told rises → AreLines events (at + 1) lines
lines_completed events at h lines told rises hart a = λ l d within.
    let none : LastClean = record { event = 0; stores = 0 } in
    let state : LineState = get_or lines l d in
    let met = a.each l d within in
    record {
      counted = counted_stays events at l (Fence h) state a.fence (λ g e. cc) refl met.counted;
      level = met.met none (met.counted.cleans h none hart).within ∙ sym (floor_more events at l (Fence h) a.fence);
    }

-- a line that no event names
unnamed : (count l h : ℕ) (event : Event) → count ≤ l → NamesLine count event → event ≡ Clean h l → ⊥
unnamed count l h event high names e = let below : l < count = rw e at names in omega (arith, high, below)

pub nothing_cleaned : (events : List Event) (count l h at : ℕ) → All (NamesLine count) events → count ≤ l → at ≤ length events →
    cleaned l h (at_moment events at) ≡ 0
nothing_cleaned events count l h zero names high within = refl
nothing_cleaned events count l h (suc at) names high within =
    let none : Event = Fence 0 in
    let there : at < length events = omega (arith, within) in
    let event : Event = get_or events at none in
    let e : suc at ≡ at + 1 = omega arith in
    rw e (
    cleaned_more events at l h event (slice_get-get_or events at none there)
    ∙ cleaned_step h l event (at_moment events at) (unnamed count l h event high (names at none there))
    ∙ nothing_cleaned events count l h at names high (omega (arith, within))
    )

pub nothing_rises : (events : List Event) (at h : ℕ) (lines : List LineState) (told : List (Option Reason)) → h < 8 → at ≤ length events →
    All (NamesLine (length lines)) events → AreCompleted events at h at lines told false →
    (l : ℕ) → cleaned l h (at_moment events at) ≤ floor l (at_moment events at)
nothing_rises events at h lines told hart within names a l = elim (le_or_gt (length lines) l) [
  | inl high ↦ omega (arith, nothing_cleaned events (length lines) l h at names high within)
  | inr low ↦
      let line : LineState = record { stores = 0; floor = 0; cleans = [] } in
      let none : LastClean = record { event = 0; stores = 0 } in
      a.still refl l line none low ((a.each l line low).counted.cleans h none hart).within
]
