-- What comes after an event, one event further back.
use Rattle.std.proofs.Common.{◌≡◌, ℕ, ◌+◌, ◌<◌, ◌≤◌, ◌⊎◌, ◌≢◌, ◌==◌, false, inl, inr, List, Option, Some, None, length, get_or, take, drop, ◌++◌, arith, subst, sym, ◌∙◌}
use Rattle.std.specs.Prelude.{IfSome, nat_lt, slice_set, true}
use Rattle.std.proofs.lemmas.Bool.{cases_Bool}
use Rattle.std.proofs.lemmas.Bool.Decides.{nat_tests}
use Rattle.std.proofs.lemmas.Grind.{common_steps}
use Rattle.std.proofs.lemmas.Option.{get_or_from_slice_get, slice_get_within}
use Rattle.store_trace.specs.declared.event.Event.{Event}
use Rattle.store_trace.specs.declared.event.Event.TheVariants.{Store, Clean, Fence}
use Rattle.durability.proofs.Firsts.{event_within, first_same, none_first}
use Rattle.durability.specs.Causes.{AreFates, AreNext, IsClean, IsCompleted, IsCompletion, IsFate, IsFirstCompletion, first_completion}
use Rattle.durability.specs.Numbered.{event_at, IsCleanOf, IsFence, IsFirst, IsFirstIfAny}
use Rattle.durability.specs.declared.cause.Completion.{Completion}
use Rattle.durability.specs.declared.cause.Fate.{Fate}

-- an event after event `at` is the next one, or comes after that
next_or_later : (at n : ℕ) → at < n → (at + 1 ≡ n) ⊎ (at + 1 < n)
next_or_later at n h = grind (arith, nat_tests, h)

some_same : (events : List Event) (at n : ℕ) (one other : Event) → event_at events (at + 1) ≡ Some one → event_at events n ≡ Some other →
    at + 1 ≡ n → one ≡ other
some_same events at n one other here there e = cc

fence_before : (events : List Event) (h at n : ℕ) → IsFence events h (at + 1) n → IsFence events h at n
fence_before events h at n f = record { later = omega (arith, f.later); is = f.is }

clean_before : (events : List Event) (h l at n : ℕ) → IsCleanOf events h l (at + 1) n → IsCleanOf events h l at n
clean_before events h l at n c = record { later = omega (arith, c.later); is = c.is }

completion_before : (events : List Event) (l at n : ℕ) → IsCompletion events l (at + 1) n → IsCompletion events l at n
completion_before events l at n c = record {
  hart = c.hart;
  clean = c.clean;
  cleans = clean_before events c.hart l at c.clean c.cleans;
  fences = c.fences;
}

-- the next event is no fence of the hart
pub fence_stays : (events : List Event) (h at : ℕ) (event : Event) (o : Option ℕ) → event_at events (at + 1) ≡ Some event →
    (event ≡ Fence h → ⊥) → IsFirstIfAny (IsFence events h (at + 1)) o → IsFirstIfAny (IsFence events h at) o
fence_stays events h at event o here other f =
    first_same (IsFence events h (at + 1)) (IsFence events h at) o (fence_before events h at)
    (λ n fence. elim (next_or_later at n fence.later) [
      | inl e ↦ absurd (other (some_same events at n event (Fence h) here fence.is e))
      | inr later ↦ record { later = later; is = fence.is }
    ])
    f

-- or it is one
pub fence_here : (events : List Event) (h at : ℕ) → event_at events (at + 1) ≡ Some (Fence h) → IsFirst (IsFence events h at) (at + 1)
fence_here events h at here = record {
  holds = record { later = omega arith; is = here };
  first = λ k fence. omega (arith, fence.later);
}

clean_stays : (events : List Event) (l at : ℕ) (event : Event) (o : Option ℕ) → event_at events (at + 1) ≡ Some event →
    ((h : ℕ) → event ≡ Clean h l → ⊥) → IsFirstIfAny (IsClean events l (at + 1)) o → IsFirstIfAny (IsClean events l at) o
clean_stays events l at event o here other f =
    first_same (IsClean events l (at + 1)) (IsClean events l at) o
    (λ n clean. record { hart = clean.hart; cleans = clean_before events clean.hart l at n clean.cleans })
    (λ n clean. elim (next_or_later at n clean.cleans.later) [
      | inl e ↦ absurd (other clean.hart (some_same events at n event (Clean clean.hart l) here clean.cleans.is e))
      | inr later ↦ record { hart = clean.hart; cleans = record { later = later; is = clean.cleans.is } }
    ])
    f

later_completion : (events : List Event) (l at n : ℕ) (event : Event) → event_at events (at + 1) ≡ Some event →
    ((h : ℕ) → event ≡ Clean h l → ⊥) → IsCompletion events l at n → IsCompletion events l (at + 1) n
later_completion events l at n event here other c = elim (next_or_later at c.clean c.cleans.later) [
  | inl e ↦ absurd (other c.hart (some_same events at c.clean event (Clean c.hart l) here c.cleans.is e))
  | inr later ↦ record {
    hart = c.hart;
    clean = c.clean;
    cleans = record { later = later; is = c.cleans.is };
    fences = c.fences;
  }
]

completed_before : (events : List Event) (l at f n : ℕ) → IsCompleted events l (at + 1) f n → IsCompleted events l at f n
completed_before events l at f n c = record { hart = c.hart; cleans = clean_before events c.hart l at n c.cleans; fences = c.fences }

later_completed : (events : List Event) (l at f n : ℕ) (event : Event) → event_at events (at + 1) ≡ Some event →
    ((h : ℕ) → event ≡ Clean h l → ⊥) → IsCompleted events l at f n → IsCompleted events l (at + 1) f n
later_completed events l at f n event here other c = elim (next_or_later at n c.cleans.later) [
  | inl e ↦ absurd (other c.hart (some_same events at n event (Clean c.hart l) here c.cleans.is e))
  | inr later ↦ record { hart = c.hart; cleans = record { later = later; is = c.cleans.is }; fences = c.fences }
]

completion_stays : (events : List Event) (l at : ℕ) (event : Event) (o : Option Completion) → event_at events (at + 1) ≡ Some event →
    ((h : ℕ) → event ≡ Clean h l → ⊥) → IsFirstCompletion events l (at + 1) o → IsFirstCompletion events l at o
completion_stays events l at event None here other f = λ n c. f n (later_completion events l at n event here other c)
completion_stays events l at event (Some done) here other f = (
  record {
    holds = completion_before events l at done.fence f.0.holds;
    first = λ n c. f.0.first n (later_completion events l at n event here other c);
  },
  record {
    holds = completed_before events l at done.fence done.clean f.1.holds;
    first = λ n c. f.1.first n (later_completed events l at done.fence n event here other c);
  },
)

-- a clean after the next event is one after this event
hart_before : (events : List Event) (h l at : ℕ) (o : Option ℕ) → IfSome o (IsCleanOf events h l (at + 1)) → IfSome o (IsCleanOf events h l at)
hart_before events h l at None is = is
hart_before events h l at (Some n) is = clean_before events h l at n is

-- the next event is no clean of the line
pub fate_stays : (events : List Event) (l at : ℕ) (event : Event) (fate : Fate) → event_at events (at + 1) ≡ Some event →
    ((h : ℕ) → event ≡ Clean h l → ⊥) → IsFate events l (at + 1) fate → IsFate events l at fate
fate_stays events l at event fate here other f = record {
  clean = clean_stays events l at event fate.clean here other f.clean;
  hart = hart_before events fate.hart l at fate.clean f.hart;
  completion = completion_stays events l at event fate.completion here other f.completion;
}

line_of : (h g l m : ℕ) → Clean h l ≡ Clean g m → l ≡ m
line_of h g l m e = cc

fencer_of : (h g : ℕ) → Fence h ≡ Fence g → h ≡ g
fencer_of h g e = cc

hart_of : (h g l : ℕ) → Clean h l ≡ Clean g l → h ≡ g
hart_of h g l e = cc

-- a completed clean is the next event, or comes after it
completion_split : (events : List Event) (h l at n : ℕ) → event_at events (at + 1) ≡ Some (Clean h l) → IsCompletion events l at n →
    IsFence events h (at + 1) n ⊎ IsCompletion events l (at + 1) n
completion_split events h l at n here c = elim (next_or_later at c.clean c.cleans.later) [
  | inl e ↦
      let hart : h ≡ c.hart = hart_of h c.hart l (some_same events at c.clean (Clean h l) (Clean c.hart l) here c.cleans.is e) in
      inl (rw (hart, e) c.fences)
  | inr later ↦ inr (record {
    hart = c.hart;
    clean = c.clean;
    cleans = record { later = later; is = c.cleans.is };
    fences = c.fences;
  })
]

-- the clean by the fence of its hart
own_completion : (events : List Event) (h l at f : ℕ) → event_at events (at + 1) ≡ Some (Clean h l) → IsFence events h (at + 1) f →
    IsCompletion events l at f
own_completion events h l at f here fence = record {
  hart = h;
  clean = at + 1;
  cleans = record { later = omega arith; is = here };
  fences = fence;
}

own_completed : (events : List Event) (h l at f : ℕ) → event_at events (at + 1) ≡ Some (Clean h l) → IsFence events h (at + 1) f →
    IsFirst (IsCompleted events l at f) (at + 1)
own_completed events h l at f here fence = record {
  holds = record { hart = h; cleans = record { later = omega arith; is = here }; fences = fence };
  first = λ k c. omega (arith, c.cleans.later);
}

-- a clean that a fence completes is the next event, or comes after it
completed_split : (events : List Event) (h l at f n : ℕ) → event_at events (at + 1) ≡ Some (Clean h l) → IsCompleted events l at f n →
    IsFence events h (at + 1) f ⊎ IsCompleted events l (at + 1) f n
completed_split events h l at f n here c = elim (next_or_later at n c.cleans.later) [
  | inl e ↦
      let hart : h ≡ c.hart = hart_of h c.hart l (some_same events at n (Clean h l) (Clean c.hart l) here c.cleans.is e) in
      inl (rw (hart, e) c.fences)
  | inr later ↦ inr (record { hart = c.hart; cleans = record { later = later; is = c.cleans.is }; fences = c.fences })
]

lower_or_not : (i j : ℕ) → ((nat_lt i j ≡ true) × (i < j)) ⊎ ((nat_lt i j ≡ false) × (j ≤ i))
lower_or_not i j = grind (arith, nat_tests)

completion_here : (events : List Event) (h l at : ℕ) (fence : Option ℕ) (later : Option Completion) → event_at events (at + 1) ≡ Some (Clean h l) →
    IsFirstIfAny (IsFence events h (at + 1)) fence → IsFirstCompletion events l (at + 1) later →
    IsFirstCompletion events l at (first_completion later (at + 1) fence)
completion_here events h l at None None here f g = λ n c. elim (completion_split events h l at n here c) [
  | inl made ↦ f n made
  | inr done ↦ g n done
]
completion_here events h l at None (Some later) here f g = (
  record {
    holds = completion_before events l at later.fence g.0.holds;
    first = λ n c. elim (completion_split events h l at n here c) [
      | inl made ↦ absurd (f n made)
      | inr done ↦ g.0.first n done
    ];
  },
  record {
    holds = completed_before events l at later.fence later.clean g.1.holds;
    first = λ n c. elim (completed_split events h l at later.fence n here c) [
      | inl made ↦ absurd (f later.fence made)
      | inr done ↦ g.1.first n done
    ];
  },
)
completion_here events h l at (Some fence) None here f g = (
  record {
    holds = own_completion events h l at fence here f.holds;
    first = λ n c. elim (completion_split events h l at n here c) [
      | inl made ↦ f.first n made
      | inr done ↦ absurd (g n done)
    ];
  },
  own_completed events h l at fence here f.holds,
)
completion_here events h l at (Some fence) (Some later) here f g = elim (lower_or_not later.fence fence) [
  | inl low ↦ rw low.0 (
    record {
      holds = completion_before events l at later.fence g.0.holds;
      first = λ n c. elim (completion_split events h l at n here c) [
        | inl made ↦ omega (arith, low.1, f.first n made)
        | inr done ↦ g.0.first n done
      ];
    },
    record {
      holds = completed_before events l at later.fence later.clean g.1.holds;
      first = λ n c. elim (completed_split events h l at later.fence n here c) [
        | inl made ↦ absurd (omega (arith, low.1, f.first later.fence made))
        | inr done ↦ g.1.first n done
      ];
    },
  )
  | inr high ↦ rw high.0 (
    record {
      holds = own_completion events h l at fence here f.holds;
      first = λ n c. elim (completion_split events h l at n here c) [
        | inl made ↦ f.first n made
        | inr done ↦ omega (arith, high.1, g.0.first n done)
      ];
    },
    own_completed events h l at fence here f.holds,
  )
]

-- or it is one
pub fate_here : (events : List Event) (h l at : ℕ) (fence : Option ℕ) (fate : Fate) → event_at events (at + 1) ≡ Some (Clean h l) →
    IsFirstIfAny (IsFence events h (at + 1)) fence → IsFate events l (at + 1) fate →
    IsFate events l at (record { clean = Some (at + 1); hart = h; completion = first_completion fate.completion (at + 1) fence })
fate_here events h l at fence fate here f g = record {
  clean = record {
    holds = record { hart = h; cleans = record { later = omega arith; is = here } };
    first = λ k clean. omega (arith, clean.cleans.later);
  };
  hart = record { later = omega arith; is = here };
  completion = completion_here events h l at fence fate.completion here f g.completion;
}

set_own : {X : Type 0} (xs : List X) (at : ℕ) (x : X) (i : ℕ) (d : X) → at < length xs → i ≡ at → get_or (slice_set xs at x) i d ≡ x
set_own xs at x i d b e = grind (arith, common_steps, b, e)

set_other : {X : Type 0} (xs : List X) (at : ℕ) (x : X) (i : ℕ) (d : X) → (at == i) ≡ false → get_or (slice_set xs at x) i d ≡ get_or xs i d
set_other xs at x i d other =
    let ne : i ≢ at = grind (arith, nat_tests, other) in
    grind (arith, common_steps, ne)

set_length : {X : Type 0} (xs : List X) (at : ℕ) (x : X) → length (slice_set xs at x) ≡ length xs
set_length xs at x = grind (arith, common_steps)

-- a clean of line l by hart h
pub next_cleaned : (events : List Event) (at h l : ℕ) (fences : List (Option ℕ)) (lines : List Fate) (fence : Option ℕ) (fate : Fate) →
    event_at events (at + 1) ≡ Some (Clean h l) → h < 8 → l < length lines →
    AreNext events (at + 1) fences lines →
    AreNext events at fences
    (slice_set lines l (record { clean = Some (at + 1); hart = h; completion = first_completion (get_or lines l fate).completion (at + 1) (get_or fences h fence) }))
next_cleaned events at h l fences lines fence fate here hart line a = record {
  fence = λ g d b. fence_stays events g at (Clean h l) (get_or fences g d) here (λ e. cc) (a.fence g d b);
  fate = λ m d b.
      let new : Fate =
      record { clean = Some (at + 1); hart = h; completion = first_completion (get_or lines l fate).completion (at + 1) (get_or fences h fence) } in
      let within : m < length lines = omega (arith, b, set_length lines l new) in
      elim (cases_Bool (l == m)) [
        | inl same ↦
            let e : m ≡ l = grind (arith, nat_tests, same) in
            rw (set_own lines l new m d line e) (rw e (fate_here events h l at (get_or fences h fence) (get_or lines l fate) here (a.fence h fence hart) (a.fate l fate line)))
        | inr other ↦
            rw (set_other lines l new m d other) (fate_stays events m at (Clean h l) (get_or lines m d) here (λ g e. grind (arith, nat_tests, other, line_of h g l m e)) (a.fate m d within))
      ];
}

-- a fence of hart h
pub next_fenced : (events : List Event) (at h : ℕ) (fences : List (Option ℕ)) (lines : List Fate) →
    event_at events (at + 1) ≡ Some (Fence h) → h < length fences →
    AreNext events (at + 1) fences lines → AreNext events at (slice_set fences h (Some (at + 1))) lines
next_fenced events at h fences lines here hart a = record {
  fence = λ g d b. elim (cases_Bool (h == g)) [
    | inl same ↦
        let e : g ≡ h = grind (arith, nat_tests, same) in
        rw (set_own fences h (Some (at + 1)) g d hart e) (rw e (fence_here events h at here))
    | inr other ↦
        rw (set_other fences h (Some (at + 1)) g d other) (fence_stays events g at (Fence h) (get_or fences g d) here (λ e. grind (arith, nat_tests, other, fencer_of h g e)) (a.fence g d b))
  ];
  fate = λ m d b. fate_stays events m at (Fence h) (get_or lines m d) here (λ g e. cc) (a.fate m d b);
}

-- any other event
pub next_stays : (events : List Event) (at : ℕ) (event : Event) (fences : List (Option ℕ)) (lines : List Fate) →
    event_at events (at + 1) ≡ Some event → ((h l : ℕ) → event ≡ Clean h l → ⊥) → ((h : ℕ) → event ≡ Fence h → ⊥) →
    AreNext events (at + 1) fences lines → AreNext events at fences lines
next_stays events at event fences lines here no_clean no_fence a = record {
  fence = λ g d b. fence_stays events g at event (get_or fences g d) here (no_fence g) (a.fence g d b);
  fate = λ m d b. fate_stays events m at event (get_or lines m d) here (λ g. no_clean g m) (a.fate m d b);
}

no_hart : (events : List Event) (h l at : ℕ) (o : Option ℕ) → o ≡ None → IfSome o (IsCleanOf events h l at)
no_hart events h l at o none = rw none tt

no_completion : (events : List Event) (l at : ℕ) (o : Option Completion) → o ≡ None → ((n : ℕ) → IsCompletion events l at n → ⊥) →
    IsFirstCompletion events l at o
no_completion events l at o e none = rw e none

-- after the last event
pub next_none : (events : List Event) (fences : List (Option ℕ)) (lines : List Fate) →
    ((h : ℕ) (d : Option ℕ) → h < 8 → get_or fences h d ≡ None) →
    ((l : ℕ) (d : Fate) → l < length lines → ((get_or lines l d).clean ≡ None) × ((get_or lines l d).completion ≡ None)) →
    AreNext events (length events) fences lines
next_none events fences lines no_fences no_fates = record {
  fence = λ h d b. none_first (IsFence events h (length events)) (get_or fences h d) (no_fences h d b)
      (λ n f. absurd (omega (arith, f.later, event_within events n (Fence h) f.is)));
  fate = λ l d b. record {
    clean = none_first (IsClean events l (length events)) (get_or lines l d).clean (no_fates l d b).0
        (λ n c. absurd (omega (arith, c.cleans.later, event_within events n (Clean c.hart l) c.cleans.is)));
    hart = no_hart events (get_or lines l d).hart l (length events) (get_or lines l d).clean (no_fates l d b).0;
    completion = no_completion events l (length events) (get_or lines l d).completion (no_fates l d b).1
        (λ n c. absurd (omega (arith, c.cleans.later, event_within events c.clean (Clean c.hart l) c.cleans.is)));
  };
}

-- no store has its fate yet
pub fates_none : (events : List Event) (fates : List Fate) → length fates ≡ length events → AreFates events (length events) fates
fates_none events fates size = record {
  size = size;
  each = λ i h l o w v d past here. absurd (omega (arith, past, slice_get_within events i (Store h l o w v) here));
}

-- the event at this place too
pub fates_more : (events : List Event) (at : ℕ) (none : Event) (fates : List Fate) (new : Fate) → at < length events →
    ((h l o w v : ℕ) → get_or events at none ≡ Store h l o w v → IsFate events l (at + 1) new) →
    AreFates events (at + 1) fates → AreFates events at (slice_set fates at new)
fates_more events at none fates new there here a =
    let within : at < length fates = omega (arith, there, a.size) in
    record {
      size = set_length fates at new ∙ a.size;
      each = λ i h l o w v d past is. elim (cases_Bool (at == i)) [
        | inl same ↦
            let e : i ≡ at = grind (arith, nat_tests, same) in
            let store : get_or events at none ≡ Store h l o w v = get_or_from_slice_get events at (Store h l o w v) none (rw e at is) in
            rw (set_own fates at new i d within e) (rw e (here h l o w v store))
        | inr other ↦
            let after : at + 1 ≤ i = grind (arith, nat_tests, past, other) in
            rw (set_other fates at new i d other) (a.each i h l o w v d after is)
      ];
    }

-- the fate of the store at this place stands at its line
pub fate_found : (events : List Event) (e l : ℕ) (fences : List (Option ℕ)) (next : List Fate) (new : Fate) →
    AreNext events e fences next → l < length next → new ≡ get_or next l new → IsFate events l e new
fate_found events e l fences next new a there is = subst (λ (fate : Fate). IsFate events l e fate) (sym is) (a.fate l new there)

-- the slice of a whole Vec, given back
pub slice_back : {X : Type 0} (n : ℕ) (new old : List X) → length new ≡ n → take n (new ++ drop (length new) old) ≡ new
slice_back n new old e = grind (arith, common_steps, e)
