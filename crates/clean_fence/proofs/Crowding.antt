-- What calls make of all that a cache represents. One with room for the lines that are used evicts none of them for another.
use Rattle.std.proofs.Common.{◌≡◌, ℕ, ◌<◌, true, false, eqb, List, [], ◌∷◌, length, arith, refl, ap, ◌∙◌, inl, inr}
use Rattle.std.specs.Prelude.{◌⊎◌, slice_index_or, slice_set, Option, Some, None, is_some}
use Rattle.std.proofs.lemmas.Bool.{cases_Bool, cases_eq}
use Rattle.std.proofs.lemmas.List.{get_or-set_other, length-set}
use Rattle.std.specs.Option.{option_to_list}
use Rattle.index_list.specs.Lists.{has}
use Rattle.lru_cache.specs.Cache.{CacheView, IsCache, copied_over, is_dirty, is_resident, is_leaving, shown, written_back, written_by_forced, after_drop, after_eviction, after_forced, after_change, after_load as after_line_load}
use Rattle.lru_cache.specs.Order.{order_after_mark}
use Rattle.lru_cache.proofs.Counts.{no_victim}
use Rattle.lru_cache.proofs.Places.{at_cleared}
use Rattle.word_bits.specs.Bytes.{stored}
use Rattle.line_memory.specs.Lines.{line_at}
use Rattle.store_trace.specs.declared.crash_model.step.PersistenceStep.{PersistenceStep}
use Rattle.store_trace.specs.declared.crash_model.step.PersistenceStep.TheVariants.{Store, Clean, Evict}
use Rattle.clean_fence.proofs.Views.{with_parts, evict_stands, kept_stands, load_stands, marked_stands, store_stands}
use Rattle.clean_fence.specs.Represents.{AreAmong, CacheSteps, Represents}
use Rattle.clean_fence.specs.Rules.{PmView, HasRoom, SameSizes, memory_of, victim, after_completion}

room_kept : (touched : List ℕ) (v w : PmView) → w.cache.capacity ≡ v.cache.capacity →
    ((line : ℕ) → is_resident w.cache line ≡ true → is_resident v.cache line ≡ true) → HasRoom touched v → HasRoom touched w
room_kept touched v w e less r = record {
  room = omega (arith, r.room);
  among = λ line h. r.among line (less line h);
}

dropped : (copies : List (Option (List ℕ))) (m l : ℕ) → is_some (slice_index_or (slice_set copies m None) l None) ≡ true →
    is_some (slice_index_or copies l None) ≡ true
dropped copies m l h =
    let e : slice_index_or (slice_set copies m None) l None ≡ _ = at_cleared None copies m l in
    elim (cases_Bool (eqb l m)) [
      | inl t ↦ let n : false ≡ true = rw (e, t) at h in cc
      | inr f ↦ rw (e, f) at h
    ]

brought : (copies : List (Option (List ℕ))) (m l : ℕ) (bytes : List ℕ) → is_some (slice_index_or (slice_set copies m (Some bytes)) l None) ≡ true →
    (l ≡ m) ⊎ (is_some (slice_index_or copies l None) ≡ true)
brought copies m l bytes h = elim (cases_eq l m) [
  | inl e ↦ inl e
  | inr ne ↦ inr (rw (get_or-set_other copies m l (Some bytes) None ne) at h)
]

forced_resident : (forced : Option ℕ) (c : CacheView) (l : ℕ) → is_resident (after_forced forced c) l ≡ true → is_resident c l ≡ true
forced_resident None c l h = h
forced_resident (Some m) c l h = dropped c.copies m l h

forced_capacity : (forced : Option ℕ) (c : CacheView) → (after_forced forced c).capacity ≡ c.capacity
forced_capacity None c = refl
forced_capacity (Some m) c = refl

load_room : (v : PmView) (cache : CacheView) (lines : List (List ℕ)) (line : ℕ) → cache ≡ after_line_load line v.cache v.lines →
    (touched : List ℕ) → HasRoom touched v → has line touched ≡ true → HasRoom touched (with_parts v cache lines)
load_room v cache lines line e touched r t = record {
  room = omega (arith, r.room, forced_capacity (victim v line) v.cache, ap (λ (x : CacheView). x.capacity) e);
  among = λ l h. elim (brought _ line l _ (rw e at h)) [
    | inl same ↦ rw same t
    | inr old ↦ r.among l (forced_resident (victim v line) v.cache l old)
  ];
}

store_room : (v : PmView) (cache : CacheView) (lines : List (List ℕ)) (line : ℕ) (bytes : List ℕ) →
    cache ≡ after_change line bytes (after_line_load line v.cache v.lines) →
    (touched : List ℕ) → HasRoom touched v → has line touched ≡ true → HasRoom touched (with_parts v cache lines)
store_room v cache lines line bytes e touched r t = record {
  room = omega (arith, r.room, forced_capacity (victim v line) v.cache, ap (λ (x : CacheView). x.capacity) e);
  among = λ l h. elim (brought _ line l _ (rw e at h)) [
    | inl same ↦ rw same t
    | inr again ↦ elim (brought _ line l _ again) [
      | inl same ↦ rw same t
      | inr old ↦ r.among l (forced_resident (victim v line) v.cache l old)
    ]
  ];
}

drop_room : (v : PmView) (cache : CacheView) (lines : List (List ℕ)) (line : ℕ) → cache ≡ after_drop line v.cache →
    (touched : List ℕ) → HasRoom touched v → HasRoom touched (with_parts v cache lines)
drop_room v cache lines line e touched r =
    room_kept touched v (with_parts v cache lines) (ap (λ (x : CacheView). x.capacity) e) (λ l h. dropped v.cache.copies line l (rw e at h)) r

evict_room : (v : PmView) (cache : CacheView) (lines : List (List ℕ)) (line : ℕ) → cache ≡ after_eviction line v.cache →
    (touched : List ℕ) → HasRoom touched v → HasRoom touched (with_parts v cache lines)
evict_room v cache lines line e touched r =
    room_kept touched v (with_parts v cache lines) (ap (λ (x : CacheView). x.capacity) e) (λ l h. dropped v.cache.copies line l (rw e at h)) r

pub copies_room : (v : PmView) (cache : CacheView) (lines : List (List ℕ)) → cache.capacity ≡ v.cache.capacity → cache.copies ≡ v.cache.copies →
    (touched : List ℕ) → HasRoom touched v → HasRoom touched (with_parts v cache lines)
copies_room v cache lines capacity copies touched r =
    room_kept touched v (with_parts v cache lines) capacity (λ l h. rw copies at h) r

pub completion_room : (v w : PmView) (line : ℕ) → w ≡ after_completion line v → (touched : List ℕ) → HasRoom touched v → HasRoom touched w
completion_room v w line e touched r = elim (cases_Bool (is_leaving v.cache line)) [
  | inl t ↦ let g : w ≡ _ = rw t at e in rw g (evict_room v _ _ line refl touched r)
  | inr f ↦ let g : w ≡ _ = rw f at e in rw g (copies_room v _ _ refl refl touched r)
]

unforced : (v : PmView) (line : ℕ) → IsCache v.cache → (touched : List ℕ) → HasRoom touched v → has line touched ≡ true →
    victim v line ≡ None
unforced v line k touched r t = no_victim v.cache k touched line r.room r.among t

-- as many lines after an eviction, if there is one
forced_sizes : (forced : Option ℕ) (c : CacheView) (lines : List (List ℕ)) → length (written_by_forced forced c lines) ≡ length lines
forced_sizes None c lines = refl
forced_sizes (Some line) c lines = length-set _ _ _

load_sizes : (v : PmView) (cache : CacheView) (lines : List (List ℕ)) (line : ℕ) → cache.capacity ≡ (after_forced (victim v line) v.cache).capacity →
    lines ≡ written_by_forced (victim v line) v.cache v.lines → SameSizes v (with_parts v cache lines)
load_sizes v cache lines line e f = record {
  harts = refl;
  capacity = e ∙ forced_capacity (victim v line) v.cache;
  lines = ap (λ (x : List (List ℕ)). length x) f ∙ forced_sizes (victim v line) v.cache v.lines;
}

-- what a use of a line makes
one_among : (line : ℕ) (lines : List ℕ) → AreAmong (line ∷ []) lines → has line lines ≡ true
one_among line lines among = among.each line (grind arith)

pub load_steps : (v : PmView) (cache : CacheView) (lines : List (List ℕ)) (line : ℕ) → cache ≡ after_line_load line v.cache v.lines →
    lines ≡ written_by_forced (victim v line) v.cache v.lines → shown cache lines ≡ memory_of v → IsCache v.cache →
    CacheSteps v (with_parts v cache lines) [] (option_to_list (victim v line)) (line ∷ [])
load_steps v cache lines line e f same k = record {
  sizes = load_sizes v cache lines line (ap (λ (x : CacheView). x.capacity) e) f;
  represents = load_stands v cache lines line e f same k;
  room = λ touched r used. load_room v cache lines line e touched r (one_among line touched used);
  unforced = λ touched r used. ap option_to_list (unforced v line k touched r (one_among line touched used));
}

pub store_steps : (v : PmView) (cache : CacheView) (lines : List (List ℕ)) (line o n value : ℕ) →
    cache ≡ after_change line (stored (line_at (memory_of v) line) o n value) (after_line_load line v.cache v.lines) →
    lines ≡ written_by_forced (victim v line) v.cache v.lines →
    shown cache lines ≡ slice_set (memory_of v) line (stored (line_at (memory_of v) line) o n value) → IsCache v.cache →
    CacheSteps v (with_parts v cache lines) (Store line o n value ∷ []) (option_to_list (victim v line)) (line ∷ [])
store_steps v cache lines line o n value e f changed k = record {
  sizes = load_sizes v cache lines line (ap (λ (x : CacheView). x.capacity) e) f;
  represents = store_stands v cache lines line o n value e f changed k;
  room = λ touched r used. store_room v cache lines line _ e touched r (one_among line touched used);
  unforced = λ touched r used. ap option_to_list (unforced v line k touched r (one_among line touched used));
}

-- a step that uses no line
pub one_step : (v w : PmView) (step : PersistenceStep) → SameSizes v w →
    ((start : List (List ℕ)) (p : List PersistenceStep) → Represents start p v → Represents start (step ∷ p) w) →
    ((touched : List ℕ) → HasRoom touched v → HasRoom touched w) → CacheSteps v w (step ∷ []) [] []
one_step v w step sizes stands room = record {
  sizes = sizes;
  represents = stands;
  room = λ touched r used. room touched r;
  unforced = λ touched r used. refl;
}

pub evict_steps : (v : PmView) (cache : CacheView) (lines : List (List ℕ)) (m : ℕ) → cache ≡ after_eviction m v.cache →
    lines ≡ written_back m v.cache v.lines → shown cache lines ≡ memory_of v → IsCache v.cache →
    CacheSteps v (with_parts v cache lines) (Evict m ∷ []) [] []
evict_steps v cache lines m e f same k =
    one_step v (with_parts v cache lines) (Evict m)
    (record { harts = refl; capacity = ap (λ (x : CacheView). x.capacity) e; lines = ap (λ (x : List (List ℕ)). length x) f ∙ length-set _ _ _ })
    (evict_stands v cache lines m e f same k) (evict_room v cache lines m e)

-- a clean, or a flush, of a dirty line
pub marked_steps : (v : PmView) (cache : CacheView) (h line : ℕ) → cache.capacity ≡ v.cache.capacity → cache.copies ≡ v.cache.copies →
    cache.orders ≡ order_after_mark h line v.cache.orders → is_dirty v.cache line ≡ true → IsCache v.cache → h < 8 →
    CacheSteps v (record v { cache = cache }) (Clean h line ∷ []) [] []
marked_steps v cache h line capacity copies orders dirty k few =
    one_step v (record v { cache = cache }) (Clean h line) (record { harts = refl; capacity = capacity; lines = refl })
    (marked_stands v (record v { cache = cache }) h line refl (ap (λ (c : List (Option (List ℕ))). copied_over c v.lines) copies) orders dirty k few)
    (copies_room v cache v.lines capacity copies)

-- and of another one
pub kept_steps : (v : PmView) (h line : ℕ) → is_dirty v.cache line ≡ false → CacheSteps v v (Clean h line ∷ []) [] []
kept_steps v h line dry =
    one_step v v (Clean h line) (record { harts = refl; capacity = refl; lines = refl }) (kept_stands v v h line refl refl refl refl dry)
    (λ touched r. r)

pub dropped_steps : (v : PmView) (cache : CacheView) (h line : ℕ) → cache ≡ after_drop line v.cache → shown cache v.lines ≡ memory_of v →
    is_dirty v.cache line ≡ false → CacheSteps v (record v { cache = cache }) (Clean h line ∷ []) [] []
dropped_steps v cache h line e same dry =
    one_step v (record v { cache = cache }) (Clean h line)
    (record { harts = refl; capacity = ap (λ (x : CacheView). x.capacity) e; lines = refl })
    (kept_stands v (record v { cache = cache }) h line refl same (ap (λ (x : CacheView). x.orders.dirty) e)
    (ap (λ (x : CacheView). x.orders.marked) e) dry)
    (drop_room v cache v.lines line e)
