-- What each persistence step makes of the contents that a power cut may leave of a line.
use Rattle.std.proofs.Common.{◌≡◌, ℕ, ◌+◌, ◌≤◌, ◌⊎◌, inl, inr, false, List, [], ◌∷◌, ◌==◌, ◌&&◌, nat_lt, max, arith}
use Rattle.std.specs.Prelude.{◌↔◌, ◌≢◌}
use Rattle.std.proofs.lemmas.Bool.{cases_Bool, ne_eqb}
use Rattle.std.proofs.lemmas.Bool.Decides.{nat_tests}
use Rattle.word_bits.specs.Bytes.{stored}
use Rattle.store_trace.proofs.Bounds.{cleaned_le_stores, floor_le_stores}
use Rattle.store_trace.proofs.Images.{line_after_same}
use Rattle.schedule_states.specs.Contents.{IsContent, MayHold, MayHoldFenced}
use Rattle.store_trace.specs.Floor.{cleaned, floor}
use Rattle.store_trace.specs.Image.{line_after}
use Rattle.store_trace.specs.Stores.{stores}
use Rattle.store_trace.specs.declared.crash_model.step.PersistenceStep.{PersistenceStep}
use Rattle.store_trace.specs.declared.crash_model.step.PersistenceStep.TheVariants.{Store, Clean, Fence, Evict}

-- what the medium may hold from a number of stores on: one store more of the line adds what loads see then, and nothing else
content_kept : (start : List ℕ) (l low m o w v : ℕ) (p : List PersistenceStep) (bytes : List ℕ) →
    IsContent start l low p bytes → IsContent start l low (Store m o w v ∷ p) bytes
content_kept start l low m o w v p bytes c = record {
  count = c.count;
  low = c.low;
  high = grind (arith, nat_tests, c.high);
  bytes = grind (arith, nat_tests, c.high, c.bytes);
}

content_added : (start : List ℕ) (l low o w v : ℕ) (p : List PersistenceStep) → low ≤ stores l p →
    IsContent start l low (Store l o w v ∷ p) (stored (line_after start l (stores l p) p) o w v)
content_added start l low o w v p h = record {
  count = stores l p + 1;
  low = omega (arith, h);
  high = grind (arith, nat_tests);
  bytes = grind (arith, nat_tests, line_after_same start l (stores l p + 1) (stores l p) p);
}

content_split : (start : List ℕ) (l low o w v : ℕ) (p : List PersistenceStep) (bytes : List ℕ) →
    IsContent start l low (Store l o w v ∷ p) bytes →
    IsContent start l low p bytes ⊎ (bytes ≡ stored (line_after start l (stores l p) p) o w v)
content_split start l low o w v p bytes c = elim (cases_Bool (nat_lt (stores l p) c.count)) [
  | inl last ↦ inr (grind (arith, nat_tests, last, c.bytes, line_after_same start l c.count (stores l p) p))
  | inr earlier ↦ inl (record {
    count = c.count;
    low = c.low;
    high = grind (arith, nat_tests, earlier);
    bytes = grind (arith, nat_tests, earlier, c.bytes);
  })
]

content_other : (start : List ℕ) (l low m o w v : ℕ) (p : List PersistenceStep) (bytes : List ℕ) → (m == l) ≡ false →
    IsContent start l low (Store m o w v ∷ p) bytes → IsContent start l low p bytes
content_other start l low m o w v p bytes other c = record {
  count = c.count;
  low = c.low;
  high = grind (arith, nat_tests, other, c.high);
  bytes = grind (arith, nat_tests, other, c.bytes);
}

-- from the greater of two numbers on it holds what it holds from both on
content_both : (start : List ℕ) (l a b : ℕ) (p : List PersistenceStep) (bytes : List ℕ) →
    IsContent start l a p bytes → IsContent start l b p bytes → IsContent start l (max a b) p bytes
content_both start l a b p bytes c d = elim (cases_Bool (nat_lt a b)) [
  | inl less ↦ record { count = d.count; low = grind (arith, nat_tests, less, d.low); high = d.high; bytes = d.bytes }
  | inr more ↦ record { count = c.count; low = grind (arith, nat_tests, more, c.low); high = c.high; bytes = c.bytes }
]

content_from : (start : List ℕ) (l a b : ℕ) (p : List PersistenceStep) (bytes : List ℕ) → b ≤ a →
    IsContent start l a p bytes → IsContent start l b p bytes
content_from start l a b p bytes h c = record { count = c.count; low = omega (arith, h, c.low); high = c.high; bytes = c.bytes }

-- all stores made so far leave what loads see
content_current : (start : List ℕ) (l low : ℕ) (p : List PersistenceStep) (bytes : List ℕ) → stores l p ≤ low →
    IsContent start l low p bytes → bytes ≡ line_after start l (stores l p) p
content_current start l low p bytes h c =
    let e : c.count ≡ stores l p = omega (arith, h, c.low, c.high) in
    rw e at c.bytes

content_at_current : (start : List ℕ) (l low : ℕ) (p : List PersistenceStep) (bytes : List ℕ) → low ≤ stores l p →
    bytes ≡ line_after start l (stores l p) p → IsContent start l low p bytes
content_at_current start l low p bytes h e = record { count = stores l p; low = h; high = omega arith; bytes = e }

-- the same record over a list with a step that isn't a store in front
as_clean : (start : List ℕ) (l low h m : ℕ) (p : List PersistenceStep) (bytes : List ℕ) →
    IsContent start l low p bytes ↔ IsContent start l low (Clean h m ∷ p) bytes
as_clean start l low h m p bytes = (
  λ c. record { count = c.count; low = c.low; high = c.high; bytes = c.bytes },
  λ c. record { count = c.count; low = c.low; high = c.high; bytes = c.bytes },
)

as_fence : (start : List ℕ) (l low h : ℕ) (p : List PersistenceStep) (bytes : List ℕ) →
    IsContent start l low p bytes ↔ IsContent start l low (Fence h ∷ p) bytes
as_fence start l low h p bytes = (
  λ c. record { count = c.count; low = c.low; high = c.high; bytes = c.bytes },
  λ c. record { count = c.count; low = c.low; high = c.high; bytes = c.bytes },
)

as_evict : (start : List ℕ) (l low m : ℕ) (p : List PersistenceStep) (bytes : List ℕ) →
    IsContent start l low p bytes ↔ IsContent start l low (Evict m ∷ p) bytes
as_evict start l low m p bytes = (
  λ c. record { count = c.count; low = c.low; high = c.high; bytes = c.bytes },
  λ c. record { count = c.count; low = c.low; high = c.high; bytes = c.bytes },
)

-- a clean of another hart, or of another line, changes nothing
clean_down : (start : List ℕ) (l h g m : ℕ) (p : List PersistenceStep) (bytes : List ℕ) → ((g == h) && (m == l)) ≡ false →
    MayHoldFenced start l h (Clean g m ∷ p) bytes → MayHoldFenced start l h p bytes
clean_down start l h g m p bytes other c = record {
  count = c.count;
  low = grind (arith, nat_tests, other, c.low);
  high = c.high;
  bytes = c.bytes;
}

clean_up : (start : List ℕ) (l h g m : ℕ) (p : List PersistenceStep) (bytes : List ℕ) → ((g == h) && (m == l)) ≡ false →
    MayHoldFenced start l h p bytes → MayHoldFenced start l h (Clean g m ∷ p) bytes
clean_up start l h g m p bytes other c = record {
  count = c.count;
  low = grind (arith, nat_tests, other, c.low);
  high = c.high;
  bytes = c.bytes;
}

-- what each step makes of the contents, which is how a search keeps them
pub store_adds : (start : List ℕ) (l o w v : ℕ) (p : List PersistenceStep) (bytes : List ℕ) →
    MayHold start l (Store l o w v ∷ p) bytes ↔ (MayHold start l p bytes ⊎ (bytes ≡ stored (line_after start l (stores l p) p) o w v))
store_adds start l o w v p bytes = (
  λ c. content_split start l (floor l p) o w v p bytes c,
  λ c. elim c [
    | inl before ↦ content_kept start l (floor l p) l o w v p bytes before
    | inr added ↦ rw added (content_added start l (floor l p) o w v p (floor_le_stores l p))
  ],
)

pub clean_leaves : (start : List ℕ) (l h : ℕ) (p : List PersistenceStep) (bytes : List ℕ) →
    MayHoldFenced start l h (Clean h l ∷ p) bytes ↔ (bytes ≡ line_after start l (stores l p) p)
clean_leaves start l h p bytes = (
  λ c. content_current start l (max (floor l (Clean h l ∷ p)) (cleaned l h (Clean h l ∷ p))) (Clean h l ∷ p) bytes (grind (arith, nat_tests)) c,
  λ e. content_at_current start l (max (floor l (Clean h l ∷ p)) (cleaned l h (Clean h l ∷ p))) (Clean h l ∷ p) bytes
      (grind (arith, nat_tests, floor_le_stores l p)) e,
)

pub fence_cuts : (start : List ℕ) (l g h : ℕ) (p : List PersistenceStep) (bytes : List ℕ) →
    MayHoldFenced start l h (Fence g ∷ p) bytes ↔ (MayHoldFenced start l g p bytes × MayHoldFenced start l h p bytes)
fence_cuts start l g h p bytes = (
  λ c.
      let d : IsContent start l (max (max (floor l p) (cleaned l g p)) (cleaned l h p)) p bytes = (as_fence start l _ g p bytes).1 c in (
        content_from start l _ (max (floor l p) (cleaned l g p)) p bytes (grind (arith, nat_tests)) d,
        content_from start l _ (max (floor l p) (cleaned l h p)) p bytes (grind (arith, nat_tests)) d,
      ),
  λ c.
      let e : max (max (floor l p) (cleaned l g p)) (max (floor l p) (cleaned l h p)) ≡ max (max (floor l p) (cleaned l g p)) (cleaned l h p) =
      grind (arith, nat_tests) in
      (as_fence start l _ g p bytes).0 (rw e at (content_both start l _ _ p bytes c.0 c.1)),
)

pub fence_takes : (start : List ℕ) (l h : ℕ) (p : List PersistenceStep) (bytes : List ℕ) →
    MayHold start l (Fence h ∷ p) bytes ↔ MayHoldFenced start l h p bytes
fence_takes start l h p bytes = (
  λ c. (as_fence start l _ h p bytes).1 c,
  λ c. (as_fence start l _ h p bytes).0 c,
)

pub store_adds_fenced : (start : List ℕ) (l h o w v : ℕ) (p : List PersistenceStep) (bytes : List ℕ) →
    MayHoldFenced start l h (Store l o w v ∷ p) bytes ↔ (MayHoldFenced start l h p bytes ⊎ (bytes ≡ stored (line_after start l (stores l p) p) o w v))
store_adds_fenced start l h o w v p bytes =
    let few : max (floor l p) (cleaned l h p) ≤ stores l p = grind (arith, nat_tests, floor_le_stores l p, cleaned_le_stores l h p) in (
      λ c. content_split start l (max (floor l p) (cleaned l h p)) o w v p bytes c,
      λ c. elim c [
        | inl before ↦ content_kept start l (max (floor l p) (cleaned l h p)) l o w v p bytes before
        | inr added ↦ rw added (content_added start l (max (floor l p) (cleaned l h p)) o w v p few)
      ],
    )

-- a store to another line
pub store_elsewhere : (start : List ℕ) (l m o w v : ℕ) (p : List PersistenceStep) (bytes : List ℕ) → m ≢ l →
    MayHold start l (Store m o w v ∷ p) bytes ↔ MayHold start l p bytes
store_elsewhere start l m o w v p bytes h = (
  λ c. content_other start l (floor l p) m o w v p bytes (ne_eqb m l h) c,
  λ c. content_kept start l (floor l p) m o w v p bytes c,
)

pub store_elsewhere_fenced : (start : List ℕ) (l m h o w v : ℕ) (p : List PersistenceStep) (bytes : List ℕ) → m ≢ l →
    MayHoldFenced start l h (Store m o w v ∷ p) bytes ↔ MayHoldFenced start l h p bytes
store_elsewhere_fenced start l m h o w v p bytes other = (
  λ c. content_other start l (max (floor l p) (cleaned l h p)) m o w v p bytes (ne_eqb m l other) c,
  λ c. content_kept start l (max (floor l p) (cleaned l h p)) m o w v p bytes c,
)

pub clean_adds : (start : List ℕ) (l h m : ℕ) (p : List PersistenceStep) (bytes : List ℕ) →
    MayHold start l (Clean h m ∷ p) bytes ↔ MayHold start l p bytes
clean_adds start l h m p bytes = (
  λ c. (as_clean start l (floor l p) h m p bytes).1 c,
  λ c. (as_clean start l (floor l p) h m p bytes).0 c,
)

other_clean : (l h g m : ℕ) → (g ≢ h) ⊎ (m ≢ l) → ((g == h) && (m == l)) ≡ false
other_clean l h g m d = elim d [
  | inl hart ↦ grind (arith, nat_tests, hart)
  | inr line ↦ grind (arith, nat_tests, line)
]

pub clean_elsewhere : (start : List ℕ) (l h g m : ℕ) (p : List PersistenceStep) (bytes : List ℕ) → (g ≢ h) ⊎ (m ≢ l) →
    MayHoldFenced start l h (Clean g m ∷ p) bytes ↔ MayHoldFenced start l h p bytes
clean_elsewhere start l h g m p bytes d = (
  λ c. clean_down start l h g m p bytes (other_clean l h g m d) c,
  λ c. clean_up start l h g m p bytes (other_clean l h g m d) c,
)

-- before any step
none_stored : (start : List ℕ) (l low : ℕ) (bytes : List ℕ) → low ≤ 0 → IsContent start l low [] bytes ↔ (bytes ≡ start)
none_stored start l low bytes h = (λ c. c.bytes, λ e. record { count = 0; low = h; high = omega arith; bytes = e })

pub nothing_stored : (start : List ℕ) (l : ℕ) (bytes : List ℕ) → MayHold start l [] bytes ↔ (bytes ≡ start)
nothing_stored start l bytes = none_stored start l 0 bytes (omega arith)

pub nothing_stored_fenced : (start : List ℕ) (l h : ℕ) (bytes : List ℕ) → MayHoldFenced start l h [] bytes ↔ (bytes ≡ start)
nothing_stored_fenced start l h bytes = none_stored start l 0 bytes (omega arith)
