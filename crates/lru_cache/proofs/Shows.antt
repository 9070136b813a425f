-- What loads show after each change, and that a cache still stands over its medium.
use Rattle.std.proofs.Common.{◌≡◌, ℕ, zero, suc, ◌<◌, Bool, true, false, cond, eqb, Option, Some, None, is_some, unwrap_or, List, [], ◌∷◌, length, replicate, refl, sym, ap, ◌∙◌, arith, slice_index_or, slice_set}
use Rattle.std.proofs.lemmas.Bool.Decides.{nat_tests}
use Rattle.std.proofs.lemmas.List.{length-set, get_or-set_same, set-get_or}
use Rattle.index_list.specs.Lists.{first, without}
use Rattle.index_list.proofs.Members.{has-without}
use Rattle.line_memory.specs.Lines.{line_at, AreLines, IsMedium}
use Rattle.lru_cache.specs.Cache.{CacheView, IsCache, IsOver, copied_over, shown, is_resident, is_dirty, victim, after_forced, after_load, after_write_back, after_drop, after_use, after_change, written_back, empty_cache}
use Rattle.lru_cache.specs.Order.{recent_in, set_of}
use Rattle.lru_cache.proofs.Splits.{latest_there, used_again}
use Rattle.lru_cache.proofs.Places.{at_put, put_same, has-list_with}

pub length_shown : (copies : List (Option (List ℕ))) (lines : List (List ℕ)) → length (copied_over copies lines) ≡ length lines
length_shown copies [] = refl
length_shown [] (x ∷ xs) = refl
length_shown (copy ∷ copies) (x ∷ xs) = ap suc (length_shown copies xs)

pub at_shown : (copies : List (Option (List ℕ))) (lines : List (List ℕ)) (j : ℕ) → j < length lines →
    line_at (copied_over copies lines) j ≡ unwrap_or (slice_index_or copies j None) (line_at lines j)
at_shown copies [] j h = absurd (omega arith)
at_shown [] (x ∷ xs) j h = refl
at_shown (copy ∷ copies) (x ∷ xs) zero h = refl
at_shown (copy ∷ copies) (x ∷ xs) (suc j) h = at_shown copies xs j (omega arith)

-- other bytes in a copy
pub shown_put : (copies : List (Option (List ℕ))) (lines : List (List ℕ)) (i : ℕ) (bytes : List ℕ) → i < length copies →
    copied_over (slice_set copies i (Some bytes)) lines ≡ slice_set (copied_over copies lines) i bytes
shown_put copies [] i bytes h = refl
shown_put [] (x ∷ xs) i bytes h = absurd (omega arith)
shown_put (copy ∷ copies) (x ∷ xs) zero bytes h = refl
shown_put (copy ∷ copies) (x ∷ xs) (suc i) bytes h = ap (λ (l : List (List ℕ)). unwrap_or copy x ∷ l) (shown_put copies xs i bytes (omega arith))

-- the medium's line becomes what is shown of it
pub shown_written : (copies : List (Option (List ℕ))) (lines : List (List ℕ)) (i : ℕ) →
    copied_over copies (slice_set lines i (line_at (copied_over copies lines) i)) ≡ copied_over copies lines
shown_written copies [] i = refl
shown_written [] (x ∷ xs) zero = refl
shown_written [] (x ∷ xs) (suc i) = ap (λ (l : List (List ℕ)). x ∷ l) (put_same [] (line_at xs i) xs i refl)
shown_written (None ∷ copies) (x ∷ xs) zero = refl
shown_written (Some b ∷ copies) (x ∷ xs) zero = refl
shown_written (copy ∷ copies) (x ∷ xs) (suc i) = ap (λ (l : List (List ℕ)). unwrap_or copy x ∷ l) (shown_written copies xs i)

-- a copy that shows what the medium has leaves
pub shown_dropped : (copies : List (Option (List ℕ))) (lines : List (List ℕ)) (i : ℕ) →
    line_at (copied_over copies lines) i ≡ line_at lines i → copied_over (slice_set copies i None) lines ≡ copied_over copies lines
shown_dropped copies [] i h = refl
shown_dropped [] (x ∷ xs) i h = refl
shown_dropped (copy ∷ copies) (x ∷ xs) zero h = ap (λ (l : List ℕ). l ∷ copied_over copies xs) (sym h)
shown_dropped (copy ∷ copies) (x ∷ xs) (suc i) h = ap (λ (l : List (List ℕ)). unwrap_or copy x ∷ l) (shown_dropped copies xs i h)

pub shown_empty : (n : ℕ) (lines : List (List ℕ)) → copied_over (replicate n None) lines ≡ lines
shown_empty n [] = refl
shown_empty zero (x ∷ xs) = refl
shown_empty (suc n) (x ∷ xs) = ap (λ (l : List (List ℕ)). x ∷ l) (shown_empty n xs)

-- a copy of what is shown
pub shown_used : (copies : List (Option (List ℕ))) (lines : List (List ℕ)) (i : ℕ) → i < length copies →
    copied_over (slice_set copies i (Some (line_at (copied_over copies lines) i))) lines ≡ copied_over copies lines
shown_used copies lines i h =
    shown_put copies lines i (line_at (copied_over copies lines) i) h ∙ put_same [] (line_at (copied_over copies lines) i) (copied_over copies lines) i refl

pub some_from : (o : Option (List ℕ)) (d : List ℕ) → is_some o ≡ true → o ≡ Some (unwrap_or o d)
some_from None d h = cc
some_from (Some b) d h = refl

left_from : (o : Option (List ℕ)) (d : List ℕ) → is_some o ≡ false → unwrap_or o d ≡ d
left_from None d h = refl
left_from (Some b) d h = cc

long_by : (o : Option (List ℕ)) (d : List ℕ) → ((b : List ℕ) → o ≡ Some b → length b ≡ 64) → length d ≡ 64 → length (unwrap_or o d) ≡ 64
long_by None d each h = h
long_by (Some b) d each h = each b refl

pub none_shown : (copies : List (Option (List ℕ))) (lines : List (List ℕ)) (i : ℕ) → i < length lines →
    is_some (slice_index_or copies i None) ≡ false → line_at (copied_over copies lines) i ≡ line_at lines i
none_shown copies lines i h absent =
    at_shown copies lines i h ∙ left_from (slice_index_or copies i None) (line_at lines i) absent

lines_put : (lines : List (List ℕ)) → AreLines lines → (i : ℕ) (bytes : List ℕ) → length bytes ≡ 64 → i < length lines → AreLines (slice_set lines i bytes)
lines_put lines each i bytes long low = record {
  whole = λ j h.
      let in_range : j < length lines = omega (arith, length-set lines i bytes) in
      rw (at_put [] bytes lines i j low) (either_long (eqb j i) bytes (line_at lines j) long (each.whole j in_range));
}
  where
    either_long : (b : Bool) (x y : List ℕ) → length x ≡ 64 → length y ≡ 64 → length (cond b x y) ≡ 64
    either_long true x y h k = h
    either_long false x y h k = k

module _ (c : CacheView) (s : IsCache c) (lines : List (List ℕ)) (o : IsOver c lines) (line : ℕ) where
  pub whole_shown : AreLines (shown c lines)
  whole_shown = record {
    whole = λ j h.
        let low : j < length lines = omega (arith, length_shown c.copies lines) in
        rw (at_shown c.copies lines j low) (long_by (slice_index_or c.copies j None) (line_at lines j) (s.whole j) (o.whole.whole j low));
  }

  long_shown : line < length lines → length (line_at (shown c lines) line) ≡ 64
  long_shown low = whole_shown.whole line (omega (arith, length_shown c.copies lines))

  -- the line's copy
  pub copy_there : line < length lines → is_resident c line ≡ true → slice_index_or c.copies line None ≡ Some (line_at (shown c lines) line)
  copy_there low there =
      some_from (slice_index_or c.copies line None) (line_at lines line) there ∙ ap (λ (l : List ℕ). Some l) (sym (at_shown c.copies lines line low))

  -- a load from the line that is the most recently used of its set changes nothing
  pub latest_resident : first (recent_in c.orders (set_of line)) ≡ Some line → is_resident c line ≡ true
  latest_resident e =
      let both = sym (s.recent line (set_of line)) ∙ latest_there c.orders line e in
      grind (arith, nat_tests)

  pub latest_victim : first (recent_in c.orders (set_of line)) ≡ Some line → victim c line ≡ None
  latest_victim e = rw (latest_resident e) refl

  pub latest_loaded : line < length lines → first (recent_in c.orders (set_of line)) ≡ Some line → after_load line c lines ≡ c
  latest_loaded low e =
      let bytes : List ℕ = line_at (shown c lines) line in
      let copies : slice_set c.copies line (Some bytes) ≡ c.copies =
      ap (λ (copy : Option (List ℕ)). slice_set c.copies line copy) (sym (copy_there low (latest_resident e))) ∙ set-get_or c.copies line None in
      ap (λ (v : Option ℕ). after_use line bytes (after_forced v c)) (latest_victim e) ∙ rw (copies, used_again c.orders line e) refl

  -- each change of the cache
  pub over_write_back : line < length lines → IsOver (after_write_back line c) (written_back line c lines)
  over_write_back low = record {
    count = length-set lines line (line_at (shown c lines) line) ∙ o.count;
    whole = lines_put lines o.whole line (line_at (shown c lines) line) (long_shown low) low;
    clean = λ j dry.
        let at : line_at (slice_set lines line (line_at (shown c lines) line)) j ≡ cond (eqb j line) (line_at (shown c lines) line) (line_at lines j) = at_put [] (line_at (shown c lines) line) lines line j low in
        rw (shown_written c.copies lines line) (grind (arith, nat_tests, at, has-without j line c.orders.dirty s.ordered.dirty_once, o.clean j));
  }

  pub over_drop : is_dirty c line ≡ false → IsOver (after_drop line c) lines
  over_drop dry = record {
    count = o.count;
    whole = o.whole;
    clean = λ j d. rw (shown_dropped c.copies lines line (o.clean line dry)) (o.clean j d);
  }

  pub over_use : line < length lines → IsOver (after_use line (line_at (shown c lines) line) c) lines
  over_use low = record {
    count = o.count;
    whole = o.whole;
    clean = λ j d. rw (shown_used c.copies lines line (omega (arith, s.copied, o.count))) (o.clean j d);
  }

  pub over_change : (bytes : List ℕ) → line < length lines → IsOver (after_change line bytes c) lines
  over_change bytes low = record {
    count = o.count;
    whole = o.whole;
    clean = λ j d.
        let at : line_at (slice_set (shown c lines) line bytes) j ≡ cond (eqb j line) bytes (line_at (shown c lines) j) = at_put [] bytes (shown c lines) line j (omega (arith, length_shown c.copies lines)) in
        rw (shown_put c.copies lines line bytes (omega (arith, s.copied, o.count)))
        (grind (arith, nat_tests, at, has-list_with j line c.orders.dirty, o.clean j));
  }

-- the bytes of a copy
pub shown_copy : (copies : List (Option (List ℕ))) (lines : List (List ℕ)) (i : ℕ) (bytes : List ℕ) → i < length lines →
    slice_index_or copies i None ≡ Some bytes → bytes ≡ line_at (copied_over copies lines) i
shown_copy copies lines i bytes low is = rw (at_shown copies lines i low, is) refl

pub used_resident : (c : CacheView) (line : ℕ) (bytes : List ℕ) → line < length c.copies → is_resident (after_use line bytes c) line ≡ true
used_resident c line bytes low = rw (get_or-set_same c.copies line (Some bytes) None low) refl

pub used_latest : (c : CacheView) (line : ℕ) (bytes : List ℕ) → IsCache c → first (recent_in (after_use line bytes c).orders (set_of line)) ≡ Some line
used_latest c line bytes s =
    rw (get_or-set_same c.orders.recency (set_of line) (line ∷ without line (recent_in c.orders (set_of line))) [] (omega (arith, s.ordered.sets))) refl

pub over_empty : (capacity lines : ℕ) (medium : List (List ℕ)) → IsMedium medium → length medium ≡ lines → IsOver (empty_cache capacity lines) medium
over_empty capacity lines medium m e = record {
  count = e;
  whole = m.each;
  clean = λ j d. rw (shown_empty lines medium) refl;
}
