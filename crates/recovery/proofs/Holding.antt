-- What is found after a line was copied, and which lines the list has.
use Rattle.std.proofs.Common.{◌≡◌, ◌≢◌, ℕ, zero, suc, ◌+◌, ◌/◌, ◌%◌, ◌*◌, ◌<◌, ◌≤◌, List, [], ◌∷◌, ◌++◌, Bool, true, false, if◌then◌else◌, Option, Some, None, is_some, length, replicate, drop, slice_index, slice_index_or, slice_set, refl, sym, ap, ◌∙◌, inl, inr, arith}
use Rattle.std.proofs.lemmas.Bool.{cases_eq, cases_Bool, eq-eqb, ne_eqb}
use Rattle.std.proofs.lemmas.List.{get_or-set_same, get_or-set_other, length-replicate, length-set}
use Rattle.index_list.specs.Lists.{has}
use Rattle.index_list.proofs.Members.{has-push}
use Rattle.line_memory.specs.Lines.{AreLines, IsMedium, line_at, line_bytes}
use Rattle.line_memory.specs.Memory.{IsWidth, loaded_from, stored_to}
use Rattle.line_memory.proofs.Accesses.{fits_line, line_loaded, line_peeked, line_stored}
use Rattle.line_memory.proofs.Maps.{length-stored}
use Rattle.word_bits.specs.Bytes.{loaded, stored}
use Rattle.lru_cache.specs.Cache.{copied_over}
use Rattle.lru_cache.proofs.Shows.{at_shown, length_shown, shown_empty, shown_put}
use Rattle.recovery.specs.Held.{AreTouched, IsFresh, IsOver, is_held, memory_over, nothing_held}

-- accesses
there_shown : (copies : List (Option (List ℕ))) (source : List (List ℕ)) (offset : ℕ) → IsOver copies source → offset < 64 * length copies
    → offset < 64 * length (copied_over copies source)
there_shown copies source offset over there = omega (arith, length_shown copies source, over.count)

pub load_over : (copies : List (Option (List ℕ))) (source : List (List ℕ)) (offset width : ℕ) → IsOver copies source → IsWidth width
    → offset % width ≡ 0 → offset < 64 * length copies
    → loaded_from (memory_over copies source) offset width ≡ Some (loaded (line_at (copied_over copies source) (offset / 64)) (offset % 64) width)
load_over copies source offset width over w aligned there =
    line_loaded (copied_over copies source) over.whole offset width w aligned (there_shown copies source offset over there)

pub peek_over : (copies : List (Option (List ℕ))) (source : List (List ℕ)) (offset : ℕ) → IsOver copies source → offset < 64 * length copies
    → memory_over copies source offset ≡ Some (slice_index (line_at (copied_over copies source) (offset / 64)) (offset % 64))
peek_over copies source offset over there =
    line_peeked (copied_over copies source) over.whole offset (there_shown copies source offset over there)

pub store_over : (copies : List (Option (List ℕ))) (source : List (List ℕ)) (offset width value : ℕ) (bytes : List ℕ) → IsOver copies source
    → IsWidth width → offset % width ≡ 0 → offset < 64 * length copies
    → bytes ≡ stored (line_at (copied_over copies source) (offset / 64)) (offset % 64) width value
    → memory_over (slice_set copies (offset / 64) (Some bytes)) source ≡ stored_to (memory_over copies source) offset width value
store_over copies source offset width value bytes over w aligned there made =
    ap (λ (lines : List (List ℕ)). line_bytes lines) (shown_put copies source (offset / 64) bytes (omega arith))
    ∙ ap (λ (b : List ℕ). line_bytes (slice_set (copied_over copies source) (offset / 64) b)) made
    ∙ line_stored (copied_over copies source) over.whole offset width value w aligned (there_shown copies source offset over there)

-- what is found are lines still
whole_put : (lines : List (List ℕ)) (i : ℕ) (bytes : List ℕ) → AreLines lines → length bytes ≡ 64 → AreLines (slice_set lines i bytes)
whole_put lines i bytes each long = record {
  whole = λ j h.
      let low : j < length lines = omega (arith, length-set lines i bytes) in
      elim (cases_eq j i) [
        | inl here ↦ rw (here, get_or-set_same lines i bytes [] (omega (arith, here))) long
        | inr other ↦ rw (get_or-set_other lines i j bytes [] other) (each.whole j low)
      ];
}

pub over_put : (copies : List (Option (List ℕ))) (source : List (List ℕ)) (line : ℕ) (bytes : List ℕ) → IsOver copies source → line < length copies
    → length bytes ≡ 64 → IsOver (slice_set copies line (Some bytes)) source
over_put copies source line bytes over there long = record {
  count = over.count ∙ sym (length-set copies line (Some bytes));
  whole = rw (shown_put copies source line bytes there) (whole_put (copied_over copies source) line bytes over.whole long);
}

pub over_stored : (copies next : List (Option (List ℕ))) (source : List (List ℕ)) (offset width value : ℕ) (bytes : List ℕ) → IsOver copies source
    → IsWidth width → offset % width ≡ 0 → offset < 64 * length copies
    → bytes ≡ stored (line_at (copied_over copies source) (offset / 64)) (offset % 64) width value
    → next ≡ slice_set copies (offset / 64) (Some bytes) → IsOver next source
over_stored copies next source offset width value bytes over w aligned there made put =
    let long : length (line_at (copied_over copies source) (offset / 64)) ≡ 64 =
    over.whole.whole (offset / 64) (omega (arith, there_shown copies source offset over there)) in
    let fits = fits_line offset width w aligned in
    let same : length bytes ≡ 64 =
    ap (λ (b : List ℕ). length b) made ∙ length-stored (line_at (copied_over copies source) (offset / 64)) (offset % 64) width value (omega arith) ∙ long in
    rw put (over_put copies source (offset / 64) bytes over (omega arith) same)

-- a line is found in its copy, else in the source
pub held_found : (copies : List (Option (List ℕ))) (source : List (List ℕ)) (line : ℕ) (copy : List ℕ) → IsOver copies source → line < length copies
    → slice_index_or copies line None ≡ Some copy → copy ≡ line_at (copied_over copies source) line
held_found copies source line copy over there held = sym (at_shown copies source line (omega (arith, over.count)) ∙ rw held refl)

pub own_found : (copies : List (Option (List ℕ))) (source : List (List ℕ)) (line : ℕ) → IsOver copies source → line < length copies
    → slice_index_or copies line None ≡ None → line_at source line ≡ line_at (copied_over copies source) line
own_found copies source line over there free = sym (at_shown copies source line (omega (arith, over.count)) ∙ rw free refl)

pub held_whole : (copies : List (Option (List ℕ))) (source : List (List ℕ)) (line : ℕ) (copy : List ℕ) → IsOver copies source → line < length copies
    → slice_index_or copies line None ≡ Some copy → length copy ≡ 64
held_whole copies source line copy over there held =
    let low : line < length (copied_over copies source) = omega (arith, length_shown copies source, over.count) in
    rw (held_found copies source line copy over there held) (over.whole.whole line low)

-- nothing is held
none_at : (n line : ℕ) → is_held (replicate n None) line ≡ false
none_at zero line = refl
none_at (suc n) zero = refl
none_at (suc n) (suc line) = none_at n line

pub none_touched : (copies : List (Option (List ℕ))) (touched : List ℕ) (n : ℕ) → copies ≡ nothing_held n → touched ≡ [] → AreTouched copies touched
none_touched copies touched n e f = record {
  each = λ line now. let free = none_at n line in let held = rw e at now in cc;
  below = λ at there. absurd (omega (arith, ap (λ (l : List ℕ). length l) f));
}

fresh_none : (n : ℕ) → IsFresh (nothing_held n) n
fresh_none n = record {
  count = length-replicate n None;
  over = λ source each count. record { count = count ∙ sym (length-replicate n None); whole = rw (shown_empty n source) each };
  own = λ source. ap (λ (lines : List (List ℕ)). line_bytes lines) (shown_empty n source);
}

pub fresh_of : (copies : List (Option (List ℕ))) (n : ℕ) → copies ≡ nothing_held n → IsFresh copies n
fresh_of copies n e = rw e (fresh_none n)

-- a line that is copied
among_next : (held : Bool) (line l : ℕ) (touched : List ℕ) → has line touched ≡ true
    → has line (if held then touched else touched ++ l ∷ []) ≡ true
among_next true line l touched h = h
among_next false line l touched h = rw (has-push line l touched, h) refl

among_last : (held : Bool) (line : ℕ) (touched : List ℕ) → (held ≡ true → has line touched ≡ true)
    → has line (if held then touched else touched ++ line ∷ []) ≡ true
among_last true line touched h = h refl
among_last false line touched h = rw (has-push line line touched, eq-eqb line line refl) (elim (cases_Bool (has line touched)) [ inl e ↦ rw e refl | inr e ↦ rw e refl ])

last_below : (touched : List ℕ) (line n : ℕ) → ((at : ℕ) → at < length touched → slice_index touched at < n) → line < n
    → (at : ℕ) → at < length (touched ++ line ∷ []) → slice_index (touched ++ line ∷ []) at < n
last_below [] line n each low zero h = low
last_below [] line n each low (suc at) h = absurd (omega arith)
last_below (x ∷ xs) line n each low zero h = each zero (omega arith)
last_below (x ∷ xs) line n each low (suc at) h = last_below xs line n (λ k b. each (suc k) (omega arith)) low at (omega arith)

next_below : (held : Bool) (touched : List ℕ) (line n : ℕ) → ((at : ℕ) → at < length touched → slice_index touched at < n) → line < n
    → (at : ℕ) → at < length (if held then touched else touched ++ line ∷ []) → slice_index (if held then touched else touched ++ line ∷ []) at < n
next_below true touched line n each low = each
next_below false touched line n each low = last_below touched line n each low

touched_put : (copies : List (Option (List ℕ))) (touched : List ℕ) (line : ℕ) (bytes : List ℕ) → AreTouched copies touched → line < length copies
    → AreTouched (slice_set copies line (Some bytes)) (if is_held copies line then touched else touched ++ line ∷ [])
touched_put copies touched line bytes t there = record {
  each = λ k now. elim (cases_eq k line) [
    | inl here ↦ rw here (among_last (is_held copies line) line touched (t.each line))
    | inr other ↦
        among_next (is_held copies line) k line touched
        (t.each k (ap (λ (copy : Option (List ℕ)). is_some copy) (sym (get_or-set_other copies line k (Some bytes) None other)) ∙ now))
  ];
  below = λ at h. rw (length-set copies line (Some bytes)) (next_below (is_held copies line) touched line (length copies) t.below there at h);
}

pub touched_next : (copies : List (Option (List ℕ))) (touched next : List ℕ) (line : ℕ) (bytes : List ℕ) (held : Bool) → AreTouched copies touched
    → line < length copies → held ≡ is_held copies line → next ≡ (if held then touched else touched ++ line ∷ [])
    → AreTouched (slice_set copies line (Some bytes)) next
touched_next copies touched next line bytes held t there e f =
    rw (f, e) (touched_put copies touched line bytes t there)

pub touched_same : (copies : List (Option (List ℕ))) (touched next : List ℕ) → AreTouched copies touched → next ≡ touched → AreTouched copies next
touched_same copies touched next t e = rw e t

-- setting back: the lines that have a copy are in the rest of the list
pub record AreLeft (copies : List (Option (List ℕ))) (touched : List ℕ) (at : ℕ) : Type 0 where
  pub each : (line : ℕ) → is_held copies line ≡ true → has line (drop at touched) ≡ true
  pub below : (k : ℕ) → k < length touched → slice_index touched k < length copies

pub all_left : (copies : List (Option (List ℕ))) (touched : List ℕ) → AreTouched copies touched → AreLeft copies touched 0
all_left copies touched t = record { each = t.each; below = t.below }

drop_next : (at : ℕ) (xs : List ℕ) → at < length xs → drop at xs ≡ slice_index xs at ∷ drop (at + 1) xs
drop_next at [] h = absurd (omega arith)
drop_next zero (x ∷ xs) h = refl
drop_next (suc at) (x ∷ xs) h = let one : suc at + 1 ≡ suc (at + 1) = omega arith in rw one (drop_next at xs (omega arith))

pub one_less : (copies : List (Option (List ℕ))) (touched : List ℕ) (at line : ℕ) → at < length touched → line ≡ slice_index touched at
    → AreLeft copies touched at → AreLeft (slice_set copies line None) touched (at + 1)
one_less copies touched at line h e left = record {
  each = λ k now.
      let low = left.below at h in
      elim (cases_eq k line) [
        | inl here ↦
            let free : is_held (slice_set copies line None) line ≡ false =
            ap (λ (copy : Option (List ℕ)). is_some copy) (get_or-set_same copies line None None (omega (arith, e, low))) in
            let held = rw here at now in
            cc
        | inr other ↦
            let f = left.each k (ap (λ (copy : Option (List ℕ)). is_some copy) (sym (get_or-set_other copies line k None None other)) ∙ now) in
            let apart : k ≢ slice_index touched at = λ same. other (same ∙ sym e) in
            let g = rw (drop_next at touched h) at f in
            rw (ne_eqb k (slice_index touched at) apart) at g
      ];
  below = λ k b. rw (length-set copies line None) (left.below k b);
}

dropped : (xs : List ℕ) (at : ℕ) → length xs ≤ at → drop at xs ≡ []
dropped [] zero h = refl
dropped [] (suc at) h = refl
dropped (x ∷ xs) zero h = absurd (omega arith)
dropped (x ∷ xs) (suc at) h = dropped xs at (omega arith)

all_none : (copies : List (Option (List ℕ))) → ((line : ℕ) → is_held copies line ≡ false) → copies ≡ nothing_held (length copies)
all_none [] free = refl
all_none (None ∷ copies) free = ap (λ (l : List (Option (List ℕ))). None ∷ l) (all_none copies (λ line. free (suc line)))
all_none (Some bytes ∷ copies) free = let held = free zero in cc

pub none_left : (copies : List (Option (List ℕ))) (touched : List ℕ) (at n : ℕ) → length touched ≤ at → AreLeft copies touched at → length copies ≡ n
    → copies ≡ nothing_held n
none_left copies touched at n past left count =
    let free : (line : ℕ) → is_held copies line ≡ false = λ line. elim (cases_Bool (is_held copies line)) [
      | inl held ↦ (let f = rw (dropped touched at past) at (left.each line held) in cc)
      | inr free ↦ free
    ] in
    all_none copies free ∙ ap (λ (m : ℕ). nothing_held m) count

pub fresh_left : (copies : List (Option (List ℕ))) (touched : List ℕ) (at n : ℕ) → length touched ≤ at → AreLeft copies touched at → length copies ≡ n
    → IsFresh copies n
fresh_left copies touched at n past left count = fresh_of copies n (none_left copies touched at n past left count)

-- where nothing is held, a medium of as many lines can be the source
pub over_fresh : (copies : List (Option (List ℕ))) (n : ℕ) (source : List (List ℕ)) → IsFresh copies n → IsMedium source → length source ≡ n
    → IsOver copies source
over_fresh copies n source fresh medium count = fresh.over source medium.each count
