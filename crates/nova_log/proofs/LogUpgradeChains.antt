-- The chain of a written log, part by part from its head to its tail.
use Rattle.std.proofs.Common.{◌≡◌, ℕ, zero, suc, ◌+◌, ◌-◌, ◌*◌, ◌/◌, ◌%◌, ◌^◌, ◌<◌, ◌≤◌, true, false, ◌&&◌, eqb, leb, List, [], ◌++◌, None, length, get_or, map, take, drop, replicate, refl, sym, ap, ◌∙◌, arith, inl, inr}
use Rattle.std.proofs.lemmas.Bool.{and_parts, cases_Bool, eq-eqb, le-leb, leb-true, lt-ltb, ne_eqb}
use Rattle.std.proofs.lemmas.List.{append-nil, drop-drop, get_or-drop, get_or-map, get_or-take, length-drop, length-map, length-take-le, map-append, same_lists, take-append-drop, take_all}
use Rattle.std.proofs.lemmas.List.FromFn.{get_or-map-range_with_len, length-map-range_with_len}
use Rattle.std.proofs.lemmas.List.Concat.{flat_map-append}
use Rattle.std.proofs.lemmas.List.Folds.{flat_map-map}
use Rattle.std.proofs.lemmas.Option.{slice_get-get_or}
use Rattle.std.proofs.Math.Nat.{mul-div_cancel_left, mul-mod_right}
use Rattle.std.specs.List.{All, flat_map, range_with_len}
use Rattle.line_memory.specs.Lines.{line_at}
use Rattle.word_bits.specs.Bytes.{loaded}
use Rattle.nova_log.specs.Chains.{chain, ends_in, is_page, link_fault, link_questions, positions_in}
use Rattle.nova_log.specs.Entries.{entry_at, entry_questions, is_long}
use Rattle.nova_log.specs.Layouts.{page_at, shape_of}
use Rattle.nova_log.specs.Questions.{Question, first_fault}
use Rattle.nova_log.specs.declared.layout.Layout.TheVariants.{Two}
use Rattle.nova_log.specs.declared.layout.Shape.{Shape}
use Rattle.nova_log.specs.Logs.{log_of}
use Rattle.nova_log.specs.declared.volume.entry.Entry.{Entry}
use Rattle.nova_log.specs.declared.volume.entry.EntryKind.TheVariants.{Write}
use Rattle.nova_log.specs.Parts.{page_count, page_of, part, parts_of}
use Rattle.nova_log.specs.Written.{last_part, link_after, part_line, tail_of}
use Rattle.nova_log.proofs.StoredEntries.{IsStorable, entry_clean, entry_read, first_line, second_line}
use Rattle.nova_log.proofs.Faults.{clean_after, clean_range}
use Rattle.nova_log.proofs.Numbers.{number_read}
use Rattle.nova_log.proofs.Places.{count_fits, page_below, pages_apart}

abbrev pub shape : Shape
shape = shape_of Two

pub page_is : (pages p : ℕ) → p < pages → is_page pages (page_at p) ≡ true
page_is pages p less =
    let whole : page_at p % 4096 ≡ 0 = omega arith in
    rw (le-leb (page_at 0) (page_at p) (omega arith), lt-ltb (page_at p) (page_at pages) (omega arith), eq-eqb (page_at p % 4096) 0 whole) refl

-- a tail that lies behind r entries of a page
ends_here : (p r : ℕ) → r ≤ 31 → ends_in shape (page_at p + 128 * r) (page_at p) ≡ true
ends_here p r few =
    let inside : page_at p + 128 * r - page_at p ≡ 128 * r = omega arith in
    let whole : (page_at p + 128 * r - page_at p) % 128 ≡ 0 = rw inside (mul-mod_right 128 r) in
    rw (
      le-leb (page_at p) (page_at p + 128 * r) (omega arith),
      le-leb (page_at p + 128 * r) (page_at p + 128 * 31) (omega arith),
      eq-eqb ((page_at p + 128 * r - page_at p) % 128) 0 whole,
    ) refl

ends_elsewhere : (p q r : ℕ) → r ≤ 31 → (p ≡ q → ⊥) → ends_in shape (page_at q + 128 * r) (page_at p) ≡ false
ends_elsewhere p q r few other = elim (cases_Bool (ends_in shape (page_at q + 128 * r) (page_at p))) [
  | inl e ↦
      let h = and_parts (leb (page_at p) (page_at q + 128 * r) && leb (page_at q + 128 * r) (page_at p + 128 * 31)) (eqb ((page_at q + 128 * r - page_at p) % 128) 0) e in
      let k = and_parts (leb (page_at p) (page_at q + 128 * r)) (leb (page_at q + 128 * r) (page_at p + 128 * 31)) h.0 in
      let low = leb-true (page_at p) (page_at q + 128 * r) k.0 in
      let high = leb-true (page_at q + 128 * r) (page_at p + 128 * 31) k.1 in
      let same : p ≡ q = omega arith in
      absurd (other same)
  | inr e ↦ e
]

-- a page's positions, and those of the pages after it
joined : (f : ℕ → Entry) (whole front back : List ℕ) (log : List Entry) (n : ℕ) → whole ≡ front ++ back → map f front ≡ take n log → map f back ≡ drop n log →
    map f whole ≡ log
joined f whole front back log n e a b = rw (e, map-append f front back, a, b) (take-append-drop n log)

sound_joined : (f : ℕ → List Question) (whole front back : List ℕ) → whole ≡ front ++ back → first_fault (flat_map f front) ≡ None →
    first_fault (flat_map f back) ≡ None → first_fault (flat_map f whole) ≡ None
sound_joined f whole front back e a b = rw (e, flat_map-append f front back) (clean_after (flat_map f front) (flat_map f back) a b)

-- what a medium must have at the pages: the lines of their parts
pub record HasParts (logs : List (List Entry)) (lines : List (List ℕ)) : Type 0 where
  pub line_of : (n j line : ℕ) → n < length logs → j < page_count (length (log_of logs n)) → line < 64 →
      line_at lines (256 + 64 * page_of (parts_of logs) n j + line) ≡ part_line logs (part n j) line

-- from a part on, the links have no fault, and the entries are the rest of the log
pub record IsRead (logs : List (List Entry)) (lines : List (List ℕ)) (pages n j more : ℕ) : Type 0 where
  pub links : first_fault (link_questions shape pages lines (tail_of logs n) (suc more) (page_at (page_of (parts_of logs) n j))) ≡ None
  pub entries : map (entry_at lines) (chain shape lines (tail_of logs n) (suc more) (page_at (page_of (parts_of logs) n j))) ≡ drop (31 * j) (log_of logs n)
  pub sound : first_fault (flat_map (entry_questions 96 lines) (chain shape lines (tail_of logs n) (suc more) (page_at (page_of (parts_of logs) n j)))) ≡ None

module _ (logs : List (List Entry)) (lines : List (List ℕ)) (pages : ℕ) (n : ℕ) (h : HasParts logs lines) (less : n < length logs)
    (room : length (parts_of logs) ≤ pages) (few : pages ≤ 240) (storable : All IsStorable (log_of logs n)) where
  -- an entry, where it stands
  entry_there : (j k : ℕ) (d : Entry) → j < page_count (length (log_of logs n)) → k < 31 → 31 * j + k < length (log_of logs n) →
      (line_at lines ((page_at (page_of (parts_of logs) n j) + 128 * k) / 64) ≡ first_line (get_or (log_of logs n) (31 * j + k) d))
      × (line_at lines ((page_at (page_of (parts_of logs) n j) + 128 * k) / 64 + 1) ≡ second_line (get_or (log_of logs n) (31 * j + k) d))
  unfolding part_line
  entry_there j k d inside small within =
      let p = page_of (parts_of logs) n j in
      let got = slice_get-get_or (log_of logs n) (31 * j + k) d within in
      let at_first : (page_at p + 128 * k) / 64 ≡ 256 + 64 * p + 2 * k = omega arith in
      let at_second : (page_at p + 128 * k) / 64 + 1 ≡ 256 + 64 * p + (2 * k + 1) = omega arith in
      let half : 2 * k / 2 ≡ k = omega arith in
      let even : 2 * k % 2 ≡ 0 = omega arith in
      let half_up : (2 * k + 1) / 2 ≡ k = omega arith in
      let odd : (2 * k + 1) % 2 ≡ 1 = omega arith in (
        rw at_first (h.line_of n j (2 * k) less inside (omega arith)
            ∙ rw (lt-ltb (2 * k) 62 (omega arith), half, even, got) refl),
        rw at_second (h.line_of n j (2 * k + 1) less inside (omega arith)
            ∙ rw (lt-ltb (2 * k + 1) 62 (omega arith), half_up, odd, got) refl),
      )

  entry_back : (j k : ℕ) (d : Entry) → j < page_count (length (log_of logs n)) → k < 31 → 31 * j + k < length (log_of logs n) →
      entry_at lines (page_at (page_of (parts_of logs) n j) + 128 * k) ≡ get_or (log_of logs n) (31 * j + k) d
  entry_back j k d inside small within =
      let e = entry_there j k d inside small within in
      let one = get_or (log_of logs n) (31 * j + k) d in
      rw (e.0, e.1) (entry_read one (storable (31 * j + k) d within))

  entry_sound : (j k : ℕ) → j < page_count (length (log_of logs n)) → k < 31 → 31 * j + k < length (log_of logs n) → Entry →
      first_fault (entry_questions 96 lines (page_at (page_of (parts_of logs) n j) + 128 * k)) ≡ None
  entry_sound j k inside small within d =
      let e = entry_there j k d inside small within in
      let one = get_or (log_of logs n) (31 * j + k) d in
      let clean = entry_clean one (storable (31 * j + k) d within) in
      rw (e.0, clean) (elim (cases_Bool (is_long (first_line one))) [ inl long ↦ rw long refl | inr short ↦ rw short refl ])

  -- the first r entries of a part
  entries_back : (j r : ℕ) → j < page_count (length (log_of logs n)) → r ≤ 31 → 31 * j + r ≤ length (log_of logs n) →
      map (entry_at lines) (positions_in shape (page_at (page_of (parts_of logs) n j)) r) ≡ take r (drop (31 * j) (log_of logs n))
  entries_back j r inside small within =
      let page = page_at (page_of (parts_of logs) n j) in
      let positions = positions_in shape page r in
      let size : length positions ≡ r = length-map-range_with_len (λ (k : ℕ). page + 128 * k) 0 r in
      let left : r ≤ length (drop (31 * j) (log_of logs n)) = omega (arith, length-drop (31 * j) (log_of logs n)) in
      let size_left = length-map positions (entry_at lines) in
      let size_right = length-take-le r (drop (31 * j) (log_of logs n)) left in
      same_lists (map (entry_at lines) positions) (take r (drop (31 * j) (log_of logs n))) (omega arith) (λ k d below.
      let lower : k < r = omega arith in
      let there : k < length positions = omega arith in
      get_or-map (entry_at lines) positions k 0 d there
      ∙ ap (entry_at lines) (get_or-map-range_with_len (λ (i : ℕ). page + 128 * i) 0 r k k 0 lower (omega arith))
      ∙ entry_back j k d inside (omega arith) (omega arith)
      ∙ sym (get_or-take r (drop (31 * j) (log_of logs n)) k d lower ∙ get_or-drop (31 * j) (log_of logs n) k d))

  entries_sound : (j r : ℕ) → Entry → j < page_count (length (log_of logs n)) → r ≤ 31 → 31 * j + r ≤ length (log_of logs n) →
      first_fault (flat_map (entry_questions 96 lines) (positions_in shape (page_at (page_of (parts_of logs) n j)) r)) ≡ None
  entries_sound j r d inside small within =
      let page = page_at (page_of (parts_of logs) n j) in
      rw (flat_map-map (entry_questions 96 lines) (λ (k : ℕ). page + 128 * k) (range_with_len 0 r))
      (clean_range (λ k. entry_questions 96 lines (page + 128 * k)) 0 r (λ k low below. entry_sound j k inside (omega arith) (omega arith) d))

  last : ℕ
  last = last_part logs n

  rest : ℕ
  rest = length (log_of logs n) - 31 * last

  page : ℕ → ℕ
  page j = page_at (page_of (parts_of logs) n j)

  bounds : (k : ℕ) → (1 ≤ page_count k) × (31 * (page_count k - 1) ≤ k) × (k ≤ 31 * page_count k)
  bounds k = (omega arith, omega arith, omega arith)

  nothing : Entry
  nothing = record { operation = 0; kind = Write; name = []; value = 0 }

  walk_last : (more : ℕ) → IsRead logs lines pages n last more
  unfolding last rest page chain link_questions
  walk_last more =
      let b = bounds (length (log_of logs n)) in
      let few_left : rest ≤ 31 = omega arith in
      let here = ends_here (page_of (parts_of logs) n last) rest few_left in
      let pos : zero < 128 = omega arith in
      let inside : page last + 128 * rest - page last ≡ 128 * rest = omega arith in
      let count : (page last + 128 * rest - page last) / 128 ≡ rest = rw inside (mul-div_cancel_left rest pos) in
      let all : chain shape lines (tail_of logs n) (suc more) (page last) ≡ positions_in shape (page last) rest =
      rw (here, count) (append-nil (positions_in shape (page last) rest)) in
      let end : rest ≤ length (drop (31 * last) (log_of logs n)) = omega (arith, length-drop (31 * last) (log_of logs n)) in
      let whole : take rest (drop (31 * last) (log_of logs n)) ≡ drop (31 * last) (log_of logs n) =
      take_all rest (drop (31 * last) (log_of logs n)) (omega (arith, length-drop (31 * last) (log_of logs n))) in
      record {
        links = rw here refl;
        entries = rw all (entries_back last rest (omega arith) few_left (omega arith) ∙ whole);
        sound = rw all (entries_sound last rest nothing (omega arith) few_left (omega arith));
      }

  linked : (j : ℕ) → j < last → loaded (line_at lines ((page j + 128 * 31) / 64)) 0 8 ≡ page (j + 1)
  unfolding last page part_line
  linked j before =
      let p = page_of (parts_of logs) n j in
      let next = page (j + 1) in
      let below = page_below logs n (j + 1) less (omega arith) in
      let small : next < 2 ^ 64 = omega arith in
      let place : (page j + 128 * 31) / 64 ≡ 256 + 64 * p + 62 = omega arith in
      let after : link_after logs (part n j) ≡ next = rw (lt-ltb j last before) refl in
      rw (place, h.line_of n j 62 less (omega arith) (omega arith), after) (number_read next (replicate 56 0) small)

  walk : (k j more : ℕ) → j + k ≡ last → k ≤ more → IsRead logs lines pages n j more
  unfolding last rest page chain link_questions link_fault
  walk zero j more e f = let same : j ≡ last = omega arith in rw same (walk_last more)
  walk (suc k) j zero e f = absurd (omega arith)
  walk (suc k) j (suc more) e f =
      let b = bounds (length (log_of logs n)) in
      let tail = tail_of logs n in
      let next = page (j + 1) in
      let few_left : rest ≤ 31 = omega arith in
      let before : j < last = omega arith in
      let no = ends_elsewhere (page_of (parts_of logs) n j) (page_of (parts_of logs) n last) rest few_left
      (λ same. let equal = pages_apart logs n j last less (omega arith) (omega arith) same in absurd (omega arith)) in
      let link = linked j before in
      let below = page_below logs n (j + 1) less (omega arith) in
      let some : eqb next 0 ≡ false = ne_eqb next 0 (λ z. absurd (omega arith)) in
      let good = page_is pages (page_of (parts_of logs) n (j + 1)) (omega arith) in
      let ih = walk k (j + 1) more (omega arith) (omega arith) in
      let goes : chain shape lines tail (suc (suc more)) (page j) ≡ positions_in shape (page j) 31 ++ chain shape lines tail (suc more) next = rw (no, link) refl in
      let further : 31 * (j + 1) ≡ 31 * j + 31 = omega arith in
      let tails : drop (31 * (j + 1)) (log_of logs n) ≡ drop 31 (drop (31 * j) (log_of logs n)) = rw further (sym (drop-drop 31 (31 * j) (log_of logs n))) in
      let full : 31 * j + 31 ≤ length (log_of logs n) = omega arith in
      let part_back = entries_back j 31 (omega arith) (omega arith) full in
      record {
        links = rw (no, link, some, good, lt-ltb 0 (suc more) (omega arith)) ih.links;
        entries = joined (entry_at lines) (chain shape lines tail (suc (suc more)) (page j)) (positions_in shape (page j) 31) (chain shape lines tail (suc more) next)
            (drop (31 * j) (log_of logs n)) 31 goes part_back (ih.entries ∙ tails);
        sound = sound_joined (entry_questions 96 lines) (chain shape lines tail (suc (suc more)) (page j)) (positions_in shape (page j) 31) (chain shape lines tail (suc more) next)
            goes (entries_sound j 31 nothing (omega arith) (omega arith) full) ih.sound;
      }

  -- the whole chain, from the inode's page
  pub whole_read : IsRead logs lines pages n 0 (pages - 1)
  unfolding last
  whole_read =
      let b = bounds (length (log_of logs n)) in
      let below = page_below logs n last less (omega arith) in
      walk last 0 (pages - 1) (omega arith) (omega (arith, count_fits logs n less))
