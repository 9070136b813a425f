-- What the segments give, entry by entry.
use Rattle.std.proofs.Common.{◌≡◌, ◌≢◌, ◌⊎◌, ◌+◌, ◌-◌, ◌<◌, ◌≤◌, ◌==◌, ◌&&◌, ◌++◌, cond, not, true, false, Bool, ℕ, zero, suc, List, length, get_or, take, drop, [], refl, sym, ap, subst, ◌∙◌, add-one, arith, inl, inr}
use Rattle.std.proofs.lemmas.Bool.{and_cases, and_from, and_left, and_parts, and_right, cases_Bool, cases_lt, eqb-false, eqb-true, le-leb, le-ltb, leb-false, leb-true, lt-leb, lt-ltb, ltb-false, ltb-true, not-false, not-true}
use Rattle.std.proofs.lemmas.List.{ext_get_or, get_or_append_left, get_or-append_right, get_or-drop, get_or-replicate, get_or-take, length-append, length-drop, length-replicate, length-take}
use Rattle.std.proofs.lemmas.List.FromFn.{get_or-map-range_with_len, length-map-range_with_len}
use Rattle.std.specs.Prelude.{nat_le, nat_lt, replicate}
use Rattle.std.specs.Int.{next_multiple_of}
use Rattle.program.specs.Sections.{AreWithinLimits, Sections}
use Rattle.elf_file.specs.Header.{HasHeader, header_count}
use Rattle.elf_file.specs.Segments.{AreRightHeaders, IsPlaced, IsRightHeader, IsRightSegment, data_region, end_before, end_behind, has_bytes_in, header_at, is_segment, text_region}
use Rattle.elf_file.specs.Executable.{IsExecutableOf, IsRegion, byte_at, bytes_from, data_of, extent, holds, text_of}
use Rattle.elf_file.specs.declared.program_header.ProgramHeader.{ProgramHeader}
use Rattle.elf_file.specs.declared.program_header.Region.{Region}

-- ---- what the tests of an entry say

-- where the bytes stand that an entry has in the file for a region
pub record HasBytes (region : Region) (header : ProgramHeader) : Type 0 where
  pub segment : is_segment header ≡ true
  pub some : header.file_size ≢ 0
  pub begins : region.base ≤ header.address
  pub ends : header.address < region.base + region.size

pub bytes_there : (region : Region) (header : ProgramHeader) → has_bytes_in region header ≡ true → HasBytes region header
bytes_there region header e =
    let tail : Bool = nat_le region.base header.address && nat_lt header.address (region.base + region.size) in
    let outer = and_parts (is_segment header) (not (header.file_size == 0) && tail) e in
    let inner = and_parts (not (header.file_size == 0)) tail outer.1 in
    let bounds = and_parts (nat_le region.base header.address) (nat_lt header.address (region.base + region.size)) inner.1 in
    record {
      segment = outer.0;
      some = eqb-false header.file_size 0 (not-true (header.file_size == 0) inner.0);
      begins = leb-true region.base header.address bounds.0;
      ends = ltb-true header.address (region.base + region.size) bounds.1;
    }

-- an entry without such bytes
no_bytes_there : (region : Region) (header : ProgramHeader) → has_bytes_in region header ≡ false
    → (is_segment header ≡ false) ⊎ ((header.file_size ≡ 0) ⊎ ((header.address < region.base) ⊎ (region.base + region.size ≤ header.address)))
no_bytes_there region header e =
    let tail : Bool = nat_le region.base header.address && nat_lt header.address (region.base + region.size) in
    elim (and_cases (is_segment header) (not (header.file_size == 0) && tail) e) [
      | inl n ↦ inl n
      | inr m ↦ inr (elim (and_cases (not (header.file_size == 0)) tail m) [
        | inl empty ↦ inl (eqb-true header.file_size 0 (not-false (header.file_size == 0) empty))
        | inr outside ↦ inr (elim (and_cases (nat_le region.base header.address) (nat_lt header.address (region.base + region.size)) outside) [
          | inl below ↦ inl (leb-false region.base header.address below)
          | inr above ↦ inr (ltb-false header.address (region.base + region.size) above)
        ])
      ])
    ]

holds_it : (header : ProgramHeader) (address : ℕ) → is_segment header ≡ true → header.address ≤ address → address < header.address + header.file_size → holds header address ≡ true
holds_it header address segment begins ends =
    and_from (is_segment header) (nat_le header.address address && nat_lt address (header.address + header.file_size)) segment
    (and_from (nat_le header.address address) (nat_lt address (header.address + header.file_size))
    (le-leb header.address address begins) (lt-ltb address (header.address + header.file_size) ends))

holds_no : (header : ProgramHeader) (address : ℕ) → is_segment header ≡ false → holds header address ≡ false
holds_no header address none = and_left (is_segment header) (nat_le header.address address && nat_lt address (header.address + header.file_size)) none

holds_none_below : (header : ProgramHeader) (address : ℕ) → address < header.address → holds header address ≡ false
holds_none_below header address below =
    and_right (is_segment header) (nat_le header.address address && nat_lt address (header.address + header.file_size))
    (and_left (nat_le header.address address) (nat_lt address (header.address + header.file_size)) (lt-leb header.address address below))

holds_none_above : (header : ProgramHeader) (address : ℕ) → header.address + header.file_size ≤ address → holds header address ≡ false
holds_none_above header address above =
    and_right (is_segment header) (nat_le header.address address && nat_lt address (header.address + header.file_size))
    (and_right (nat_le header.address address) (nat_lt address (header.address + header.file_size)) (le-ltb address (header.address + header.file_size) above))

-- ---- one more entry

byte_held : (file : List ℕ) (n address : ℕ) → holds (header_at file n) address ≡ true
    → byte_at file (suc n) address ≡ get_or file ((header_at file n).offset + (address - (header_at file n).address)) 0
byte_held file n address e =
    ap (λ (b : Bool). cond b (get_or file ((header_at file n).offset + (address - (header_at file n).address)) 0) (byte_at file n address)) e

byte_not_held : (file : List ℕ) (n address : ℕ) → holds (header_at file n) address ≡ false → byte_at file (suc n) address ≡ byte_at file n address
byte_not_held file n address e =
    ap (λ (b : Bool). cond b (get_or file ((header_at file n).offset + (address - (header_at file n).address)) 0) (byte_at file n address)) e

extent_there : (region : Region) (file : List ℕ) (n : ℕ) → has_bytes_in region (header_at file n) ≡ true
    → extent region file (suc n) ≡ (header_at file n).address + (header_at file n).file_size - region.base
extent_there region file n e =
    ap (λ (b : Bool). cond b ((header_at file n).address + (header_at file n).file_size - region.base) (extent region file n)) e

extent_same : (region : Region) (file : List ℕ) (n : ℕ) → has_bytes_in region (header_at file n) ≡ false → extent region file (suc n) ≡ extent region file n
extent_same region file n e =
    ap (λ (b : Bool). cond b ((header_at file n).address + (header_at file n).file_size - region.base) (extent region file n)) e

end_of_segment : (end : ℕ) (header : ProgramHeader) → is_segment header ≡ true → end_behind end header ≡ header.address + header.memory_size
end_of_segment end header e = ap (λ (b : Bool). cond b (header.address + header.memory_size) end) e

end_same : (end : ℕ) (header : ProgramHeader) → is_segment header ≡ false → end_behind end header ≡ end
end_same end header e = ap (λ (b : Bool). cond b (header.address + header.memory_size) end) e

kind_of : (header : ProgramHeader) → is_segment header ≡ true → header.kind ≡ 1
kind_of header segment = eqb-true header.kind 1 (and_parts (header.kind == 1) (not (header.memory_size == 0)) segment).0

sizes_of : (file : List ℕ) (end : ℕ) (header : ProgramHeader) → IsRightHeader file end header → is_segment header ≡ true → header.file_size ≤ header.memory_size
sizes_of file end header right segment = right.sizes (kind_of header segment)

end_grows : (file : List ℕ) (end : ℕ) (header : ProgramHeader) → IsRightHeader file end header → end ≤ end_behind end header
end_grows file end header right =
    elim (cases_Bool (is_segment header)) [
      | inl has ↦ let upwards : end ≤ header.address = (right.segment has).upwards in omega (arith, end_of_segment end header has)
      | inr lacks ↦ omega (arith, end_same end header lacks)
    ]

-- ---- where a region's bytes stand

-- the two regions, as numbers
region_is : (region : Region) → IsRegion region → ((region.base ≡ 0x1_0000) × (region.size ≡ 0x1_0000)) ⊎ ((region.base ≡ 0x10_0000) × (region.size ≡ 0x10_0000))
region_is region is =
    elim is [
      | inl e ↦ inl (ap (λ (r : Region). r.base) e, ap (λ (r : Region). r.size) e)
      | inr e ↦ inr (ap (λ (r : Region). r.base) e, ap (λ (r : Region). r.size) e)
    ]

-- a segment that begins in a region ends in it
within_here : (region : Region) (header : ProgramHeader) → IsRegion region → IsPlaced header → region.base ≤ header.address → header.address < region.base + region.size
    → header.address + header.memory_size ≤ region.base + region.size
within_here region header is placed begins ends =
    elim (region_is region is) [
      | inl t ↦ elim placed.place [ inl in_text ↦ omega (arith, t.0, t.1, in_text.ends) | inr in_data ↦ absurd (omega (arith, t.0, t.1, in_data.begins)) ]
      | inr d ↦ elim placed.place [ inl in_text ↦ omega (arith, d.0, d.1, in_text.ends) | inr in_data ↦ omega (arith, d.0, d.1, in_data.ends) ]
    ]

-- one that begins below a region ends below it
below_here : (region : Region) (header : ProgramHeader) → IsRegion region → IsPlaced header → header.address < region.base → header.address + header.memory_size ≤ region.base
below_here region header is placed below =
    elim (region_is region is) [
      | inl t ↦ elim placed.place [ inl in_text ↦ absurd (omega (arith, t.0, in_text.begins)) | inr in_data ↦ absurd (omega (arith, t.0, in_data.begins)) ]
      | inr d ↦ elim placed.place [ inl in_text ↦ omega (arith, d.0, in_text.ends) | inr in_data ↦ absurd (omega (arith, d.0, in_data.begins)) ]
    ]

-- how far a region's bytes go
pub record Reaches (region : Region) (file : List ℕ) (n : ℕ) : Type 0 where
  pub below_end : extent region file n ≤ end_before file n - region.base
  pub in_region : extent region file n ≤ region.size

earlier : (file : List ℕ) (n : ℕ) → AreRightHeaders file (suc n) → AreRightHeaders file n
earlier file n right k less = right k (omega arith)

pub reaches : (region : Region) (file : List ℕ) (n : ℕ) → IsRegion region → AreRightHeaders file n → Reaches region file n
reaches region file zero is right = record { below_end = omega arith; in_region = omega arith }
reaches region file (suc n) is right =
    let before : Reaches region file n = reaches region file n is (earlier file n right) in
    let header = header_at file n in
    let end = end_before file n in
    let here : IsRightHeader file end header = right n (omega arith) in
    let grows : end ≤ end_behind end header = end_grows file end header here in
    elim (cases_Bool (has_bytes_in region header)) [
      | inl has ↦
          let there : HasBytes region header = bytes_there region header has in
          let sizes : header.file_size ≤ header.memory_size = sizes_of file end header here there.segment in
          let within : header.address + header.memory_size ≤ region.base + region.size =
          within_here region header is (here.segment there.segment).placed there.begins there.ends in
          let end_is : end_behind end header ≡ header.address + header.memory_size = end_of_segment end header there.segment in
          let is_there = extent_there region file n has in
          record { below_end = omega (arith, is_there); in_region = omega (arith, is_there) }
      | inr lacks ↦
          let is_same = extent_same region file n lacks in
          record { below_end = omega (arith, is_same, before.below_end); in_region = omega (arith, is_same, before.in_region) }
    ]

-- an entry without bytes for the region holds lacks address of it
not_here : (region : Region) (file : List ℕ) (end : ℕ) (header : ProgramHeader) (address : ℕ) → IsRegion region → IsRightHeader file end header
    → has_bytes_in region header ≡ false → region.base ≤ address → address < region.base + region.size → holds header address ≡ false
not_here region file end header address is right lacks begins ends =
    elim (cases_Bool (is_segment header)) [
      | inr none ↦ holds_no header address none
      | inl segment ↦
          let sizes : header.file_size ≤ header.memory_size = sizes_of file end header right segment in
          elim (no_bytes_there region header lacks) [
            | inl none ↦ holds_no header address none
            | inr other ↦ elim other [
              | inl empty ↦ elim (cases_lt address header.address) [
                | inl below ↦ holds_none_below header address below
                | inr above ↦ holds_none_above header address (omega (arith, empty))
              ]
              | inr outside ↦ elim outside [
                | inl below ↦
                    let ends_below : header.address + header.memory_size ≤ region.base = below_here region header is (right.segment segment).placed below in
                    holds_none_above header address (omega arith)
                | inr above ↦ holds_none_below header address (omega arith)
              ]
            ]
          ]
    ]

-- past a region's bytes are zeros
pub nothing_past : (region : Region) (file : List ℕ) (n address : ℕ) → IsRegion region → AreRightHeaders file n
    → region.base + extent region file n ≤ address → address < region.base + region.size → byte_at file n address ≡ 0
nothing_past region file zero address is right past within = refl
nothing_past region file (suc n) address is right past within =
    let header = header_at file n in
    let end = end_before file n in
    let here : IsRightHeader file end header = right n (omega arith) in
    let before : Reaches region file n = reaches region file n is (earlier file n right) in
    elim (cases_Bool (has_bytes_in region header)) [
      | inl has ↦
          let there : HasBytes region header = bytes_there region header has in
          let upwards : end ≤ header.address = (here.segment there.segment).upwards in
          let is_there = extent_there region file n has in
          let above : header.address + header.file_size ≤ address = omega (arith, is_there, there.begins) in
          byte_not_held file n address (holds_none_above header address above)
          ∙ nothing_past region file n address is (earlier file n right) (omega (arith, before.below_end, there.begins)) within
      | inr lacks ↦
          let is_same = extent_same region file n lacks in
          byte_not_held file n address (not_here region file end header address is here lacks (omega (arith, past)) within)
          ∙ nothing_past region file n address is (earlier file n right) (omega (arith, is_same, past)) within
    ]

-- ---- the bytes so far

-- the bytes are those that the first entries give a region
pub record IsLoaded (file : List ℕ) (region : Region) (n : ℕ) (bytes : List ℕ) : Type 0 where
  pub size : length bytes ≡ extent region file n
  pub bytes_are : (at : ℕ) → at < length bytes → get_or bytes at 0 ≡ byte_at file n (region.base + at)

pub nothing_loaded : (file : List ℕ) (region : Region) → IsLoaded file region 0 []
nothing_loaded file region = record { size = refl; bytes_are = λ at less. absurd (omega (arith, less)) }

pub passed_over : (file : List ℕ) (region : Region) (n : ℕ) (bytes : List ℕ) → IsRegion region → AreRightHeaders file (suc n)
    → has_bytes_in region (header_at file n) ≡ false → IsLoaded file region n bytes → IsLoaded file region (suc n) bytes
passed_over file region n bytes is right lacks loaded =
    let before : Reaches region file n = reaches region file n is (earlier file n right) in
    record {
      size = loaded.size ∙ sym (extent_same region file n lacks);
      bytes_are = λ at less.
          loaded.bytes_are at less
          ∙ sym (byte_not_held file n (region.base + at) (not_here region file (end_before file n) (header_at file n) (region.base + at) is (right n (omega arith)) lacks
          (omega arith) (omega (arith, less, loaded.size, before.in_region))));
    }

-- what is known of a segment with bytes for a region, behind the earlier ones
pub record IsNext (file : List ℕ) (region : Region) (n : ℕ) (header : ProgramHeader) : Type 0 where
  pub begins : region.base ≤ header.address
  pub ends : header.address + header.file_size ≤ region.base + region.size
  pub behind : region.base + extent region file n ≤ header.address
  pub in_file : header.offset + header.file_size ≤ length file

pub next_of : (file : List ℕ) (region : Region) (n : ℕ) → IsRegion region → AreRightHeaders file (suc n) → has_bytes_in region (header_at file n) ≡ true
    → IsNext file region n (header_at file n)
next_of file region n is right has =
    let header = header_at file n in
    let end = end_before file n in
    let here : IsRightHeader file end header = right n (omega arith) in
    let there : HasBytes region header = bytes_there region header has in
    let before : Reaches region file n = reaches region file n is (earlier file n right) in
    let segment : IsRightSegment file end header = here.segment there.segment in
    let sizes : header.file_size ≤ header.memory_size = sizes_of file end header here there.segment in
    let within : header.address + header.memory_size ≤ region.base + region.size = within_here region header is segment.placed there.begins there.ends in
    record {
      begins = there.begins;
      ends = omega arith;
      behind = omega (arith, before.below_end, segment.upwards, there.begins);
      in_file = segment.in_file;
    }

pub added : (file : List ℕ) (region : Region) (n : ℕ) (bytes more : List ℕ) → IsRegion region → AreRightHeaders file (suc n)
    → has_bytes_in region (header_at file n) ≡ true → IsLoaded file region n bytes → length more ≡ (header_at file n).file_size
    → ((at : ℕ) → at < length more → get_or more at 0 ≡ get_or file ((header_at file n).offset + at) 0)
    → IsLoaded file region (suc n) ((bytes ++ replicate ((header_at file n).address - region.base - length bytes) 0) ++ more)
added file region n bytes more is right has loaded long content =
    let header = header_at file n in
    let next : IsNext file region n header = next_of file region n is right has in
    let there : HasBytes region header = bytes_there region header has in
    let start : ℕ = header.address - region.base in
    let gap : List ℕ = replicate (start - length bytes) 0 in
    let front : List ℕ = bytes ++ gap in
    let before : AreRightHeaders file n = earlier file n right in
    let gap_long : length gap ≡ start - length bytes = length-replicate (start - length bytes) 0 in
    let front_long : length front ≡ start = omega (arith, length-append bytes gap, loaded.size, next.behind, gap_long) in
    let whole_long : length (front ++ more) ≡ start + header.file_size = omega (arith, length-append front more, front_long, long) in
    let is_there = extent_there region file n has in
    let size : length (front ++ more) ≡ extent region file (suc n) = omega (arith, is_there, whole_long, next.begins) in
    let below : (at : ℕ) → at < start → byte_at file (suc n) (region.base + at) ≡ byte_at file n (region.base + at) =
    λ at less. byte_not_held file n (region.base + at) (holds_none_below header (region.base + at) (omega (arith, less, next.begins))) in
    record {
      size = size;
      bytes_are = λ at less.
          elim (cases_lt at start) [
            | inl in_front ↦
                get_or_append_left front more 0 at (omega (arith, in_front, front_long))
                ∙ elim (cases_lt at (length bytes)) [
                  | inl old ↦ get_or_append_left bytes gap 0 at old ∙ loaded.bytes_are at old ∙ sym (below at in_front)
                  | inr zero_there ↦
                      get_or-append_right bytes gap (length bytes) at 0 refl zero_there
                      ∙ get_or-replicate (start - length bytes) (at - length bytes) 0 0 (omega (arith, in_front, zero_there))
                      ∙ sym (below at in_front ∙ nothing_past region file n (region.base + at) is before (omega (arith, zero_there, loaded.size)) (omega (arith, in_front, next.ends, next.begins)))
                ]
            | inr in_more ↦
                let place : region.base + at - header.address ≡ at - start = omega (arith, next.begins, in_more) in
                get_or-append_right front more start at 0 front_long in_more
                ∙ content (at - start) (omega (arith, less, whole_long, long, in_more))
                ∙ ap (λ (k : ℕ). get_or file (header.offset + k) 0) (sym place)
                ∙ sym (byte_held file n (region.base + at)
                (holds_it header (region.base + at) there.segment (omega (arith, in_more, next.begins)) (omega (arith, less, whole_long, next.begins))))
          ];
    }

-- ---- all entries

pub all_loaded : (file : List ℕ) (region : Region) (bytes : List ℕ) → IsLoaded file region (header_count file) bytes
    → bytes ≡ bytes_from file region.base (extent region file (header_count file))
all_loaded file region bytes loaded =
    let n = header_count file in
    let size = extent region file n in
    ext_get_or 0 bytes (bytes_from file region.base size) (loaded.size ∙ sym (length-map-range_with_len (byte_at file n) region.base size))
    (λ at less. loaded.bytes_are at less ∙ sym (get_or-map-range_with_len (byte_at file n) region.base size at (region.base + at) 0 (omega (arith, less, loaded.size)) refl))

-- zeros behind a region's bytes
pub filled_up : (file : List ℕ) (region : Region) (size : ℕ) (bytes : List ℕ) → IsRegion region → AreRightHeaders file (header_count file)
    → bytes ≡ bytes_from file region.base (extent region file (header_count file)) → extent region file (header_count file) ≤ size → size ≤ region.size
    → bytes ++ replicate (size - length bytes) 0 ≡ bytes_from file region.base size
filled_up file region size bytes is right bytes_is larger fits =
    let n = header_count file in
    let reach : ℕ = extent region file n in
    let f : ℕ → ℕ = byte_at file n in
    let long : length bytes ≡ reach = ap (λ (b : List ℕ). length b) bytes_is ∙ length-map-range_with_len f region.base reach in
    let gap : List ℕ = replicate (size - length bytes) 0 in
    let gap_long : length gap ≡ size - length bytes = length-replicate (size - length bytes) 0 in
    let whole_long : length (bytes ++ gap) ≡ size = omega (arith, length-append bytes gap, long, gap_long) in
    ext_get_or 0 (bytes ++ gap) (bytes_from file region.base size) (whole_long ∙ sym (length-map-range_with_len f region.base size))
    (λ at less.
    let inside : at < size = omega (arith, less, whole_long) in
    let wanted : get_or (bytes_from file region.base size) at 0 ≡ f (region.base + at) =
    get_or-map-range_with_len f region.base size at (region.base + at) 0 inside refl in
    elim (cases_lt at reach) [
      | inl old ↦
          get_or_append_left bytes gap 0 at (omega (arith, old, long))
          ∙ ap (λ (b : List ℕ). get_or b at 0) bytes_is
          ∙ get_or-map-range_with_len f region.base reach at (region.base + at) 0 old refl
          ∙ sym wanted
      | inr past ↦
          get_or-append_right bytes gap (length bytes) at 0 refl (omega (arith, past, long))
          ∙ get_or-replicate (size - length bytes) (at - length bytes) 0 0 (omega (arith, past, long, inside))
          ∙ sym (wanted ∙ nothing_past region file n (region.base + at) is right (omega (arith, past)) (omega (arith, inside)))
    ])

-- ---- as the code says it

right_through : (file : List ℕ) (count n : ℕ) → AreRightHeaders file count → n < count → AreRightHeaders file (suc n)
right_through file count n right less k below = right k (omega (arith, less, below))

pub next_at : (file : List ℕ) (region : Region) (count n : ℕ) (header : ProgramHeader) → IsRegion region → AreRightHeaders file count → n < count
    → header ≡ header_at file n → has_bytes_in region header ≡ true → IsNext file region n header
next_at file region count n header is right less header_is has =
    let has_there : has_bytes_in region (header_at file n) ≡ true = ap (λ (h : ProgramHeader). has_bytes_in region h) (sym header_is) ∙ has in
    let family : ProgramHeader → Type 0 = λ (h : ProgramHeader). IsNext file region n h in
    subst family (sym header_is) (next_of file region n is (right_through file count n right less) has_there)

-- one more entry with bytes
pub added_at : (file : List ℕ) (region : Region) (count n : ℕ) (bytes : List ℕ) (header : ProgramHeader) → IsRegion region → AreRightHeaders file count → n < count
    → header ≡ header_at file n → has_bytes_in region header ≡ true → IsLoaded file region n bytes
    → IsLoaded file region (n + 1) ((bytes ++ replicate (header.address - region.base - length bytes) 0) ++ take header.file_size (drop header.offset file))
added_at file region count n bytes header is right less header_is has loaded =
    let h : ProgramHeader = header_at file n in
    let has_there : has_bytes_in region h ≡ true = ap (λ (x : ProgramHeader). has_bytes_in region x) (sym header_is) ∙ has in
    let rights : AreRightHeaders file (suc n) = right_through file count n right less in
    let next : IsNext file region n h = next_of file region n is rights has_there in
    let more : List ℕ = take h.file_size (drop h.offset file) in
    let long : length more ≡ h.file_size = omega (arith, length-take h.file_size (drop h.offset file), length-drop h.offset file, next.in_file) in
    let content : (at : ℕ) → at < length more → get_or more at 0 ≡ get_or file (h.offset + at) 0 =
    λ at inside. get_or-take h.file_size (drop h.offset file) at 0 (omega (arith, inside, long)) ∙ get_or-drop h.offset file at 0 in
    let family : ProgramHeader → Type 0 =
    λ (x : ProgramHeader). IsLoaded file region (suc n) ((bytes ++ replicate (x.address - region.base - length bytes) 0) ++ take x.file_size (drop x.offset file)) in
    rw add-one (subst family (sym header_is) (added file region n bytes more is rights has_there loaded long content))

-- and one without
pub passed_at : (file : List ℕ) (region : Region) (count n : ℕ) (bytes : List ℕ) (header : ProgramHeader) → IsRegion region → AreRightHeaders file count → n < count
    → header ≡ header_at file n → has_bytes_in region header ≡ false → IsLoaded file region n bytes → IsLoaded file region (n + 1) bytes
passed_at file region count n bytes header is right less header_is lacks loaded =
    let lacks_there : has_bytes_in region (header_at file n) ≡ false = ap (λ (x : ProgramHeader). has_bytes_in region x) (sym header_is) ∙ lacks in
    rw add-one (passed_over file region n bytes is (right_through file count n right less) lacks_there loaded)

-- the text, in whole words
pub rounded_up : (file bytes : List ℕ) → AreRightHeaders file (header_count file) → bytes ≡ bytes_from file 0x1_0000 (extent text_region file (header_count file))
    → bytes ++ replicate (next_multiple_of (length bytes) 4 - length bytes) 0 ≡ text_of file
rounded_up file bytes right bytes_is =
    let n = header_count file in
    let reach : ℕ = extent text_region file n in
    let fits : reach ≤ 0x1_0000 = (reaches text_region file n (inl refl) right).in_region in
    let long : length bytes ≡ reach = ap (λ (b : List ℕ). length b) bytes_is ∙ length-map-range_with_len (byte_at file n) 0x1_0000 reach in
    ap (λ (m : ℕ). bytes ++ replicate (next_multiple_of m 4 - length bytes) 0) long
    ∙ filled_up file text_region (next_multiple_of reach 4) bytes (inl refl) right bytes_is (omega arith) (omega (arith, fits))

-- both sections keep their limits
pub within_limits : (file : List ℕ) → AreRightHeaders file (header_count file) → AreWithinLimits (text_of file) (data_of file)
within_limits file right =
    let n = header_count file in
    let text_reach : ℕ = extent text_region file n in
    let data_reach : ℕ = extent data_region file n in
    let text_fits : text_reach ≤ 0x1_0000 = (reaches text_region file n (inl refl) right).in_region in
    let data_fits : data_reach ≤ 0x10_0000 = (reaches data_region file n (inr refl) right).in_region in
    let text_long : length (text_of file) ≡ next_multiple_of text_reach 4 = length-map-range_with_len (byte_at file n) 0x1_0000 (next_multiple_of text_reach 4) in
    let data_long : length (data_of file) ≡ data_reach = length-map-range_with_len (byte_at file n) 0x10_0000 data_reach in
    record {
      whole_words = omega (arith, text_long);
      text_fits = omega (arith, text_long, text_fits);
      data_fits = omega (arith, data_long, data_fits);
    }

-- a file without a fault has a program
pub has_program : (file : List ℕ) → HasHeader file → AreRightHeaders file (header_count file) → (object : Sections) × IsExecutableOf file object
has_program file header headers = (
  record { text = text_of file; static_data = data_of file },
  record { header = header; headers = headers; text = refl; static_data = refl },
)
