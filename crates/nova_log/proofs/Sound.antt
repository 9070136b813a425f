-- What a medium with a volume holds: counts within their limits, and entries that can be stored.
use Rattle.std.proofs.Common.{◌≡◌, ℕ, ◌+◌, ◌/◌, ◌≤◌, Bool, true, false, ◌&&◌, cond, eqb, leb, List, [], ◌∷◌, ◌++◌, Option, None, Some, Ok, length, map, take, drop, slice_index, refl, sym, ap, ◌∙◌, arith, inl, inr}
use Rattle.std.proofs.lemmas.Bool.{and_parts, cases_Bool, cases_eq, cases_lt, eqb-true, le-leb, leb-true, ne_eqb}
use Rattle.std.proofs.lemmas.List.{get_or_past, length-append, length-drop, length-map, length-take}
use Rattle.std.proofs.lemmas.List.Elements.{All-cons, All-nil}
use Rattle.std.proofs.lemmas.List.FromFn.{length-map-range_with_len}
use Rattle.std.specs.List.{All, flat_map, range_with_len}
use Rattle.std.specs.Option.{unwrap_or}
use Rattle.line_memory.specs.Lines.{line_at}
use Rattle.word_bits.specs.Bytes.{loaded}
use Rattle.nova_log.specs.Chains.{link_questions}
use Rattle.nova_log.specs.Entries.{entry_at, entry_fault, entry_in, entry_questions, is_long, kind_of, length_fits}
use Rattle.nova_log.specs.Inodes.{inode_at, inode_questions, inodes_of}
use Rattle.nova_log.specs.Journals.{journal_questions}
use Rattle.nova_log.specs.Layouts.{shape_of}
use Rattle.nova_log.specs.Questions.{first_fault, question}
use Rattle.nova_log.specs.Superblocks.{counts_fault, counts_fit, geometry_in, geometry_of, layout_of, superblock_fault, superblock_question}
use Rattle.nova_log.specs.Volumes.{log_in, log_questions, logs_of, positions_of, recovery_questions, unless_fault, volume_of}
use Rattle.nova_log.specs.declared.fault.VolumeFault.{VolumeFault}
use Rattle.nova_log.specs.declared.inode.Inode.{Inode}
use Rattle.nova_log.specs.declared.layout.Layout.{Layout}
use Rattle.nova_log.specs.declared.layout.Layout.TheVariants.{One, Two}
use Rattle.nova_log.specs.declared.superblock.Geometry.{Geometry}
use Rattle.nova_log.specs.declared.volume.entry.Entry.{Entry}
use Rattle.nova_log.specs.Upgraded.{IsOfBytes}
use Rattle.nova_log.specs.Written.{kind_number}
use Rattle.nova_log.proofs.Faults.{clean_both}
use Rattle.nova_log.proofs.Numbers.{loaded_below}
use Rattle.nova_log.proofs.StoredEntries.{IsStorable}

-- the parts of an entry's test
pub record IsClean (longest : ℕ) (line : List ℕ) : Type 0 where
  pub some : 1 ≤ slice_index line 0
  pub few : slice_index line 0 ≤ 3
  pub fits : length_fits longest (slice_index line 0) (slice_index line 1) ≡ true

clean_is : (longest : ℕ) (line : List ℕ) → entry_fault longest line ≡ None → IsClean longest line
unfolding entry_fault
clean_is longest line e = elim (cases_Bool (leb 1 (slice_index line 0) && leb (slice_index line 0) 3)) [
  | inr bad ↦ let h = rw bad at e in absurd (cc)
  | inl good ↦ elim (cases_Bool (length_fits longest (slice_index line 0) (slice_index line 1) && eqb (loaded line 2 6) 0)) [
    | inr bad ↦ let h = rw (good, bad) at e in absurd (cc)
    | inl fine ↦
        let k = and_parts (leb 1 (slice_index line 0)) (leb (slice_index line 0) 3) good in
        let f = and_parts (length_fits longest (slice_index line 0) (slice_index line 1)) (eqb (loaded line 2 6) 0) fine in
        record { some = leb-true 1 (slice_index line 0) k.0; few = leb-true (slice_index line 0) 3 k.1; fits = f.0 }
  ]
]

-- a name cut from enough bytes fits as its length did
name_fits : (longest kind size : ℕ) (bytes : List ℕ) → longest ≤ 96 → 40 ≤ length bytes → 1 ≤ kind → kind ≤ 3 → length_fits longest kind size ≡ true →
    length_fits 96 (kind_number (kind_of kind)) (length (take size bytes)) ≡ true
name_fits longest kind size bytes short many some few e =
    let cut = length-take size bytes in
    elim (cases_eq kind 1) [
      | inl write ↦
          let h : eqb size 0 ≡ true = rw write at e in
          let none : size ≡ 0 = eqb-true size 0 h in
          rw (write, none) refl
      | inr other ↦
          let h : (leb 1 size && leb size longest) ≡ true = rw (ne_eqb kind 1 other) at e in
          let parts = and_parts (leb 1 size) (leb size longest) h in
          let low = leb-true 1 size parts.0 in
          let high = leb-true size longest parts.1 in
          let from : leb 1 (length (take size bytes)) ≡ true = le-leb 1 (length (take size bytes)) (omega arith) in
          let to : leb (length (take size bytes)) 96 ≡ true = le-leb (length (take size bytes)) 96 (omega arith) in
          elim (cases_eq kind 2) [
            | inl add ↦ rw (add, from, to) refl
            | inr removed ↦ let last : kind ≡ 3 = omega arith in rw (last, from, to) refl
          ]
    ]

module _ (lines : List (List ℕ)) (bytes : IsOfBytes lines) where
  line_whole : (n : ℕ) → 1 ≤ slice_index (line_at lines n) 0 → length (line_at lines n) ≡ 64
  line_whole n some = elim (cases_lt n (length lines)) [
    | inl within ↦ bytes.whole.each.whole n within
    | inr past ↦
        let none : line_at lines n ≡ [] = get_or_past lines n [] past in
        let h : 1 ≤ slice_index [] 0 = rw none at some in
        absurd (omega arith)
  ]

  entry_storable : (longest position : ℕ) → longest ≤ 96 → entry_fault longest (line_at lines (position / 64)) ≡ None → IsStorable (entry_at lines position)
  unfolding entry_in
  entry_storable longest position short e =
      let line = line_at lines (position / 64) in
      let more = cond (is_long line) (line_at lines (position / 64 + 1)) [] in
      let h = clean_is longest line e in
      let size = line_whole (position / 64) h.some in
      let many : 40 ≤ length (drop 24 (line ++ more)) = omega (arith, length-drop 24 (line ++ more), length-append line more) in
      record {
        operation = loaded_below line 8 (λ k. bytes.each (position / 64) k);
        value = loaded_below line 16 (λ k. bytes.each (position / 64) k);
        name = name_fits longest (slice_index line 0) (slice_index line 1) (drop 24 (line ++ more)) short many h.some h.few h.fits;
      }

  entries_storable : (longest : ℕ) (positions : List ℕ) → longest ≤ 96 → first_fault (flat_map (entry_questions longest lines) positions) ≡ None →
      All IsStorable (map (entry_at lines) positions)
  entries_storable longest [] short e = All-nil IsStorable
  entries_storable longest (p ∷ positions) short e =
      let parts = clean_both (entry_questions longest lines p) (flat_map (entry_questions longest lines) positions) e in
      let line = line_at lines (p / 64) in
      let first = clean_both (question (p / 64) (entry_fault longest line) ∷ []) (cond (is_long line) (question (p / 64 + 1) None ∷ []) []) parts.0 in
      All-cons IsStorable (entry_at lines p) (map (entry_at lines) positions) (entry_storable longest p short (only (entry_fault longest line) first.0))
      (entries_storable longest positions short parts.1)
    where
      only : (fault : Option VolumeFault) → first_fault (question 0 fault ∷ []) ≡ None → fault ≡ None
      only None h = refl
      only (Some f) h = absurd (cc)

  logs_storable : (g : Geometry) (inodes : List Inode) → g.shape.longest_name ≤ 96 → first_fault (flat_map (log_questions g lines) inodes) ≡ None →
      All (All IsStorable) (map (log_in g lines) inodes)
  logs_storable g [] short e = All-nil (All IsStorable)
  logs_storable g (inode ∷ inodes) short e =
      let parts = clean_both (log_questions g lines inode) (flat_map (log_questions g lines) inodes) e in
      let own = clean_both (link_questions g.shape g.pages lines inode.tail g.pages inode.head)
      (flat_map (entry_questions g.shape.longest_name lines) (positions_of g lines inode)) parts.0 in
      All-cons (All IsStorable) (log_in g lines inode) (map (log_in g lines) inodes)
      (entries_storable g.shape.longest_name (positions_of g lines inode) short own.1) (logs_storable g inodes short parts.1)

-- what recovery found, where it found a volume
pub record HasVolume (lines : List (List ℕ)) (logs : List (List Entry)) : Type 0 where
  pub clean : first_fault (recovery_questions lines) ≡ None
  pub found : logs_of (geometry_of lines) lines ≡ logs

is_found : (fault : Option VolumeFault) (a b : List (List Entry)) → unless_fault fault a ≡ Ok b → (fault ≡ None) × (a ≡ b)
is_found None a b e = (refl, cc)
is_found (Some f) a b e = absurd (cc)

pub has_volume : (lines : List (List ℕ)) (logs : List (List Entry)) → volume_of lines ≡ Ok logs → HasVolume lines logs
unfolding volume_of
has_volume lines logs e =
    let h = is_found (first_fault (recovery_questions lines)) (logs_of (geometry_of lines) lines) logs e in
    record { clean = h.0; found = h.1 }

module _ (lines : List (List ℕ)) (logs : List (List Entry)) (h : HasVolume lines logs) where
  abbrev g : Geometry
  g = geometry_of lines

  shape_short : g.shape.longest_name ≤ 96
  unfolding geometry_in
  shape_short = layout_short (unwrap_or (layout_of (line_at lines 0)) One)
    where
      layout_short : (layout : Layout) → (shape_of layout).longest_name ≤ 96
      layout_short One = omega arith
      layout_short Two = omega arith

  superblock_part : first_fault (superblock_question lines ∷ []) ≡ None
  superblock_part = (clean_both (superblock_question lines ∷ []) (flat_map (journal_questions g.inodes lines) (range_with_len 0 g.journals)
      ++ (flat_map (inode_questions g.pages lines) (range_with_len 0 g.inodes)
      ++ flat_map (log_questions g lines) (inodes_of lines g.journals g.inodes))) h.clean).0

  log_part : first_fault (flat_map (log_questions g lines) (inodes_of lines g.journals g.inodes)) ≡ None
  log_part =
      let all = clean_both (superblock_question lines ∷ []) (flat_map (journal_questions g.inodes lines) (range_with_len 0 g.journals)
      ++ (flat_map (inode_questions g.pages lines) (range_with_len 0 g.inodes)
      ++ flat_map (log_questions g lines) (inodes_of lines g.journals g.inodes))) h.clean in
      let behind = clean_both (flat_map (journal_questions g.inodes lines) (range_with_len 0 g.journals))
      (flat_map (inode_questions g.pages lines) (range_with_len 0 g.inodes)
      ++ flat_map (log_questions g lines) (inodes_of lines g.journals g.inodes)) all.1 in
      (clean_both (flat_map (inode_questions g.pages lines) (range_with_len 0 g.inodes))
      (flat_map (log_questions g lines) (inodes_of lines g.journals g.inodes)) behind.1).1

  pub all_storable : IsOfBytes lines → All (All IsStorable) logs
  all_storable bytes = rw h.found at (logs_storable lines bytes g (inodes_of lines g.journals g.inodes) shape_short log_part)

  pub inodes_are : length logs ≡ (geometry_of lines).inodes
  inodes_are =
      let inodes = inodes_of lines g.journals g.inodes in
      let size = length-map-range_with_len (inode_at lines g.journals) 0 g.inodes in
      ap length (sym h.found) ∙ length-map inodes (log_in g lines) ∙ size

  pub counts_are : counts_fit (geometry_of lines).inodes (geometry_of lines).pages (geometry_of lines).journals (length lines) ≡ true
  unfolding superblock_fault geometry_in
  counts_are =
      let line = line_at lines 0 in
      fit (layout_of line) (counts_fit (loaded line 8 8) (loaded line 16 8) (loaded line 24 8) (length lines)) superblock_part
    where
      fit : (layout : Option Layout) (b : Bool) → first_fault (question 0 (counts_fault layout b) ∷ []) ≡ None → b ≡ true
      fit None b e = absurd (cc)
      fit (Some layout) true e = refl
      fit (Some layout) false e = absurd (cc)
