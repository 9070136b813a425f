-- The written medium has the volume of the logs.
use Rattle.std.proofs.Common.{◌≡◌, ℕ, zero, suc, ◌+◌, ◌-◌, ◌*◌, ◌^◌, ◌<◌, ◌≤◌, true, ◌&&◌, cond, leb, List, [], ◌∷◌, ◌++◌, Option, None, Some, Ok, length, map, refl, sym, ap, subst, ◌∙◌, arith}
use Rattle.std.proofs.lemmas.Bool.{and_parts, leb-true}
use Rattle.std.proofs.lemmas.List.{get_or-map, get_or_default, length-map, same_lists}
use Rattle.std.proofs.lemmas.List.FromFn.{get_or-map-range_with_len, length-map-range_with_len}
use Rattle.std.proofs.lemmas.List.Folds.{flat_map-map}
use Rattle.std.specs.List.{All, flat_map, range_with_len}
use Rattle.line_memory.specs.Lines.{line_at}
use Rattle.word_bits.specs.Bytes.{loaded}
use Rattle.nova_log.specs.Chains.{chain, link_questions}
use Rattle.nova_log.specs.Entries.{entry_questions}
use Rattle.nova_log.specs.Fresh.{inode_line, superblock_line}
use Rattle.nova_log.specs.Inodes.{head_fault, inode_at, inode_questions, inodes_of}
use Rattle.nova_log.specs.Journals.{journal_fault, journal_questions, restored_tail}
use Rattle.nova_log.specs.Layouts.{AreCounts, page_at, shape_of}
use Rattle.nova_log.specs.Questions.{first_fault}
use Rattle.nova_log.specs.Superblocks.{counts_fit, geometry_in, geometry_of, superblock_fault, superblock_question}
use Rattle.nova_log.specs.Volumes.{log_in, log_questions, logs_of, questions_of, unless_fault, volume_of}
use Rattle.nova_log.specs.declared.fault.VolumeFault.{VolumeFault}
use Rattle.nova_log.specs.declared.fault.VolumeFault.TheVariants.{Counts}
use Rattle.nova_log.specs.declared.inode.Inode.{Inode}
use Rattle.nova_log.specs.declared.layout.Layout.TheVariants.{Two}
use Rattle.nova_log.specs.declared.superblock.Geometry.{Geometry}
use Rattle.nova_log.specs.Logs.{log_of}
use Rattle.nova_log.specs.declared.volume.entry.Entry.{Entry}
use Rattle.nova_log.specs.Parts.{page_count, page_of, parts_of}
use Rattle.nova_log.specs.Written.{body_line, last_part, tail_of, written, zero_line}
use Rattle.nova_log.proofs.LogUpgradeChains.{HasParts, IsRead, page_is, shape, whole_read}
use Rattle.nova_log.proofs.Faults.{clean_after, clean_range}
use Rattle.nova_log.proofs.Numbers.{number_read}
use Rattle.nova_log.proofs.Places.{first_page, page_below, page_holds}
use Rattle.nova_log.proofs.StoredEntries.{IsStorable}
use Rattle.nova_log.proofs.WrittenLines.{body_empty, body_inode, body_page, written_body, written_first, written_size}

-- the counts of a volume, one by one
pub counted : (inodes pages journals lines : ℕ) → counts_fit inodes pages journals lines ≡ true → AreCounts inodes pages journals lines
counted inodes pages journals lines e =
    let h8 = and_parts (leb 1 inodes && leb inodes 64 && leb inodes pages && leb pages 240 && leb 1 journals && leb journals 8 && leb 512 lines && leb lines 16384) (leb (page_at pages) (64 * lines)) e in
    let h7 = and_parts (leb 1 inodes && leb inodes 64 && leb inodes pages && leb pages 240 && leb 1 journals && leb journals 8 && leb 512 lines) (leb lines 16384) h8.0 in
    let h6 = and_parts (leb 1 inodes && leb inodes 64 && leb inodes pages && leb pages 240 && leb 1 journals && leb journals 8) (leb 512 lines) h7.0 in
    let h5 = and_parts (leb 1 inodes && leb inodes 64 && leb inodes pages && leb pages 240 && leb 1 journals) (leb journals 8) h6.0 in
    let h4 = and_parts (leb 1 inodes && leb inodes 64 && leb inodes pages && leb pages 240) (leb 1 journals) h5.0 in
    let h3 = and_parts (leb 1 inodes && leb inodes 64 && leb inodes pages) (leb pages 240) h4.0 in
    let h2 = and_parts (leb 1 inodes && leb inodes 64) (leb inodes pages) h3.0 in
    let h1 = and_parts (leb 1 inodes) (leb inodes 64) h2.0 in
    record {
      some_inodes = leb-true 1 inodes h1.0;
      few_inodes = leb-true inodes 64 h1.1;
      page_each = leb-true inodes pages h2.1;
      few_pages = leb-true pages 240 h3.1;
      some_journals = leb-true 1 journals h4.1;
      few_journals = leb-true journals 8 h5.1;
      least_lines = leb-true 512 lines h6.1;
      most_lines = leb-true lines 16384 h7.1;
      room = leb-true (page_at pages) (64 * lines) h8.1;
    }

abbrev pub geometry : ℕ → ℕ → ℕ → Geometry
geometry inodes pages journals = record { shape = shape_of Two; inodes = inodes; pages = pages; journals = journals }

-- what a superblock says
pub superblock_says : (inodes pages journals : ℕ) → inodes < 2 ^ 64 → pages < 2 ^ 64 → journals < 2 ^ 64 →
    geometry_in (superblock_line Two inodes pages journals) ≡ geometry inodes pages journals
unfolding geometry_in
superblock_says inodes pages journals i p j =
    same_geometry (number_read inodes [] i) (number_read pages [] p) (number_read journals [] j)
  where
    same_geometry : {a b c : ℕ} → a ≡ inodes → b ≡ pages → c ≡ journals → geometry a b c ≡ geometry inodes pages journals
    same_geometry e f g = rw (e, f, g) refl

superblock_clean : (inodes pages journals count : ℕ) → inodes < 2 ^ 64 → pages < 2 ^ 64 → journals < 2 ^ 64 → counts_fit inodes pages journals count ≡ true →
    superblock_fault (superblock_line Two inodes pages journals) count ≡ None
unfolding superblock_fault
superblock_clean inodes pages journals count i p j fit =
    fits (number_read inodes [] i) (number_read pages [] p) (number_read journals [] j)
  where
    fits : {a b c : ℕ} → a ≡ inodes → b ≡ pages → c ≡ journals → cond {A = Option VolumeFault} (counts_fit a b c count) None (Some Counts) ≡ None
    fits e f g = rw (e, f, g, fit) refl

-- a volume from its parts
no_fault : (fault : Option VolumeFault) (a b : List (List Entry)) → fault ≡ None → a ≡ b → unless_fault fault a ≡ Ok b
no_fault fault a b e h = rw (e, h) refl

volume_from : (lines : List (List ℕ)) (g : Geometry) (logs : List (List Entry)) → geometry_of lines ≡ g → first_fault (questions_of g lines) ≡ None →
    logs_of g lines ≡ logs → volume_of lines ≡ Ok logs
unfolding volume_of
volume_from lines g logs e clean back =
    no_fault (first_fault (questions_of (geometry_of lines) lines)) (logs_of (geometry_of lines) lines) logs
    (subst (λ (x : Geometry). first_fault (questions_of x lines) ≡ None) (sym e) clean)
    (subst (λ (x : Geometry). logs_of x lines ≡ logs) (sym e) back)

module _ (logs : List (List Entry)) (pages journals count : ℕ) (storable : All (All IsStorable) logs)
    (fit : counts_fit (length logs) pages journals count ≡ true) (room : length (parts_of logs) ≤ pages) where
  lines : List (List ℕ)
  lines = written logs pages journals count

  counts : AreCounts (length logs) pages journals count
  counts = counted (length logs) pages journals count fit

  body : (n : ℕ) → 0 < n → n < count → line_at lines n ≡ body_line logs n
  unfolding lines
  body n behind less = written_body logs pages journals count n behind less

  superblock_there : line_at lines 0 ≡ superblock_line Two (length logs) pages journals
  unfolding lines
  superblock_there = let c = counts in written_first logs pages journals count (omega arith)

  superblock_size : length lines ≡ count
  unfolding lines
  superblock_size = written_size logs pages journals count

  -- the pages
  has_parts : HasParts logs lines
  has_parts = record {
    line_of = λ n j line less few below.
        let c = counts in
        let p = page_of (parts_of logs) n j in
        let there = page_below logs n j less few in
        let at = body (256 + 64 * p + line) (omega arith) (omega arith) in
        let e = body_page logs (256 + 64 * p + line) p line c.few_inodes refl below in
        at ∙ e ∙ rw (page_holds logs n j less few) refl;
  }

  storable_log : (n : ℕ) → n < length logs → All IsStorable (log_of logs n)
  storable_log n less = storable n [] less

  read : (n : ℕ) → n < length logs → IsRead logs lines pages n 0 (pages - 1)
  read n less = whole_read logs lines pages n has_parts less room counts.few_pages (storable_log n less)

  -- the inodes
  inode_there : (n : ℕ) → n < length logs → line_at lines (n + 1) ≡ inode_line (page_at n) (tail_of logs n)
  inode_there n less = let c = counts in body (n + 1) (omega arith) (omega arith) ∙ body_inode logs n less

  tail_small : (n : ℕ) → n < length logs → tail_of logs n < 2 ^ 64
  tail_small n less =
      let c = counts in
      let size = length (log_of logs n) in
      let some : 1 ≤ page_count size = omega arith in
      let few : size ≤ 31 * page_count size = omega arith in
      let below = page_below logs n (last_part logs n) less (omega arith) in
      omega arith

  head_is : (n : ℕ) → n < length logs → loaded (line_at lines (n + 1)) 0 8 ≡ page_at n
  head_is n less = let c = counts in rw (inode_there n less) (number_read (page_at n) [] (omega arith))

  tail_is : (n : ℕ) → n < length logs → loaded (line_at lines (n + 1)) 8 8 ≡ tail_of logs n
  tail_is n less = rw (inode_there n less) (number_read (tail_of logs n) [] (tail_small n less))

  head_clean : (n : ℕ) → n < length logs → first_fault (inode_questions pages lines n) ≡ None
  unfolding head_fault
  head_clean n less = let c = counts in rw (head_is n less, page_is pages n (omega arith)) refl

  -- the journals
  journal_there : (j : ℕ) → j < 8 → line_at lines (128 + 8 * j) ≡ zero_line
  journal_there j few = let c = counts in body (128 + 8 * j) (omega arith) (omega arith) ∙ body_empty logs (128 + 8 * j) (omega arith) (omega arith)

  journal_clean : (inodes j : ℕ) → j < 8 → first_fault (journal_questions inodes lines j) ≡ None
  unfolding journal_fault
  journal_clean inodes j few = rw (journal_there j few) refl

  not_restored : (n j : ℕ) → j ≤ 8 → restored_tail lines n j ≡ None
  unfolding restored_tail
  not_restored n zero few = refl
  not_restored n (suc j) few = rw (journal_there j (omega arith)) (not_restored n j (omega arith))

  inode_is : (n : ℕ) → n < length logs → inode_at lines journals n ≡ record { head = page_at n; tail = tail_of logs n }
  inode_is n less = let c = counts in rw (not_restored n journals c.few_journals, head_is n less, tail_is n less) refl

  -- the logs
  g : Geometry
  g = geometry (length logs) pages journals

  page_some : suc (pages - 1) ≡ pages
  page_some = let c = counts in omega arith

  log_clean : (n : ℕ) → n < length logs → first_fault (log_questions g lines (inode_at lines journals n)) ≡ None
  unfolding g
  log_clean n less =
      let r = read n less in
      let tail = tail_of logs n in
      let links : first_fault (link_questions shape pages lines tail pages (page_at n)) ≡ None = rw (page_some, first_page logs n less) at r.links in
      let sound : first_fault (flat_map (entry_questions 96 lines) (chain shape lines tail pages (page_at n))) ≡ None =
      rw (page_some, first_page logs n less) at r.sound in
      let P : Inode → Type 0 = λ i. first_fault (log_questions g lines i) ≡ None in
      subst P (sym (inode_is n less))
      (clean_after (link_questions shape pages lines tail pages (page_at n)) (flat_map (entry_questions 96 lines) (chain shape lines tail pages (page_at n))) links sound)

  log_back : (n : ℕ) → n < length logs → log_in g lines (inode_at lines journals n) ≡ log_of logs n
  unfolding g
  log_back n less =
      let r = read n less in
      ap (log_in g lines) (inode_is n less) ∙ (rw (page_some, first_page logs n less) at r.entries)

  logs_back : logs_of g lines ≡ logs
  unfolding g
  logs_back =
      let inodes = inodes_of lines journals (length logs) in
      let size = length-map-range_with_len (inode_at lines journals) 0 (length logs) in
      let sizes = length-map inodes (log_in g lines) in
      same_lists (map (log_in g lines) inodes) logs (omega arith) (λ k d below.
      let less : k < length logs = omega arith in
      let there : k < length inodes = omega arith in
      let one = inode_at lines journals k in
      get_or-map (log_in g lines) inodes k one d there
      ∙ ap (log_in g lines) (get_or-map-range_with_len (inode_at lines journals) 0 (length logs) k k one less (omega arith))
      ∙ log_back k less ∙ get_or_default logs k [] d less)

  -- the whole
  questions_clean : first_fault (questions_of g lines) ≡ None
  unfolding g
  questions_clean =
      let c = counts in
      let inodes = length logs in
      let first : first_fault (superblock_question lines ∷ []) ≡ None =
      rw (superblock_there, superblock_size, superblock_clean inodes pages journals count (omega arith) (omega arith) (omega arith) fit) refl in
      let journal_part = clean_range (journal_questions inodes lines) 0 journals (λ j low below. journal_clean inodes j (omega arith)) in
      let inode_part = clean_range (inode_questions pages lines) 0 inodes (λ n low below. head_clean n (omega arith)) in
      let log_part : first_fault (flat_map (log_questions g lines) (inodes_of lines journals inodes)) ≡ None =
      rw (flat_map-map (log_questions g lines) (inode_at lines journals) (range_with_len 0 inodes))
      (clean_range (λ n. log_questions g lines (inode_at lines journals n)) 0 inodes (λ n low below. log_clean n (omega arith))) in
      clean_after (superblock_question lines ∷ [])
      (flat_map (journal_questions inodes lines) (range_with_len 0 journals) ++ (flat_map (inode_questions pages lines) (range_with_len 0 inodes)
      ++ flat_map (log_questions g lines) (inodes_of lines journals inodes))) first
      (clean_after (flat_map (journal_questions inodes lines) (range_with_len 0 journals))
      (flat_map (inode_questions pages lines) (range_with_len 0 inodes) ++ flat_map (log_questions g lines) (inodes_of lines journals inodes)) journal_part
      (clean_after (flat_map (inode_questions pages lines) (range_with_len 0 inodes)) (flat_map (log_questions g lines) (inodes_of lines journals inodes)) inode_part log_part))

  pub geometry_back : geometry_of (written logs pages journals count) ≡ geometry (length logs) pages journals
  unfolding lines
  geometry_back = let c = counts in rw superblock_there (superblock_says (length logs) pages journals (omega arith) (omega arith) (omega arith))

  pub volume_back : volume_of (written logs pages journals count) ≡ Ok logs
  unfolding lines g
  volume_back = volume_from (written logs pages journals count) (geometry (length logs) pages journals) logs geometry_back questions_clean logs_back
