-- The lines of the written medium by their numbers.
use Rattle.std.proofs.Common.{◌≡◌, ℕ, ◌+◌, ◌-◌, ◌*◌, ◌/◌, ◌%◌, ◌<◌, ◌≤◌, true, ltb, List, [], length, slice_get, refl, ◌∙◌, arith}
use Rattle.std.proofs.lemmas.Bool.{le-leb, le-ltb, lt-leb, lt-ltb, ne_eqb}
use Rattle.std.proofs.lemmas.List.FromFn.{get_or-map-range_with_len, length-map-range_with_len}
use Rattle.line_memory.specs.Lines.{line_at}
use Rattle.nova_log.specs.Fresh.{inode_line, superblock_line}
use Rattle.nova_log.specs.Layouts.{page_at}
use Rattle.nova_log.specs.declared.layout.Layout.TheVariants.{Two}
use Rattle.nova_log.specs.declared.volume.entry.Entry.{Entry}
use Rattle.nova_log.specs.Parts.{parts_of}
use Rattle.nova_log.specs.Written.{body_line, page_line, tail_of, written, written_line, zero_line}

module _ (logs : List (List Entry)) where
  pub body_inode : (n : ℕ) → n < length logs → body_line logs (n + 1) ≡ inode_line (page_at n) (tail_of logs n)
  unfolding body_line
  body_inode n less =
      let e : n + 1 - 1 ≡ n = omega arith in
      rw (le-leb (n + 1) (length logs) (omega arith), e) refl

  pub body_empty : (n : ℕ) → length logs < n → n < 256 → body_line logs n ≡ zero_line
  unfolding body_line
  body_empty n low high = rw (lt-leb n (length logs) low, le_small n high) refl
    where
      le_small : (m : ℕ) → m < 256 → ltb m 256 ≡ true
      le_small m h = lt-ltb m 256 h

  pub body_page : (n p line : ℕ) → length logs ≤ 64 → n ≡ 256 + 64 * p + line → line < 64 →
      body_line logs n ≡ page_line logs (slice_get (parts_of logs) p) line
  unfolding body_line
  body_page n p line few e less =
      let page : (n - 256) / 64 ≡ p = omega arith in
      let rest : (n - 256) % 64 ≡ line = omega arith in
      rw (lt-leb n (length logs) (omega arith), le-ltb n 256 (omega arith), page, rest) refl

  module _ (pages journals count : ℕ) where
    pub written_size : length (written logs pages journals count) ≡ count
    unfolding written
    written_size = length-map-range_with_len (written_line logs pages journals) 0 count

    pub written_at : (n : ℕ) → n < count → line_at (written logs pages journals count) n ≡ written_line logs pages journals n
    unfolding written
    written_at n less = get_or-map-range_with_len (written_line logs pages journals) 0 count n n [] less (omega arith)

    pub written_first : 0 < count → line_at (written logs pages journals count) 0 ≡ superblock_line Two (length logs) pages journals
    written_first less = written_at 0 less

    pub written_body : (n : ℕ) → 0 < n → n < count → line_at (written logs pages journals count) n ≡ body_line logs n
    written_body n behind less = written_at n less ∙ rw (ne_eqb n 0 (λ e. absurd (omega arith))) refl
