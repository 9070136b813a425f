-- The test of the counts is `AreCounts`.
use Rattle.std.proofs.Common.{◌≡◌, ℕ, ◌*◌, ◌≤◌, Bool, true, false, ◌&&◌, leb, refl, arith}
use Rattle.std.proofs.lemmas.Bool.{le-leb, leb-true, and_parts, false_from_ne_true}
use Rattle.nova_log.specs.Layouts.{AreCounts, page_at}
use Rattle.nova_log.specs.Superblocks.{counts_fit}

pub counts_fit_true : (inodes pages journals lines : ℕ) → AreCounts inodes pages journals lines → counts_fit inodes pages journals lines ≡ true
counts_fit_true inodes pages journals lines h =
    rw (
      le-leb 1 inodes h.some_inodes,
      le-leb inodes 64 h.few_inodes,
      le-leb inodes pages h.page_each,
      le-leb pages 240 h.few_pages,
      le-leb 1 journals h.some_journals,
      le-leb journals 8 h.few_journals,
      le-leb 512 lines h.least_lines,
      le-leb lines 16384 h.most_lines,
      le-leb (page_at pages) (64 * lines) h.room,
    ) refl

fit_counts : (inodes pages journals lines : ℕ) → counts_fit inodes pages journals lines ≡ true → AreCounts inodes pages journals lines
fit_counts inodes pages journals lines e =
    let h8 = and_parts (leb 1 inodes && leb inodes 64 && leb inodes pages && leb pages 240 && leb 1 journals && leb journals 8 && leb 512 lines && leb lines 16384) (leb (page_at pages) (64 * lines)) e in
    let h7 = and_parts (leb 1 inodes && leb inodes 64 && leb inodes pages && leb pages 240 && leb 1 journals && leb journals 8 && leb 512 lines) (leb lines 16384) h8.0 in
    let h6 = and_parts (leb 1 inodes && leb inodes 64 && leb inodes pages && leb pages 240 && leb 1 journals && leb journals 8) (leb 512 lines) h7.0 in
    let h5 = and_parts (leb 1 inodes && leb inodes 64 && leb inodes pages && leb pages 240 && leb 1 journals) (leb journals 8) h6.0 in
    let h4 = and_parts (leb 1 inodes && leb inodes 64 && leb inodes pages && leb pages 240) (leb 1 journals) h5.0 in
    let h3 = and_parts (leb 1 inodes && leb inodes 64 && leb inodes pages) (leb pages 240) h4.0 in
    let h2 = and_parts (leb 1 inodes && leb inodes 64) (leb inodes pages) h3.0 in
    let h1 = and_parts (leb 1 inodes) (leb inodes 64) h2.0 in
    record {
      some_inodes = leb-true 1 inodes h1.0;
      few_inodes = leb-true inodes 64 h1.1;
      page_each = leb-true inodes pages h2.1;
      few_pages = leb-true pages 240 h3.1;
      some_journals = leb-true 1 journals h4.1;
      few_journals = leb-true journals 8 h5.1;
      least_lines = leb-true 512 lines h6.1;
      most_lines = leb-true lines 16384 h7.1;
      room = leb-true (page_at pages) (64 * lines) h8.1;
    }

pub counts_fit_false : (inodes pages journals lines : ℕ) → (AreCounts inodes pages journals lines → ⊥) → counts_fit inodes pages journals lines ≡ false
counts_fit_false inodes pages journals lines h =
    false_from_ne_true (counts_fit inodes pages journals lines) (λ e. h (fit_counts inodes pages journals lines e))
