-- An upgrade from its calls: the volume recovered, the fresh medium, and the lines written over it.
use Rattle.std.proofs.Common.{◌≡◌, ℕ, ◌*◌, ◌<◌, ◌≤◌, true, List, [], Ok, Err, length, refl, ◌∙◌, arith, inl, inr}
use Rattle.std.proofs.lemmas.Bool.{cases_eq, le-leb, ne_eqb}
use Rattle.std.proofs.lemmas.List.FromFn.{fill_by_all}
use Rattle.line_memory.specs.Lines.{line_at}
use Rattle.word_bits.specs.Bytes.{loaded}
use Rattle.nova_log.specs.Fresh.{IsFresh}
use Rattle.nova_log.specs.Layouts.{AreCounts, page_at}
use Rattle.nova_log.specs.Superblocks.{counts_fit, geometry_in, geometry_of}
use Rattle.nova_log.specs.Volumes.{volume_of}
use Rattle.nova_log.specs.declared.fault.VolumeFault.{VolumeFault}
use Rattle.nova_log.specs.declared.layout.Layout.TheVariants.{Two}
use Rattle.nova_log.specs.declared.volume.entry.Entry.{Entry}
use Rattle.nova_log.specs.Upgraded.{moved, upgraded}
use Rattle.nova_log.specs.Written.{body_line, written, written_line}
use Rattle.nova_log.proofs.Recovered.{counted}
use Rattle.nova_log.proofs.Sound.{counts_are, has_volume, inodes_are}

pub counts_true : (inodes pages journals lines : ℕ) → AreCounts inodes pages journals lines → counts_fit inodes pages journals lines ≡ true
counts_true inodes pages journals lines h =
    rw (
      le-leb 1 inodes h.some_inodes,
      le-leb inodes 64 h.few_inodes,
      le-leb inodes pages h.page_each,
      le-leb pages 240 h.few_pages,
      le-leb 1 journals h.some_journals,
      le-leb journals 8 h.few_journals,
      le-leb 512 lines h.least_lines,
      le-leb lines 16384 h.most_lines,
      le-leb (page_at pages) (64 * lines) h.room,
    ) refl

module _ (lines : List (List ℕ)) (logs : List (List Entry)) (recovered : volume_of lines ≡ Ok logs) where
  -- the old medium's own counts
  pub old_counts : AreCounts (length logs) (geometry_of lines).pages (geometry_of lines).journals (length lines)
  old_counts =
      let h = has_volume lines logs recovered in
      rw (inodes_are lines logs h)
      (counted (geometry_of lines).inodes (geometry_of lines).pages (geometry_of lines).journals (length lines) (counts_are lines logs h))

  pub journals_are : loaded (line_at lines 0) 24 8 ≡ (geometry_of lines).journals
  unfolding geometry_in
  journals_are = refl

  pub few_journals : loaded (line_at lines 0) 24 8 ≤ 8
  few_journals = let h = old_counts in omega (arith, h.few_journals, journals_are)

  pub old_size : 512 ≤ length lines
  old_size = let h = old_counts in h.least_lines

  pub upgraded_is : (journals pages count : ℕ) → journals ≡ loaded (line_at lines 0) 24 8 → upgraded lines pages count ≡ moved logs journals pages count
  unfolding upgraded
  upgraded_is journals pages count e = rw (recovered, e ∙ journals_are) refl

pub fault_kept : (lines : List (List ℕ)) (fault : VolumeFault) (pages count : ℕ) → volume_of lines ≡ Err fault → upgraded lines pages count ≡ Err fault
unfolding upgraded
fault_kept lines fault pages count e = rw e refl

-- all lines written over a fresh medium
pub all_written : (logs : List (List Entry)) (inodes pages journals count : ℕ) (fresh made : List (List ℕ)) → inodes ≡ length logs →
    IsFresh Two inodes pages journals count fresh → length made ≡ length fresh → line_at made 0 ≡ line_at fresh 0 →
    ((n : ℕ) → 0 < n → n < length fresh → line_at made n ≡ body_line logs n) → made ≡ written logs pages journals count
unfolding written
all_written logs inodes pages journals count fresh made same h size first body =
    fill_by_all (written_line logs pages journals) made count [] (size ∙ h.size) (λ k less. elim (cases_eq k 0) [
      | inl none ↦ rw none (first ∙ h.superblock ∙ rw same refl)
      | inr some ↦ body k (omega arith) (omega (arith, h.size)) ∙ rw (ne_eqb k 0 some) refl
    ])
