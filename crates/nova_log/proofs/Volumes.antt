-- A new volume, inode by inode.
use Rattle.std.proofs.Common.{◌≡◌, ℕ, ◌+◌, ◌<◌, ◌≤◌, List, [], length, replicate, slice_set, refl, ◌∙◌, arith, inl, inr}
use Rattle.std.proofs.lemmas.Bool.{cases_lt}
use Rattle.std.proofs.lemmas.List.{length-set, length-replicate, get_or-set_same, get_or-set_other, get_or-replicate}
use Rattle.line_memory.specs.Lines.{line_at, zero_lines}
use Rattle.nova_log.specs.Fresh.{HasInodes, IsFresh, inode_line, superblock_line}
use Rattle.nova_log.specs.Layouts.{page_at}
use Rattle.nova_log.specs.declared.layout.Layout.{Layout}

pub no_inodes : (lines : List (List ℕ)) → HasInodes lines lines 0
no_inodes lines = record {
  size = refl;
  first = refl;
  each_inode = λ n h. absurd (omega arith);
  later = λ line h. refl;
}

pub more_inodes : (old new : List (List ℕ)) (n : ℕ) → HasInodes old new n → n + 1 < length new →
    HasInodes old (slice_set new (n + 1) (inode_line (page_at n) (page_at n))) (n + 1)
more_inodes old new n h room = record {
  size = length-set new (n + 1) (inode_line (page_at n) (page_at n)) ∙ h.size;
  first = get_or-set_other new (n + 1) 0 (inode_line (page_at n) (page_at n)) [] (λ e. absurd (omega arith)) ∙ h.first;
  each_inode = λ m before. elim (cases_lt m n) [
    | inl lower ↦ get_or-set_other new (n + 1) (m + 1) (inode_line (page_at n) (page_at n)) [] (λ e. absurd (omega arith)) ∙ h.each_inode m lower
    | inr from ↦
        let e : m ≡ n = omega arith in
        rw e (get_or-set_same new (n + 1) (inode_line (page_at n) (page_at n)) [] room)
  ];
  later = λ line after.
      get_or-set_other new (n + 1) line (inode_line (page_at n) (page_at n)) [] (λ e. absurd (omega arith)) ∙ h.later line (omega arith);
}

pub made_fresh : (layout : Layout) (inodes pages journals count : ℕ) (start first done : List (List ℕ)) →
    start ≡ zero_lines count → first ≡ slice_set start 0 (superblock_line layout inodes pages journals) →
    HasInodes first done inodes → 512 ≤ length start → IsFresh layout inodes pages journals count done
unfolding zero_lines
made_fresh layout inodes pages journals count start first done zeros written h some =
    let size : length start ≡ count = rw zeros (length-replicate count (replicate {A = ℕ} 64 0)) in
    let same : length first ≡ length start = rw written (length-set start 0 (superblock_line layout inodes pages journals)) in
    let head : line_at first 0 ≡ superblock_line layout inodes pages journals =
    rw written (get_or-set_same start 0 (superblock_line layout inodes pages journals) [] (omega arith)) in
    record {
      size = h.size ∙ same ∙ size;
      superblock = h.first ∙ head;
      each_inode = h.each_inode;
      zeros = λ line after before.
          let other : line_at first line ≡ line_at start line =
          rw written (get_or-set_other start 0 line (superblock_line layout inodes pages journals) [] (λ e. absurd (omega arith))) in
          let zero : line_at start line ≡ replicate 64 0 = rw zeros (get_or-replicate count line (replicate {A = ℕ} 64 0) [] before) in
          h.later line after ∙ other ∙ zero;
    }
