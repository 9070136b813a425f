-- The medium of a new volume: each log and each journal is empty.
use Rattle.std.specs.Prelude.{ℕ, ◌≡◌, ◌+◌, ◌<◌, List, [], ◌∷◌, ◌++◌, length, replicate}
use Rattle.line_memory.specs.Lines.{line_at}
use Rattle.nova_log.specs.Layouts.{shape_of, page_at}
use Rattle.nova_log.specs.Numbers.{bytes_of}
use Rattle.nova_log.specs.declared.layout.Layout.{Layout}

-- the magic, the three counts, and zeros
abbrev pub superblock_line : Layout → ℕ → ℕ → ℕ → List ℕ
superblock_line layout inodes pages journals = (shape_of layout).magic ++ bytes_of (inodes ∷ pages ∷ journals ∷ []) ++ replicate 32 0

-- an inode: the offsets of head and tail, and zeros
abbrev pub inode_line : ℕ → ℕ → List ℕ
inode_line head tail = bytes_of (head ∷ tail ∷ []) ++ replicate 48 0

-- inode n has line n + 1, where its empty log begins and ends at page n; all else is zero
pub record IsFresh (layout : Layout) (inodes pages journals count : ℕ) (lines : List (List ℕ)) : Type 0 where
  pub size : length lines ≡ count
  pub superblock : line_at lines 0 ≡ superblock_line layout inodes pages journals
  pub each_inode : (n : ℕ) → n < inodes → line_at lines (n + 1) ≡ inode_line (page_at n) (page_at n)
  pub zeros : (line : ℕ) → inodes < line → line < count → line_at lines line ≡ replicate 64 0

-- the lines with the first inodes written, and the others as they were
pub record HasInodes (old new : List (List ℕ)) (inodes : ℕ) : Type 0 where
  pub size : length new ≡ length old
  pub first : line_at new 0 ≡ line_at old 0
  pub each_inode : (n : ℕ) → n < inodes → line_at new (n + 1) ≡ inode_line (page_at n) (page_at n)
  pub later : (line : ℕ) → inodes < line → line_at new line ≡ line_at old line
