-- The lines of a new volume, from the stores that write them.
use Rattle.std.proofs.Common.{◌≡◌, ℕ, replicate, refl}
use Rattle.word_bits.specs.Bytes.{replaced, stored}
use Rattle.nova_log.specs.Fresh.{inode_line, superblock_line}
use Rattle.nova_log.specs.Layouts.{shape_of}
use Rattle.nova_log.specs.declared.layout.Layout.{Layout}
use Rattle.nova_log.specs.declared.layout.Layout.TheVariants.{One, Two}

pub superblock_is : (layout : Layout) (inodes pages journals : ℕ) →
    stored (stored (stored (replaced (replicate 64 0) 0 (shape_of layout).magic) 8 8 inodes) 16 8 pages) 24 8 journals
    ≡ superblock_line layout inodes pages journals
superblock_is One inodes pages journals = refl
superblock_is Two inodes pages journals = refl

pub inode_is : (head tail : ℕ) → stored (stored (replicate 64 0) 0 8 head) 8 8 tail ≡ inode_line head tail
inode_is head tail = refl
