-- The two layouts. A page is 4 KB of entries and a link line; pages stand from byte 16384 on.
-- Source: NOVA, FAST 2016: logs of linked 4 KB pages.
use Rattle.std.specs.Prelude.{ℕ, ◌+◌, ◌*◌, ◌<◌, ◌≤◌, codes}
use Rattle.nova_log.specs.declared.layout.Layout.{Layout}
use Rattle.nova_log.specs.declared.layout.Layout.TheVariants.{One, Two}
use Rattle.nova_log.specs.declared.layout.Shape.{Shape}

-- 63 entries of a line and then the link line, or 31 entries of two lines, the link line, and a line that isn't read
abbrev pub shape_of : Layout → Shape
shape_of One = record { magic = codes "NOVALOG1"; entry_size = 64; page_entries = 63; longest_name = 32 }
shape_of Two = record { magic = codes "NOVALOG2"; entry_size = 128; page_entries = 31; longest_name = 96 }

-- the offset of page p
abbrev pub page_at : ℕ → ℕ
page_at p = 16384 + 4096 * p

-- the counts that a volume on a medium of so many lines may have: all its pages lie in the medium
pub record AreCounts (inodes pages journals lines : ℕ) : Type 0 where
  pub some_inodes : 1 ≤ inodes
  pub few_inodes : inodes ≤ 64
  pub page_each : inodes ≤ pages
  pub few_pages : pages ≤ 240
  pub some_journals : 1 ≤ journals
  pub few_journals : journals ≤ 8
  pub least_lines : 512 ≤ lines
  pub most_lines : lines ≤ 16384
  pub room : page_at pages ≤ 64 * lines

-- what both layouts have of a page: lines of an entry size that isn't zero, within 4 KB
pub record IsShape (shape : Shape) : Type 0 where
  pub some_bytes : 1 ≤ shape.entry_size
  pub link : shape.entry_size * shape.page_entries + 64 ≤ 4096
  pub entry : (k : ℕ) → k < shape.page_entries → shape.entry_size * k + 128 ≤ 4096
  pub name : shape.longest_name ≤ 96
