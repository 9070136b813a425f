-- The superblock: a layout's magic, and the counts of inodes, pages and journals.
use Rattle.std.specs.Prelude.{ℕ, ◌*◌, Bool, ◌&&◌, leb, eqb, List, Option, Some, None, codes, cond, length}
use Rattle.std.specs.Option.{unwrap_or}
use Rattle.std.specs.List.{starts_with}
use Rattle.line_memory.specs.Lines.{line_at}
use Rattle.word_bits.specs.Bytes.{loaded}
use Rattle.nova_log.specs.Layouts.{AreCounts, IsShape, shape_of, page_at}
use Rattle.nova_log.specs.Questions.{Question, question}
use Rattle.nova_log.specs.declared.fault.VolumeFault.{VolumeFault}
use Rattle.nova_log.specs.declared.fault.VolumeFault.TheVariants.{Magic, Counts}
use Rattle.nova_log.specs.declared.layout.Layout.{Layout}
use Rattle.nova_log.specs.declared.layout.Layout.TheVariants.{One, Two}
use Rattle.nova_log.specs.declared.superblock.Geometry.{Geometry}

-- the layout that a first line's magic names
abbrev pub layout_of : List ℕ → Option Layout
layout_of line =
    cond (starts_with eqb line (codes "NOVALOG1")) (Some One)
    (cond (starts_with eqb line (codes "NOVALOG2")) (Some Two) None)

-- whether a volume may have these counts: the test of `AreCounts`
abbrev pub counts_fit : ℕ → ℕ → ℕ → ℕ → Bool
counts_fit inodes pages journals lines =
    leb 1 inodes && leb inodes 64 && leb inodes pages && leb pages 240 && leb 1 journals && leb journals 8
    && leb 512 lines && leb lines 16384 && leb (page_at pages) (64 * lines)

-- what a first line says of its volume, of layout 1 where it has no magic
unfoldable pub geometry_in : List ℕ → Geometry
geometry_in line = record {
  shape = shape_of (unwrap_or (layout_of line) One);
  inodes = loaded line 8 8;
  pages = loaded line 16 8;
  journals = loaded line 24 8;
}

abbrev pub counts_fault : Option Layout → Bool → Option VolumeFault
counts_fault None fit = Some Magic
counts_fault (Some layout) fit = cond fit None (Some Counts)

-- no magic, or else counts that no volume on so many lines has
unfoldable pub superblock_fault : List ℕ → ℕ → Option VolumeFault
superblock_fault line lines =
    counts_fault (layout_of line) (counts_fit (loaded line 8 8) (loaded line 16 8) (loaded line 24 8) lines)

abbrev pub geometry_of : List (List ℕ) → Geometry
geometry_of lines = geometry_in (line_at lines 0)

abbrev pub superblock_question : List (List ℕ) → Question
superblock_question lines = question 0 (superblock_fault (line_at lines 0) (length lines))

-- a geometry that a volume on so many lines may have
pub record IsGeometry (geometry : Geometry) (lines : ℕ) : Type 0 where
  pub counts : AreCounts geometry.inodes geometry.pages geometry.journals lines
  pub shape : IsShape geometry.shape
