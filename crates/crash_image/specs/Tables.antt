-- The lines of an index in pages of 64, of which one is made when one of its lines is first stored to or cleaned.
use Rattle.std.specs.Prelude.{◌≡◌, ◌⊎◌, ℕ, List, [], ◌∷◌, length, replicate, slice_index_or, slice_set}
use Rattle.std.specs.List.{flat_map}
use Rattle.crash_image.specs.Lines.{LineView, unstored, raised_to, with_store}
use Rattle.crash_image.specs.declared.trace_index.line.Stored.{Stored}

-- the 64 lines of a page, which is made or not
abbrev pub page_lines : List LineView → List LineView
page_lines [] = replicate 64 unstored
page_lines (line ∷ lines) = line ∷ lines

-- it has none of them or all
abbrev pub IsMade : List LineView → Type 0
IsMade lines = (length lines ≡ 0) ⊎ (length lines ≡ 64)

-- the lines of all pages
abbrev pub table_lines : List (List LineView) → List LineView
table_lines pages = flat_map (λ page. page) pages

-- the lines with a store more of the one at this place, which started with these bytes
pub record HasStored (start : List ℕ) (store : Stored) (at : ℕ) (old new : List LineView) : Type 0 where
  pub line : LineView
  pub set : new ≡ slice_set old at line
  pub stores : line.stores ≡ with_store start (slice_index_or old at unstored).stores store
  pub raises : line.raises ≡ (slice_index_or old at unstored).raises

-- the lines with the floor of the one at this place raised to at least this one
pub record HasRaised (event floor at : ℕ) (old new : List LineView) : Type 0 where
  pub line : LineView
  pub set : new ≡ slice_set old at line
  pub stores : line.stores ≡ (slice_index_or old at unstored).stores
  pub raises : line.raises ≡ raised_to (slice_index_or old at unstored).raises event floor
