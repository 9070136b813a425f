-- How many images a trace's moments have together, and the lines that stand free while the events are read.
use Rattle.std.specs.Prelude.{◌≡◌, ℕ, zero, suc, ◌+◌, ◌-◌, ◌*◌, ◌==◌, ◌<◌, ◌≤◌, nat_le, nat_lt, List, [], ◌∷◌, Option, Some, None, if◌then◌else◌, length, map, replicate, slice_index, slice_index_or, slice_set}
use Rattle.std.specs.List.{filter}
use Rattle.store_trace.specs.Cut.{cut_count, stored_lines}
use Rattle.store_trace.specs.Floor.{cleaned, floor}
use Rattle.store_trace.specs.Stores.{stores}
use Rattle.store_trace.specs.declared.crash_model.step.PersistenceStep.{PersistenceStep}
use Rattle.store_trace.specs.History.{at_moment}
use Rattle.store_trace.specs.declared.event.Event.{Event}
use Rattle.crash_image.specs.declared.totals.FreeLine.{FreeLine}

-- how many images the moments from `first` on that are below this one have together
abbrev pub images_between : List Event → ℕ → ℕ → ℕ
images_between events first zero = 0
images_between events first (suc m) = if nat_le first m then images_between events first m + cut_count (at_moment events m) else 0

-- the images of the moments from `first` on that are below `end` together, or that one of them has over 65,536
abbrev pub IsImageSum : List Event → ℕ → ℕ → Option ℕ → Type 0
IsImageSum events first end (Some total) =
    (total ≡ images_between events first end) × ((m : ℕ) → first ≤ m → m < end → cut_count (at_moment events m) ≤ 65536)
IsImageSum events first end None = (m : ℕ) × (first ≤ m) × (m < end) × (65536 < cut_count (at_moment events m))

-- the images of two rows of moments together, unless one has a moment with over 65,536
abbrev pub sum_of : Option ℕ → Option ℕ → Option ℕ
sum_of None other = None
sum_of (Some total) None = None
sum_of (Some total) (Some other) = Some (total + other)

-- the harts
abbrev pub harts : List ℕ
harts = 0 ∷ 1 ∷ 2 ∷ 3 ∷ 4 ∷ 5 ∷ 6 ∷ 7 ∷ []

-- line l above its floor: its stores, and those that each hart's last clean of it found
abbrev pub free_line : List PersistenceStep → ℕ → FreeLine
free_line p l = record {
  line = l;
  above = stores l p - floor l p;
  cleaned = map (λ h. cleaned l h p - floor l p) harts;
}

-- those of the lines that stand above their floor
abbrev pub free_among : List PersistenceStep → List ℕ → List FreeLine
free_among p [] = []
free_among p (l ∷ ls) = if nat_lt (floor l p) (stores l p) then free_line p l ∷ free_among p ls else free_among p ls

abbrev pub free_lines : List PersistenceStep → List FreeLine
free_lines p = free_among p (stored_lines p)

-- in how many ways free lines can stand together
abbrev pub choices_of : List FreeLine → ℕ
choices_of [] = 1
choices_of (f ∷ fs) = (f.above + 1) * choices_of fs

-- a line after its first store
abbrev pub stored_line : ℕ → FreeLine
stored_line l = record { line = l; above = 1; cleaned = replicate 8 0 }

abbrev pub raised_line : FreeLine → FreeLine
raised_line f = record f { above = f.above + 1 }

-- the free lines, upwards, after a store to line m
abbrev pub with_store : ℕ → List FreeLine → List FreeLine
with_store m [] = stored_line m ∷ []
with_store m (f ∷ fs) =
    if nat_lt m f.line then stored_line m ∷ (f ∷ fs) else (if m == f.line then raised_line f ∷ fs else f ∷ with_store m fs)

-- a free line after a clean of line m by hart h
abbrev pub cleaned_line : ℕ → ℕ → FreeLine → FreeLine
cleaned_line h m f = if f.line == m then record f { cleaned = slice_set f.cleaned h f.above } else f

-- a free line after a fence of hart h
abbrev pub fenced_line : ℕ → FreeLine → FreeLine
fenced_line h f = record f {
  above = f.above - slice_index f.cleaned h;
  cleaned = map (λ n. n - slice_index f.cleaned h) f.cleaned;
}

-- those of the lines that still stand above their floor
abbrev pub still_free : List FreeLine → List FreeLine
still_free fs = filter (λ f. nat_lt 0 f.above) fs

-- every free line before this place is lower than line m, and the one there isn't
pub record IsFreePlace (fs : List FreeLine) (m at : ℕ) : Type 0 where
  pub within : at ≤ length fs
  pub below : (i : ℕ) (d : FreeLine) → i < at → (slice_index_or fs i d).line < m
  pub above : (d : FreeLine) → at < length fs → m ≤ (slice_index_or fs at d).line
