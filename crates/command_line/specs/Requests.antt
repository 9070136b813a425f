-- What an outside recovery is asked: an image of a moment, by the lines that differ from the start.
-- Source: this project's own format.
use Rattle.std.specs.Prelude.{◌++◌, ℕ, List, [], ◌∷◌, codes, decimal, if◌then◌else◌, length, nat_lt, slice_index}
use Rattle.std.specs.List.{flat_map, range_with_len}
use Rattle.std.specs.Str.{bytes_eq}
use Rattle.hex.specs.Hex.{encode_lower}
use Rattle.line_memory.specs.Lines.{line_at}
use Rattle.routine_judge.specs.OutsideViews.{WantedView, known_image}
use Rattle.store_trace.specs.Floor.{floor}
use Rattle.store_trace.specs.History.{at_moment}
use Rattle.text.specs.Texts.{cut_text}
use Rattle.command_line.specs.Reports.{line_end}

-- a line by its name, with the number of its stores in the image, where that is above its floor at the moment
abbrev pub raised_entry : (ℕ → ℕ) → WantedView → ℕ → List (ℕ × ℕ)
raised_entry name wanted line =
    if nat_lt (floor line (at_moment wanted.events wanted.moment)) (slice_index wanted.numbers line)
    then (name line, slice_index wanted.numbers line) ∷ [] else []

-- those of the first lines
unfoldable pub raised_below : (ℕ → ℕ) → WantedView → ℕ → List (ℕ × ℕ)
raised_below name wanted count = flat_map (raised_entry name wanted) (range_with_len 0 count)

-- the bytes of a line in the image, and at the start
abbrev pub wanted_line : WantedView → ℕ → List ℕ
wanted_line wanted line = line_at (known_image wanted.start wanted.events wanted.numbers) line

-- `lN` and the line's bytes, two hexadecimal digits each
abbrev pub bytes_line : ℕ → List ℕ → List ℕ
bytes_line name bytes = codes "l" ++ (decimal name ++ (codes " " ++ (encode_lower bytes ++ line_end)))

-- of a line that isn't as at the start
abbrev pub changed_line : (ℕ → ℕ) → WantedView → ℕ → List ℕ
changed_line name wanted line =
    if bytes_eq (wanted_line wanted line) (line_at wanted.start line) then [] else bytes_line (name line) (wanted_line wanted line)

-- those of the first lines
unfoldable pub changed_below : (ℕ → ℕ) → WantedView → ℕ → List ℕ
changed_below name wanted count = flat_map (changed_line name wanted) (range_with_len 0 count)

-- `image CUT`, a line for each line that isn't as at the start, and `end`, where lines have these names
abbrev pub request_text : (ℕ → ℕ) → WantedView → List ℕ
request_text name wanted = codes "image " ++ (cut_text (raised_below name wanted (length wanted.start)) ++ (line_end
    ++ (changed_below name wanted (length wanted.start) ++ (codes "end" ++ line_end))))
