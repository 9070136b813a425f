-- The lines of a source and the places of an executable, each at the first word that it gives.
use Rattle.std.specs.Prelude.{ℕ, ◌+◌, ◌-◌, Bool, true, false, ◌&&◌, List, [], ◌∷◌, ◌++◌, Option, Some, None, ◌==◌, if◌then◌else◌, decimal, slice_index_or}
use Rattle.std.specs.Str.{bytes_eq}
use Rattle.report.specs.Places.{InExecutable, InFile, InFunction, KnownOrigin, executable, function_behind, function_text, line_text, nowhere, source_line, told_words}

-- the line of a source
abbrev pub line_in : KnownOrigin → Option ℕ
line_in nowhere = None
line_in (source_line line) = Some line
line_in (executable place) = None
line_in (told_words words) = None

-- nothing is known
abbrev pub unplaced : InExecutable
unplaced = record { line = None; function = None }

-- what is known of an instruction of an executable
abbrev pub place_in : KnownOrigin → InExecutable
place_in nowhere = unplaced
place_in (source_line line) = unplaced
place_in (executable place) = place
place_in (told_words words) = unplaced

-- the line of a word, where it isn't that of the word before
abbrev pub begun : Option ℕ → Option ℕ → Option ℕ
begun before None = None
begun None (Some here) = Some here
begun (Some before) (Some here) = if before == here then None else Some here

-- the line whose first word stands at an address
abbrev pub begun_at : (ℕ → KnownOrigin) → ℕ → Option ℕ
begun_at origins address = begun (line_in (origins (address - 4))) (line_in (origins address))

-- the line of a number, from 1
abbrev pub line_named : List (List ℕ) → ℕ → List ℕ
line_named lines number = slice_index_or lines (number - 1) []

-- behind a tab, which is 9, the number, a blank and the line
abbrev pub begun_text : List (List ℕ) → Option ℕ → List ℕ
begun_text lines None = []
begun_text lines (Some number) = 9 ∷ (decimal number ++ (32 ∷ line_named lines number))

-- a word of a function goes on where the word before it stood
abbrev pub goes_on : InFunction → InFunction → Bool
goes_on before here = here.1 == before.1 + 4 && bytes_eq before.0 here.0

-- a word is in the function of the word before it, and comes from the same line
abbrev pub same_function : Option InFunction → Option InFunction → Bool
same_function None None = true
same_function None (Some here) = false
same_function (Some before) None = false
same_function (Some before) (Some here) = goes_on before here

abbrev pub same_line : Option InFile → Option InFile → Bool
same_line None None = true
same_line None (Some here) = false
same_line (Some before) None = false
same_line (Some before) (Some here) = before.1 == here.1 && bytes_eq before.0 here.0

abbrev pub stays : InExecutable → InExecutable → Bool
stays before here = same_line before.line here.line && same_function before.function here.function

-- the place of a word, where its line or its function isn't that of the word before
abbrev pub entered : InExecutable → InExecutable → InExecutable
entered before here = if stays before here then unplaced else here

abbrev pub entered_at : (ℕ → KnownOrigin) → ℕ → InExecutable
entered_at origins address = entered (place_in (origins (address - 4))) (place_in (origins address))

-- behind a tab `at=FILE:LINE in=NAME+0xOFF`, or the one of the two that there is
abbrev pub tabbed : Option InFile → Option InFunction → List ℕ
tabbed None None = []
tabbed None (Some place) = 9 ∷ function_text place
tabbed (Some line) place = 9 ∷ (line_text line ++ function_behind place)

abbrev pub entered_text : InExecutable → List ℕ
entered_text place = tabbed place.line place.function
