-- The place words of an event as they are told, each behind a blank.
use Rattle.std.specs.Prelude.{◌==◌, ◌&&◌, ◌||◌, ℕ, Bool, not, nat_eq, List, [], ◌∷◌, codes, length, if◌then◌else◌}
use Rattle.std.specs.List.{flat_map, slice_split, starts_with}

-- the word says which step made the event
abbrev pub is_step_word : List ℕ → Bool
is_step_word word = starts_with nat_eq word (codes "step=")

-- some bytes; and not of a step, unless these words are asked for
abbrev pub is_told : Bool → List ℕ → Bool
is_told with_steps word = not (length word == 0) && (with_steps || not (is_step_word word))

abbrev pub spaced_word : Bool → List ℕ → List ℕ
spaced_word with_steps word = if is_told with_steps word then 32 ∷ word else []

-- of a text of place words, each with a blank behind it, those that are told
abbrev pub spaced_words : Bool → List ℕ → List ℕ
spaced_words with_steps place = flat_map (spaced_word with_steps) (slice_split (λ byte. byte == 32) place)
