-- What is printed of a program's text.
use Rattle.std.specs.Prelude.{◌≡◌, ℕ, ◌+◌, ◌*◌, List, [], ◌∷◌, ◌++◌}
use Rattle.std.specs.List.{enumerate_from, flat_map}
use Rattle.report.specs.Begun.{begun_at, begun_text, entered_at, entered_text}
use Rattle.report.specs.Places.{KnownOrigin}
use Rattle.report.specs.Words.{AreWords, word_text}
use Rattle.report.specs.declared.disassembly.words.TextWord.{TextWord}

-- the line of the word at an address
abbrev pub listing_line : List (List ℕ) → (ℕ → KnownOrigin) → ℕ → TextWord → List ℕ
listing_line lines origins address one =
    word_text address one ++ (begun_text lines (begun_at origins address) ++ (entered_text (entered_at origins address) ++ 10 ∷ []))

-- that of a word by its number, from 0; text begins at 0x10000
abbrev pub numbered_line : List (List ℕ) → (ℕ → KnownOrigin) → ℕ × TextWord → List ℕ
numbered_line lines origins one = listing_line lines origins (0x1_0000 + 4 * one.0) one.1

abbrev pub listing_of : List (List ℕ) → (ℕ → KnownOrigin) → List TextWord → List ℕ
listing_of lines origins words = flat_map (numbered_line lines origins) (enumerate_from 0 words)

-- what is printed of a text, with these lines of its source and what is known of each address
abbrev pub IsListing : List ℕ → List (List ℕ) → (ℕ → KnownOrigin) → List ℕ → Type 0
IsListing text lines origins listing = (words : List TextWord) × AreWords text words × (listing ≡ listing_of lines origins words)
