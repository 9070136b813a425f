-- What one more word adds to a listing.
use Rattle.std.proofs.Common.{◌≡◌, ◌∙◌, ℕ, ◌+◌, ◌*◌, ◌<◌, ◌≤◌, List, [], ◌∷◌, ◌++◌, length, get_or, take, ap, arith}
use Rattle.std.specs.List.{enumerate_from, flat_map}
use Rattle.std.proofs.lemmas.Grind.{flat_map-append}
use Rattle.std.proofs.lemmas.List.{append-nil, take_all, take_more}
use Rattle.std.proofs.lemmas.List.FromFn.{get_or-enumerate_from, length-enumerate_from}
use Rattle.report.specs.Listing.{listing_line, listing_of, numbered_line}
use Rattle.report.specs.Places.{KnownOrigin}
use Rattle.report.specs.declared.disassembly.words.TextWord.{TextWord}

-- the lines of the first words
abbrev pub lines_below : List (List ℕ) → (ℕ → KnownOrigin) → List TextWord → ℕ → List ℕ
lines_below lines line words i = flat_map (numbered_line lines line) (take i (enumerate_from 0 words))

from_zero : (i : ℕ) → 0 + i ≡ i
from_zero i = omega arith

pub lines_more : (lines : List (List ℕ)) (line : ℕ → KnownOrigin) (words : List TextWord) (i : ℕ) (d : TextWord) → i < length words
    → lines_below lines line words (i + 1) ≡ lines_below lines line words i ++ listing_line lines line (0x1_0000 + 4 * i) (get_or words i d)
lines_more lines line words i d within =
    let all : List (ℕ × TextWord) = enumerate_from 0 words in
    let shown = numbered_line lines line in
    ap (flat_map shown) (take_more all i (0, d) (omega (arith, length-enumerate_from 0 words)))
    ∙ flat_map-append shown (take i all) (get_or all i (0, d) ∷ [])
    ∙ ap (λ (l : List ℕ). flat_map shown (take i all) ++ l) (append-nil (shown (get_or all i (0, d))))
    ∙ ap (λ (one : ℕ × TextWord). flat_map shown (take i all) ++ shown one) (get_or-enumerate_from 0 words i (0, d) within)
    ∙ ap (λ (k : ℕ). flat_map shown (take i all) ++ listing_line lines line (0x1_0000 + 4 * k) (get_or words i d)) (from_zero i)

pub lines_all : (lines : List (List ℕ)) (line : ℕ → KnownOrigin) (words : List TextWord) (i : ℕ) → length words ≤ i
    → lines_below lines line words i ≡ listing_of lines line words
lines_all lines line words i past =
    ap (flat_map (numbered_line lines line)) (take_all i (enumerate_from 0 words) (omega (arith, past, length-enumerate_from 0 words)))
