-- How a line's bytes fall into pieces: longest runs of name bytes, and other bytes alone.
use Rattle.std.specs.Prelude.{ℕ, Bool, true, false, ◌||◌, List, [], ◌∷◌, ◌==◌, if◌then◌else◌}
use Rattle.std.specs.Char.{is_ascii_alphanumeric}

-- letters, digits, `_` and `.`
unfoldable pub is_word : ℕ → Bool
is_word b = is_ascii_alphanumeric b || b == 95 || b == 46

-- space and tab
unfoldable pub is_blank : ℕ → Bool
is_blank b = b == 32 || b == 9

-- the next byte is one of a run
abbrev pub begins_word : List ℕ → Bool
begins_word [] = false
begins_word (b ∷ bs) = is_word b

-- b before the pieces after it: a part of the first where a run goes on, else a piece of its own
abbrev pub joined : ℕ → Bool → List (List ℕ) → List (List ℕ)
joined b false ps = (b ∷ []) ∷ ps
joined b true [] = (b ∷ []) ∷ []
joined b true (p ∷ ps) = (b ∷ p) ∷ ps

-- the pieces of a line: `#`, which is 35, begins a comment, and blanks belong to no piece
unfoldable pub pieces : List ℕ → List (List ℕ)
pieces [] = []
pieces (b ∷ bs) =
    if b == 35 then []
    else (if is_blank b then pieces bs
    else (if is_word b then joined b (begins_word bs) (pieces bs)
    else (b ∷ []) ∷ pieces bs))
