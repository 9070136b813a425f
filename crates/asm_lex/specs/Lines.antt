-- The lines of a text, in bytes: 10 is LF and 13 is CR.
use Rattle.std.specs.Prelude.{ℕ, Bool, false, ◌&&◌, List, [], ◌∷◌, ◌==◌, if◌then◌else◌}
use Rattle.std.specs.List.{onto_first}

-- the next byte is LF
abbrev pub begins_feed : List ℕ → Bool
begins_feed [] = false
begins_feed (b ∷ bs) = b == 10

-- the text without the CRs that stand right before an LF
unfoldable pub without_returns : List ℕ → List ℕ
without_returns [] = []
without_returns (b ∷ bs) = if b == 13 && begins_feed bs then without_returns bs else b ∷ without_returns bs

-- each LF ends a line, and so does the end of a text that doesn't end with LF
unfoldable pub cut_at_feeds : List ℕ → List (List ℕ)
cut_at_feeds [] = []
cut_at_feeds (b ∷ bs) = if b == 10 then [] ∷ cut_at_feeds bs else onto_first b (cut_at_feeds bs)

-- the lines of a text, without their ends
unfoldable pub lines_of : List ℕ → List (List ℕ)
lines_of bs = cut_at_feeds (without_returns bs)
