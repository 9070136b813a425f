-- Texts to which nothing is added.
use Rattle.std.proofs.Common.{◌≡◌, ℕ, List, [], ◌++◌}
use Rattle.std.proofs.lemmas.List.{append-nil}

pub nothing_added : (text : List ℕ) → text ++ ([] ++ []) ≡ text
nothing_added text = append-nil text
