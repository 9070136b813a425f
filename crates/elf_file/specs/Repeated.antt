-- So many things of one kind, one behind the other.
use Rattle.std.specs.Prelude.{ℕ, zero, suc, List, [], ◌∷◌, Option, Some, option_and_then, option_map}

-- a reader takes one from the front of the bytes, and leaves the bytes behind it
abbrev pub repeated : {A : Type 0} → (List ℕ → Option (A × List ℕ)) → ℕ → List ℕ → Option (List A × List ℕ)
repeated read zero bytes = Some ([], bytes)
repeated read (suc count) bytes =
    option_and_then (λ one. option_map (λ more. (one.0 ∷ more.0, more.1)) (repeated read count one.1)) (read bytes)
