-- The table of labels.
use Rattle.std.specs.Prelude.{ℕ, List, Option, Some, option_map, if◌then◌else◌}
use Rattle.std.specs.Borrow.{Bor}
use Rattle.std.specs.Str.{bytes_eq}
use Rattle.std.specs.HashMap.{get_by}
use Rattle.assemble.specs.declared.labels.Labels.{Labels}
use Rattle.assemble.specs.Places.{defines}
use Rattle.assemble.specs.SourceLines.{Values}

-- the place of a label in the table
unfoldable pub place_at : Labels → List ℕ → Option ℕ
place_at labels text = get_by (λ key. bytes_eq text key.now) labels.places

-- the bytes of a label, if there is one
abbrev pub text_of : Option (Bor (List ℕ)) → Option (List ℕ)
text_of label = option_map (λ text. text.now) label

-- the values with this label's, if there is one
abbrev pub noted : Option (List ℕ) → ℕ → Values → List ℕ → Option ℕ
noted label place values text = if defines label text then Some place else values text
