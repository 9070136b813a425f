-- What `code` prints.
use Rattle.std.specs.Prelude.{ℕ, List, Option, Some, None}
use Rattle.arguments.specs.Codes.{list_text, meaning_text}
use Rattle.arguments.specs.declared.codes.table.Meaning.{Meaning}

-- what one code means, or the list of all
abbrev pub code_text : Option Meaning → List ℕ
code_text None = list_text
code_text (Some meaning) = meaning_text meaning
