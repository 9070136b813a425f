-- The files of a unit by their numbers. Source: DWARF 4, section 6.2.4; DWARF 5, section 6.2.4.
use Rattle.std.specs.Prelude.{ℕ, zero, suc, ◌-◌, ◌==◌, List, [], ◌∷◌, length, Option, Some, None, option_and_then, option_map, slice_get, if◌then◌else◌}
use Rattle.elf_file.specs.Forms.{TextsByPlace, paths_at}
use Rattle.elf_file.specs.Numbers.{unsigned_at}
use Rattle.elf_file.specs.Texts.{next_text}

-- the bytes behind texts that end with an empty one; each takes a byte at least
abbrev pub behind_texts : ℕ → List ℕ → Option (List ℕ)
behind_texts zero bytes = None
behind_texts (suc n) bytes = option_and_then (λ text. if length text.0 == 0 then Some text.1 else behind_texts n text.1) (next_text bytes)

-- a file of version 4: its path, and behind it three numbers
abbrev pub behind_numbers : ℕ → List ℕ → Option (List ℕ)
behind_numbers zero bytes = Some bytes
behind_numbers (suc n) bytes = option_and_then (λ number. behind_numbers n number.1) (unsigned_at bytes)

-- up to one with an empty path
abbrev pub files_in : ℕ → List ℕ → Option (List (List ℕ))
files_in zero bytes = None
files_in (suc n) bytes = option_and_then (λ path. if length path.0 == 0 then Some [] else
    option_and_then (λ rest. option_map (λ more. path.0 ∷ more) (files_in n rest)) (behind_numbers 3 path.1)) (next_text bytes)

-- those of a header of version 4, behind the directories
abbrev pub old_files : List ℕ → Option (List (List ℕ))
old_files bytes = option_and_then (λ rest. files_in (length rest) rest) (behind_texts (length bytes) bytes)

-- those of version 5, behind the directories
abbrev pub new_files : TextsByPlace → List ℕ → Option (List (List ℕ))
new_files texts bytes =
    option_and_then (λ directories. option_map (λ files. files.0) (paths_at texts directories.1)) (paths_at texts bytes)

-- by the version, which is 4 or 5
abbrev pub files_of : ℕ → TextsByPlace → List ℕ → Option (List (List ℕ))
files_of version texts bytes = if version == 4 then old_files bytes else new_files texts bytes

-- the path of a number: those of version 4 are counted from 1, and those of version 5 from 0
abbrev pub path_of : ℕ → List (List ℕ) → ℕ → Option (List ℕ)
path_of version files number = if version == 4 then (if number == 0 then None else slice_get files (number - 1)) else slice_get files number
