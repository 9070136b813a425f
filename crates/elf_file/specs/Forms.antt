-- The tables of directories and files in the header of a unit of version 5. Source: DWARF 5, sections 6.2.4.1 and 7.5.6.
use Rattle.std.specs.Prelude.{ℕ, ◌==◌, nat_lt, List, [], ◌∷◌, length, drop, Option, Some, None, option_and_then, option_map, if◌then◌else◌}
use Rattle.elf_file.specs.Numbers.{fixed_at, unsigned_at}
use Rattle.elf_file.specs.Repeated.{repeated}
use Rattle.elf_file.specs.Texts.{next_text}
use Rattle.elf_file.specs.declared.lines.forms.Format.{Format}

-- the text at each place of .debug_line_str
abbrev pub TextsByPlace : Type 0
TextsByPlace = ℕ → Option (List ℕ)

-- what a field of an entry holds: a text, or something else, which is None; and the bytes behind it
abbrev pub Value : Type 0
Value = Option (Option (List ℕ) × List ℕ)

-- no text: so many bytes are passed over
abbrev pub skipped : ℕ → List ℕ → Value
skipped size bytes = if nat_lt (length bytes) size then None else Some (None, drop size bytes)

-- DW_FORM_string, DW_FORM_line_strp, DW_FORM_udata, DW_FORM_block
abbrev pub text_value : List ℕ → Value
text_value bytes = option_map (λ text. (Some text.0, text.1)) (next_text bytes)

abbrev pub string_value : TextsByPlace → List ℕ → Value
string_value texts bytes = option_and_then (λ at. option_map (λ text. (Some text, at.1)) (texts at.0)) (fixed_at 4 bytes)

abbrev pub number_value : List ℕ → Value
number_value bytes = option_map (λ number. (None, number.1)) (unsigned_at bytes)

abbrev pub block_value : List ℕ → Value
block_value bytes = option_and_then (λ size. skipped size.0 size.1) (unsigned_at bytes)

-- by its form: besides these DW_FORM_data1, data2, data4, data8 and data16
abbrev pub value_at : ℕ → TextsByPlace → List ℕ → Value
value_at form texts bytes =
    if form == 0x08 then text_value bytes else
    if form == 0x1f then string_value texts bytes else
    if form == 0x0b then skipped 1 bytes else
    if form == 0x05 then skipped 2 bytes else
    if form == 0x06 then skipped 4 bytes else
    if form == 0x07 then skipped 8 bytes else
    if form == 0x1e then skipped 16 bytes else
    if form == 0x0f then number_value bytes else
    if form == 0x09 then block_value bytes else None

-- a field of an entry: its content and its form
abbrev pub format_at : List ℕ → Option (Format × List ℕ)
format_at bytes = option_and_then (λ content.
    option_map (λ form. (record { content = content.0; form = form.0 }, form.1)) (unsigned_at content.1)) (unsigned_at bytes)

-- the fields of each entry, whose count is a byte
abbrev pub formats_at : List ℕ → Option (List Format × List ℕ)
formats_at [] = None
formats_at (count ∷ bytes) = repeated format_at count bytes

-- the path of an entry is its last field of DW_LNCT_path (1), where it is a text; here it was before
abbrev pub path_with : ℕ → Option (List ℕ) → Option (List ℕ) → Option (List ℕ)
path_with content path value = if content == 1 then value else path

abbrev pub path_in : List Format → TextsByPlace → Option (List ℕ) → List ℕ → Value
path_in [] texts path bytes = Some (path, bytes)
path_in (format ∷ formats) texts path bytes = option_and_then (λ value.
    path_in formats texts (path_with format.content path value.0) value.1) (value_at format.form texts bytes)

-- an entry that has a path
abbrev pub with_path : Option (List ℕ) × List ℕ → Option (List ℕ × List ℕ)
with_path entry = option_map (λ path. (path, entry.1)) entry.0

abbrev pub entry_at : List Format → TextsByPlace → List ℕ → Option (List ℕ × List ℕ)
entry_at formats texts bytes = option_and_then with_path (path_in formats texts None bytes)

-- the paths of a table, in order
abbrev pub paths_behind : TextsByPlace → List Format → List ℕ → Option (List (List ℕ) × List ℕ)
paths_behind texts formats bytes = option_and_then (λ count. repeated (entry_at formats texts) count.0 count.1) (unsigned_at bytes)

abbrev pub paths_at : TextsByPlace → List ℕ → Option (List (List ℕ) × List ℕ)
paths_at texts bytes = option_and_then (λ formats. paths_behind texts formats.0 formats.1) (formats_at bytes)
