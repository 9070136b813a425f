-- Where source lines stand: their sections and places, and the values of labels.
-- The lines before a line are listed with the last one first.
use Rattle.std.specs.Prelude.{ℕ, ◌+◌, ◌-◌, ◌*◌, ◌%◌, Bool, false, List, [], ◌∷◌, length, Option, Some, None, Result, Ok, Err, if◌then◌else◌}
use Rattle.std.specs.Str.{bytes_eq}
use Rattle.program.specs.declared.TheConstants.{TEXT_LIMIT, DATA_LIMIT}
use Rattle.assemble.specs.declared.asm_line.fault.AsmCode.{AsmCode}
use Rattle.asm_lex.specs.declared.asm_names.kinds.Section.{Section}
use Rattle.asm_lex.specs.declared.asm_names.kinds.Section.TheVariants.{Text, Data}
use Rattle.assemble.specs.Lines.{line_of}
use Rattle.assemble.specs.Meanings.{Meaning, LineMeaning, nothing, instruction, pair, branch, jump, address, section, numbers, zeros, align, width_bytes}

-- what a line says: a line at fault says nothing
abbrev pub said : Result LineMeaning AsmCode → LineMeaning
said (Ok line) = line
said (Err code) = record { label = None; meaning = nothing }

abbrev pub label_of : List ℕ → Option (List ℕ)
label_of line = (said (line_of line)).label

abbrev pub meaning_in : List ℕ → Meaning
meaning_in line = (said (line_of line)).meaning

-- the place of a section's first byte, and the most bytes that it has
abbrev pub base_of : Section → ℕ
base_of Text = 0x10000
base_of Data = 0x100000

abbrev pub limit_of : Section → ℕ
limit_of Text = TEXT_LIMIT
limit_of Data = DATA_LIMIT

-- how many bytes there are from a place to the next multiple of a number
abbrev pub padding : ℕ → ℕ → ℕ
padding place n = (n - place % n) % n

-- how many bytes a statement takes at a place
abbrev pub size_at : ℕ → Meaning → ℕ
size_at place nothing = 0
size_at place (instruction instr) = 4
size_at place (pair first second) = 8
size_at place (branch op rs1 rs2 label) = 4
size_at place (jump rd label) = 4
size_at place (address rd label) = 8
size_at place (section s) = 0
size_at place (numbers width values) = width_bytes width * length values
size_at place (zeros count) = count
size_at place (align boundary) = padding place boundary

-- the section that follows a statement which stands in a section
abbrev pub section_from : Section → Meaning → Section
section_from here nothing = here
section_from here (instruction instr) = here
section_from here (pair first second) = here
section_from here (branch op rs1 rs2 label) = here
section_from here (jump rd label) = here
section_from here (address rd label) = here
section_from here (section s) = s
section_from here (numbers width values) = here
section_from here (zeros count) = here
section_from here (align boundary) = here

-- the section of what follows these lines: a source begins in text
unfoldable pub section_after : List (List ℕ) → Section
section_after [] = Text
section_after (line ∷ earlier) = section_from (section_after earlier) (meaning_in line)

-- what so many bytes of one section add to another
abbrev pub share : Section → Section → ℕ → ℕ
share Text Text size = size
share Data Data size = size
share Text Data size = 0
share Data Text size = 0

-- how many bytes of a section these lines take
unfoldable pub size_of : Section → List (List ℕ) → ℕ
size_of s [] = 0
size_of s (line ∷ earlier) =
    size_of s earlier + share s (section_after earlier) (size_at (base_of s + size_of s earlier) (meaning_in line))

-- the place of what follows these lines: the base of its section, and the sizes of the section's lines among them
unfoldable pub place_after : List (List ℕ) → ℕ
place_after earlier = base_of (section_after earlier) + size_of (section_after earlier) earlier

-- the line defines this label
abbrev pub defines : Option (List ℕ) → List ℕ → Bool
defines None text = false
defines (Some label) text = bytes_eq label text

-- the value that a label has after these lines: the place of the line that defines it
unfoldable pub value_in : List (List ℕ) → List ℕ → Option ℕ
value_in [] text = None
value_in (line ∷ earlier) text = if defines (label_of line) text then Some (place_after earlier) else value_in earlier text
