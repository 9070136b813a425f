-- The functions of an ELF file. Source: gABI, chapter 4, "Symbol Table" (Elf64_Sym).
use Rattle.std.specs.Bool.{then_some}
use Rattle.std.specs.List.{find, fold}
use Rattle.std.specs.Option.{option_and_then, option_map, option_to_list}
use Rattle.std.specs.Str.{bytes_eq}
use Rattle.std.specs.Prelude.{ℕ, zero, suc, ◌+◌, ◌*◌, ◌/◌, ◌%◌, Bool, ◌&&◌, not, ◌==◌, nat_lt, nat_le, if◌then◌else◌, List, [], ◌++◌, length, slice_index, Option, Some, None}
use Rattle.elf_file.specs.Header.{number_at}
use Rattle.elf_file.specs.Sections.{bytes_of_section, first_section, section_bytes, section_count, short_text_at}
use Rattle.elf_file.specs.FunctionSymbols.{FunctionSymbol}
use Rattle.elf_file.specs.declared.section_header.SectionHeader.{SectionHeader}
use Rattle.elf_file.specs.declared.symbol.Symbol.{Symbol}

-- the entry of a number of a symbol table: st_name, st_info, st_shndx, st_value, st_size
unfoldable pub symbol_at : List ℕ → ℕ → Symbol
symbol_at symbols number = record {
  name = number_at 4 symbols (24 * number);
  info = slice_index symbols (24 * number + 4);
  section = number_at 2 symbols (24 * number + 6);
  value = number_at 8 symbols (24 * number + 8);
  size = number_at 8 symbols (24 * number + 16);
}

-- a function (STT_FUNC, the low four bits of st_info) that is in the file (not SHN_UNDEF), of some bytes
abbrev pub is_function : Symbol → Bool
is_function symbol = (symbol.info % 16 == 2) && (not (symbol.section == 0) && not (symbol.size == 0))

-- a name isn't empty
abbrev pub named : Symbol → List ℕ → Option FunctionSymbol
named symbol name = then_some (nat_lt 0 (length name)) (record { name = name; address = symbol.value; size = symbol.size })

-- the function that a symbol is, whose name of 1 to 255 bytes stands in these strings
abbrev pub function_of : List ℕ → Symbol → Option FunctionSymbol
function_of strings symbol = if is_function symbol then option_and_then (named symbol) (short_text_at strings symbol.name 255) else None

-- those among the first entries of a symbol table
abbrev pub functions_before : List ℕ → List ℕ → ℕ → List FunctionSymbol
functions_before symbols strings zero = []
functions_before symbols strings (suc number) = functions_before symbols strings number ++ option_to_list (function_of strings (symbol_at symbols number))

-- a symbol table (SHT_SYMTAB)
abbrev pub is_symbol_table : SectionHeader → Bool
is_symbol_table header = header.kind == 2

-- those of a table of entries of 24 bytes, whose link is the number of its strings' section
abbrev pub functions_in : List ℕ → Option SectionHeader → List FunctionSymbol
functions_in file None = []
functions_in file (Some table) =
    if table.entry_size == 24 then functions_before (section_bytes file table) (bytes_of_section file table.link) (length (section_bytes file table) / 24) else []

-- the functions of a file are those of its first symbol table, in the table's order
abbrev pub functions_of : List ℕ → List FunctionSymbol
functions_of file = functions_in file (first_section is_symbol_table file (section_count file))

-- a function has the addresses of its bytes
abbrev pub has_address : FunctionSymbol → ℕ → Bool
has_address function pc = nat_le function.address pc && nat_lt pc (function.address + function.size)

-- of two functions that have an address, the later one in the table only where it begins later
abbrev pub chosen : ℕ → Option FunctionSymbol → FunctionSymbol → Option FunctionSymbol
chosen pc None function = then_some (has_address function pc) function
chosen pc (Some best) function = if has_address function pc && nat_lt best.address function.address then Some function else Some best

-- the function at an address: of those that have it the one that begins last, and of these the first in the table
abbrev pub function_at : List FunctionSymbol → ℕ → Option FunctionSymbol
function_at functions pc = fold (chosen pc) None functions

-- the address of a name: that of the first function in the table that has it
abbrev pub address_of : List FunctionSymbol → List ℕ → Option ℕ
address_of functions name = option_map (λ (function : FunctionSymbol). function.address) (find (λ (function : FunctionSymbol). bytes_eq function.name name) functions)
