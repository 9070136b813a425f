-- The run of a line program, opcode by opcode.
use Rattle.std.proofs.Common.{◌≡◌, ℕ, zero, suc, ◌<◌, ◌≤◌, List, [], ◌∷◌, ◌++◌, length, refl, sym, ap, ◌∙◌, arith, option_map, option_and_then, Option, Some, None}
use Rattle.std.proofs.lemmas.List.{append_assoc, append-nil}
use Rattle.elf_file.specs.Opcodes.{listed, rows_in, step}
use Rattle.elf_file.specs.declared.lines.opcodes.Coding.{Coding}
use Rattle.elf_file.specs.declared.lines.opcodes.Registers.{Registers}
use Rattle.elf_file.specs.declared.lines.opcodes.Row.{Row}

joined : (front middle : List Row) (rest : Option (List Row)) → option_map (λ more. (front ++ middle) ++ more) rest ≡ option_map (λ more. front ++ more) (option_map (λ rows. middle ++ rows) rest)
joined front middle None = refl
joined front middle (Some rows) = ap Some (append_assoc front middle rows)

pub goes_on : (coding : Coding) (r after : Registers) (row : Option Row) (front : List Row) (n : ℕ) (rest behind : List ℕ) (all : Option (List Row))
    → length rest ≤ n → length behind < length rest → Some ((after, row), behind) ≡ step coding r rest
    → option_map (λ more. front ++ more) (rows_in n coding r rest) ≡ all
    → (m : ℕ) × (length behind ≤ m) × (option_map (λ more. (front ++ listed row) ++ more) (rows_in m coding after behind) ≡ all)
goes_on coding r after row front n [] behind all few shorter is eq = absurd (omega arith)
goes_on coding r after row front zero (code ∷ rest) behind all few shorter is eq = absurd (omega arith)
goes_on coding r after row front (suc m) (code ∷ rest) behind all few shorter is eq = (
  m,
  omega arith,
  joined front (listed row) (rows_in m coding after behind)
      ∙ ap (λ made. option_map (λ more. front ++ more) (option_and_then (λ x. option_map (λ rows. listed x.0.1 ++ rows) (rows_in m coding x.0.0 x.1)) made)) is
      ∙ eq,
)

pub stops : (coding : Coding) (r : Registers) (front : List Row) (n : ℕ) (rest : List ℕ) (all : Option (List Row))
    → length rest ≤ n → 1 ≤ length rest → None ≡ step coding r rest
    → option_map (λ more. front ++ more) (rows_in n coding r rest) ≡ all → None ≡ all
stops coding r front n [] all few some is eq = absurd (omega arith)
stops coding r front zero (code ∷ rest) all few some is eq = absurd (omega arith)
stops coding r front (suc m) (code ∷ rest) all few some is eq =
    ap (λ made. option_map (λ more. front ++ more) (option_and_then (λ x. option_map (λ rows. listed x.0.1 ++ rows) (rows_in m coding x.0.0 x.1)) made)) is ∙ eq

pub is_done : (coding : Coding) (r : Registers) (front : List Row) (n : ℕ) (rest : List ℕ) (all : Option (List Row))
    → length rest ≤ 0 → option_map (λ more. front ++ more) (rows_in n coding r rest) ≡ all → Some front ≡ all
is_done coding r front n (code ∷ rest) all empty eq = absurd (omega arith)
is_done coding r front n [] all empty eq = ap Some (sym (append-nil front)) ∙ eq
