-- Whether a line is this one.
use Rattle.std.proofs.Common.{◌≡◌, ◌≢◌, ◌∙◌, ◌==◌, ◌↔◌, ℕ, Bool, true, false, List, sym, ap, Option, Some, None, option_map, if◌then◌else◌}
use Rattle.std.proofs.lemmas.Option.{some_pair_parts}
use Rattle.std.proofs.lemmas.Slice.Eq.{bytes_eq-Decides}
use Rattle.std.specs.Prelude.{option_and_then}
use Rattle.std.specs.Str.{bytes_eq}
use Rattle.elf_file.specs.Lines.{HasLine, file_line, file_name, row_at, said_line}
use Rattle.elf_file.specs.SourceRows.{KnownRow}

-- two of them are one where name and line are
same_said : (name other : List ℕ) (line number : ℕ) → name ≡ other → line ≡ number → file_line name line ≡ file_line other number
same_said name other line number p q = ap (λ (l : List ℕ). file_line l line) p ∙ ap (λ (n : ℕ). file_line other n) q

-- a row says its own line
own_line : (is_none : Bool) (o : Option (List ℕ)) (n line : ℕ) (name : List ℕ)
    → (if is_none then None else option_map (λ other. (other, n)) o) ≡ file_line name line → n ≡ line
own_line true o n line name e = absurd cc
own_line false None n line name e = absurd cc
own_line false (Some other) n line name e = (some_pair_parts other name n line e).1

said_line_of : (row : KnownRow) (name : List ℕ) (line : ℕ) → said_line row ≡ file_line name line → row.line ≡ line
said_line_of row name line e = own_line (row.line == 0) (option_and_then file_name row.path) row.line line name e

pub other_line : (row : KnownRow) (name : List ℕ) (line : ℕ) → row.line ≢ line → (false ≡ true) ↔ (said_line row ≡ file_line name line)
other_line row name line differs = (λ e. absurd cc, λ e. absurd (differs (said_line_of row name line e)))

pub no_line : (name : List ℕ) (line : ℕ) (o : Option (List ℕ × ℕ)) → None ≡ o → (false ≡ true) ↔ (o ≡ file_line name line)
no_line name line o is = (λ e. absurd cc, λ e. absurd cc)

pub says_name : (row : KnownRow) (found name : List ℕ) (number line : ℕ) → row.line ≡ line → file_line found number ≡ said_line row
    → (bytes_eq found name ≡ true) ↔ (said_line row ≡ file_line name line)
says_name row found name number line same is = (
  λ e.
      let number_is : row.line ≡ number = said_line_of row found number (sym is) in
      sym is ∙ same_said found name number line ((bytes_eq-Decides found name).0 e) (sym number_is ∙ same),
  λ e. (bytes_eq-Decides found name).1 (some_pair_parts found name number line (is ∙ e)).0,
)

-- an instruction comes from the line that its row says
pub row_says : (rows : List KnownRow) (row : KnownRow) (name : List ℕ) (line pc : ℕ) (b : Bool) → row_at rows pc ≡ Some row
    → (b ≡ true) ↔ (said_line row ≡ file_line name line) → (b ≡ true) ↔ HasLine rows name line pc
row_says rows row name line pc b there is =
    let same : option_and_then said_line (row_at rows pc) ≡ said_line row = ap (λ (o : Option KnownRow). option_and_then said_line o) there in
    (λ e. same ∙ is.0 e, λ e. is.1 (sym same ∙ e))

pub no_row_says : (rows : List KnownRow) (name : List ℕ) (line pc : ℕ) → row_at rows pc ≡ None → (false ≡ true) ↔ HasLine rows name line pc
no_row_says rows name line pc none =
    let same : option_and_then said_line (row_at rows pc) ≡ None = ap (λ (o : Option KnownRow). option_and_then said_line o) none in
    (λ e. absurd cc, λ e. absurd (cc (sym same ∙ e)))
