-- One more entry of a symbol table.
use Rattle.std.proofs.Common.{◌≡◌, ◌+◌, ◌++◌, ℕ, List, [], ◌∷◌, ap, ◌∙◌, add-one, append-nil}
use Rattle.std.specs.Option.{option_to_list}
use Rattle.std.specs.Prelude.{Option, None, Some}
use Rattle.elf_file.specs.FunctionSymbols.{FunctionSymbol}
use Rattle.elf_file.specs.Functions.{function_of, functions_before, symbol_at}

pub one_more : (symbols strings : List ℕ) (n : ℕ) (function : FunctionSymbol) → function_of strings (symbol_at symbols n) ≡ Some function
    → functions_before symbols strings (n + 1) ≡ functions_before symbols strings n ++ function ∷ []
one_more symbols strings n function is =
    rw add-one (ap (λ (o : Option FunctionSymbol). functions_before symbols strings n ++ option_to_list o) is)

pub none_more : (symbols strings : List ℕ) (n : ℕ) → function_of strings (symbol_at symbols n) ≡ None
    → functions_before symbols strings (n + 1) ≡ functions_before symbols strings n
none_more symbols strings n is =
    rw add-one (ap (λ (o : Option FunctionSymbol). functions_before symbols strings n ++ option_to_list o) is ∙ append-nil (functions_before symbols strings n))
