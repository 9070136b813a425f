use Rattle.std.proofs.Common.{rules, ◌≡◌, ◌++◌, ℕ, List, [], ◌∷◌, sym, ap, ◌∙◌}
use Rattle.std.specs.Prelude.{None, Some}
use Rattle.elf_file.specs.FunctionSymbols.{FunctionSymbol}
use Rattle.elf_file.specs.Functions.{function_of, symbol_at}
use Rattle.elf_file.specs.declared.symbol.Symbol.{Symbol}
use Rattle.elf_file.proofs.Symbols.{none_more, one_more}
use Rattle.elf_file.proofs.functions.of_symbols.Goals as goal
use Rattle.elf_file.proofs.functions.of_symbols.Goals.{in-Some+in_ok-from_slice+in_ok-push, in_default}

pub loop-number-preserved : goal.loop-number-preserved
loop-number-preserved c =
    let symbols = c.args.symbols.now in
    let strings = c.args.strings.now in
    let n = c.loop-number.number in
    let symbol = c.read-symbol.result in
    elim c.match-function_name.branch [
      | in-Some+in_ok-from_slice+in_ok-push w ↦
          let with_name : List ℕ → FunctionSymbol = λ (t : List ℕ). record { name = t; address = symbol.value; size = symbol.size } in
          let function : FunctionSymbol = with_name w.in_ok-from_slice.field-0.items in
          let named : function_of strings symbol ≡ Some (with_name w.in-Some.name.now) = w.in-Some.ensures in
          let is : function_of strings (symbol_at symbols n) ≡ Some function =
          ap (λ (s : Symbol). function_of strings s) (sym c.read-symbol.ensures)
          ∙ named
          ∙ ap (λ (t : List ℕ). Some (with_name t)) (sym w.in_ok-from_slice.ensures.items) in
          let pushed : w.push.new.self.items ≡ c.loop-number.table.items ++ function ∷ [] = w.in_ok-push.ensures.items in
          rw w.table-is (
          pushed
          ∙ ap (λ (l : List FunctionSymbol). l ++ function ∷ []) c.loop-number.invariant
          ∙ sym (one_more symbols strings n function is))
      | in_default w ↦
          let none : function_of strings symbol ≡ None = search rules in
          let is : function_of strings (symbol_at symbols n) ≡ None = ap (λ (s : Symbol). function_of strings s) (sym c.read-symbol.ensures) ∙ none in
          rw w.table-is (c.loop-number.invariant ∙ sym (none_more symbols strings n is))
    ]
