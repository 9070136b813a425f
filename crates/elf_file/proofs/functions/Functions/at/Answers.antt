use Rattle.std.proofs.Common.{◌≡◌, ◌∙◌, ◌-◌, ◌≤◌, ℕ, List, Some, get_or, sym, ap, arith}
use Rattle.std.proofs.lemmas.Option.{slice_get-get_or}
use Rattle.elf_file.specs.FunctionSymbols.{FunctionSymbol}
use Rattle.elf_file.proofs.Cells.{address_below}
use Rattle.elf_file.proofs.functions.Functions.at.Goals as goal

pub overflow_sub-result : goal.overflow_sub-result
overflow_sub-result c =
    let n = c.in_ok-number_at.field-0 in
    let f : FunctionSymbol = c.index-function.result.now in
    let read : f ≡ get_or c.args.self.now n f = c.index-function.ensures ∙ ap (λ (t : List FunctionSymbol). get_or t n f) c.self.view_is in
    let same : c.function.inside.address ≡ f.address = ap (λ (g : FunctionSymbol). g.address) c.function.view_is in
    let below : f.address ≤ c.args.pc = address_below c.args.self.now c.args.pc n f (c.in_ok-number_at.ensures {u = tt}) read in
    omega (arith, below, same)

pub returns : goal.returns
returns c =
    let n = c.in_ok-number_at.field-0 in
    let f : FunctionSymbol = c.index-function.result.now in
    let is = c.in_ok-number_at.ensures {u = tt} in
    let read : f ≡ get_or c.args.self.now n f = c.index-function.ensures ∙ ap (λ (t : List FunctionSymbol). get_or t n f) c.self.view_is in
    let same : c.function.inside.address ≡ f.address = ap (λ (g : FunctionSymbol). g.address) c.function.view_is in (
      f,
      is.1 ∙ slice_get-get_or c.args.self.now n f is.0 ∙ ap (λ (g : FunctionSymbol). Some g) (sym read),
      c.deref.ensures.value ∙ ap (λ (g : FunctionSymbol). g.name) c.function.view_is,
      ap (λ (a : ℕ). c.args.pc - a) same,
    )
