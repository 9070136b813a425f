use Rattle.std.proofs.Common.{◌≡◌, ◌∙◌, get_or, sym, ap}
use Rattle.elf_file.specs.FunctionSymbols.{FunctionSymbol}
use Rattle.elf_file.specs.Functions.{has_address}
use Rattle.elf_file.proofs.Cells.{kept_by_address, kept_by_order, taken_by_both}
use Rattle.elf_file.proofs.functions.number_at.Goals as goal
use Rattle.elf_file.proofs.functions.number_at.Goals.{then-has+then-begins_behind, else-has, else-has-via-then-has+else-begins_behind, else-has-via-else-has}

pub loop-number-preserved : goal.loop-number-preserved
loop-number-preserved c =
    let table = c.args.table.now in
    let n = c.loop-number.number in
    let f : FunctionSymbol = c.index-table-number.result in
    let best = c.loop-number.best in
    let test : has_address (get_or table n f) c.args.pc ≡ c.has.result =
    ap (λ (g : FunctionSymbol). has_address g c.args.pc) (sym c.index-table-number.is) ∙ sym c.has.ensures in
    elim c.if-has.branch [
      | then-has+then-begins_behind w ↦
          rw w.best-is (taken_by_both table c.args.pc n f best c.loop-number-test.true (test ∙ w.if-has.true)
          (sym w.begins_behind.ensures ∙ w.if-begins_behind.true) c.loop-number.invariant)
      | else-has w ↦
          rw w.best-is (elim w.else-has.branch [
            | else-has-via-then-has+else-begins_behind w' ↦
                kept_by_order table c.args.pc n f best c.loop-number-test.true (test ∙ w'.if-has.true)
                (sym w'.begins_behind.ensures ∙ w'.if-begins_behind.false) c.loop-number.invariant
            | else-has-via-else-has w' ↦
                kept_by_address table c.args.pc n f best c.loop-number-test.true (test ∙ w'.if-has.false) c.loop-number.invariant
          ])
    ]
