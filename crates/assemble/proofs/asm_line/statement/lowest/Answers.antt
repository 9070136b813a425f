use Rattle.std.proofs.Common.{◌≡◌, ◌∙◌, refl}
use Rattle.std.specs.Ordering.{ord_min}
use Rattle.assemble.specs.declared.asm_line.fault.AsmCode.{AsmCode}
use Rattle.assemble.specs.declared.asm_line.fault.AsmCode.TheVariants.{BadToken, Mnemonic, Operands, Register, Range, UnknownLabel, LabelTwice, WrongSection, TooLarge, Memory}
use Rattle.assemble.specs.contracts.asm_line.fault.AsmCodeOrd.TheImpl.{cmp-value}
use Rattle.assemble.specs.AsmLineFaults.{lower}
use Rattle.assemble.proofs.asm_line.statement.lowest.Goals as goal

-- the order of the codes is that of their numbers
lowest_is : (first code : AsmCode) → ord_min cmp-value.it first code ≡ lower first code
lowest_is BadToken BadToken = refl
lowest_is BadToken code = refl
lowest_is Mnemonic BadToken = refl
lowest_is Mnemonic code = refl
lowest_is Operands BadToken = refl
lowest_is Operands code = refl
lowest_is Register BadToken = refl
lowest_is Register code = refl
lowest_is Range BadToken = refl
lowest_is Range code = refl
lowest_is UnknownLabel BadToken = refl
lowest_is UnknownLabel code = refl
lowest_is LabelTwice BadToken = refl
lowest_is LabelTwice code = refl
lowest_is WrongSection BadToken = refl
lowest_is WrongSection code = refl
lowest_is TooLarge BadToken = refl
lowest_is TooLarge code = refl
lowest_is Memory BadToken = refl
lowest_is Memory code = refl

pub returns-in-Err : goal.returns-in-Err
returns-in-Err c = rw c.in-Err.is (c.min.ensures ∙ lowest_is c.in-Err.first c.args.code)
