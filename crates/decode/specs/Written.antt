-- The parts of an instruction's text, as they are written one after the other.
use Rattle.std.specs.Prelude.{ℕ, List, [], ◌∷◌, ◌++◌, decimal}
use Rattle.std.specs.Fmt.{signed_decimal}
use Rattle.decode.specs.Text.{register_text, place_text, address_text, distance_text, set_text}
use Rattle.decode.specs.declared.text.Mnemonic.{Mnemonic}
use Rattle.decode.specs.declared.text.Operand.{Operand}
use Rattle.decode.specs.declared.text.Operand.TheVariants as operand
use Rattle.decode.specs.declared.text.Operands.{Operands}
use Rattle.decode.specs.declared.text.Operands.TheVariants as operands

abbrev pub name_text : Mnemonic → List ℕ
name_text shown = shown.name.now ++ (shown.width.now ++ shown.ordering.now)

abbrev pub operand_text : Operand → List ℕ
operand_text (operand.Register reg) = register_text reg
operand_text (operand.Signed z) = signed_decimal z
operand_text (operand.Unsigned n) = decimal n
operand_text (operand.Place offset base) = place_text offset base
operand_text (operand.Address base) = address_text base
operand_text (operand.Target distance) = distance_text distance
operand_text (operand.Accesses set) = set_text set

abbrev pub texts_of : Operands → List (List ℕ)
texts_of operands.None = []
texts_of (operands.One a) = operand_text a ∷ []
texts_of (operands.Two a b) = operand_text a ∷ operand_text b ∷ []
texts_of (operands.Three a b c) = operand_text a ∷ operand_text b ∷ operand_text c ∷ []
