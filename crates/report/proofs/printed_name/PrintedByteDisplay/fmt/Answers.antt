use Rattle.std.proofs.Common.{◌≡◌, ◌∙◌, ◌==◌, ◌∷◌, false, ap, arith, rules, sym}
use Rattle.std.proofs.lemmas.Bool.Decides.{nat_tests}
use Rattle.std.proofs.lemmas.Fmt.{hex_byte}
use Rattle.report.specs.Forms.{name_byte}
use Rattle.report.specs.PrintedNames.{is_graphic}
use Rattle.report.specs.Rows.{two_digits}
use Rattle.report.specs.declared.form.Form.{Form}
use Rattle.report.proofs.PrintedNames.{json_escaped}
use Rattle.report.proofs.printed_name.PrintedByteDisplay.fmt.Goals as goal

pub returns-in-Json-3-clause-writes : goal.returns-in-Json-3-clause-writes
returns-in-Json-3-clause-writes g c =
    let byte = c.args.self.now.byte in
    let other : (byte == 34) ≡ false = grind (arith, nat_tests) in
    let escaped : is_graphic byte ≡ false = sym c.if-is_graphic-2.ensures in
    let same : name_byte c.args.self.now.form byte ≡ 92 ∷ 92 ∷ 120 ∷ two_digits byte =
    ap (λ (f : Form). name_byte f byte) c.in-Json-3.is ∙ json_escaped byte other escaped in
    rw same (search (rules, hex_byte))
