use Rattle.std.proofs.Common.{◌≡◌, ℕ, Bor, List, [], string_bytes}
use Rattle.command_line.specs.CutReasons.{line_told}
use Rattle.command_line.proofs.Texts.{texts_below}
use Rattle.command_line.proofs.cut_reasons.lines_told.Given as goal

abbrev pub invariant-loop-line : goal.invariant-loop-line
invariant-loop-line l = string_bytes l.told ≡ texts_below [] (λ (line : Bor (List ℕ)). line_told l.json l.number l.ended line.now) l.line-items l.line-index
