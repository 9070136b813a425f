use Rattle.std.proofs.Common.{◌≡◌, [], string_bytes}
use Rattle.std.specs.List.{enumerate_from}
use Rattle.command_line.specs.CutReasons.{cut_told}
use Rattle.command_line.proofs.Texts.{texts_below}
use Rattle.command_line.proofs.cut_reasons.chain_told.Given as goal

abbrev pub invariant-loop-number : goal.invariant-loop-number
invariant-loop-number l = string_bytes l.text ≡ texts_below [] (cut_told l.json l.program l.recovery) (enumerate_from 0 l.cuts) l.number
