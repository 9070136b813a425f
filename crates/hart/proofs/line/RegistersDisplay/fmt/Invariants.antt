use Rattle.std.specs.Fmt.{HasWritten, IsPlainFormatter}
use Rattle.hart.proofs.RegisterTexts.{registers_below}
use Rattle.hart.proofs.line.RegistersDisplay.fmt.Given as goal

abbrev pub invariant-loop-number : goal.invariant-loop-number
invariant-loop-number g l = IsPlainFormatter l.initial.f
    → HasWritten g.W.Write.write_str_gives l.initial.f (registers_below l.self l.number) l.f
