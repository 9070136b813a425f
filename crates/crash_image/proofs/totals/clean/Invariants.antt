use Rattle.std.proofs.Common.{◌≡◌, ◌++◌, take, drop}
use Rattle.std.specs.Prelude.{map}
use Rattle.crash_image.specs.Totals.{cleaned_line}
use Rattle.crash_image.proofs.totals.clean.Given as goal

abbrev pub invariant-loop-known : goal.invariant-loop-known
invariant-loop-known l =
    l.free ≡ map (cleaned_line l.hart l.line) (take l.known-index l.initial.free) ++ drop l.known-index l.initial.free
