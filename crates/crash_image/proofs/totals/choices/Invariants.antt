use Rattle.std.proofs.Common.{◌≡◌, ◌*◌, ◌≤◌, drop}
use Rattle.crash_image.specs.Totals.{choices_of}
use Rattle.crash_image.proofs.totals.choices.Given as goal

abbrev pub invariant-loop-known : goal.invariant-loop-known
invariant-loop-known l = (l.count * choices_of (drop l.known-index l.free) ≡ choices_of l.free) × (l.count ≤ 65536)
