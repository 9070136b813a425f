use Rattle.std.proofs.Common.{◌≡◌, ◌*◌, ◌≤◌, drop}
use Rattle.crash_image.specs.Bounds.{product_of}
use Rattle.crash_image.proofs.bounds.product.Given as goal

abbrev pub invariant-loop-line : goal.invariant-loop-line
invariant-loop-line l = (l.count * product_of (drop l.line-index l.bounds) ≡ product_of l.bounds) × (l.count ≤ 65536)
