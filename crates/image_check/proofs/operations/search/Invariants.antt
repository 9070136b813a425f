use Rattle.std.proofs.Common.{◌≡◌, drop}
use Rattle.image_check.specs.Planned.{operation_of}
use Rattle.image_check.proofs.operations.search.Given as goal

abbrev pub invariant-loop-operation : goal.invariant-loop-operation
invariant-loop-operation l = operation_of l.operations l.op ≡ operation_of (drop l.operation-index l.operations) l.op
