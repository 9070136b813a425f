use Rattle.std.proofs.Common.{◌≡◌, ◌≤◌, reverse, take}
use Rattle.store_trace.specs.Stores.{stores}
use Rattle.store_trace.proofs.crash_model.plain.stores.Given as goal

abbrev pub invariant-loop-step : goal.invariant-loop-step
invariant-loop-step l = (l.count ≡ stores l.line (reverse (take l.step-index l.steps))) × (l.count ≤ l.step-index)
