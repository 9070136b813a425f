-- What a power cut leaves of a machine that represents a configuration.
use Rattle.std.proofs.Common.{◌≡◌, ℕ, List}
use Rattle.machine.specs.Run.{Config}
use Rattle.machine.specs.Represents.{MachineView, Represents}
use Rattle.machine.specs.Recorded.{IsLeftAt}

pub left_at : (end : Config) (machine : MachineView) (capacity : ℕ) (left : List (List ℕ)) → Represents machine end
    → machine.shared.cache.cache.capacity ≡ capacity → left ≡ machine.shared.cache.lines → IsLeftAt end capacity left
left_at end machine capacity left stands same lines = record {
  machine = machine;
  represents = stands;
  capacity_is = same;
  lines = lines;
}
