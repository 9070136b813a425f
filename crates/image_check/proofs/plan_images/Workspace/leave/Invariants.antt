use Rattle.std.proofs.Common.{◌≡◌, ℕ, ◌<◌, ◌≤◌, length, get_or}
use Rattle.nova_log.specs.declared.kept.LogReading.{LogReading}
use Rattle.image_check.proofs.Leaving.{IsLeft}
use Rattle.image_check.proofs.plan_images.Workspace.leave.Given as goal

abbrev pub invariant-loop-n : goal.invariant-loop-n
invariant-loop-n l = record {
  geometry : l.self.kept.geometry ≡ l.fn.self.kept.geometry;
  volume : l.self.kept.volume ≡ l.fn.self.kept.volume;
  size : length l.self.kept.readings.items ≡ length l.fn.self.kept.readings.items;
  rest : (k : ℕ) (d : LogReading) → l.n ≤ k → get_or l.self.kept.readings.items k d ≡ get_or l.fn.self.kept.readings.items k d;
  left : (k : ℕ) (d : LogReading) → k < l.n → IsLeft l.line (get_or l.self.kept.readings.items k d) (get_or l.fn.self.kept.readings.items k d);
}
