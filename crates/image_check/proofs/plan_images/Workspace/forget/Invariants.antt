use Rattle.std.proofs.Common.{◌≡◌, ℕ, ◌<◌, false, get_or}
use Rattle.nova_log.specs.declared.kept.LogReading.{LogReading}
use Rattle.image_check.proofs.plan_images.Workspace.forget.Given as goal

-- those before it are not kept
abbrev pub invariant-loop-reading : goal.invariant-loop-reading
invariant-loop-reading l = (n : ℕ) (d : LogReading) → n < l.reading-index → (get_or l.reading-items n d).is_kept ≡ false
