use Rattle.std.proofs.Common.{◌≡◌, ℕ, ◌<◌, false, get_or}
use Rattle.nova_log.specs.Parts.{is_part}
use Rattle.nova_log.specs.declared.log_upgrade.parts.Part.{Part}
use Rattle.nova_log.proofs.log_upgrade.parts.page_of.Given as goal

abbrev pub invariant-loop-page : goal.invariant-loop-page
invariant-loop-page l = (k : ℕ) (d : Part) → k < l.page → is_part l.inode l.index (get_or l.parts k d) ≡ false
