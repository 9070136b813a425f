use Rattle.std.proofs.Common.{◌≡◌, ℕ, ◌<◌, ◌≤◌, length, get_or, drop, None}
use Rattle.std.specs.Option.{option_or}
use Rattle.nova_log.specs.Journals.{oldest_tail}
use Rattle.nova_log.proofs.journal.restore.Given as goal

abbrev pub invariant-loop-k : goal.invariant-loop-k
invariant-loop-k l =
    record {
      whole : length l.restored ≡ 64;
      restored : (n : ℕ) → n < 64 → get_or l.restored n None ≡ option_or (oldest_tail n (drop l.k l.records)) (get_or l.fn.restored n None);
    }
