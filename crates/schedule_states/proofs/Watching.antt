-- What a watcher hears of one search behind another.
use Rattle.std.proofs.Common.{ℕ}
use Rattle.schedule_states.specs.Watching.{HasHeard}

pub heard_then : {W : Type 0} (hears : W → ℕ → ℕ → ℕ → W → Type 0) (a b c : W) → HasHeard hears a b → HasHeard hears b c → HasHeard hears a c
heard_then hears a b _ one HasHeard.nothing = one
heard_then hears a b _ one (HasHeard.more before after met waiting bytes heard few room is) =
    HasHeard.more before after met waiting bytes (heard_then hears a b before one heard) few room is
