-- What a watcher of a search has heard.
use Rattle.std.specs.Prelude.{ℕ, ◌*◌, ◌≤◌}

-- From `old` on it has heard, time after time, that so many states were met, of which so many wait, in so many bytes.
-- `hears before met waiting bytes after` says what one time makes of it.
pub data HasHeard {W : Type 0} (hears : W → ℕ → ℕ → ℕ → W → Type 0) (old : W) : W → Type 0 where
  nothing : HasHeard hears old old
  more : (before after : W) (met waiting bytes : ℕ) → HasHeard hears old before → waiting ≤ met → 64 * met ≤ bytes →
      hears before met waiting bytes after → HasHeard hears old after
