-- Bytes that are added at the end of others.
use Rattle.std.specs.Prelude.{◌≡◌, ℕ, ◌≤◌, ◌^◌, List, ◌++◌, IfSome}
use Rattle.assemble.specs.SourceLines.{Values}

-- bytes of which this holds are added at the end
pub record Appends (old new : List ℕ) (P : List ℕ → Type 0) : Type 0 where
  pub bytes : List ℕ
  pub whole : new ≡ old ++ bytes
  pub has : P bytes

-- each value is at most 2^21, where the regions of text and data have ended
abbrev pub AreNear : Values → Type 0
AreNear values = (text : List ℕ) → IfSome (values text) (λ place. place ≤ 2 ^ 21)
