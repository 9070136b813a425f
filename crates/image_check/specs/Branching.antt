-- What recovery of the images of a source keeps from one to the next.
use Rattle.std.specs.Prelude.{◌≢◌, ◌<◌, ℕ, List, length}
use Rattle.nova_log.specs.Kept.{AreAlikeAt, AreKept}
use Rattle.nova_log.specs.declared.kept.KeptVolume.{KeptVolume}
use Rattle.store_trace.specs.Floor.{floor}
use Rattle.store_trace.specs.History.{at_moment}
use Rattle.store_trace.specs.Stores.{stores}
use Rattle.store_trace.specs.declared.event.Event.{Event}
use Rattle.verdict.specs.Branches.{IsWithin}
use Rattle.verdict.specs.CutImages.{image_at}

-- recovery of each image within these bounds finds the logs that are kept
abbrev pub AreKeptWithin : ((ℕ → ℕ) → List (List ℕ)) → (ℕ → ℕ) → (ℕ → ℕ) → KeptVolume → Type 0
AreKeptWithin image low high kept = (k : ℕ → ℕ) → IsWithin low high k → AreKept (image k) kept

-- recovery of each image of the moment finds the logs that are kept
abbrev pub AreKeptAt : List (List ℕ) → List Event → ℕ → KeptVolume → Type 0
AreKeptAt start events moment kept =
    AreKeptWithin (image_at start events moment) (λ l. floor l (at_moment events moment)) (λ l. stores l (at_moment events moment)) kept

-- media of one size that may differ in this line alone
abbrev pub DifferAt : ℕ → List (List ℕ) → List (List ℕ) → Type 0
DifferAt line medium other = AreAlikeAt (λ l. (l < length medium) × (l ≢ line)) medium other
