-- The text that hart 0 fetches.
use Rattle.std.specs.Prelude.{◌≡◌, ◌<◌, ℕ, List, true, false, slice_get}
use Rattle.line_memory.specs.declared.TheConstants.{TEXT_SIZE}
use Rattle.hart.specs.declared.need.Request.{Request}
use Rattle.machine.specs.Histories.{is_renewing}
use Rattle.recovery.specs.Memory.{HeldView}
use Rattle.recovery.specs.Regions.{bytes_of}

-- the bytes of the text region at the start, and as they are fetched
pub record FetchedView : Type 0 where
  pub start : List ℕ
  pub bytes : List ℕ

-- after a FENCE.I the text is fetched as it is in memory, and after no other request otherwise than before
pub record Refetches (old new : FetchedView) (held : HeldView) (request : Request) : Type 0 where
  pub start : new.start ≡ old.start
  pub renewed : is_renewing request ≡ true → (offset : ℕ) → offset < TEXT_SIZE → slice_get new.bytes offset ≡ bytes_of held.text offset
  pub kept : is_renewing request ≡ false → new.bytes ≡ old.bytes
