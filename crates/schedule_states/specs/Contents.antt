-- What a power cut may leave of one line: the bytes after some of its stores, from its floor on.
-- Source: Vinter, USENIX ATC 2022 (crash images), line by line.
use Rattle.std.specs.Prelude.{◌≡◌, ℕ, ◌≤◌, List, max}
use Rattle.store_trace.specs.Floor.{cleaned, floor}
use Rattle.store_trace.specs.Image.{line_after}
use Rattle.store_trace.specs.Stores.{stores}
use Rattle.store_trace.specs.declared.crash_model.step.PersistenceStep.{PersistenceStep}

-- line l, which began with the bytes `start`, holds this content after so many of its stores, `least` at least
pub record IsContent (start : List ℕ) (l least : ℕ) (p : List PersistenceStep) (content : List ℕ) : Type 0 where
  pub count : ℕ
  pub low : least ≤ count
  pub high : count ≤ stores l p
  pub bytes : content ≡ line_after start l count p

-- the medium may hold these bytes in line l, which began with `start`
abbrev pub MayHold : List ℕ → ℕ → List PersistenceStep → List ℕ → Type 0
MayHold start l p bytes = IsContent start l (floor l p) p bytes

-- it might still hold them if hart h made a fence now
abbrev pub MayHoldFenced : List ℕ → ℕ → ℕ → List PersistenceStep → List ℕ → Type 0
MayHoldFenced start l h p bytes = IsContent start l (max (floor l p) (cleaned l h p)) p bytes
