-- A line of persistent memory without its past: what loads find, and what a power cut may leave.
use Rattle.std.specs.Prelude.{◌≡◌, ◌≢◌, ◌↔◌, ◌⊎◌, ℕ, ◌<◌, Bool, true, false, not, bytes_eq, List, Contains, replicate, slice_index_or, slice_set}
use Rattle.store_trace.specs.Image.{line_after}
use Rattle.store_trace.specs.Stores.{stores}
use Rattle.store_trace.specs.declared.crash_model.step.PersistenceStep.{PersistenceStep}
use Rattle.schedule_states.specs.Contents.{MayHold, MayHoldFenced}
use Rattle.schedule_states.specs.declared.line_state.Content.{Content}
use Rattle.schedule_states.specs.declared.line_state.LineState.{LineState}

-- one of the contents has these bytes, and is kept
pub record IsKept (keeps : Content → Bool) (others : List Content) (bytes : List ℕ) : Type 0 where
  pub content : Content
  pub among : Contains others content
  pub kept : keeps content ≡ true
  pub is : content.bytes ≡ bytes

-- the bytes are what loads find, or those of another content that is kept
abbrev pub Has : (Content → Bool) → List ℕ → List Content → List ℕ → Type 0
Has keeps current others bytes = (bytes ≡ current) ⊎ IsKept keeps others bytes

-- each content
abbrev pub each : Content → Bool
each content = true

-- those that the medium may hold still after a fence of hart h
abbrev pub stays_after : ℕ → Content → Bool
stays_after h content = slice_index_or content.stays h false

-- a content that the medium may hold still, whichever hart makes a fence
abbrev pub unfenced : List ℕ → Content
unfenced bytes = record { bytes = bytes; stays = replicate 8 true }

-- it has other bytes
abbrev pub differs_from : List ℕ → Content → Bool
differs_from bytes content = not (bytes_eq content.bytes bytes)

-- the content goes with the next fence of hart h
abbrev pub gone_with : ℕ → Content → Content
gone_with h content = record content { stays = slice_set content.stays h false }

-- After these persistence steps loads find the current bytes in line l, which began with `start`, and a power cut may leave those or one of
-- the others. No two of the others have the same bytes, and none the current ones.
pub record IsLine (start : List ℕ) (l : ℕ) (p : List PersistenceStep) (current : List ℕ) (others : List Content) : Type 0 where
  pub bytes : current ≡ line_after start l (stores l p) p
  pub apart : (content : Content) → Contains others content → content.bytes ≢ current
  pub distinct : (one other : Content) → Contains others one → Contains others other → one.bytes ≡ other.bytes → one ≡ other
  pub now : (bytes : List ℕ) → MayHold start l p bytes ↔ Has each current others bytes
  pub fenced : (h : ℕ) (bytes : List ℕ) → h < 8 → MayHoldFenced start l h p bytes ↔ Has (stays_after h) current others bytes

abbrev pub IsLineState : List ℕ → ℕ → List PersistenceStep → LineState → Type 0
IsLineState start l p s = IsLine start l p s.bytes s.others.items
