-- The cache lines of which a power cut may lose stores, as `lines` prints them.
use Rattle.std.specs.Prelude.{◌≡◌, ℕ, ◌++◌, List, [], codes, decimal, if◌then◌else◌, nat_lt, slice_index_or}
use Rattle.std.specs.List.{flat_map, range_with_len}
use Rattle.store_trace.specs.Floor.{cleaned, floor}
use Rattle.store_trace.specs.History.{history}
use Rattle.store_trace.specs.Stores.{stores}
use Rattle.store_trace.specs.declared.crash_model.step.PersistenceStep.{PersistenceStep}
use Rattle.store_trace.specs.declared.event.Event.{Event}
use Rattle.debugger.specs.declared.sessions.lines_at_risk.Tally.{Tally}

-- ` cleaned=hH:C`: by a fence of hart H the line's first C stores would be durable
abbrev pub waiting_text : ℕ → ℕ → ℕ → List ℕ
waiting_text floor hart number =
    if nat_lt floor number then codes " cleaned=h" ++ (decimal hart ++ (codes ":" ++ decimal number)) else []

-- those of harts 0 to 7
unfoldable pub waiting_texts : List PersistenceStep → ℕ → List ℕ
waiting_texts p line = flat_map (λ hart. waiting_text (floor line p) hart (cleaned line hart p)) (range_with_len 0 8)

-- `lL stores=S floor=F`, and its cleans that wait for a fence; nothing of a line whose stores are all durable
abbrev pub line_text : List PersistenceStep → ℕ → List ℕ
line_text p line =
    if nat_lt (floor line p) (stores line p)
    then codes "l" ++ (decimal line ++ (codes " stores=" ++ (decimal (stores line p) ++ (codes " floor="
    ++ (decimal (floor line p) ++ (waiting_texts p line ++ codes "\n"))))))
    else []

-- what is kept of a line, by the persistence steps so far
pub record IsTally (line : ℕ) (p : List PersistenceStep) (tally : Tally) : Type 0 where
  pub stores : tally.stores ≡ stores line p
  pub floor : tally.floor ≡ floor line p
  pub cleaned : (hart : ℕ) → slice_index_or tally.cleaned.items hart 0 ≡ cleaned line hart p

-- the cleans by a tally of the first harts
unfoldable pub tally_texts : Tally → ℕ → List ℕ
tally_texts tally harts =
    flat_map (λ hart. waiting_text tally.floor hart (slice_index_or tally.cleaned.items hart 0)) (range_with_len 0 harts)

-- `none` in place of no line
abbrev pub or_none : List ℕ → List ℕ
or_none [] = codes "none\n"
or_none text = text

-- those of the first cache lines after these events, upwards
unfoldable pub line_texts : List Event → ℕ → List ℕ
line_texts events lines = flat_map (line_text (history events)) (range_with_len 0 lines)

-- all of them: there are 16,384 cache lines at most
abbrev pub lines_text : List Event → List ℕ
lines_text events = or_none (line_texts events 16384)
