-- What is known of a line while the events of a run without evictions are read.
use Rattle.std.specs.Prelude.{◌≡◌, ℕ, ◌<◌, List, slice_index_or}
use Rattle.store_trace.specs.Floor.{cleaned}
use Rattle.store_trace.specs.Stores.{stores}
use Rattle.store_trace.specs.WrittenBack.{written_back}
use Rattle.store_trace.specs.declared.crash_model.step.PersistenceStep.{PersistenceStep}
use Rattle.witness.specs.declared.line_state.LineState.{LineState}

-- the state of its line after these steps
pub record IsAfter (p : List PersistenceStep) (state : LineState) : Type 0 where
  pub stores_are : state.stores ≡ stores state.line p
  pub written : state.written_back ≡ written_back state.line p
  pub cleaned_are : (h d : ℕ) → h < 8 → slice_index_or state.cleaned h d ≡ cleaned state.line h p
