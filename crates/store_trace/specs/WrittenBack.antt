-- How many of a line's first stores an unbounded cache has written back.
use Rattle.std.specs.Prelude.{ℕ, Bool, false, ◌==◌, ◌&&◌, ◌||◌, nat_lt, List, [], ◌∷◌, if◌then◌else◌}
use Rattle.store_trace.specs.Floor.{cleaned}
use Rattle.store_trace.specs.Stores.{stores}
use Rattle.store_trace.specs.declared.crash_model.step.PersistenceStep.{PersistenceStep}
use Rattle.store_trace.specs.declared.crash_model.step.PersistenceStep.TheVariants.{Store, Clean, Fence, Evict}

-- of one line: the number of stores at its last write-back, and the harts whose cleans of it pend
pub record WriteBackState : Type 0 where
  pub count : ℕ
  pub pends : ℕ → Bool

-- a write-back takes all stores made so far to the medium and ends every pending clean
abbrev pub written : ℕ → List PersistenceStep → WriteBackState
written l p = record { count = stores l p; pends = λ h. false }

-- A clean of line l pends where the line has stores that weren't written back. An eviction of l writes it
-- back, and so does a fence of a hart whose clean of l pends.
abbrev pub write_back_state : ℕ → List PersistenceStep → WriteBackState
write_back_state l [] = written l []
write_back_state l (Store m offset width value ∷ p) = write_back_state l p
write_back_state l (Clean g m ∷ p) = record {
  count = (write_back_state l p).count;
  pends = λ h. ((g == h) && ((m == l) && nat_lt (write_back_state l p).count (stores l p))) || (write_back_state l p).pends h;
}
write_back_state l (Fence h ∷ p) = if (write_back_state l p).pends h then written l p else write_back_state l p
write_back_state l (Evict m ∷ p) = if m == l then written l p else write_back_state l p

-- That count without the pending cleans: a clean of hart h pends exactly where fewer stores are written back
-- than stood before h's last clean.
abbrev pub written_back : ℕ → List PersistenceStep → ℕ
written_back l [] = 0
written_back l (Store m offset width value ∷ p) = written_back l p
written_back l (Clean h m ∷ p) = written_back l p
written_back l (Fence h ∷ p) = if nat_lt (written_back l p) (cleaned l h p) then stores l p else written_back l p
written_back l (Evict m ∷ p) = if m == l then stores l p else written_back l p

-- line l has stores that weren't written back
abbrev pub is_dirty : ℕ → List PersistenceStep → Bool
is_dirty l p = nat_lt (written_back l p) (stores l p)

-- a clean of line l by hart h pends
abbrev pub is_pending : ℕ → ℕ → List PersistenceStep → Bool
is_pending l h p = nat_lt (written_back l p) (cleaned l h p)
