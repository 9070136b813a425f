-- What harts share after a history, the newest entry first, each of its requests being answered anew.
use Rattle.std.specs.Prelude.{◌≡◌, ◌<◌, ℕ, List, [], ◌∷◌}
use Rattle.program.specs.Sections.{Sections}
use Rattle.machine.specs.declared.shared_memory.history.Entry.{Entry}
use Rattle.machine.specs.declared.shared_memory.history.Entry.TheVariants.{Asked, Evicted}
use Rattle.machine.specs.Replies.{SharedState, shared_after, shared_at_start}
use Rattle.machine.specs.SharedView.{RepresentsShared, SharedView}

-- an eviction does nothing but join the history
abbrev pub with_eviction : SharedState → ℕ → SharedState
with_eviction c line = record c { history = Evicted line ∷ c.history }

-- what is shared after the requests and evictions of a history, from the start over a program and the lines of a medium; the
-- replies of its entries are ignored
unfoldable pub replay : Sections → List (List ℕ) → List Entry → SharedState
replay program start [] = shared_at_start program start
replay program start (Asked h request reply ∷ before) = shared_after (replay program start before) h request
replay program start (Evicted line ∷ before) = with_eviction (replay program start before) line

-- what a contract sees of a core: the program, the lines of the medium at the start, how many harts there are, how many
-- lines the cache has room for, what is shared, and the history, the newest entry first
pub record CoreView : Type 0 where
  pub program : Sections
  pub start : List (List ℕ)
  pub harts : ℕ
  pub capacity : ℕ
  pub shared : SharedView
  pub history : List Entry

-- what a core represents
abbrev pub common_of : CoreView → SharedState
common_of core = replay core.program core.start core.history

-- memory, cache, reservations and trace are those of the history's replay, and the replies of the history are those that
-- flat memory and the reservations give there
pub record IsReplay (program : Sections) (start : List (List ℕ)) (history : List Entry) (shared : SharedView) : Type 0 where
  pub told : (replay program start history).history ≡ history
  pub shows : RepresentsShared shared (replay program start history)

-- each hart of a history is one of so many
abbrev pub AreBelow : ℕ → List Entry → Type 0
AreBelow harts [] = Unit {0}
AreBelow harts (Evicted line ∷ before) = AreBelow harts before
AreBelow harts (Asked h request reply ∷ before) = (h < harts) × AreBelow harts before

-- each line that a history evicted is one of so many
abbrev pub LinesBelow : ℕ → List Entry → Type 0
LinesBelow lines [] = Unit {0}
LinesBelow lines (Evicted line ∷ before) = (line < lines) × LinesBelow lines before
LinesBelow lines (Asked h request reply ∷ before) = LinesBelow lines before
