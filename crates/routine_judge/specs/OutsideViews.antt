-- What a contract sees of an outside recovery's replies, and of the images that it is asked for.
use Rattle.std.specs.Prelude.{◌≡◌, ℕ, ◌≤◌, List, Result, length, slice_index}
use Rattle.store_trace.specs.Cut.{IsWithin}
use Rattle.store_trace.specs.History.{at_moment, history}
use Rattle.store_trace.specs.Image.{image}
use Rattle.store_trace.specs.Stores.{stores}
use Rattle.store_trace.specs.declared.event.Event.{Event}

-- the bytes of an answer, or a word for why there is none; and the lines of which recovery may have loaded bytes
pub record ReplyView : Type 0 where
  pub found : Result (List ℕ) (List ℕ)
  pub lines : List ℕ

-- a reply, and of which image: each line stands after so many of its stores
pub record KnownView : Type 0 where
  pub numbers : List ℕ
  pub reply : ReplyView

-- an image that is asked for at a moment of these events, which started from these lines
pub record WantedView : Type 0 where
  pub start : List (List ℕ)
  pub events : List Event
  pub moment : ℕ
  pub numbers : List ℕ

-- each line has a number of its stores
pub record AreNumbersIn (start : List (List ℕ)) (events : List Event) (numbers : List ℕ) : Type 0 where
  pub size : length numbers ≡ length start
  pub most : (l : ℕ) → slice_index numbers l ≤ stores l (history events)

-- and these are the numbers of an image of moment m
pub record AreNumbersAt (start : List (List ℕ)) (events : List Event) (m : ℕ) (numbers : List ℕ) : Type 0 where
  pub size : length numbers ≡ length start
  pub within : IsWithin (at_moment events m) (λ l. slice_index numbers l)

-- the image in which each line stands after so many of its stores
abbrev pub known_image : List (List ℕ) → List Event → List ℕ → List (List ℕ)
known_image start events numbers = image start (λ l. slice_index numbers l) (history events)
