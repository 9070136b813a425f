-- What a crash image lacks and keeps of the lines that its recovery reads.
use Rattle.std.specs.Prelude.{◌≡◌, ◌≤◌, ◌<◌, ◌==◌, ℕ, Bool, not, nat_lt, List, map, filter, length, ⊤}
use Rattle.std.specs.List.{list_any}
use Rattle.crash_image.specs.Named.{IsNamed}
use Rattle.crash_image.specs.declared.ImageFault.{ImageFault}
use Rattle.crash_image.specs.declared.ImageFault.TheVariants.{NoSuchMoment, NotACut, Memory}
use Rattle.store_trace.specs.Cut.{number_in}
use Rattle.store_trace.specs.Image.{image}
use Rattle.store_trace.specs.Stores.{stores}
use Rattle.durability.specs.Cuts.{IsKeptOf, IsLostOf}
use Rattle.durability.specs.Given.{AreGiven}
use Rattle.durability.specs.Mends.{AreMends}
use Rattle.durability.specs.declared.cut.CutLine.{CutLine}
use Rattle.text.specs.declared.image_name.name.ImageName.{ImageName}
use Rattle.nova_log.specs.Volumes.{asked_lines}
use Rattle.store_trace.specs.History.{at_moment}
use Rattle.store_trace.specs.declared.event.Event.{Event}
use Rattle.crash_test.specs.declared.image_causes.telling.ToldImage.{ToldImage}

-- a line of a cut with its number
abbrev pub cut_line : ℕ × ℕ → CutLine
cut_line entry = record { line = entry.0; number = entry.1 }

abbrev pub is_among : List ℕ → ℕ → Bool
is_among lines line = list_any (λ other. other == line) lines

-- the lines of a cut that are among some, and the others
abbrev pub those : List ℕ → List (ℕ × ℕ) → List CutLine
those lines cut = map cut_line (filter (λ entry. is_among lines entry.0) cut)

abbrev pub others : List ℕ → List (ℕ × ℕ) → List CutLine
others lines cut = map cut_line (filter (λ entry. not (is_among lines entry.0)) cut)

-- the line lacks a store of the moment
abbrev pub lacks_store : List Event → ℕ → CutLine → Bool
lacks_store events moment entry = nat_lt entry.number (stores entry.line (at_moment events moment))

-- of an image recovery of the log volume reads these lines, as it asks for them
abbrev pub IsAsked : List (List ℕ) → List ℕ → Type 0
IsAsked image lines = lines ≡ asked_lines image

-- of a cut, of whose lines these are read: the first store that is lost and the last that is kept of each of them, what would have made
-- those durable in time, and how many others lack a store
pub record AreTold (events : List Event) (moment : ℕ) (cut : List (ℕ × ℕ)) (read : List ℕ) (told : ToldImage) : Type 0 where
  pub lost : AreGiven (IsLostOf events moment) (those read cut) told.read.lost.items
  pub kept : AreGiven (IsKeptOf events moment) (those read cut) told.read.kept.items
  pub mends : AreMends events moment told.read.lost.items told.read.kept.items told.read.mends.items
  pub unread : told.unread ≡ length (filter (lacks_store events moment) (others read cut))

-- this of the image of this name, by lines that a recovery reads of it
pub record IsToldBy (reads : List (List ℕ) → List ℕ → Type 0) (start : List (List ℕ)) (events : List Event) (moment : ℕ) (name : ImageName)
    (told : ToldImage) : Type 0 where
  pub cut : List (ℕ × ℕ)
  pub lines : List ℕ
  pub within : moment ≤ length events
  pub named : IsNamed (at_moment events moment) name cut
  pub read : reads (image start (number_in cut) (at_moment events moment)) lines
  pub told_of : AreTold events moment cut lines told

-- by those that recovery of the log volume reads
abbrev pub IsTold : List (List ℕ) → List Event → ℕ → ImageName → ToldImage → Type 0
IsTold start events moment name told = IsToldBy IsAsked start events moment name told

-- why there is no such image: the trace ends before the moment, or the moment has none of this name
abbrev pub LacksImage : List Event → ℕ → ImageName → ImageFault → Type 0
LacksImage events moment name NoSuchMoment = length events < moment
LacksImage events moment name NotACut = (moment ≤ length events) × ((cut : List (ℕ × ℕ)) → ¬ IsNamed (at_moment events moment) name cut)
LacksImage events moment name Memory = ⊤
