-- Runs of which a picture is drawn up to a moment, and why of others none is.
use Rattle.std.specs.Prelude.{ℕ, ◌<◌, ◌≤◌, List, Option, Some, None, length}
use Rattle.crash_image.specs.Named.{IsNamed}
use Rattle.crash_image.specs.declared.ImageFault.{ImageFault}
use Rattle.crash_image.specs.declared.ImageFault.TheVariants.{NoSuchMoment, NotACut, Memory}
use Rattle.store_trace.specs.declared.crash_model.step.PersistenceStep.{PersistenceStep}
use Rattle.text.specs.declared.image_name.name.ImageName.{ImageName}
use Rattle.store_trace.specs.History.{at_moment}
use Rattle.store_trace.specs.declared.event.Event.{Event}

-- events have this moment, with an image of this name there where one is named
abbrev pub HasImageAt : List Event → ℕ → Option ImageName → Type 0
HasImageAt events moment None = moment ≤ length events
HasImageAt events moment (Some name) = (moment ≤ length events) × (cut : List (ℕ × ℕ)) × IsNamed (at_moment events moment) name cut

-- why a moment of these steps has no image of this name: none of its cuts is named so
abbrev pub IsUnnamed : List PersistenceStep → ImageName → ImageFault → Type 0
IsUnnamed p name NoSuchMoment = ⊥
IsUnnamed p name NotACut = (cut : List (ℕ × ℕ)) → ¬ IsNamed p name cut
IsUnnamed p name Memory = Unit {0}

-- or none where one is named
abbrev pub LacksName : List Event → ℕ → Option ImageName → Type 0
LacksName events moment None = ⊥
LacksName events moment (Some name) = (moment ≤ length events) × ((cut : List (ℕ × ℕ)) → ¬ IsNamed (at_moment events moment) name cut)

-- why there is no picture
abbrev pub LacksPicture : List Event → ℕ → Option ImageName → ImageFault → Type 0
LacksPicture events moment image NoSuchMoment = length events < moment
LacksPicture events moment image NotACut = LacksName events moment image
LacksPicture events moment image Memory = Unit {0}
