-- The lines of a cut are among those that the events name.
use Rattle.std.proofs.Common.{ℕ, ◌<◌, List, length, subst, sym}
use Rattle.std.specs.Prelude.{All, take}
use Rattle.std.proofs.lemmas.List.Elements.{All-map, All-take}
use Rattle.crash_image.proofs.Stored.{cut_below}
use Rattle.crash_image.specs.View.{HasLines, NamesLine}
use Rattle.crash_test.specs.Images.{lines_of}
use Rattle.crash_test.specs.declared.images.ImageLine.{ImageLine}
use Rattle.store_trace.proofs.Images.{length_image}
use Rattle.store_trace.specs.Cut.{IsCut}
use Rattle.store_trace.specs.History.{at_moment}
use Rattle.store_trace.specs.Image.{image}
use Rattle.store_trace.specs.declared.event.Event.{Event}

below : (count : ℕ) (events : List Event) (moment : ℕ) (cut : List (ℕ × ℕ)) → All (NamesLine count) events → IsCut (at_moment events moment) cut
    → All (λ (entry : ℕ × ℕ). entry.0 < count) cut
below count events moment cut named is = cut_below count (take moment events) cut (All-take (NamesLine count) moment events named) is

pub entries_there : (start : List (List ℕ)) (k : ℕ → ℕ) (events : List Event) (moment : ℕ) (cut : List (ℕ × ℕ)) → HasLines start events
    → IsCut (at_moment events moment) cut → All (λ (entry : ℕ × ℕ). entry.0 < length (image start k (at_moment events moment))) cut
entries_there start k events moment cut named is =
    subst (λ (n : ℕ). All (λ (entry : ℕ × ℕ). entry.0 < n) cut) (sym (length_image start k (at_moment events moment)))
    (below (length start) events moment cut named is)

pub lines_named : (lines : List (List ℕ)) (count : ℕ) (events : List Event) (moment : ℕ) (cut : List (ℕ × ℕ)) → All (NamesLine count) events
    → IsCut (at_moment events moment) cut → All (λ (l : ImageLine). l.line < count) (lines_of lines cut)
lines_named lines count events moment cut named is =
    All-map (λ (l : ImageLine). l.line < count) _ cut (below count events moment cut named is)
