-- What lists of held lines hold of the medium, as lists and states grow.
use Rattle.std.proofs.Common.{◌≡◌, ◌⊎◌, inl, inr, ℕ, List, [], ◌∷◌, ◌++◌, length, sym, subst}
use Rattle.schedule_states.proofs.Held.{below_filtered}
use Rattle.schedule_states.proofs.Looking.{each_pushed, got_appended}
use Rattle.schedule_states.proofs.Putting.{below_grows}
use Rattle.schedule_states.specs.HeldLines.{AreBelow, is_of_medium, on_medium}
use Rattle.schedule_states.specs.Media.{AreOnMedium, IsOnMedium, MediaView}
use Rattle.schedule_states.specs.Numbers.{AreKept}
use Rattle.schedule_states.specs.States.{AreGrown, PartsView}
use Rattle.schedule_states.specs.declared.held_lines.HeldLine.{HeldLine}

pub media_kept : (old new : PartsView) (media : MediaView) → AreGrown old new → AreOnMedium old media → AreOnMedium new media
media_kept old new media grown are = record {
  below = λ n held found. below_grows old.table.states new.table.states held grown.table.grows (are.below n held found);
  each = λ memory number found.
      let on : IsOnMedium old media.lists memory number = are.each memory number found in
      record { held = on.held; found = grown.lists memory on.held on.found; here = on.here };
}

-- one list more is numbered, which is what the next one of the search holds of the medium
lists_kept : (parts : PartsView) (old new : List (List HeldLine)) (memory number : ℕ) → AreKept old new → IsOnMedium parts old memory number → IsOnMedium parts new memory number
lists_kept parts old new memory number kept on = record { held = on.held; found = on.found; here = kept number (on_medium on.held) on.here }

pub media_more : (parts : PartsView) (media : MediaView) (lists : List (List HeldLine)) (held : List HeldLine) → AreKept media.lists lists →
    (lists ≡ media.lists) ⊎ (lists ≡ media.lists ++ on_medium held ∷ []) → AreBelow (length parts.table.states) held → AreOnMedium parts media →
    AreOnMedium parts (record { lists = lists; numbers = media.numbers })
media_more parts media lists held kept appended below are = record {
  below = λ n one found. elim (got_appended media.lists lists (on_medium held) appended n one found) [
    | inl before ↦ are.below n one before
    | inr same ↦ subst (λ (x : List HeldLine). AreBelow (length parts.table.states) x) (sym same) (below_filtered is_of_medium (length parts.table.states) held below)
  ];
  each = λ memory number found. lists_kept parts media.lists lists memory number kept (are.each memory number found);
}

pub media_next : (parts : PartsView) (media : MediaView) (number : ℕ) → IsOnMedium parts media.lists (length media.numbers) number → AreOnMedium parts media →
    AreOnMedium parts (record { lists = media.lists; numbers = media.numbers ++ number ∷ [] })
media_next parts media number on are = record {
  below = are.below;
  each = each_pushed (λ memory n. IsOnMedium parts media.lists memory n) media.numbers number are.each on;
}
