-- How many lines of a cut lack a store.
use Rattle.std.proofs.Common.{◌≡◌, ℕ, ◌+◌, ◌≤◌, true, false, List, [], ◌∷◌, Option, Some, None, length, refl, ap, ◌∙◌, arith}
use Rattle.std.specs.Prelude.{filter, nat_lt, option_to_list}
use Rattle.std.proofs.lemmas.Grind.{common_steps}
use Rattle.store_trace.specs.Stores.{stores}
use Rattle.durability.proofs.Floors.{stores_grow}
use Rattle.durability.specs.Cuts.{IsLostOf}
use Rattle.durability.specs.Given.{AreGiven}
use Rattle.durability.specs.declared.cut.CutLine.{CutLine}
use Rattle.durability.specs.declared.cut.Lost.{Lost}
use Rattle.store_trace.specs.History.{at_moment}
use Rattle.store_trace.specs.declared.event.Event.{Event}
use Rattle.crash_test.specs.Told.{lacks_store}

-- a line that gives a lost store lacks one
lacks : (events : List Event) (m : ℕ) (entry : CutLine) (given : Option Lost) → m ≤ length events → IsLostOf events m entry given
    → length (option_to_list given) ≡ length (filter (lacks_store events m) (entry ∷ []))
lacks events m entry None within none =
    let off : nat_lt entry.number (stores entry.line (at_moment events m)) ≡ false = grind (arith, common_steps) in
    rw off refl
lacks events m entry (Some lost) within loss =
    let grown = stores_grow events entry.line lost.store m loss.first.made within in
    let number = loss.first.number in
    let on : nat_lt entry.number (stores entry.line (at_moment events m)) ≡ true = grind (arith, common_steps) in
    rw on refl

one_more : (events : List Event) (m : ℕ) (entry : CutLine) (cut : List CutLine)
    → length (filter (lacks_store events m) (entry ∷ cut))
    ≡ length (filter (lacks_store events m) (entry ∷ [])) + length (filter (lacks_store events m) cut)
one_more events m entry cut = grind (arith, common_steps)

pub lacking_count : (events : List Event) (m : ℕ) (cut : List CutLine) (lost : List Lost) → m ≤ length events
    → AreGiven (IsLostOf events m) cut lost → length lost ≡ length (filter (lacks_store events m) cut)
lacking_count events m [] lost within given = rw given refl
lacking_count events m (entry ∷ cut) lost within given =
    let first = lacks events m entry given.0 within given.2 in
    let rest = lacking_count events m cut given.1 within given.4 in
    let whole : length lost ≡ length (option_to_list given.0) + length given.1 =
    ap (λ (l : List Lost). length l) given.3 ∙ grind (arith, common_steps) in
    whole ∙ grind (arith, first, rest, one_more events m entry cut)
