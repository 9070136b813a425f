-- What is printed of a crash image that fails.
use Rattle.std.specs.Prelude.{ℕ, ◌==◌, List, [], ◌∷◌, ◌++◌, Option, Some, None, codes, decimal, if◌then◌else◌}
use Rattle.std.specs.List.{flat_map}
use Rattle.durability.specs.declared.cut.Kept.{Kept}
use Rattle.durability.specs.declared.cut.Lost.{Lost}
use Rattle.durability.specs.declared.cut.ToldCut.{ToldCut}
use Rattle.report.specs.Places.{line_end}
use Rattle.machine.specs.Joined.{joined, text_of}
use Rattle.machine.specs.declared.schedule.items.Item.{Item}
use Rattle.report.specs.LossesCauses.{loss_text}
use Rattle.report.specs.Mends.{mend_line}

-- `lost lL store E AT: CAUSE`
abbrev pub lost_line : (ℕ → List ℕ) → Lost → List ℕ
lost_line event lost = loss_text event lost ++ line_end

-- `kept lL store E AT: if evicted`
abbrev pub kept_line : (ℕ → List ℕ) → Kept → List ℕ
kept_line event kept =
    codes "kept l" ++ (decimal kept.line ++ (codes " store " ++ (event kept.store ++ (codes ": if evicted" ++ line_end))))

-- how many lines that recovery doesn't read lack a store, where some do
abbrev pub unread_line : ℕ → List ℕ
unread_line unread =
    if unread == 0 then [] else codes "and " ++ (decimal unread ++ (codes " lines that recovery doesn't read" ++ line_end))

-- the items behind a space, where there are some
abbrev pub spaced : List ℕ → List ℕ
spaced [] = []
spaced (x ∷ xs) = 32 ∷ x ∷ xs

-- `schedule` and the items, with a space in front of each
abbrev pub schedule_line : List Item → List ℕ
schedule_line schedule = codes "schedule" ++ (spaced (text_of (joined schedule)) ++ line_end)

-- that line where a schedule is known
abbrev pub schedule_text : Option (List Item) → List ℕ
schedule_text (Some schedule) = schedule_line schedule
schedule_text None = []

-- the lost lines, the kept lines, the mends, the number of the other lines, and the schedule where one is known
abbrev pub why_text : (ℕ → List ℕ) → ToldCut → ℕ → Option (List Item) → List ℕ
why_text event told unread schedule = flat_map (lost_line event) told.lost.items ++ (flat_map (kept_line event) told.kept.items
    ++ (flat_map (mend_line event) told.mends.items ++ (unread_line unread ++ schedule_text schedule)))
