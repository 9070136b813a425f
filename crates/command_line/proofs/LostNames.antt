-- How the files of a command are searched for one that can't be read.
use Rattle.std.proofs.Common.{◌≡◌, ℕ, List, ◌∷◌, Option, map, subst, sym}
use Rattle.std.specs.Borrow.{Bor}
use Rattle.std.specs.Prelude.{option_map}
use Rattle.command_line.specs.LostFiles.{FindsLost, GoesOnUnless, Lost, TriesOne}
use Rattle.command_line.specs.Steps.{Reads}

abbrev pub text_in : Option (Bor (List ℕ)) → Option (List ℕ)
text_in name = option_map (λ (text : Bor (List ℕ)). text.now) name

-- the first one is tried, and then the rest, where it isn't lost
pub first_tried : {F : Type 0} (reads : Reads F) (names rest : List (Option (Bor (List ℕ)))) (name : Option (Bor (List ℕ))) (old between new : F)
    (tried found : Option Lost) → names ≡ name ∷ rest → TriesOne reads (text_in name) old tried between
    → GoesOnUnless tried (FindsLost reads (map text_in rest)) between found new → FindsLost reads (map text_in names) old found new
first_tried {F} reads names rest name old between new tried found cut tries after =
    let P : List (Option (Bor (List ℕ))) → Type 0 = λ names. FindsLost reads (map text_in names) old found new in
    subst P (sym cut) (record { tried = tried; between = between; tries = tries; after = after })
