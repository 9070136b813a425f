-- What is printed of a run that isn't whole.
use Rattle.std.specs.Prelude.{ℕ, List, ◌++◌, codes, decimal}
use Rattle.std.specs.List.{flat_map}
use Rattle.hart.specs.declared.state.Status.{Status}
use Rattle.hart.specs.declared.state.Status.TheVariants.{Running, Exited, Trapped}
use Rattle.hart.specs.HartLines.{trap_number}
use Rattle.unfinished.specs.declared.unfinished.Unfinished.{Unfinished}
use Rattle.unfinished.specs.declared.unfinished.Unfinished.TheVariants.{Hart, Pending, NeverBegan}
use Rattle.report.specs.Places.{KnownCode, KnownOrigin, code_place, code_text, line_end}

-- `running pc=0xP`, `exit C` or `trap TK pc=0xP`, with what is known of a pc behind it
abbrev pub standing_text : Status → KnownCode → List ℕ
standing_text Running at = codes "running" ++ code_text at
standing_text (Exited code) at = codes "exit " ++ decimal code
standing_text (Trapped trap) at = codes "trap T" ++ (decimal (trap_number trap) ++ code_text at)

-- `not whole: hN` and how the hart stands, or which operation is pending or never began, by what is known of each pc
abbrev pub cause_line : (ℕ → KnownOrigin) → Unfinished → List ℕ
cause_line origins (Hart hart status pc) =
    codes "not whole: h" ++ (decimal hart ++ (codes " " ++ (standing_text status (code_place origins pc) ++ line_end)))
cause_line origins (Pending op) = codes "not whole: operation " ++ (decimal op ++ (codes " is pending" ++ line_end))
cause_line origins (NeverBegan op) = codes "not whole: operation " ++ (decimal op ++ (codes " never began" ++ line_end))

-- a line for each cause
abbrev pub unfinished_text : (ℕ → KnownOrigin) → List Unfinished → List ℕ
unfinished_text origins causes = flat_map (cause_line origins) causes
