-- What is printed of a store that can be lost, by the text of each event.
use Rattle.std.specs.Prelude.{ℕ, List, ◌++◌, codes, decimal}
use Rattle.durability.specs.declared.cause.Cause.{Cause}
use Rattle.durability.specs.declared.cause.Cause.TheVariants.{NeverCleaned, CleanedTooLate, NeverFenced, FencedTooLate, FencedByAnother}
use Rattle.durability.specs.declared.cut.Lost.{Lost}

-- why it can be lost: by the first clean of its line after it, and the first fence that completes one; of another hart's fence also the clean
-- that it completes
abbrev pub cause_text : (ℕ → List ℕ) → Cause → List ℕ
cause_text event NeverCleaned = codes "never cleaned"
cause_text event (CleanedTooLate clean) = codes "cleaned " ++ (event clean ++ codes ", too late")
cause_text event (NeverFenced clean) = codes "cleaned " ++ (event clean ++ codes ", never fenced")
cause_text event (FencedTooLate clean fence) =
    codes "cleaned " ++ (event clean ++ (codes ", fenced " ++ (event fence ++ codes ", too late")))
cause_text event (FencedByAnother clean hart completed fence) =
    codes "cleaned " ++ (event clean ++ (codes ", not fenced by h" ++ (decimal hart ++ (codes "; cleaned " ++ (event completed
    ++ (codes ", fenced " ++ (event fence ++ codes ", too late")))))))

-- `lost lL store E AT: CAUSE`
abbrev pub loss_text : (ℕ → List ℕ) → Lost → List ℕ
loss_text event lost =
    codes "lost l" ++ (decimal lost.line ++ (codes " store " ++ (event lost.store ++ (codes ": " ++ cause_text event lost.cause))))
