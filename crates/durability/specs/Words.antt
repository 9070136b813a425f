-- The reasons in words.
use Rattle.std.specs.Prelude.{ℕ, List, codes}
use Rattle.durability.specs.declared.redundant.reason.Reason.{Reason}
use Rattle.durability.specs.declared.redundant.reason.Reason.TheVariants.{NotFenced, NothingToComplete, CleanedAgain, AlreadyThere}

-- the bytes that are shown of a reason
abbrev pub words_of : Reason → List ℕ
words_of NotFenced = codes "not fenced"
words_of NothingToComplete = codes "nothing to complete"
words_of CleanedAgain = codes "cleaned again"
words_of AlreadyThere = codes "already there"
