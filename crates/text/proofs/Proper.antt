-- The names that are read go strictly upwards, with numbers of 32 bits.
use Rattle.std.proofs.Common.{ℕ, List, [], ◌∷◌, sym, subst, inl, inr, arith}
use Rattle.std.specs.List.{AllByRecursion, AllZip}
use Rattle.std.proofs.lemmas.List.Elements.{All-from_recursion}
use Rattle.text.specs.Grammar.{IsCutText, IsEntry}
use Rattle.text.specs.Texts.{IsProper, IsSmall}
use Rattle.text.specs.declared.image_name.name.ImageName.TheVariants.{Cut}

all_small : (words : List (List ℕ)) (entries : List (ℕ × ℕ)) → AllZip IsEntry words entries → AllByRecursion IsSmall entries
all_small [] [] says = tt
all_small [] (e ∷ es) says = absurd says
all_small (w ∷ ws) [] says = absurd says
all_small (w ∷ ws) (e ∷ es) says = ((says.0.line.small, says.0.number.small), all_small ws es says.1)

no_lines : IsProper (Cut [])
no_lines = (λ k inside. absurd (omega arith), All-from_recursion IsSmall [] tt)

pub proper_cut : (text : List ℕ) (entries : List (ℕ × ℕ)) → IsCutText text entries → IsProper (Cut entries)
proper_cut text entries (inl floor) = let P : List (ℕ × ℕ) → Type 0 = λ es. IsProper (Cut es) in subst P (sym floor.1) no_lines
proper_cut text entries (inr listing) = (listing.upward, All-from_recursion IsSmall entries (all_small _ entries listing.says))
