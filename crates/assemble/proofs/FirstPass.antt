-- The first pass, from one line to the next.
use Rattle.std.proofs.Common.{◌≡◌, ℕ, ◌+◌, ◌<◌, ◌≤◌, List, [], ◌∷◌, length, refl, sym, ap, subst, ◌∙◌}
use Rattle.std.specs.Prelude.{Some, None}
use Rattle.asm_lex.specs.Lines.{lines_of}
use Rattle.assemble.specs.declared.asm_line.fault.AsmCode.{AsmCode}
use Rattle.assemble.specs.Lines.{line_of}
use Rattle.assemble.specs.declared.TheConstants.{SOURCE_LIMIT}
use Rattle.assemble.specs.declared.labels.Labels.{Labels}
use Rattle.assemble.specs.declared.position.Position.{Position}
use Rattle.assemble.specs.Places.{section_after, size_of, value_in}
use Rattle.assemble.specs.Faults.{NoneHas, IsFirst, code_of_said, early_code}
use Rattle.assemble.specs.Assembly.{lines_back}
use Rattle.assemble.specs.Labels.{place_at}
use Rattle.assemble.specs.Positions.{start, IsAfter}
use Rattle.assemble.specs.Passes.{IsPlaced, Placing}
use Rattle.assemble.proofs.First.{next_start, next_step, next_end, next_first, early_none, early_some}

pub after_none : IsAfter [] start
unfolding section_after size_of
after_none = record { section_is = refl; text_is = refl; data_is = refl }

pub placed_none : (p : Position) (labels : Labels) → p ≡ start → ((t : List ℕ) → place_at labels t ≡ None) → IsPlaced [] p labels
unfolding value_in
placed_none p labels begins none = record { position_is = subst (IsAfter []) (sym begins) after_none; labels_are = λ i t. none t i }

pub placing_start : (source : List ℕ) (p : Position) (labels : Labels) → p ≡ start → ((t : List ℕ) → place_at labels t ≡ None) → Placing source source 1 p labels
placing_start source p labels begins none = record {
  earlier = [];
  next = next_start source;
  placed = placed_none p labels begins none;
  none = tt;
}

pub placing_step : (source rest line after : List ℕ) (number : ℕ) (p q : Position) (old new : Labels)
    → length source ≤ SOURCE_LIMIT → lines_of rest ≡ line ∷ lines_of after → length after < length rest
    → ((earlier : List (List ℕ)) → IsPlaced earlier p old → IsPlaced (line ∷ earlier) q new)
    → ((earlier : List (List ℕ)) → IsPlaced earlier p old → code_of_said earlier (line_of line) ≡ None)
    → Placing source rest number p old → Placing source after (number + 1) q new
placing_step source rest line after number p q old new fits cut shorter moves none before = record {
  earlier = line ∷ before.earlier;
  next = next_step source rest line after number before.earlier cut shorter before.next;
  placed = moves before.earlier before.placed;
  none = (early_none (length source) before.earlier line fits (none before.earlier before.placed), before.none);
}

pub placing_fault : (source rest line after : List ℕ) (number : ℕ) (p : Position) (labels : Labels) (code : AsmCode)
    → lines_of rest ≡ line ∷ lines_of after
    → ((earlier : List (List ℕ)) → IsPlaced earlier p labels → code_of_said earlier (line_of line) ≡ Some code)
    → Placing source rest number p labels → IsFirst (early_code (length source)) (lines_of source) (record { line = number; code = code })
placing_fault source rest line after number p labels code cut has before =
    next_first (early_code (length source)) source rest line after number before.earlier code cut
    (early_some (length source) before.earlier line code (has before.earlier before.placed)) before.none before.next

pub placing_end : (source rest : List ℕ) (number : ℕ) (p : Position) (labels : Labels) → rest ≡ [] → Placing source rest number p labels
    → (place_at labels ≡ value_in (lines_back source)) × NoneHas (early_code (length source)) (lines_back source)
placing_end source rest number p labels empty before =
    let all = next_end source rest number before.earlier empty before.next in
    (before.placed.labels_are ∙ ap value_in all, subst (NoneHas (early_code (length source))) all before.none)
