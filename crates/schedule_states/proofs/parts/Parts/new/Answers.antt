use Rattle.std.proofs.Common.{◌≡◌, ◌⊎◌, [], ◌∷◌, List, Some, length, slice_get, inl, inr, subst, sym, rules}
use Rattle.schedule_states.proofs.Looking.{first_of_one, got_appended}
use Rattle.schedule_states.specs.HeldLines.{AreBelow}
use Rattle.schedule_states.specs.States.{AreLists}
use Rattle.schedule_states.specs.declared.held_lines.HeldLine.{HeldLine}
use Rattle.schedule_states.proofs.parts.Parts.new.Goals as goal

pub returns-clause-empty : goal.returns-clause-empty
returns-clause-empty c =
    let none : c.new.result.items ≡ [] = c.new.ensures.items in
    let before : c.new-lists.result ≡ [] = search rules in
    let appended : (c.number_of.new.self ≡ []) ⊎ (c.number_of.new.self ≡ [] ∷ []) = rw (before, none) at c.number_of.ensures.appended in
    let found : slice_get c.number_of.new.self c.in_ok-number_of.field-0 ≡ Some [] = rw none at c.in_ok-number_of.ensures.number in
    first_of_one c.number_of.new.self [] c.in_ok-number_of.field-0 appended found

pub invariant_of-result : goal.invariant_of-result
invariant_of-result c =
    let none : c.new.result.items ≡ [] = c.new.ensures.items in
    let before : c.new-lists.result ≡ [] = search rules in
    let appended : (c.number_of.new.self ≡ []) ⊎ (c.number_of.new.self ≡ [] ∷ []) = rw (before, none) at c.number_of.ensures.appended in
    let found : slice_get c.number_of.new.self c.in_ok-number_of.field-0 ≡ Some [] = rw none at c.in_ok-number_of.ensures.number in
    let lists : AreLists c.new-2.result.states c.number_of.new.self = record {
      below = λ n held got. elim (got_appended [] c.number_of.new.self [] appended n held got) [
        | inl before ↦ absurd cc
        | inr is ↦ subst (λ (held : List HeldLine). AreBelow (length c.new-2.result.states) held) (sym is) tt
      ];
      first = first_of_one c.number_of.new.self [] c.in_ok-number_of.field-0 appended found;
    } in
    (lists, rw (c.new-2.ensures, c.lines.ensures) c.text.ensures)
