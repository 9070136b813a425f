-- When what legal volumes are made of is told to be the same, as a test, and the laws of that test.
use Rattle.std.specs.Prelude.{ℕ, ◌++◌, nat_eq, Bool, List, Option}
use Rattle.std.specs.Cmp.{IsEquivalence, and_equiv, nat_eq_equiv, on_equiv, unsigned_Decides}
use Rattle.std.specs.Cmp.Lexicographic.{lists_equiv, options_equiv, pointwise}
use Rattle.std.specs.Hash as fed
use Rattle.std.specs.Hash.{Alike, and-Alike, items_Alike, on_Alike, same_Alike, second_alike}
use Rattle.std.specs.Option.{option_eq}
use Rattle.std.specs.Ordering.{eq_of_both, on}
use Rattle.nova_log.specs.declared.volume.entry.Entry.{Entry}
use Rattle.nova_log.specs.declared.volume.entry.EntryKind.{EntryKind}
use Rattle.nova_log.specs.declared.volume.entry.EntryKind.TheVariants.{Write, AddName, RemoveName}
use Rattle.image_check.specs.declared.legal.Outcomes.{Outcomes}
use Rattle.image_check.specs.declared.legal.UnderWay.{UnderWay}

-- the number by which a kind is stored
abbrev pub kind_number : EntryKind → ℕ
kind_number Write = 1
kind_number AddName = 2
kind_number RemoveName = 3

abbrev pub same_entry : Entry → Entry → Bool
same_entry =
    eq_of_both (eq_of_both (on (λ e. e.operation) nat_eq) (on (λ e. kind_number e.kind) nat_eq))
    (eq_of_both (on (λ e. e.name) (pointwise nat_eq)) (on (λ e. e.value) nat_eq))

-- the same inodes with the same logs, or no volume
abbrev pub same_settled : Option (List (List Entry)) → Option (List (List Entry)) → Bool
same_settled = option_eq (pointwise (pointwise same_entry))

abbrev pub same_mark : UnderWay → UnderWay → Bool
same_mark = eq_of_both (on (λ u. u.op) nat_eq) (on (λ u. u.hart) nat_eq)

abbrev pub same_outcomes : Outcomes → Outcomes → Bool
same_outcomes = eq_of_both (on (λ o. o.settled) same_settled) (on (λ o. o.under_way.items) (pointwise same_mark))

entries_equivalent : IsEquivalence same_entry
entries_equivalent =
    and_equiv (and_equiv (on_equiv (λ (e : Entry). e.operation) nat_eq_equiv) (on_equiv (λ (e : Entry). kind_number e.kind) nat_eq_equiv))
    (and_equiv (on_equiv (λ (e : Entry). e.name) (lists_equiv nat_eq_equiv)) (on_equiv (λ (e : Entry). e.value) nat_eq_equiv))

marks_equivalent : IsEquivalence same_mark
marks_equivalent = and_equiv (on_equiv (λ (u : UnderWay). u.op) nat_eq_equiv) (on_equiv (λ (u : UnderWay). u.hart) nat_eq_equiv)

pub outcomes_equivalent : IsEquivalence same_outcomes
outcomes_equivalent =
    and_equiv (on_equiv (λ (o : Outcomes). o.settled) (options_equiv (lists_equiv (lists_equiv entries_equivalent))))
    (on_equiv (λ (o : Outcomes). o.under_way.items) (lists_equiv marks_equivalent))

-- what a hash reads of an operation under way
abbrev pub mark_input : UnderWay → List (List ℕ)
mark_input u = fed.u64 u.op ++ fed.u32 u.hart

pub outcomes_alike : Alike same_outcomes (λ o. fed.slice mark_input o.under_way.items)
outcomes_alike =
    second_alike (on (λ (o : Outcomes). o.settled) same_settled)
    (on_Alike (λ (o : Outcomes). o.under_way.items)
    (items_Alike (and-Alike (on_Alike (λ (u : UnderWay). u.op) (same_Alike fed.u64 unsigned_Decides)) (on_Alike (λ (u : UnderWay). u.hart) (same_Alike fed.u32 unsigned_Decides)))))
