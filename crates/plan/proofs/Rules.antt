-- The rules for operations, where one is added.
use Rattle.std.proofs.Common.{◌≡◌, ◌≤◌, ℕ, Bool, true, false, List, [], ◌∷◌, ◌++◌, map, eqb, refl, sym, ◌∙◌, arith, subst, append_assoc}
use Rattle.std.specs.List.{AllByRecursion, IsDistinct, list_any}
use Rattle.std.proofs.lemmas.Cmp.{nat_eq_equiv}
use Rattle.std.proofs.lemmas.List.{map-append}
use Rattle.std.proofs.lemmas.Map.Keys.{IsDistinct-cons, IsDistinct-head, IsDistinct-push, IsDistinct-tail}
use Rattle.nova_log.specs.declared.layout.Layout.{Layout}
use Rattle.plan.specs.declared.fault.PlanCode.{PlanCode}
use Rattle.plan.specs.declared.fault.PlanCode.TheVariants as code
use Rattle.plan.specs.declared.operation.Action.{Action}
use Rattle.plan.specs.declared.operation.Operation.{Operation}
use Rattle.plan.specs.declared.operation_line.Wording.{Wording}
use Rattle.plan.proofs.Unique.{operation_of}
use Rattle.plan.specs.Drafts.{AddsLine, BreaksAt, BreaksLine}
use Rattle.plan.specs.Grammar.{OnText, SaysOperation}
use Rattle.plan.specs.Worded.{Allows, Forbids, WordsOperation}
use Rattle.plan.specs.Plans.{HasInodes, HasName, KeepsRules, PlanView, made, with_operation}

abbrev numbers : List Operation → List ℕ
numbers operations = map (λ operation. operation.number) operations

abbrev is_taken : List Operation → ℕ → Bool
is_taken operations number = list_any (λ operation. eqb operation.number number) operations

-- facts of each element, of a list with one more or fewer
all_more : {A : Type 0} (P : A → Type 0) (xs : List A) (x : A) → AllByRecursion P xs → P x → AllByRecursion P (xs ++ x ∷ [])
all_more P [] x all here = (here, tt)
all_more P (y ∷ ys) x all here = (all.0, all_more P ys x all.1 here)

all_front : {A : Type 0} (P : A → Type 0) (xs ys : List A) → AllByRecursion P (xs ++ ys) → AllByRecursion P xs
all_front P [] ys all = tt
all_front P (x ∷ xs) ys all = (all.0, all_front P xs ys all.1)

all_last : {A : Type 0} (P : A → Type 0) (xs : List A) (x : A) → AllByRecursion P (xs ++ x ∷ []) → P x
all_last P [] x all = all.0
all_last P (y ∷ ys) x all = all_last P ys x all.1

pub distinct_none : IsDistinct eqb []
unfolding IsDistinct
distinct_none = tt

distinct_front : (xs ys : List ℕ) → IsDistinct eqb (xs ++ ys) → IsDistinct eqb xs
distinct_front [] ys d = distinct_none
distinct_front (x ∷ xs) ys d =
    IsDistinct-cons eqb x xs (all_front (λ y. eqb x y ≡ false) xs ys (IsDistinct-head eqb x (xs ++ ys) d))
    (distinct_front xs ys (IsDistinct-tail eqb x (xs ++ ys) d))

distinct_last : (xs : List ℕ) (n : ℕ) → IsDistinct eqb (xs ++ n ∷ []) → list_any (λ x. eqb x n) xs ≡ false
distinct_last [] n d = refl
distinct_last (x ∷ xs) n d =
    let here : eqb x n ≡ false = all_last (λ y. eqb x y ≡ false) xs n (IsDistinct-head eqb x (xs ++ n ∷ []) d) in
    rw (here, distinct_last xs n (IsDistinct-tail eqb x (xs ++ n ∷ []) d)) refl

-- the numbers that are taken
taken_flips : (operations : List Operation) (n : ℕ) → is_taken operations n ≡ list_any (eqb n) (numbers operations)
taken_flips [] n = refl
taken_flips (o ∷ os) n = rw (nat_eq_equiv.symm o.number n, taken_flips os n) refl

taken_numbers : (operations : List Operation) (n : ℕ) → is_taken operations n ≡ list_any (λ x. eqb x n) (numbers operations)
taken_numbers [] n = refl
taken_numbers (o ∷ os) n = rw (taken_numbers os n) refl

numbers_more : (operations : List Operation) (operation : Operation) → numbers (operations ++ operation ∷ []) ≡ numbers operations ++ operation.number ∷ []
numbers_more operations operation = map-append (λ o. o.number) operations (operation ∷ [])

-- the rules as far as one, with an operation that keeps these
pub rules_more : (last : ℕ) (plan : PlanView) (operation : Operation) → KeepsRules 4 plan
    → (2 ≤ last → is_taken plan.operations operation.number ≡ false) → (3 ≤ last → HasInodes plan.inodes operation.action)
    → (4 ≤ last → HasName plan.layout operation.action) → KeepsRules last (with_operation plan operation)
rules_more last plan operation keeps free there fits = record {
  distinct = λ high. rw (numbers_more plan.operations operation)
      (IsDistinct-push nat_eq_equiv (numbers plan.operations) operation.number (keeps.distinct (omega arith))
      (sym (taken_flips plan.operations operation.number) ∙ free high));
  inodes = λ high. all_more (λ o. HasInodes plan.inodes o.action) plan.operations operation (keeps.inodes (omega arith)) (there high);
  names = λ high. all_more (λ o. HasName plan.layout o.action) plan.operations operation (keeps.names (omega arith)) (fits high);
}

-- the rules that an operation breaks
pub number_taken : (plan : PlanView) (operation : Operation) → is_taken plan.operations operation.number ≡ true → ¬ KeepsRules 2 (with_operation plan operation)
number_taken plan operation taken keeps =
    let apart = distinct_last (numbers plan.operations) operation.number (rw (← numbers_more plan.operations operation) (keeps.distinct (omega arith))) in
    let both : true ≡ false = sym taken ∙ (taken_numbers plan.operations operation.number ∙ apart) in
    cc

pub inode_missing : (plan : PlanView) (operation : Operation) → ¬ (HasInodes plan.inodes operation.action) → ¬ KeepsRules 3 (with_operation plan operation)
inode_missing plan operation none keeps =
    none (all_last (λ o. HasInodes plan.inodes o.action) plan.operations operation (keeps.inodes (omega arith)))

pub name_unfit : (plan : PlanView) (operation : Operation) → ¬ (HasName plan.layout operation.action) → ¬ KeepsRules 4 (with_operation plan operation)
name_unfit plan operation none keeps =
    none (all_last (λ o. HasName plan.layout o.action) plan.operations operation (keeps.names (omega arith)))

-- the rules of a plan whose operations are the first of another's
pub rules_front : (last : ℕ) (whole plan : PlanView) (operation : Operation) (rest : List Operation) → whole.layout ≡ plan.layout → whole.inodes ≡ plan.inodes
    → whole.operations ≡ plan.operations ++ operation ∷ rest → KeepsRules last whole → KeepsRules last (with_operation plan operation)
rules_front last whole plan operation rest layouts inodes operations keeps =
    let parts : whole.operations ≡ (plan.operations ++ operation ∷ []) ++ rest = operations ∙ sym (append_assoc plan.operations (operation ∷ []) rest) in
    let front : List Operation = plan.operations ++ operation ∷ [] in
    record {
      distinct = λ high. distinct_front (numbers front) (numbers rest)
          (rw (← map-append (λ o. o.number) front rest, ← parts) (keeps.distinct high));
      inodes = λ high. all_front (λ o. HasInodes plan.inodes o.action) front rest
          (rw (← parts, ← inodes) (keeps.inodes high));
      names = λ high. all_front (λ o. HasName plan.layout o.action) front rest
          (rw (← parts, ← layouts) (keeps.names high));
    }

-- the operation that a line says and that is allowed
operation_is : (plan : PlanView) (words : List (List ℕ)) (found : Wording) (action : Action) (w : WordsOperation words found)
    → Allows plan.layout plan.inodes found.action action → made found.number action ≡ w.operation
operation_is plan words found action w allowed =
    operation_of (made found.number action) w.operation w.number (allowed w.operation.action w.holds).same

pub line_says : (old : PlanView) (words : List (List ℕ)) (found : Wording) (action : Action) → KeepsRules 4 old → WordsOperation words found
    → Allows old.layout old.inodes found.action action → SaysOperation words (made found.number action)
line_says old words found action keeps w allowed =
    subst (λ (o : Operation). SaysOperation words o) (sym (operation_is old words found action w allowed)) w.says

pub line_keeps : (old : PlanView) (words : List (List ℕ)) (found : Wording) (action : Action) → KeepsRules 4 old → WordsOperation words found
    → is_taken old.operations found.number ≡ false → Allows old.layout old.inodes found.action action
    → KeepsRules 4 (with_operation old (made found.number action))
line_keeps old words found action keeps w free allowed =
    let fits = allowed w.operation.action w.holds in
    let rules : KeepsRules 4 (with_operation old w.operation) =
    rules_more 4 old w.operation keeps (λ _. rw (← w.number) free) (λ _. fits.inodes_there) (λ _. fits.name_fits) in
    subst (λ (o : Operation). KeepsRules 4 (with_operation old o)) (sym (operation_is old words found action w allowed)) rules

pub line_taken : (old : PlanView) (words : List (List ℕ)) (found : Wording) → KeepsRules 4 old → WordsOperation words found
    → is_taken old.operations found.number ≡ true → BreaksLine old words code.Twice
line_taken old words found keeps w taken = record {
  operation = w.operation;
  says = w.says;
  keeps = λ lower some low. rules_more lower old w.operation keeps (λ high. absurd (omega arith)) (λ high. absurd (omega arith)) (λ high. absurd (omega arith));
  breaks = number_taken old w.operation (rw (← w.number) taken);
}

line_misses : (old : PlanView) (words : List (List ℕ)) (found : Wording) → KeepsRules 4 old → (w : WordsOperation words found)
    → is_taken old.operations found.number ≡ false → ¬ HasInodes old.inodes w.operation.action → BreaksAt old words code.Inode
line_misses old words found keeps w free none = record {
  operation = w.operation;
  says = w.says;
  keeps = λ lower some low. rules_more lower old w.operation keeps (λ _. rw (← w.number) free) (λ high. absurd (omega arith)) (λ high. absurd (omega arith));
  breaks = inode_missing old w.operation none;
}

line_unfit : (old : PlanView) (words : List (List ℕ)) (found : Wording) → KeepsRules 4 old → (w : WordsOperation words found)
    → is_taken old.operations found.number ≡ false → HasInodes old.inodes w.operation.action → ¬ HasName old.layout w.operation.action
    → BreaksAt old words code.Name
line_unfit old words found keeps w free there none = record {
  operation = w.operation;
  says = w.says;
  keeps = λ lower some low. rules_more lower old w.operation keeps (λ _. rw (← w.number) free) (λ _. there) (λ high. absurd (omega arith));
  breaks = name_unfit old w.operation none;
}

pub line_forbidden : (old : PlanView) (words : List (List ℕ)) (found : Wording) (broken : PlanCode) → KeepsRules 4 old → WordsOperation words found
    → is_taken old.operations found.number ≡ false → Forbids old.layout old.inodes found.action broken → OnText broken (BreaksLine old words broken)
line_forbidden old words found code.Line keeps w free forbids = absurd (forbids w.operation.action w.holds)
line_forbidden old words found code.Twice keeps w free forbids = absurd (forbids w.operation.action w.holds)
line_forbidden old words found code.Inode keeps w free forbids = line_misses old words found keeps w free (forbids w.operation.action w.holds)
line_forbidden old words found code.Name keeps w free forbids =
    let here = forbids w.operation.action w.holds in
    line_unfit old words found keeps w free here.0 here.1
line_forbidden old words found code.Memory keeps w free forbids = tt

pub line_added : (old new : PlanView) (words : List (List ℕ)) (operation : Operation) → SaysOperation words operation
    → KeepsRules 4 (with_operation old operation) → new ≡ with_operation old operation → AddsLine old words new
line_added old new words operation says keeps grown = record {
  operation = operation;
  says = says;
  grown = grown;
  rules = subst (λ (plan : PlanView). KeepsRules 4 plan) (sym grown) keeps;
}

-- what is forbidden isn't told as want of memory
pub forbidden_by_text : (layout : Layout) (inodes : ℕ) (words : List (List ℕ)) (found : Wording) (broken : PlanCode) → WordsOperation words found
    → Forbids layout inodes found.action broken → ¬ (broken ≡ code.Memory)
forbidden_by_text layout inodes words found broken w forbids e = rw e at (forbids w.operation.action w.holds)
