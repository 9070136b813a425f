-- What statements say of a plan so far.
-- Source: this project's own format, as in Grammar.
use Rattle.std.specs.Prelude.{◌≡◌, ◌≤◌, ◌<◌, ◌++◌, ℕ, List, [], ◌∷◌, ⊤}
use Rattle.plan.specs.declared.fault.PlanCode.{PlanCode}
use Rattle.plan.specs.declared.fault.PlanCode.TheVariants as code
use Rattle.plan.specs.declared.operation.Operation.{Operation}
use Rattle.nova_log.specs.declared.layout.Layout.{Layout}
use Rattle.plan.specs.declared.draft.Draft.{Draft}
use Rattle.plan.specs.declared.draft.Draft.TheVariants.{Empty, Opened, Counted, Paged, Whole}
use Rattle.plan.specs.Grammar.{Opens, SaysInodes, SaysLayout, SaysOperation, SaysPages, SaysPlan, code_number}
use Rattle.plan.specs.Plans.{KeepsRules, PlanView, with_operation}

-- a line of the layout alone
pub record SaysOpening (all : List (List (List ℕ))) (layout : Layout) : Type 0 where
  pub layout_line : List (List ℕ)
  pub whole : all ≡ layout_line ∷ []
  pub says : SaysLayout layout_line layout

-- the lines as far as that of the inodes
pub record SaysToInodes (all : List (List (List ℕ))) (layout : Layout) (inodes : ℕ) : Type 0 where
  pub opening : List (List (List ℕ))
  pub inodes_line : List (List ℕ)
  pub whole : all ≡ opening ++ inodes_line ∷ []
  pub opens : Opens opening layout
  pub says : SaysInodes inodes_line inodes

-- the lines as far as that of the pages
pub record SaysToPages (all : List (List (List ℕ))) (layout : Layout) (inodes pages : ℕ) : Type 0 where
  pub opening : List (List (List ℕ))
  pub inodes_line : List (List ℕ)
  pub pages_line : List (List ℕ)
  pub whole : all ≡ opening ++ inodes_line ∷ pages_line ∷ []
  pub opens : Opens opening layout
  pub says : SaysInodes inodes_line inodes
  pub says_pages : SaysPages inodes pages_line pages

-- the draft is what the statements say
abbrev pub IsDraft : List (List (List ℕ)) → Draft → Type 0
IsDraft all Empty = all ≡ []
IsDraft all (Opened layout) = SaysOpening all layout
IsDraft all (Counted layout inodes) = SaysToInodes all layout inodes
IsDraft all (Paged layout inodes pages) = SaysToPages all layout inodes pages
IsDraft all (Whole plan) = SaysPlan 4 all plan

-- a count is missing
abbrev pub IsUnfinished : Draft → Type 0
IsUnfinished Empty = ⊤
IsUnfinished (Opened layout) = ⊤
IsUnfinished (Counted layout inodes) = ⊤
IsUnfinished (Paged layout inodes pages) = ⊤
IsUnfinished (Whole plan) = ⊥

-- the plan with the operation that a line says, and all rules kept
pub record AddsLine (old : PlanView) (words : List (List ℕ)) (new : PlanView) : Type 0 where
  pub operation : Operation
  pub says : SaysOperation words operation
  pub grown : new ≡ with_operation old operation
  pub rules : KeepsRules 4 new

-- the line says an operation with which the plan keeps the rules before the code's, and not the code's
pub record BreaksAt (plan : PlanView) (words : List (List ℕ)) (broken : PlanCode) : Type 0 where
  pub operation : Operation
  pub says : SaysOperation words operation
  pub keeps : (lower : ℕ) → 1 ≤ lower → lower < code_number broken → KeepsRules lower (with_operation plan operation)
  pub breaks : ¬ KeepsRules (code_number broken) (with_operation plan operation)

abbrev pub BreaksLine : PlanView → List (List ℕ) → PlanCode → Type 0
BreaksLine plan words code.Line = (operation : Operation) → ¬ SaysOperation words operation
BreaksLine plan words code.Twice = BreaksAt plan words code.Twice
BreaksLine plan words code.Inode = BreaksAt plan words code.Inode
BreaksLine plan words code.Name = BreaksAt plan words code.Name
BreaksLine plan words code.Memory = ⊥

-- the draft is the plan with the operation of the line
abbrev pub Grows : PlanView → List (List ℕ) → Draft → Type 0
Grows old words Empty = ⊥
Grows old words (Opened layout) = ⊥
Grows old words (Counted layout inodes) = ⊥
Grows old words (Paged layout inodes pages) = ⊥
Grows old words (Whole new) = AddsLine old words new

-- a line that says an operation, and a draft with it: memory is asked for
pub record TakesOperation (draft : Draft) (words : List (List ℕ)) : Type 0 where
  pub operation : Operation
  pub says : SaysOperation words operation
  pub next : Draft
  pub drafted : (all : List (List (List ℕ))) → IsDraft all draft → IsDraft (all ++ words ∷ []) next
