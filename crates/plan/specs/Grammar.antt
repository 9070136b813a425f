-- The text of a plan: lines of words. `layout 1` or `layout 2` may come first; then `inodes N`, `pages N` and
-- `journals N`; then an operation a line, `op K append I VALUE` or `op K rename I J NAME VALUE`.
-- Source: this project's own format. As in Vinter, USENIX ATC 2022, a test names the operations whose effects are judged.
use Rattle.std.specs.Prelude.{◌≡◌, ◌≤◌, ◌<◌, ◌^◌, ◌+◌, ◌⊎◌, ◌++◌, ℕ, List, [], ◌∷◌, codes, length, ⊤}
use Rattle.std.specs.List.{AllZip, before_first}
use Rattle.std.specs.Str.Parse.{IsNumeral, digits_value}
use Rattle.nova_log.specs.declared.layout.Layout.{Layout}
use Rattle.nova_log.specs.declared.layout.Layout.TheVariants.{One, Two}
use Rattle.plan.specs.declared.fault.PlanCode.{PlanCode}
use Rattle.plan.specs.declared.fault.PlanCode.TheVariants as code
use Rattle.plan.specs.declared.operation.Action.{Action}
use Rattle.plan.specs.declared.operation.Action.TheVariants.{Append, Rename}
use Rattle.plan.specs.declared.operation.Operation.{Operation}
use Rattle.plan.specs.Lines.{is_hash, lines, statements}
use Rattle.text.specs.Words.{words}
use Rattle.plan.specs.Plans.{KeepsRules, PlanView}

-- decimal digits of the number, leading zeros among them
pub record IsNumber (digits : List ℕ) (number : ℕ) : Type 0 where
  pub numeral : IsNumeral 10 digits
  pub value : number ≡ digits_value 10 digits

-- the same of a number of 64 bits
pub record IsWide (digits : List ℕ) (number : ℕ) : Type 0 where
  pub is_number : IsNumber digits number
  pub wide : number < 2 ^ 64

-- a line of a keyword and a number from `low` to `high`
pub record SaysCount (keyword : List ℕ) (low high : ℕ) (words : List (List ℕ)) (count : ℕ) : Type 0 where
  pub digits : List ℕ
  pub spelled : words ≡ keyword ∷ digits ∷ []
  pub is_number : IsNumber digits count
  pub least : low ≤ count
  pub most : count ≤ high

abbrev pub layout_number : Layout → ℕ
layout_number One = 1
layout_number Two = 2

abbrev pub SaysLayout : List (List ℕ) → Layout → Type 0
SaysLayout words layout = SaysCount (codes "layout") 1 2 words (layout_number layout)

abbrev pub SaysInodes : List (List ℕ) → ℕ → Type 0
SaysInodes words inodes = SaysCount (codes "inodes") 1 64 words inodes

abbrev pub SaysPages : ℕ → List (List ℕ) → ℕ → Type 0
SaysPages inodes words pages = SaysCount (codes "pages") inodes 240 words pages

abbrev pub SaysJournals : List (List ℕ) → ℕ → Type 0
SaysJournals words journals = SaysCount (codes "journals") 1 8 words journals

-- `I VALUE`, after `append`
pub record SaysAppend (words : List (List ℕ)) (inode value : ℕ) : Type 0 where
  pub inode_digits : List ℕ
  pub value_digits : List ℕ
  pub spelled : words ≡ inode_digits ∷ value_digits ∷ []
  pub inode_number : IsNumber inode_digits inode
  pub value_number : IsWide value_digits value

-- `I J NAME VALUE`, after `rename`
pub record SaysRename (words : List (List ℕ)) (from to : ℕ) (name : List ℕ) (value : ℕ) : Type 0 where
  pub from_digits : List ℕ
  pub to_digits : List ℕ
  pub value_digits : List ℕ
  pub spelled : words ≡ from_digits ∷ to_digits ∷ name ∷ value_digits ∷ []
  pub from_number : IsNumber from_digits from
  pub to_number : IsNumber to_digits to
  pub value_number : IsWide value_digits value

abbrev pub SaysAction : List ℕ → List (List ℕ) → Action → Type 0
SaysAction keyword words (Append inode value) = (keyword ≡ codes "append") × SaysAppend words inode value
SaysAction keyword words (Rename from to name value) = (keyword ≡ codes "rename") × SaysRename words from to name value

-- a line of an operation, whatever its inodes and its name
pub record SaysOperation (words : List (List ℕ)) (operation : Operation) : Type 0 where
  pub number_digits : List ℕ
  pub keyword : List ℕ
  pub rest : List (List ℕ)
  pub spelled : words ≡ codes "op" ∷ number_digits ∷ keyword ∷ rest
  pub number : IsWide number_digits operation.number
  pub action : SaysAction keyword rest operation.action

-- what may stand before the counts: nothing, or a line with the layout
abbrev pub Opens : List (List (List ℕ)) → Layout → Type 0
Opens [] layout = layout ≡ One
Opens (words ∷ []) layout = SaysLayout words layout
Opens (words ∷ more ∷ rest) layout = ⊥

-- the statements are the lines of a plan whose operations keep the rules as far as `last`
pub record SaysPlan (last : ℕ) (all : List (List (List ℕ))) (plan : PlanView) : Type 0 where
  pub opening : List (List (List ℕ))
  pub inodes_line : List (List ℕ)
  pub pages_line : List (List ℕ)
  pub journals_line : List (List ℕ)
  pub operation_lines : List (List (List ℕ))
  pub whole : all ≡ opening ++ inodes_line ∷ pages_line ∷ journals_line ∷ operation_lines
  pub layout : Opens opening plan.layout
  pub inodes : SaysInodes inodes_line plan.inodes
  pub pages : SaysPages plan.inodes pages_line plan.pages
  pub journals : SaysJournals journals_line plan.journals
  pub operations : AllZip SaysOperation operation_lines plan.operations
  pub rules : KeepsRules last plan

-- the text is the plan's
abbrev pub IsPlan : List ℕ → PlanView → Type 0
IsPlan text plan = SaysPlan 4 (statements (lines text)) plan

-- the number in a code's name
abbrev pub code_number : PlanCode → ℕ
code_number code.Line = 1
code_number code.Twice = 2
code_number code.Inode = 3
code_number code.Name = 4
code_number code.Memory = 5

-- a plan under these rules can begin with the statements
pub record BeginsPlan (last : ℕ) (all : List (List (List ℕ))) : Type 0 where
  pub more : List (List (List ℕ))
  pub plan : PlanView
  pub says : SaysPlan last (all ++ more) plan

-- no plan under the rules up to the code begins with the statements, but one does under those of each lower code
pub record BreaksRule (broken : PlanCode) (all : List (List (List ℕ))) : Type 0 where
  pub breaks : ¬ BeginsPlan (code_number broken) all
  pub keeps : (lower : ℕ) → 1 ≤ lower → lower < code_number broken → BeginsPlan lower all

-- the line of this number is the first at fault: a plan can begin with the lines before it, and none with it too
pub record IsLineAtFault (text : List ℕ) (number : ℕ) (broken : PlanCode) : Type 0 where
  pub before : List (List ℕ)
  pub line : List ℕ
  pub after : List (List ℕ)
  pub whole : lines text ≡ before ++ line ∷ after
  pub place : number ≡ length before + 1
  pub begins : BeginsPlan 4 (statements before)
  pub breaks : BreaksRule broken (statements (before ++ line ∷ []))

-- a plan can begin with all the lines, but they are none: a line is missing after the last
pub record EndsEarly (text : List ℕ) (number : ℕ) (broken : PlanCode) : Type 0 where
  pub place : number ≡ length (lines text) + 1
  pub missing : broken ≡ code.Line
  pub begins : BeginsPlan 4 (statements (lines text))
  pub none : (plan : PlanView) → ¬ IsPlan text plan

-- what holds of a refusal that isn't want of memory
abbrev pub OnText : PlanCode → Type 0 → Type 0
OnText code.Line P = P
OnText code.Twice P = P
OnText code.Inode P = P
OnText code.Name P = P
OnText code.Memory P = ⊤

-- the first line at fault, or the one that is missing
abbrev pub IsFirstFault : List ℕ → ℕ → PlanCode → Type 0
IsFirstFault text number broken = IsLineAtFault text number broken ⊎ EndsEarly text number broken

-- the line of this number says an operation, and a plan can begin with the lines as far as it
pub record BeginsThrough (text : List ℕ) (number : ℕ) : Type 0 where
  pub before : List (List ℕ)
  pub line : List ℕ
  pub after : List (List ℕ)
  pub operation : Operation
  pub whole : lines text ≡ before ++ line ∷ after
  pub place : number ≡ length before + 1
  pub says : SaysOperation (words (before_first is_hash line)) operation
  pub begins : BeginsPlan 4 (statements (before ++ line ∷ []))
