-- What an operation's line says, before its inodes and its name are judged.
-- Source: this project's own format, as in Grammar.
use Rattle.std.specs.Prelude.{◌≡◌, ◌<◌, ◌^◌, ℕ, ◌∷◌, List, Option, SomeIff}
use Rattle.nova_log.specs.declared.layout.Layout.{Layout}
use Rattle.plan.specs.declared.fault.PlanCode.{PlanCode}
use Rattle.plan.specs.declared.fault.PlanCode.TheVariants as code
use Rattle.plan.specs.declared.operation.Action.{Action}
use Rattle.plan.specs.declared.operation.Action.TheVariants.{Append, Rename}
use Rattle.plan.specs.declared.operation.Operation.{Operation}
use Rattle.plan.specs.declared.operation_line.WordedAction.{WordedAction}
use Rattle.plan.specs.declared.operation_line.WordedAction.TheVariants as worded
use Rattle.plan.specs.declared.operation_line.Wording.{Wording}
use Rattle.plan.specs.Grammar.{IsNumber, IsWide, SaysAction, SaysOperation}
use Rattle.plan.specs.Plans.{HasInodes, HasName, IsName}

-- the number, where it has 32 bits
abbrev pub HoldsInode : Option ℕ → ℕ → Type 0
HoldsInode found inode = SomeIff found (inode < 2 ^ 32) inode

-- the name, where it is one under some layout
abbrev pub HoldsName : Option (List ℕ) → List ℕ → Type 0
HoldsName found name = SomeIff found (IsName 96 name) name

abbrev pub HoldsAction : WordedAction → Action → Type 0
HoldsAction (worded.Append found written) (Append inode value) = HoldsInode found inode × (written ≡ value)
HoldsAction (worded.Rename source target called written) (Rename from to name value) =
    HoldsInode source from × HoldsInode target to × HoldsName called name × (written ≡ value)
HoldsAction other action = ⊥

-- words after the keyword of an action say an action that is held so
pub record WordsAction (keyword : List ℕ) (words : List (List ℕ)) (found : WordedAction) : Type 0 where
  pub action : Action
  pub says : SaysAction keyword words action
  pub holds : HoldsAction found action

-- the words of a line say an operation that is held so
pub record WordsOperation (words : List (List ℕ)) (found : Wording) : Type 0 where
  pub operation : Operation
  pub says : SaysOperation words operation
  pub number : found.number ≡ operation.number
  pub holds : HoldsAction found.action operation.action

-- the words begin with a number of 64 bits, and with one for an inode
pub record BeginsWide (words : List (List ℕ)) (number : ℕ) (rest : List (List ℕ)) : Type 0 where
  pub digits : List ℕ
  pub spelled : words ≡ digits ∷ rest
  pub is_wide : IsWide digits number

pub record BeginsInode (words : List (List ℕ)) (found : Option ℕ) (rest : List (List ℕ)) : Type 0 where
  pub digits : List ℕ
  pub inode : ℕ
  pub spelled : words ≡ digits ∷ rest
  pub is_number : IsNumber digits inode
  pub holds : HoldsInode found inode

-- the action that is held so is this one, and it keeps the rules
pub record IsAllowed (layout : Layout) (inodes : ℕ) (allowed action : Action) : Type 0 where
  pub same : allowed ≡ action
  pub inodes_there : HasInodes inodes action
  pub name_fits : HasName layout action

abbrev pub Allows : Layout → ℕ → WordedAction → Action → Type 0
Allows layout inodes found allowed = (action : Action) → HoldsAction found action → IsAllowed layout inodes allowed action

-- the first rule that the action breaks
abbrev pub IsForbidden : PlanCode → Layout → ℕ → Action → Type 0
IsForbidden code.Inode layout inodes action = ¬ HasInodes inodes action
IsForbidden code.Name layout inodes action = HasInodes inodes action × (¬ HasName layout action)
IsForbidden code.Line layout inodes action = ⊥
IsForbidden code.Twice layout inodes action = ⊥
IsForbidden code.Memory layout inodes action = ⊥

abbrev pub Forbids : Layout → ℕ → WordedAction → PlanCode → Type 0
Forbids layout inodes found broken = (action : Action) → HoldsAction found action → IsForbidden broken layout inodes action
