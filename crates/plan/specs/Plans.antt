-- What a plan has, and what is allowed in it: the inodes, and names as long as the layout of the logs allows.
-- Source: NOVA, FAST 2016: logs of inodes, and operations on one or two of them. The limits are this project's own.
use Rattle.std.specs.Prelude.{◌≢◌, ◌≤◌, ◌<◌, ◌==◌, ◌||◌, ◌&&◌, ℕ, Bool, IsTrue, List, length, map, nat_eq, nat_le, ⊤, ◌++◌, [], ◌∷◌}
use Rattle.std.specs.List.{AllByRecursion, IsDistinct, list_all}
use Rattle.nova_log.specs.declared.layout.Layout.{Layout}
use Rattle.nova_log.specs.declared.layout.Layout.TheVariants.{One, Two}
use Rattle.plan.specs.declared.operation.Action.{Action}
use Rattle.plan.specs.declared.operation.Action.TheVariants.{Append, Rename}
use Rattle.plan.specs.declared.operation.Operation.{Operation}

-- the layout and the counts of the volume, and the operations in the order of their lines
pub record PlanView : Type 0 where
  pub layout : Layout
  pub inodes : ℕ
  pub pages : ℕ
  pub journals : ℕ
  pub operations : List Operation

-- a plan by its parts
abbrev pub by_parts : Layout → ℕ → ℕ → ℕ → List Operation → PlanView
by_parts layout inodes pages journals operations =
    record { layout = layout; inodes = inodes; pages = pages; journals = journals; operations = operations }

-- letters, digits, `.`, `_` and `-`
abbrev pub is_between : ℕ → ℕ → ℕ → Bool
is_between low high byte = nat_le low byte && nat_le byte high

abbrev pub is_name_byte : ℕ → Bool
is_name_byte byte =
    is_between 97 122 byte || is_between 65 90 byte || is_between 48 57 byte || (byte == 46) || (byte == 95) || (byte == 45)

-- a name of at most so many of these
pub record IsName (most : ℕ) (name : List ℕ) : Type 0 where
  pub some : 1 ≤ length name
  pub short : length name ≤ most
  pub bytes : IsTrue (list_all is_name_byte name)

abbrev pub longest_name : Layout → ℕ
longest_name One = 32
longest_name Two = 96

-- the inodes are there, and a name goes from one to another
abbrev pub HasInodes : ℕ → Action → Type 0
HasInodes inodes (Append inode value) = inode < inodes
HasInodes inodes (Rename from to name value) = (from < inodes) × (to < inodes) × (from ≢ to)

abbrev pub HasName : Layout → Action → Type 0
HasName layout (Append inode value) = ⊤
HasName layout (Rename from to name value) = IsName (longest_name layout) name

-- the rules for operations, numbered as the codes of their faults: rules 2 to 4, as far as `last`
pub record KeepsRules (last : ℕ) (plan : PlanView) : Type 0 where
  pub distinct : 2 ≤ last → IsDistinct nat_eq (map (λ operation. operation.number) plan.operations)
  pub inodes : 3 ≤ last → AllByRecursion (λ operation. HasInodes plan.inodes operation.action) plan.operations
  pub names : 4 ≤ last → AllByRecursion (λ operation. HasName plan.layout operation.action) plan.operations

-- an operation by its parts
abbrev pub made : ℕ → Action → Operation
made number action = record { number = number; action = action }

-- the plan with an operation more
abbrev pub with_operation : PlanView → Operation → PlanView
with_operation plan operation = record plan { operations = plan.operations ++ operation ∷ [] }
