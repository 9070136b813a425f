-- Files that stand in the place of one another.
use Rattle.std.specs.Prelude.{◌≡◌, ◌⊎◌, ◌-◌, ◌==◌, ◌&&◌, ℕ, Bool, true, false, List, [], Option, Some, None, codes, length, nat_le, slice_index}
use Rattle.crash_test.specs.Programs.{IsLoadFault, IsProgramOf}
use Rattle.crash_test.specs.declared.loading.ProgramFault.{ProgramFault}
use Rattle.program.specs.Sections.{Sections}
use Rattle.command_line.specs.Items.{IsScheduleText}
use Rattle.command_line.specs.declared.failure.Refusal.{Refusal}
use Rattle.command_line.specs.declared.failure.Refusal.TheVariants.{Assembly, Plan, RecoverySource, ScheduleText}

abbrev pub IsProgramText : List ℕ → Type 0
IsProgramText file = (program : Sections) × IsProgramOf file program

abbrev pub HasLoadFault : List ℕ → Type 0
HasLoadFault file = (fault : ProgramFault) × IsLoadFault file fault

-- words that are told where a fact holds, and nothing where another one does
abbrev pub ToldIf : Type 0 → Type 0 → List ℕ → List ℕ → Type 0
ToldIf holds fails words told = (holds × (told ≡ words)) ⊎ (fails × (told ≡ []))

-- a text ends with `.c`, as the name of a file of C does
abbrev pub ends_as_c : List ℕ → Bool
ends_as_c text = nat_le 2 (length text) && (slice_index text (length text - 2) == 46 && (slice_index text (length text - 1) == 99))

abbrev pub is_c : Option (List ℕ) → Bool
is_c None = false
is_c (Some name) = ends_as_c name

abbrev pub IsSourceTold : Bool → List ℕ → List ℕ → Type 0
IsSourceTold true file told = told ≡ codes "this is C: tools/c/novacrash-cc makes an executable of it"
IsSourceTold false file told =
    ToldIf (IsScheduleText file) (¬ IsScheduleText file) (codes "this is a schedule: were PROGRAM and SCHEDULE exchanged?") told

-- what a refused file is in place of what a command takes it for
abbrev pub IsKindTold : Option (List ℕ) → Refusal → List ℕ → List ℕ → Type 0
IsKindTold name (Assembly fault) file told = IsSourceTold (is_c name) file told
IsKindTold name (RecoverySource fault) file told =
    ToldIf (IsScheduleText file) (¬ IsScheduleText file) (codes "this is a schedule: were RECOVERY and SCHEDULE exchanged?") told
IsKindTold name ScheduleText file told =
    ToldIf (IsProgramText file) (HasLoadFault file) (codes "this is a program: was SCHEDULE exchanged with another word?") told
IsKindTold name (Plan fault) file told =
    ToldIf (IsProgramText file) (HasLoadFault file) (codes "this is a program: were PLAN and PROGRAM exchanged?") told
IsKindTold name refusal file told = told ≡ []
