-- What a command writes.
use Rattle.std.specs.Prelude.{◌≡◌, ◌++◌, ℕ, List, Option, Some, None, Result, Ok, MatchResult}
use Rattle.std.specs.List.{concat}
use Rattle.machine.specs.Joined.{joined, text_of}
use Rattle.machine.specs.declared.schedule.items.Item.{Item}
use Rattle.command_line.specs.Reports.{line_end}
use Rattle.command_line.specs.Steps.{First, Step, Still, Writes, WritesFile}
use Rattle.command_line.specs.declared.failure.Failure.{Failure}
use Rattle.command_line.specs.declared.failure.Failure.TheVariants.{Memory}

-- nothing is done where no file is named
pub record IsDone (outcome : Result (Unit {0}) Failure) : Type 0 where
  pub done : outcome ≡ Ok tt

-- the bytes of a medium; memory for them may be refused
pub record GivesBytes (lines : List (List ℕ)) (outcome : Result (List ℕ) Failure) : Type 0 where
  pub gives : MatchResult outcome (λ bytes. bytes ≡ concat lines) (λ failure. failure ≡ Memory)

-- a schedule's line: its text and a line end; memory for it may be refused
abbrev pub schedule_line : List Item → List ℕ
schedule_line schedule = text_of (joined schedule) ++ line_end

pub record GivesLine (schedule : List Item) (outcome : Result (List ℕ) Failure) : Type 0 where
  pub gives : MatchResult outcome (λ line. line ≡ schedule_line schedule) (λ failure. failure ≡ Memory)

abbrev pub WritesMedium : {F : Type 0} → Writes F → List ℕ → List (List ℕ) → Step F (Unit {0})
WritesMedium writes name lines = First (Still (GivesBytes lines)) (λ bytes. WritesFile writes name bytes)

abbrev pub WritesSchedule : {F : Type 0} → Writes F → List ℕ → List Item → Step F (Unit {0})
WritesSchedule writes name schedule = First (Still (GivesLine schedule)) (λ line. WritesFile writes name line)

-- `--out`: the lines that a power cut leaves are written where a file is named
abbrev pub LeavesIn : {F : Type 0} → Writes F → Option (List ℕ) → List (List ℕ) → Step F (Unit {0})
LeavesIn writes None lines = Still IsDone
LeavesIn writes (Some name) lines = WritesMedium writes name lines

pub record Leaves {F : Type 0} (writes : Writes F) (name : Option (List ℕ)) (lines : List (List ℕ)) (old : F)
    (outcome : Result (Unit {0}) Failure) (new : F) : Type 0 where
  pub leaves : LeavesIn writes name lines old outcome new

-- `--record`: a schedule is
abbrev pub RecordsIn : {F : Type 0} → Writes F → Option (List ℕ) → List Item → Step F (Unit {0})
RecordsIn writes None schedule = Still IsDone
RecordsIn writes (Some name) schedule = WritesSchedule writes name schedule

pub record Records {F : Type 0} (writes : Writes F) (name : Option (List ℕ)) (schedule : List Item) (old : F)
    (outcome : Result (Unit {0}) Failure) (new : F) : Type 0 where
  pub records : RecordsIn writes name schedule old outcome new
