-- The steps of a command, one after another. A step is said by the files before it, its outcome and the files after it: it
-- finds something, or it fails, and then the command does nothing more.
use Rattle.std.specs.Prelude.{◌≡◌, ℕ, List, Result, Ok, Err, MatchResult}
use Rattle.std.specs.Result.{result_map_both}
use Rattle.command_line.specs.Failures.{failure_of_file}
use Rattle.command_line.specs.declared.answer.Answer.{Answer}
use Rattle.command_line.specs.declared.failure.Failure.{Failure}
use Rattle.command_line.specs.declared.failure.Failure.TheVariants.{Memory}
use Rattle.command_line.specs.declared.files.FileFault.{FileFault}

abbrev pub Step : Type 0 → Type 0 → Type 1
Step F A = F → Result A Failure → F → Type 0

-- what a read of a file may give, by its name, and a write, by its name and the bytes
abbrev pub Reads : Type 0 → Type 1
Reads F = F → List ℕ → Result (List ℕ) FileFault → F → Type 0

abbrev pub Writes : Type 0 → Type 1
Writes F = F → List ℕ → List ℕ → Result (Unit {0}) FileFault → F → Type 0

-- after a step: what is said of what it found, or its failure, with which the command ends
abbrev pub GoesOn : {F A B : Type 0} → (A → Step F B) → Result A Failure → Step F B
GoesOn next (Ok found) old outcome new = next found old outcome new
GoesOn next (Err failure) old outcome new = (outcome ≡ Err failure) × (new ≡ old)

-- first this step, and then what is said of what it found
pub record First {F A B : Type 0} (finds : Step F A) (next : A → Step F B) (old : F) (outcome : Result B Failure) (new : F) : Type 0 where
  pub found : Result A Failure
  pub between : F
  pub first : finds old found between
  pub after : GoesOn next found between outcome new

-- a step over values, which leaves the files as they are
pub record Still {F A : Type 0} (finds : Result A Failure → Type 0) (old : F) (outcome : Result A Failure) (new : F) : Type 0 where
  pub value : finds outcome
  pub untouched : new ≡ old

-- the file of this name is read
pub record ReadsFile {F : Type 0} (reads : Reads F) (name : List ℕ) (old : F) (outcome : Result (List ℕ) Failure) (new : F) : Type 0 where
  pub content : Result (List ℕ) FileFault
  pub read : reads old name content new
  pub told : outcome ≡ result_map_both (λ bytes. bytes) failure_of_file content

-- the file of this name is written
pub record WritesFile {F : Type 0} (writes : Writes F) (name bytes : List ℕ) (old : F) (outcome : Result (Unit {0}) Failure) (new : F) : Type 0 where
  pub written : Result (Unit {0}) FileFault
  pub write : writes old name bytes written new
  pub told : outcome ≡ result_map_both (λ done. done) failure_of_file written

-- a failure that tells of a fault
pub record Tells {X : Type 0} (is_fault : X → Type 0) (failure_of : X → Failure) (failure : Failure) : Type 0 where
  pub fault : X
  pub told : failure ≡ failure_of fault
  pub found : is_fault fault

-- this text is to be printed, with this status; memory for it may be refused
pub record Prints (text : List ℕ) (status : ℕ) (outcome : Result Answer Failure) : Type 0 where
  pub answer : MatchResult outcome (λ answer. (answer.text.items ≡ text) × (answer.status ≡ status)) (λ failure. failure ≡ Memory)
