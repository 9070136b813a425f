-- Which file of a command can't be read.
use Rattle.std.specs.Prelude.{◌≡◌, ℕ, List, [], ◌∷◌, Option, Some, None, Result, Ok, Err}
use Rattle.command_line.specs.Steps.{Reads}
use Rattle.command_line.specs.declared.files.FileFault.{FileFault}
use Rattle.command_line.specs.declared.files.FileFault.TheVariants.{Memory}
use Rattle.command_line.specs.declared.lost_files.LostFile.{LostFile}

-- a file that is lost, and why
pub record Lost : Type 0 where
  pub name : List ℕ
  pub fault : FileFault

abbrev pub lost_in : LostFile → Lost
lost_in lost = record { name = lost.name.now; fault = lost.fault }

-- files before, what is found, and files after
abbrev pub Search : Type 0 → Type 1
Search F = F → Option Lost → F → Type 0

-- a file is lost where it couldn't be read
abbrev pub lost_by : List ℕ → Result (List ℕ) FileFault → Option Lost
lost_by name (Err Memory) = None
lost_by name (Err fault) = Some (record { name = name; fault = fault })
lost_by name (Ok bytes) = None

pub record ReadsLost {F : Type 0} (reads : Reads F) (name : List ℕ) (old : F) (lost : Option Lost) (new : F) : Type 0 where
  pub content : Result (List ℕ) FileFault
  pub read : reads old name content new
  pub lost_is : lost ≡ lost_by name content

-- a file is read, where there is one of this name
abbrev pub TriesOne : {F : Type 0} → Reads F → Option (List ℕ) → Search F
TriesOne reads None old lost new = (lost ≡ None) × (new ≡ old)
TriesOne reads (Some name) old lost new = ReadsLost reads name old lost new

-- the rest is searched where nothing was lost
abbrev pub GoesOnUnless : {F : Type 0} → Option Lost → Search F → Search F
GoesOnUnless None rest old found new = rest old found new
GoesOnUnless (Some lost) rest old found new = (found ≡ Some lost) × (new ≡ old)

pub record TriesFirst {F : Type 0} (reads : Reads F) (name : Option (List ℕ)) (rest : Search F) (old : F) (found : Option Lost) (new : F) : Type 0 where
  pub tried : Option Lost
  pub between : F
  pub tries : TriesOne reads name old tried between
  pub after : GoesOnUnless tried rest between found new

-- files are read one after the other, until one can't be
abbrev pub FindsLost : {F : Type 0} → Reads F → List (Option (List ℕ)) → Search F
FindsLost reads [] old found new = (found ≡ None) × (new ≡ old)
FindsLost reads (name ∷ names) old found new = TriesFirst reads name (FindsLost reads names) old found new
