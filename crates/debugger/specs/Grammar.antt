-- The commands of lines: the first word is a command's name, and what follows it is what the command takes.
use Rattle.std.specs.Prelude.{◌≡◌, ◌≢◌, ◌≤◌, ◌<◌, ◌^◌, ◌⊎◌, ℕ, Bool, true, false, List, [], ◌∷◌, codes, ⊤}
use Rattle.debugger.specs.Code.{KnownCode}
use Rattle.debugger.specs.Points.{can_break}
use Rattle.debugger.specs.declared.fault.DebugFault.{DebugFault}
use Rattle.debugger.specs.declared.fault.DebugFault.TheVariants as faults
use Rattle.machine.specs.Grammar.{IsSchedule}
use Rattle.machine.specs.declared.schedule.items.Item.{Item}
use Rattle.machine.specs.declared.shared_memory.fault.StepFault.{StepFault}
use Rattle.machine.specs.declared.shared_memory.fault.StepFault.TheVariants as refusals
use Rattle.debugger.specs.declared.sessions.command.Command.{Command}
use Rattle.debugger.specs.declared.sessions.command.Command.TheVariants as commands
use Rattle.text.specs.Numbers.{IsWritten, Writes}
use Rattle.text.specs.Words.{behind_part, first_part, is_space, words}
use Rattle.text.specs.declared.numbers.Number.{Number}
use Rattle.text.specs.declared.numbers.Number.TheVariants.{Small, Large}

-- what a line asks for, whatever the size of its numbers
pub data Asked : Type 0 where
  breaks : Number → Asked
  watches : Number → Asked
  clears : Number → Asked
  steps : Number → Asked
  shows : Number → Asked
  locates : Number → Asked
  peeks : Number → ℕ → Asked
  goes : List Item → Asked
  goes_on : Asked
  lists_lines : Asked
  says_more : Bool → Asked
  helps : Asked
  quits : Asked

-- the words are one address, and one number of a hart
pub record IsOneAddress (parts : List (List ℕ)) (number : Number) : Type 0 where
  pub word : List ℕ
  pub spelled : parts ≡ word ∷ []
  pub address : IsWritten word number

pub record IsOneHart (parts : List (List ℕ)) (number : Number) : Type 0 where
  pub word : List ℕ
  pub spelled : parts ≡ word ∷ []
  pub writes : Writes 10 word number

-- a name stands for no address of 64 bits, or for one at which no instruction of the text region may begin
abbrev pub NamesNone : KnownCode → List ℕ → Type 0
NamesNone code word = ((address : ℕ) → address < 2 ^ 64 → ¬ (code.stands_for word address))
    ⊎ ((address : ℕ) × code.stands_for word address × (can_break address ≡ false))

-- it stands for an address at which one may; or it is as a number past 64 bits, Large
abbrev pub Names : KnownCode → List ℕ → Number → Type 0
Names code word (Small address) = code.stands_for word address × (can_break address ≡ true)
Names code word Large = NamesNone code word

-- a word is the number of an address, or else a name, where the code takes it for one
abbrev pub IsName : KnownCode → List ℕ → Type 0
IsName code word = ((number : Number) → ¬ (IsWritten word number)) × (code.named word ≡ true)

abbrev pub MeansPlace : KnownCode → List ℕ → Number → Type 0
MeansPlace code word number = IsWritten word number ⊎ (IsName code word × Names code word number)

-- the words are one that means the address of an instruction
pub record IsOnePlace (code : KnownCode) (parts : List (List ℕ)) (number : Number) : Type 0 where
  pub word : List ℕ
  pub spelled : parts ≡ word ∷ []
  pub place : MeansPlace code word number

-- they are an address and a number of bytes, from 1 to 64
pub record IsRange (parts : List (List ℕ)) (number : Number) (count : ℕ) : Type 0 where
  pub word : List ℕ
  pub digits : List ℕ
  pub spelled : parts ≡ word ∷ digits ∷ []
  pub address : IsWritten word number
  pub writes : Writes 10 digits (Small count)
  pub least : 1 ≤ count
  pub most : count ≤ 64

-- the words are `on`, or `off`
abbrev pub IsSwitch : List (List ℕ) → Bool → Type 0
IsSwitch parts true = parts ≡ codes "on" ∷ []
IsSwitch parts false = parts ≡ codes "off" ∷ []

-- `watch A`, `step H`, `regs H`, `where H`, `peek A N`, `go ITEMS`, `go`, `lines`, `verbose on`, `verbose off`, `help` and `quit`
abbrev pub SaysPlain : List ℕ → List ℕ → Asked → Type 0
SaysPlain name rest (breaks number) = ⊥
SaysPlain name rest (watches number) = (name ≡ codes "watch") × IsOneAddress (words rest) number
SaysPlain name rest (clears number) = ⊥
SaysPlain name rest (steps number) = (name ≡ codes "step") × IsOneHart (words rest) number
SaysPlain name rest (shows number) = (name ≡ codes "regs") × IsOneHart (words rest) number
SaysPlain name rest (locates number) = (name ≡ codes "where") × IsOneHart (words rest) number
SaysPlain name rest (peeks number count) = (name ≡ codes "peek") × IsRange (words rest) number count
SaysPlain name rest (goes items) = (name ≡ codes "go") × (words rest ≢ []) × IsSchedule rest items
SaysPlain name rest goes_on = (name ≡ codes "go") × (words rest ≡ [])
SaysPlain name rest lists_lines = (name ≡ codes "lines") × (words rest ≡ [])
SaysPlain name rest (says_more on) = (name ≡ codes "verbose") × IsSwitch (words rest) on
SaysPlain name rest helps = (name ≡ codes "help") × (words rest ≡ [])
SaysPlain name rest quits = (name ≡ codes "quit") × (words rest ≡ [])

-- these, `break A` and `clear A`
abbrev pub SaysNamed : KnownCode → List ℕ → List ℕ → Asked → Type 0
SaysNamed code name rest (breaks number) = (name ≡ codes "break") × IsOnePlace code (words rest) number
SaysNamed code name rest (clears number) = (name ≡ codes "clear") × IsOnePlace code (words rest) number
SaysNamed code name rest asked = SaysPlain name rest asked

abbrev pub Says : KnownCode → List ℕ → Asked → Type 0
Says code line asked = SaysNamed code (first_part is_space line) (behind_part is_space line) asked

-- what a command was asked for by
abbrev pub meant : Command → Asked
meant (commands.Break address) = breaks (Small address)
meant (commands.Watch address) = watches (Small address)
meant (commands.Clear address) = clears (Small address)
meant (commands.Step hart) = steps (Small hart)
meant (commands.Go items) = goes items
meant commands.GoOn = goes_on
meant (commands.Registers hart) = shows (Small hart)
meant (commands.Where hart) = locates (Small hart)
meant (commands.Peek address count) = peeks (Small address) count
meant commands.Lines = lists_lines
meant (commands.Verbose on) = says_more on
meant commands.Help = helps
meant commands.Quit = quits

-- an address past 64 bits, and a name of none, are that of no point and of no byte
abbrev pub IsFar : Asked → Type 0
IsFar (breaks number) = number ≡ Large
IsFar (watches number) = number ≡ Large
IsFar (clears number) = number ≡ Large
IsFar (peeks number count) = number ≡ Large
IsFar asked = ⊥

-- a number past 32 bits is that of no hart
abbrev pub IsNoHart : Number → Type 0
IsNoHart (Small number) = 2 ^ 32 ≤ number
IsNoHart Large = ⊤

abbrev pub NamesNoHart : Asked → Type 0
NamesNoHart (steps number) = IsNoHart number
NamesNoHart (shows number) = IsNoHart number
NamesNoHart (locates number) = IsNoHart number
NamesNoHart asked = ⊥

-- why there is no command of what is said: nothing is asked for, what is asked for can't be, or memory is wanted for the schedule
-- that is asked for
abbrev pub OnNoHart : (Asked → Type 0) → StepFault → Type 0
OnNoHart P refusals.NoSuchHart = (asked : Asked) × P asked × NamesNoHart asked
OnNoHart P fault = ⊥

abbrev pub OnAsked : (Asked → Type 0) → DebugFault → Type 0
OnAsked P faults.Command = (asked : Asked) → ¬ (P asked)
OnAsked P faults.Address = (asked : Asked) × P asked × IsFar asked
OnAsked P (faults.Step fault) = OnNoHart P fault
OnAsked P faults.Memory = (items : List Item) × P (goes items)
OnAsked P fault = ⊥

-- the same of one address, of one place and of one number of a hart
abbrev pub OnAddress : List (List ℕ) → DebugFault → Type 0
OnAddress parts faults.Command = (number : Number) → ¬ (IsOneAddress parts number)
OnAddress parts faults.Address = IsOneAddress parts Large
OnAddress parts fault = ⊥

abbrev pub OnPlace : KnownCode → List (List ℕ) → DebugFault → Type 0
OnPlace code parts faults.Command = (number : Number) → ¬ (IsOnePlace code parts number)
OnPlace code parts faults.Address = IsOnePlace code parts Large
OnPlace code parts fault = ⊥

-- why a word that is no number is no name of an instruction
abbrev pub OnName : KnownCode → List ℕ → DebugFault → Type 0
OnName code word faults.Command = code.named word ≡ false
OnName code word faults.Address = (code.named word ≡ true) × NamesNone code word
OnName code word fault = ⊥

abbrev pub OnHartFault : List (List ℕ) → StepFault → Type 0
OnHartFault parts refusals.NoSuchHart = (number : Number) × IsOneHart parts number × IsNoHart number
OnHartFault parts fault = ⊥

abbrev pub OnHart : List (List ℕ) → DebugFault → Type 0
OnHart parts faults.Command = (number : Number) → ¬ (IsOneHart parts number)
OnHart parts (faults.Step fault) = OnHartFault parts fault
OnHart parts fault = ⊥
