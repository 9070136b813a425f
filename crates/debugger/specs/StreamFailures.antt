-- Counts of failed reads and writes, what a failed write leaves, and why a run of commands ends by a fault.
use Rattle.std.specs.Prelude.{◌≡◌, ◌+◌, ◌++◌, ◌⊎◌, ℕ, List, Option, nat_lt, if◌then◌else◌}
use Rattle.std.specs.Io.KnownBytes.{Appends}
use Rattle.debugger.specs.declared.fault.DebugFault.{DebugFault}
use Rattle.debugger.specs.declared.fault.DebugFault.TheVariants.{Memory, InputOutput}

-- a count of 64 bits that rises by one, until it stands at its greatest value
abbrev pub one_more : ℕ → ℕ
one_more count = if nat_lt count 18446744073709551615 then count + 1 else count

-- the text begins with this front
abbrev pub BeginsWith : List ℕ → List ℕ → Type 0
BeginsWith front text = (rest : List ℕ) × (text ≡ front ++ rest)

-- a front of the text was written
pub record AppendsFront (old new : Option (List ℕ)) (text : List ℕ) : Type 0 where
  pub front : List ℕ
  pub begins : BeginsWith front text
  pub writes : Appends old new front

-- the fault is the failure that was counted, or want of memory, which is counted nowhere
abbrev pub FailsBy : ℕ → ℕ → DebugFault → Type 0
FailsBy old new InputOutput = new ≡ one_more old
FailsBy old new Memory = new ≡ old
FailsBy old new fault = ⊥

-- it is one failure of the source or of the sink, by their counts, or want of memory
abbrev pub EndsBy : ℕ → ℕ → ℕ → ℕ → DebugFault → Type 0
EndsBy source source_then sink sink_then InputOutput =
    ((source_then ≡ one_more source) × (sink_then ≡ sink)) ⊎ ((source_then ≡ source) × (sink_then ≡ one_more sink))
EndsBy source source_then sink sink_then Memory = (source_then ≡ source) × (sink_then ≡ sink)
EndsBy source source_then sink sink_then fault = ⊥
