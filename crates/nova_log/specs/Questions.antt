-- Recovery as a list of questions: the lines that it asks for in order, each with the fault that it finds right after it.
-- The first fault ends it. Source: NOVA, FAST 2016: recovery reads superblock, journals and inodes, and walks each log.
use Rattle.std.specs.Prelude.{ℕ, ◌≡◌, List, [], ◌∷◌, ◌++◌, Option, Some, None}
use Rattle.std.specs.Option.{option_or}
use Rattle.nova_log.specs.declared.fault.VolumeFault.{VolumeFault}

-- a line, and what is wrong with what it says
pub record Question : Type 0 where
  pub line : ℕ
  pub fault : Option VolumeFault

-- one question
abbrev pub question : ℕ → Option VolumeFault → Question
question line fault = record { line = line; fault = fault }

-- the fault of the first question that has one
abbrev pub first_fault : List Question → Option VolumeFault
first_fault [] = None
first_fault (q ∷ qs) = option_or q.fault (first_fault qs)

-- the rest, unless a fault ends it
abbrev pub unless_ended : Option VolumeFault → List ℕ → List ℕ
unless_ended None rest = rest
unless_ended (Some fault) rest = []

-- the lines of the questions up to the first that has a fault
abbrev pub lines_asked : List Question → List ℕ
lines_asked [] = []
lines_asked (q ∷ qs) = q.line ∷ unless_ended q.fault (lines_asked qs)

-- all of the questions were asked, and none has a fault
pub record IsThrough (questions : List Question) (before after : List ℕ) : Type 0 where
  pub clean : first_fault questions ≡ None
  pub asked : after ≡ before ++ lines_asked questions

-- the questions were asked up to the first fault
pub record IsStopped (questions : List Question) (fault : VolumeFault) (before after : List ℕ) : Type 0 where
  pub first : first_fault questions ≡ Some fault
  pub asked : after ≡ before ++ lines_asked questions
