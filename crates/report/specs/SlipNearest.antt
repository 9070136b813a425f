-- Mnemonics that differ from a name by one byte: a byte is left out, put in, or written for another.
use Rattle.std.specs.Prelude.{◌≡◌, ◌⊎◌, ℕ, ◌+◌, ◌<◌, ◌≤◌, List, [], ◌∷◌, ◌++◌, All, IsSome, None, drop, length, take}
use Rattle.asm_lex.specs.Mnemonics.{mnemonic_of}
use Rattle.report.specs.declared.slips.nearest.TheConstants.{LETTERS}

-- a name with bytes put in at a place, in place of as many as are removed
abbrev pub edited : List ℕ → ℕ → List ℕ → ℕ → List ℕ
edited name place added removed = take place name ++ (added ++ drop (place + removed) name)

-- at most one byte is put in, and at most one removed
pub record IsEdit (name : List ℕ) (place : ℕ) (added : List ℕ) (removed : ℕ) (text : List ℕ) : Type 0 where
  pub within : place + removed ≤ length name
  pub added_one : length added ≤ 1
  pub removed_one : removed ≤ 1
  pub text_is : text ≡ edited name place added removed

pub record IsNear (name near : List ℕ) : Type 0 where
  pub place : ℕ
  pub added : List ℕ
  pub removed : ℕ
  pub edit : IsEdit name place added removed near
  pub known : IsSome (mnemonic_of near)

abbrev pub IsUnknown : List ℕ → Type 0
IsUnknown text = mnemonic_of text ≡ None

-- none of these letters makes a mnemonic of the name at a place
abbrev pub IsFarBy : List ℕ → ℕ → ℕ → List ℕ → Type 0
IsFarBy name place removed letters = All (λ letter. IsUnknown (edited name place (letter ∷ []) removed)) letters

-- nor any of those of which mnemonics are made
abbrev pub IsFarThere : List ℕ → ℕ → ℕ → Type 0
IsFarThere name place removed = IsFarBy name place removed LETTERS

-- nor at any place that has a byte
abbrev pub IsFarAnywhere : List ℕ → ℕ → Type 0
IsFarAnywhere name removed = (place : ℕ) → place < length name → IsFarThere name place removed

-- nor is the name without one of its bytes a mnemonic
abbrev pub IsFarWithout : List ℕ → Type 0
IsFarWithout name = (place : ℕ) → place < length name → IsUnknown (edited name place [] 1)

-- nor the name with a letter put in, at its end too
abbrev pub IsFarWith : List ℕ → Type 0
IsFarWith name = IsFarAnywhere name 0 × IsFarThere name (length name) 0

-- no such edit makes a mnemonic of the name, or the name is longer than any
abbrev pub IsFar : List ℕ → Type 0
IsFar name = (16 < length name) ⊎ (IsFarWithout name × IsFarWith name × IsFarAnywhere name 1)
