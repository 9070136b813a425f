-- What is known of a source line that is refused: the part of it at fault, and what is wanted.
use Rattle.std.specs.Prelude.{◌≡◌, ◌⊎◌, ℕ, ◌+◌, ◌^◌, ◌≤◌, Bool, true, false, not, List, [], Option, Some, None, MatchOption, codes, position, slice_index}
use Rattle.std.specs.List.{slice_range}
use Rattle.asm_lex.specs.Kinds.{are_tokens}
use Rattle.asm_lex.specs.Pieces.{pieces}
use Rattle.asm_lex.specs.Tokens.{AreTokensOf, text_of}
use Rattle.asm_lex.specs.declared.Token.{Token}
use Rattle.assemble.specs.declared.asm_line.fault.AsmCode.{AsmCode}
use Rattle.report.specs.SlipHints.{byte_hint, hint_of}
use Rattle.report.specs.SlipPlaces.{can_stand, fault_token, uncommented}
use Rattle.report.specs.declared.slips.places.Part.{Part}
use Rattle.report.specs.declared.slips.slip.Slip.{Slip}

-- the part of a line that is a token, if there is one; columns are counted from 1, and none is as large as 2^64
pub record IsToken (token : Token) (part : Part) : Type 0 where
  pub text : part.text.now ≡ text_of token
  pub column : part.column ≡ token.start + 1

abbrev pub IsPartOf : Option Token → Option Part → Type 0
IsPartOf None part = part ≡ None
IsPartOf (Some token) part = MatchOption part (2 ^ 64 ≤ token.start + 1) (IsToken token)

pub record IsSlipOf (code : AsmCode) (tokens : List Token) (slip : Slip) : Type 0 where
  pub part : IsPartOf (fault_token code tokens) slip.part
  pub hint : slip.hint.now ≡ hint_of code tokens (fault_token code tokens)

-- the byte at a place of a line, from 0
pub record IsByteAt (line : List ℕ) (place : ℕ) (part : Part) : Type 0 where
  pub text : part.text.now ≡ slice_range line place (place + 1)
  pub column : part.column ≡ place + 1

-- the first byte of a line before its comment that no source may have
abbrev pub IsBadAt : List ℕ → Option ℕ → Slip → Type 0
IsBadAt line None slip = (slip.part ≡ None) × (slip.hint.now ≡ [])
IsBadAt line (Some place) slip = MatchOption slip.part ⊥ (IsByteAt line place) × (slip.hint.now ≡ byte_hint (slice_index line place))

abbrev pub IsBadByte : List ℕ → Slip → Type 0
IsBadByte line slip = IsBadAt line (position (λ byte. not (can_stand byte)) (uncommented line)) slip

-- of a line with tokens, by these, and else by its first bad byte
pub record HasTokens (line : List ℕ) (code : AsmCode) (slip : Slip) : Type 0 where
  pub tokens : List Token
  pub are : AreTokensOf line 0 tokens
  pub slip_is : IsSlipOf code tokens slip

pub record HasNone (line : List ℕ) (slip : Slip) : Type 0 where
  pub bad : are_tokens (pieces line) ≡ false
  pub byte_is : IsBadByte line slip

abbrev pub IsSlip : List ℕ → AsmCode → Slip → Type 0
IsSlip line code slip = HasTokens line code slip ⊎ HasNone line slip
