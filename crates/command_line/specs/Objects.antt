-- Refusals as objects of JSON.
use Rattle.std.specs.Prelude.{◌≡◌, ℕ, List, ◌++◌, Option, Some, None, Result, MatchResult, codes, option_map}
use Rattle.report.specs.Slips.{IsSlip}
use Rattle.report.specs.declared.slips.places.Part.{Part}
use Rattle.report.specs.declared.slips.slip.Slip.{Slip}
use Rattle.assemble.specs.declared.asm_line.fault.AsmCode.{AsmCode}
use Rattle.command_line.specs.CutVerdicts.{number_or_null}
use Rattle.command_line.specs.Failures.{refusal_code}
use Rattle.command_line.specs.Meanings.{refused_line}
use Rattle.command_line.specs.Reports.{line_end}
use Rattle.report.specs.PrintedWords.{json_words}
use Rattle.command_line.specs.SourceLines.{numbered_line}
use Rattle.command_line.specs.declared.failure.Failure.{Failure}
use Rattle.command_line.specs.declared.failure.Failure.TheVariants.{Memory}
use Rattle.command_line.specs.declared.failure.Refusal.{Refusal}
use Rattle.command_line.specs.declared.failure.Refusal.TheVariants.{Assembly, RecoverySource}

-- the part of a source's line at fault
pub record IsSlipToken (code : AsmCode) (line : List ℕ) (token : Option (List ℕ)) : Type 0 where
  pub slip : Slip
  pub is_slip : IsSlip line code slip
  pub token_is : token ≡ option_map (λ (part : Part). part.text.now) slip.part

abbrev pub IsTokenIn : AsmCode → Option (List ℕ) → Option (List ℕ) → Type 0
IsTokenIn code None token = token ≡ None
IsTokenIn code (Some line) token = IsSlipToken code line token

abbrev pub IsToken : Refusal → List ℕ → Option (List ℕ) → Type 0
IsToken (Assembly fault) file token = IsTokenIn fault.code (numbered_line file fault.line) token
IsToken (RecoverySource fault) file token = IsTokenIn fault.code (numbered_line file fault.line) token
IsToken refusal file token = token ≡ None

abbrev pub text_or_null : Option (List ℕ) → List ℕ
text_or_null None = codes "null"
text_or_null (Some text) = codes "\"" ++ (json_words text ++ codes "\"")

-- `{"kind":"refused","code":"CODE","file":"FILE","line":N,"token":"TEXT"}`, with `null` where no file, line or token is at fault
abbrev pub refusal_json : Option (List ℕ) → Refusal → Option (List ℕ) → List ℕ
refusal_json name refusal token = codes "{\"kind\":\"refused\",\"code\":\"" ++ (refusal_code refusal ++ (codes "\",\"file\":" ++ (text_or_null name
    ++ (codes ",\"line\":" ++ (number_or_null (refused_line refusal) ++ (codes ",\"token\":" ++ (text_or_null token ++ (codes "}" ++ line_end))))))))

-- it is said of a refusal, where the refused file has these bytes
pub record IsObject (name : Option (List ℕ)) (refusal : Refusal) (file text : List ℕ) : Type 0 where
  pub token : Option (List ℕ)
  pub is_token : IsToken refusal file token
  pub text_is : text ≡ refusal_json name refusal token

pub record SaysObject (name : Option (List ℕ)) (refusal : Refusal) (file : List ℕ) (outcome : Result (List ℕ) Failure) : Type 0 where
  pub says : MatchResult outcome (IsObject name refusal file) (λ failure. failure ≡ Memory)
