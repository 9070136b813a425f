-- A line's tokens, and its lexemes.
use Rattle.std.proofs.Common.{◌≡◌, ℕ, Bool, false, ◌&&◌, List, [], ◌∷◌, map, refl}
use Rattle.std.specs.Prelude.{Some, None, Option, is_some, true}
use Rattle.std.specs.List.{list_all}
use Rattle.asm_lex.specs.Pieces.{pieces}
use Rattle.asm_lex.specs.Kinds.{Lexeme, kind_of, lexeme_of, are_tokens}
use Rattle.asm_lex.specs.Tokens.{IsFaultOf}
use Rattle.asm_lex.specs.declared.Kind.{Kind}
use Rattle.assemble.specs.declared.asm_line.fault.AsmCode.TheVariants as codes
use Rattle.asm_lex.specs.declared.LexFault.{LexFault}
use Rattle.asm_lex.specs.declared.LexFault.TheVariants.{BadToken, Memory}
use Rattle.assemble.specs.AsmLineFaults.{code_of_lex, Fails}
use Rattle.assemble.specs.Lexemes.{lexemes_of, with_lexeme}
use Rattle.assemble.specs.Lines.{lexemes_line, line_of}
use Rattle.assemble.specs.Steps.{all_seen}

-- the lexemes of pieces by their kinds
lexemes_along : (ps : List (List ℕ)) (ks : List Kind) → map kind_of ps ≡ map (λ (k : Kind). Some (lexeme_of k)) ks → lexemes_of ps ≡ Some (all_seen ks)
lexemes_along [] [] same = refl
lexemes_along [] (k ∷ ks) same = absurd (cc)
lexemes_along (p ∷ ps) [] same = absurd (cc)
lexemes_along (p ∷ ps) (k ∷ ks) same =
    let first : kind_of p ≡ Some (lexeme_of k) = cc in
    let rest : map kind_of ps ≡ map (λ (j : Kind). Some (lexeme_of j)) ks = cc in
    rw (first, lexemes_along ps ks rest) refl

pub line_of_kinds : (line : List ℕ) (ks : List Kind) → map kind_of (pieces line) ≡ map (λ (k : Kind). Some (lexeme_of k)) ks → line_of line ≡ lexemes_line (all_seen ks)
unfolding line_of
line_of_kinds line ks same = rw (lexemes_along (pieces line) ks same) refl

-- a piece that is no token
lexeme_missing : (l : Option Lexeme) (rest : Option (List Lexeme)) (tokens : Bool) → (is_some l && tokens) ≡ false → (tokens ≡ false → rest ≡ None) → with_lexeme l rest ≡ None
lexeme_missing (Some l) rest tokens e h = rw (h e) refl
lexeme_missing None rest tokens e h = refl

lexemes_missing : (ps : List (List ℕ)) → list_all (λ p. is_some (kind_of p)) ps ≡ false → lexemes_of ps ≡ None
lexemes_missing [] e = cc
lexemes_missing (p ∷ ps) e = lexeme_missing (kind_of p) (lexemes_of ps) (list_all (λ q. is_some (kind_of q)) ps) e (lexemes_missing ps)

pub line_bad : (line : List ℕ) (fault : LexFault) → IsFaultOf line fault → Fails (code_of_lex fault) (line_of line)
unfolding line_of are_tokens
line_bad line BadToken e = λ other. rw (lexemes_missing (pieces line) e) refl
line_bad line Memory e = λ other. absurd (other refl)

-- a line that memory is told of has tokens
pub memory_after_tokens : (line : List ℕ) (fault : LexFault) → IsFaultOf line fault → code_of_lex fault ≡ codes.Memory → are_tokens (pieces line) ≡ true
memory_after_tokens line BadToken e told = absurd (cc)
memory_after_tokens line Memory e told = e
