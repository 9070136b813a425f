-- What the tokens of a line say of its pieces.
use Rattle.std.proofs.Common.{◌≡◌, ℕ, suc, ◌<◌, true, List, [], ◌∷◌, length, get_or, map, refl, arith}
use Rattle.std.specs.Prelude.{Some, is_some}
use Rattle.std.specs.List.{list_all}
use Rattle.asm_lex.specs.Pieces.{pieces}
use Rattle.asm_lex.specs.Kinds.{kind_of, lexeme_of, are_tokens}
use Rattle.asm_lex.specs.Tokens.{text_of, AreTokensOf}
use Rattle.asm_lex.specs.declared.Token.{Token}

-- each piece of a line with tokens has the kind of its token
kinds_along : (ts : List Token) → ((k : ℕ) (d : Token) → k < length ts → kind_of (text_of (get_or ts k d)) ≡ Some (lexeme_of (get_or ts k d).kind)) → map kind_of (map text_of ts) ≡ map (λ t. Some (lexeme_of t.kind)) ts
kinds_along [] h = refl
kinds_along (t ∷ ts) h = rw (h 0 t (omega arith), kinds_along ts (λ k d lt. h (suc k) d (omega arith))) refl

pub kinds_of_pieces : (line : List ℕ) (number : ℕ) (ts : List Token) → AreTokensOf line number ts → map kind_of (pieces line) ≡ map (λ t. Some (lexeme_of t.kind)) ts
kinds_of_pieces line number ts tokens = rw (← tokens.texts) (kinds_along ts tokens.kinds)

-- each piece of such a line is a token, which a bad token denies
all_along : (ts : List Token) → ((k : ℕ) (d : Token) → k < length ts → kind_of (text_of (get_or ts k d)) ≡ Some (lexeme_of (get_or ts k d).kind)) → list_all (λ p. is_some (kind_of p)) (map text_of ts) ≡ true
all_along [] h = refl
all_along (t ∷ ts) h = rw (h 0 t (omega arith)) (all_along ts (λ k d lt. h (suc k) d (omega arith)))

pub pieces_are_tokens : (line : List ℕ) (number : ℕ) (ts : List Token) → AreTokensOf line number ts → are_tokens (pieces line) ≡ true
unfolding are_tokens
pieces_are_tokens line number ts tokens = rw (← tokens.texts) (all_along ts tokens.kinds)
