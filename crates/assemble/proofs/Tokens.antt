-- The tokens of a text that was put together from a name and operands.
use Rattle.std.proofs.Common.{◌≡◌, ℕ, true, false, List, [], ◌∷◌, ◌++◌, refl}
use Rattle.std.proofs.lemmas.List.{append-nil}
use Rattle.std.specs.Prelude.{Option, Some, ◌==◌}
use Rattle.std.specs.List.{list_all}
use Rattle.asm_lex.specs.Pieces.{is_word, is_blank, begins_word, pieces}
use Rattle.asm_lex.specs.Kinds.{Lexeme, comma, kind_of, mark_of}
use Rattle.asm_lex.proofs.Cuts.{nothing_here, blank_here, mark_here}
use Rattle.asm_lex.proofs.Spelling.{pieces-run}
use Rattle.assemble.specs.Lexemes.{lexemes_of}
use Rattle.decode.specs.Text.{listed, operands_text}

-- the lexemes of a text
unfoldable pub tokens_of : List ℕ → Option (List Lexeme)
tokens_of text = lexemes_of (pieces text)

none_here : tokens_of [] ≡ Some []
unfolding tokens_of
none_here = rw nothing_here refl

-- a run that is a token, a blank and a mark before more text
run_first : (b : ℕ) (bs rest : List ℕ) (l : Lexeme) (ls : List Lexeme) → list_all is_word (b ∷ bs) ≡ true → kind_of (b ∷ bs) ≡ Some l → begins_word rest ≡ false → tokens_of rest ≡ Some ls → tokens_of (b ∷ bs ++ rest) ≡ Some (l ∷ ls)
unfolding tokens_of
run_first b bs rest l ls run is end after = rw (pieces-run b bs rest run end, is, after) refl

no_token : (l : Lexeme) → kind_of [] ≡ Some l → ⊥
unfolding kind_of
no_token l h = cc

pub run_then : (text rest : List ℕ) (l : Lexeme) (ls : List Lexeme) → list_all is_word text ≡ true → kind_of text ≡ Some l → begins_word rest ≡ false → tokens_of rest ≡ Some ls → tokens_of (text ++ rest) ≡ Some (l ∷ ls)
run_then [] rest l ls run is end after = absurd (no_token l is)
run_then (b ∷ bs) rest l ls run is end after = run_first b bs rest l ls run is end after

pub blank_then : (rest : List ℕ) (ls : List Lexeme) → tokens_of rest ≡ Some ls → tokens_of (32 ∷ rest) ≡ Some ls
unfolding tokens_of is_blank
blank_then rest ls after = rw (blank_here 32 rest refl) after

-- a byte that is a mark
pub record IsMark (b : ℕ) (l : Lexeme) : Type 0 where
  pub no_comment : (b == 35) ≡ false
  pub no_blank : is_blank b ≡ false
  pub no_word : is_word b ≡ false
  pub token : kind_of (b ∷ []) ≡ Some l

pub mark_then : (b : ℕ) (rest : List ℕ) (l : Lexeme) (ls : List Lexeme) → IsMark b l → tokens_of rest ≡ Some ls → tokens_of (b ∷ rest) ≡ Some (l ∷ ls)
unfolding tokens_of
mark_then b rest l ls m after = rw (mark_here b rest m.no_comment m.no_blank m.no_word, m.token, after) refl

pub comma_mark : IsMark 44 comma
unfolding is_blank is_word kind_of mark_of
comma_mark = record { no_comment = refl; no_blank = refl; no_word = refl; token = refl }

-- a text is written by these lexemes, whatever follows that belongs to no run
pub record Writes (text : List ℕ) (ls : List Lexeme) : Type 0 where
  pub tokens : (rest : List ℕ) (more : List Lexeme) → begins_word rest ≡ false → tokens_of rest ≡ Some more → tokens_of (text ++ rest) ≡ Some (ls ++ more)

-- a run alone
pub run_writes : (text : List ℕ) (l : Lexeme) → list_all is_word text ≡ true → kind_of text ≡ Some l → Writes text (l ∷ [])
run_writes text l run is = record { tokens = λ rest more end after. run_then text rest l more run is end after }

-- each of these operands is written by its lexemes
abbrev pub WriteAll : List (List ℕ) → List (List Lexeme) → Type 0
WriteAll [] [] = Unit {0}
WriteAll (t ∷ ts) (ls ∷ more) = Writes t ls × WriteAll ts more
WriteAll ts more = ⊥

-- the lexemes of operands, with commas between them
abbrev pub between : List (List Lexeme) → List Lexeme
between [] = []
between (ls ∷ []) = ls
between (ls ∷ more) = ls ++ (comma ∷ between more)

comma_then : (rest : List ℕ) (ls : List Lexeme) → tokens_of rest ≡ Some ls → tokens_of (44 ∷ 32 ∷ rest) ≡ Some (comma ∷ ls)
comma_then rest ls after = mark_then 44 (32 ∷ rest) comma ls comma_mark (blank_then rest ls after)

alone : (t : List ℕ) (ls : List Lexeme) → Writes t ls → tokens_of t ≡ Some ls
alone t ls w =
    let whole : tokens_of (t ++ []) ≡ Some (ls ++ []) = w.tokens [] [] refl none_here in
    rw (append-nil t, append-nil ls) at whole

pub listed_tokens : (ts : List (List ℕ)) (lss : List (List Lexeme)) → WriteAll ts lss → tokens_of (listed ts) ≡ Some (between lss)
listed_tokens [] [] w = none_here
listed_tokens (t ∷ []) (ls ∷ []) w = alone t ls w.0
listed_tokens (t ∷ u ∷ ts) (ls ∷ ms ∷ more) w = w.0.tokens (44 ∷ 32 ∷ listed (u ∷ ts)) (comma ∷ between (ms ∷ more)) comma_mark.no_word (comma_then _ _ (listed_tokens (u ∷ ts) (ms ∷ more) w.1))
listed_tokens [] (ls ∷ more) w = absurd w
listed_tokens (t ∷ ts) [] w = absurd w
listed_tokens (t ∷ []) (ls ∷ ms ∷ more) w = absurd w.1
listed_tokens (t ∷ u ∷ ts) (ls ∷ []) w = absurd w.1

no_word_blank : is_word 32 ≡ false
unfolding is_word
no_word_blank = refl

-- a name and operands
pub text_tokens : (text : List ℕ) (l : Lexeme) (ts : List (List ℕ)) (lss : List (List Lexeme)) → list_all is_word text ≡ true → kind_of text ≡ Some l → WriteAll ts lss → tokens_of (text ++ operands_text ts) ≡ Some (l ∷ between lss)
text_tokens text l [] [] run is w = run_then text [] l [] run is refl none_here
text_tokens text l (t ∷ ts) (ls ∷ more) run is w = run_then text (32 ∷ listed (t ∷ ts)) l _ run is no_word_blank (blank_then _ _ (listed_tokens (t ∷ ts) (ls ∷ more) w))
text_tokens text l [] (ls ∷ more) run is w = absurd w
text_tokens text l (t ∷ ts) [] run is w = absurd w
