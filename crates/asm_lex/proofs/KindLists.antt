-- The kinds of a line's pieces, as far as they are found.
use Rattle.std.proofs.Common.{◌≡◌, ℕ, List, [], ◌∷◌, ◌++◌, map, drop, refl, sym, ap, ◌∙◌, append_assoc}
use Rattle.std.specs.Prelude.{Option, Some, None, true, false}
use Rattle.std.specs.List.{slice_range}
use Rattle.std.proofs.lemmas.List.{append-nil, map_push}
use Rattle.asm_lex.specs.Pieces.{pieces}
use Rattle.asm_lex.specs.Kinds.{Lexeme, kind_of, lexeme_of, are_tokens}
use Rattle.asm_lex.specs.Scan.{IsNextPiece}
use Rattle.asm_lex.specs.declared.Kind.{Kind}
use Rattle.asm_lex.proofs.Judging.{IsJudgedTo, judged_start, judged_next, judged_bad, judged_all}

-- the pieces before a place are tokens of these kinds
pub record HasKindsTo (line : List ℕ) (ks : List Kind) (at : ℕ) : Type 0 where
  pub judged : IsJudgedTo line at
  pub kinds : map kind_of (pieces line) ≡ map (λ (k : Kind). Some (lexeme_of k)) ks ++ map kind_of (pieces (drop at line))

pub kinds_start : (line : List ℕ) → HasKindsTo line [] 0
kinds_start line = record { judged = judged_start line; kinds = refl }

pub kinds_next : (line : List ℕ) (at start end : ℕ) (ks : List Kind) (k : Kind) → HasKindsTo line ks at → IsNextPiece line at start end
    → kind_of (slice_range line start end) ≡ Some (lexeme_of k) → HasKindsTo line (ks ++ k ∷ []) end
kinds_next line at start end ks k found next is =
    let before = map (λ (j : Kind). Some (lexeme_of j)) ks in
    let after = map kind_of (pieces (drop end line)) in
    record {
      judged = judged_next line at start end found.judged next (rw is refl);
      kinds = found.kinds
          ∙ ap (λ (ps : List (List ℕ)). before ++ map kind_of ps) next.cut
          ∙ ap (λ (l : Option Lexeme). before ++ (l ∷ after)) is
          ∙ sym (append_assoc before (Some (lexeme_of k) ∷ []) after)
          ∙ sym (ap (λ (ls : List (Option Lexeme)). ls ++ after) (map_push (λ (j : Kind). Some (lexeme_of j)) ks k));
    }

pub kinds_bad : (line : List ℕ) (at start end : ℕ) (ks : List Kind) → HasKindsTo line ks at → IsNextPiece line at start end
    → kind_of (slice_range line start end) ≡ None → are_tokens (pieces line) ≡ false
kinds_bad line at start end ks found next none = judged_bad line at start end found.judged next (rw none refl)

pub kinds_all : (line : List ℕ) (at : ℕ) (ks : List Kind) → HasKindsTo line ks at → pieces (drop at line) ≡ []
    → map kind_of (pieces line) ≡ map (λ (k : Kind). Some (lexeme_of k)) ks
kinds_all line at ks found none =
    found.kinds
    ∙ ap (λ (ps : List (List ℕ)). map (λ (k : Kind). Some (lexeme_of k)) ks ++ map kind_of ps) none
    ∙ append-nil (map (λ (k : Kind). Some (lexeme_of k)) ks)

pub all_tokens : (line : List ℕ) (at : ℕ) (ks : List Kind) → HasKindsTo line ks at → pieces (drop at line) ≡ [] → are_tokens (pieces line) ≡ true
all_tokens line at ks found none = judged_all line at found.judged none
