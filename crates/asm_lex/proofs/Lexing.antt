-- The invariant of the loop in `tokens`, and what one turn keeps of it.
use Rattle.std.proofs.Common.{◌≡◌, ℕ, ◌-◌, ◌<◌, ◌≤◌, List, [], ◌∷◌, ◌++◌, length, drop, map, refl, sym, ap, ◌∙◌, arith, length-append, length-drop, append_assoc}
use Rattle.std.specs.Prelude.{is_some, false, Some, None, All}
use Rattle.std.specs.List.{slice_range}
use Rattle.std.proofs.lemmas.List.{append-nil, map_push, get_or_at, length-take-le}
use Rattle.std.proofs.lemmas.List.Folds.{list_all_at}
use Rattle.std.proofs.lemmas.List.Elements.{All-push}
use Rattle.asm_lex.specs.Pieces.{pieces}
use Rattle.asm_lex.specs.Kinds.{kind_of, lexeme_of, are_tokens}
use Rattle.asm_lex.specs.Scan.{IsNextPiece}
use Rattle.asm_lex.specs.Tokens.{text_of, end_of, StandsNext, StandInOrder, AreTokensOf}
use Rattle.asm_lex.specs.declared.Token.{Token}

-- where the last token ends
abbrev pub end_after : ℕ → List Token → ℕ
end_after from [] = from
end_after from (t ∷ ts) = end_after (end_of t) ts

-- ts are the line's tokens up to a place, which is the end of the last
pub record LexedTo (line : List ℕ) (number : ℕ) (ts : List Token) (at : ℕ) : Type 0 where
  pub in_range : at ≤ length line
  pub texts : map text_of ts ++ pieces (drop at line) ≡ pieces line
  pub kinds : All (λ t. kind_of (text_of t) ≡ Some (lexeme_of t.kind)) ts
  pub places : StandInOrder line 0 ts
  pub ends : end_after 0 ts ≡ at
  pub numbered : All (λ t. t.line ≡ number) ts

places_push : (line : List ℕ) (from : ℕ) (ts : List Token) (t : Token) → StandInOrder line from ts → StandsNext line (end_after from ts) t → StandInOrder line from (ts ++ t ∷ [])
places_push line from [] t places next = (next, tt)
places_push line from (u ∷ ts) t places next = (places.0, places_push line (end_of u) ts t places.1 next)

ends_push : (from : ℕ) (ts : List Token) (t : Token) → end_after from (ts ++ t ∷ []) ≡ end_of t
ends_push from [] t = refl
ends_push from (u ∷ ts) t = ends_push (end_of u) ts t

pub lexed_start : (line : List ℕ) (number : ℕ) → LexedTo line number [] 0
lexed_start line number = record {
  in_range = omega arith;
  texts = refl;
  kinds = search arith;
  places = tt;
  ends = refl;
  numbered = search arith;
}

-- the end of a token that is the slice from start to end
end_is : (line : List ℕ) (start end : ℕ) (t : Token) → start < end → end ≤ length line → text_of t ≡ slice_range line start end → t.start ≡ start → end_of t ≡ end
end_is line start end t some within text begins =
    let room : end - start ≤ length (drop start line) = rw length-drop (omega arith) in
    let long : length (text_of t) ≡ end - start = rw text (length-take-le (end - start) (drop start line) room) in
    omega arith

pub lexed_next : (line : List ℕ) (number at start end : ℕ) (ts : List Token) (t : Token) → LexedTo line number ts at → IsNextPiece line at start end → text_of t ≡ slice_range line start end → kind_of (text_of t) ≡ Some (lexeme_of t.kind) → t.start ≡ start → t.line ≡ number → LexedTo line number (ts ++ t ∷ []) end
lexed_next line number at start end ts t lexed next text kind begins numbered =
    let ends : end_of t ≡ end = end_is line start end t next.nonempty next.in_range text begins in
    record {
      in_range = next.in_range;
      texts = ap (λ l. l ++ pieces (drop end line)) (map_push text_of ts t) ∙ append_assoc (map text_of ts) (text_of t ∷ []) (pieces (drop end line)) ∙ ap (λ p. map text_of ts ++ (p ∷ pieces (drop end line))) text ∙ ap (λ l. map text_of ts ++ l) (sym next.cut) ∙ lexed.texts;
      kinds = All-push (λ x. kind_of (text_of x) ≡ Some (lexeme_of x.kind)) ts t lexed.kinds kind;
      places = places_push line 0 ts t lexed.places (rw lexed.ends (record { after = rw begins next.after; blanks = rw begins next.blanks; slice = rw (ends, begins) text }));
      ends = ends_push 0 ts t ∙ ends;
      numbered = All-push (λ x. x.line ≡ number) ts t lexed.numbered numbered;
    }

pub lexed_all : (line : List ℕ) (number at : ℕ) (ts : List Token) → LexedTo line number ts at → pieces (drop at line) ≡ [] → AreTokensOf line number ts
lexed_all line number at ts lexed none = record {
  texts = sym (append-nil (map text_of ts)) ∙ ap (λ l. map text_of ts ++ l) (sym none) ∙ lexed.texts;
  kinds = lexed.kinds;
  places = lexed.places;
  numbered = lexed.numbered;
}

-- a piece that is no token
pub lexed_bad : (line : List ℕ) (number at start end : ℕ) (ts : List Token) → LexedTo line number ts at → IsNextPiece line at start end → kind_of (slice_range line start end) ≡ None → are_tokens (pieces line) ≡ false
unfolding are_tokens
lexed_bad line number at start end ts lexed next bad =
    let piece = slice_range line start end in
    let before = map text_of ts in
    let whole : before ++ (piece ∷ pieces (drop end line)) ≡ pieces line = ap (λ l. before ++ l) (sym next.cut) ∙ lexed.texts in
    let long = length-append before (piece ∷ pieces (drop end line)) in
    let within : length before < length (before ++ (piece ∷ pieces (drop end line))) = omega arith in
    let there = get_or_at before piece (pieces (drop end line)) piece (length before) refl in
    rw (← whole) (list_all_at (λ p. is_some (kind_of p)) (before ++ (piece ∷ pieces (drop end line))) (length before) piece within (rw (there, bad) refl))
