-- What one more byte adds to a printed name, and bytes that are escaped.
use Rattle.std.proofs.Common.{◌≡◌, ◌∙◌, ◌==◌, ℕ, ◌+◌, ◌<◌, Bool, true, false, List, [], ◌∷◌, ◌++◌, length, get_or, take, drop, ap, refl, sym, arith, if◌then◌else◌}
use Rattle.std.specs.List.{flat_map}
use Rattle.std.proofs.lemmas.Bool.{eqb-true}
use Rattle.std.proofs.lemmas.Grind.{flat_map-append}
use Rattle.std.proofs.lemmas.List.{append-nil, take_more}
use Rattle.report.specs.PrintedNames.{is_graphic, json_byte}
use Rattle.report.specs.PrintedWords as words
use Rattle.report.specs.Rows.{two_digits}

pub byte_more : (shape : ℕ → List ℕ) (name : List ℕ) (i d : ℕ) → i < length name
    → flat_map shape (take i name) ++ shape (get_or name i d) ≡ flat_map shape (take (i + 1) name)
byte_more shape name i d within =
    sym (
    ap (flat_map shape) (take_more name i d within)
    ∙ flat_map-append shape (take i name) (get_or name i d ∷ [])
    ∙ ap (λ (l : List ℕ). flat_map shape (take i name) ++ l) (append-nil (shape (get_or name i d))))

-- a byte that is escaped in a string of JSON
pub json_escaped : (byte : ℕ) → (byte == 34) ≡ false → is_graphic byte ≡ false → json_byte byte ≡ 92 ∷ 92 ∷ 120 ∷ two_digits byte
json_escaped byte other escaped =
    ap (λ (b : Bool). if b then 92 ∷ 34 ∷ [] else (if is_graphic byte then byte ∷ [] else 92 ∷ 92 ∷ 120 ∷ two_digits byte)) other
    ∙ ap (λ (b : Bool). if b then byte ∷ [] else 92 ∷ 92 ∷ 120 ∷ two_digits byte) escaped

pub json_word_escaped : (byte : ℕ) → (byte == 34) ≡ false → (byte == 92) ≡ false → words.is_shown byte ≡ false → words.json_byte byte ≡ 92 ∷ 92 ∷ 120 ∷ two_digits byte
json_word_escaped byte quote backslash escaped =
    ap (λ (b : Bool). if b then 92 ∷ 34 ∷ [] else (if byte == 92 then 92 ∷ 92 ∷ [] else (if words.is_shown byte then byte ∷ [] else 92 ∷ 92 ∷ 120 ∷ two_digits byte))) quote
    ∙ ap (λ (b : Bool). if b then 92 ∷ 92 ∷ [] else (if words.is_shown byte then byte ∷ [] else 92 ∷ 92 ∷ 120 ∷ two_digits byte)) backslash
    ∙ ap (λ (b : Bool). if b then byte ∷ [] else 92 ∷ 92 ∷ 120 ∷ two_digits byte) escaped

-- behind no words there are none
pub none_behind : (words : List ℕ) → true ≡ (length words == 0) → [] ≡ drop 1 words
none_behind [] none = refl
none_behind (byte ∷ bytes) none = absurd (omega (arith, eqb-true (length (byte ∷ bytes)) 0 (sym none)))
