-- What one more item adds to the text of a loop.
use Rattle.std.proofs.Common.{◌≡◌, ◌∙◌, ℕ, ◌+◌, ◌<◌, ◌≤◌, List, [], ◌∷◌, ◌++◌, length, get_or, take, ap, sym}
use Rattle.std.specs.List.{flat_map}
use Rattle.std.proofs.lemmas.Grind.{flat_map-append}
use Rattle.std.proofs.lemmas.List.{append-nil, append_assoc, take_all, take_more}

-- a text, and the lines of the first items after it
abbrev pub lines_below : {X : Type 0} → List ℕ → (X → List ℕ) → List X → ℕ → List ℕ
lines_below before line items i = before ++ flat_map line (take i items)

pub lines_more : {X : Type 0} (before : List ℕ) (line : X → List ℕ) (items : List X) (i : ℕ) (d : X) → i < length items
    → lines_below before line items (i + 1) ≡ lines_below before line items i ++ line (get_or items i d)
lines_more before line items i d below =
    ap (λ (l : List _). before ++ flat_map line l) (take_more items i d below)
    ∙ ap (λ (l : List ℕ). before ++ l) (flat_map-append line (take i items) (get_or items i d ∷ []))
    ∙ ap (λ (l : List ℕ). before ++ (flat_map line (take i items) ++ l)) (append-nil (line (get_or items i d)))
    ∙ sym (append_assoc before (flat_map line (take i items)) (line (get_or items i d)))

pub lines_all : {X : Type 0} (before : List ℕ) (line : X → List ℕ) (items : List X) (i : ℕ) → length items ≤ i
    → lines_below before line items i ≡ before ++ flat_map line items
lines_all before line items i h = ap (λ (l : List _). before ++ flat_map line l) (take_all i items h)

pub line_more : {X : Type 0} (before : List ℕ) (line : X → List ℕ) (items : List X) (i : ℕ) (d : X) (was now : List ℕ) → i < length items
    → was ≡ lines_below before line items i → now ≡ was ++ line (get_or items i d) → now ≡ lines_below before line items (i + 1)
line_more before line items i d was now below e is =
    is ∙ ap (λ (l : List ℕ). l ++ line (get_or items i d)) e ∙ sym (lines_more before line items i d below)

pub line_shown : {X : Type 0} (before : List ℕ) (line : X → List ℕ) (items : List X) (i : ℕ) (d : X) (was shown now : List ℕ) → i < length items
    → was ≡ lines_below before line items i → shown ≡ line (get_or items i d) → now ≡ was ++ shown → now ≡ lines_below before line items (i + 1)
line_shown before line items i d was shown now below e told is =
    line_more before line items i d was now below e (is ∙ ap (λ (l : List ℕ). was ++ l) told)

-- three texts after another
pub three : (first second third t0 t1 t2 t3 : List ℕ) → t0 ≡ [] → t1 ≡ t0 ++ first → t2 ≡ t1 ++ second → t3 ≡ t2 ++ third
    → t3 ≡ first ++ (second ++ third)
three first second third t0 t1 t2 t3 none one two all =
    all
    ∙ ap (λ (l : List ℕ). l ++ third) (two ∙ ap (λ (l : List ℕ). l ++ second) (one ∙ ap (λ (l : List ℕ). l ++ first) none))
    ∙ append_assoc first second third
