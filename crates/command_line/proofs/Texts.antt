-- What one more item adds to the text of a loop.
use Rattle.std.proofs.Common.{◌≡◌, ◌∙◌, ℕ, ◌+◌, ◌-◌, ◌<◌, ◌≤◌, List, [], ◌∷◌, ◌++◌, length, get_or, map, take, drop, ap, arith, refl, sym}
use Rattle.std.specs.List.{enumerate_from, flat_map}
use Rattle.std.proofs.lemmas.Grind.{flat_map-append}
use Rattle.std.proofs.lemmas.List.{append-nil, append_assoc, take_all, take_more}
use Rattle.std.proofs.lemmas.List.FromFn.{length-enumerate_from, get_or-enumerate_from}

-- a text, and the texts of the first items after it
abbrev pub texts_below : {X : Type 0} → List ℕ → (X → List ℕ) → List X → ℕ → List ℕ
texts_below before text items i = before ++ flat_map text (take i items)

texts_more : {X : Type 0} (before : List ℕ) (text : X → List ℕ) (items : List X) (i : ℕ) (d : X) → i < length items
    → texts_below before text items (i + 1) ≡ texts_below before text items i ++ text (get_or items i d)
texts_more before text items i d below =
    ap (λ (l : List _). before ++ flat_map text l) (take_more items i d below)
    ∙ ap (λ (l : List ℕ). before ++ l) (flat_map-append text (take i items) (get_or items i d ∷ []))
    ∙ ap (λ (l : List ℕ). before ++ (flat_map text (take i items) ++ l)) (append-nil (text (get_or items i d)))
    ∙ sym (append_assoc before (flat_map text (take i items)) (text (get_or items i d)))

pub text_more : {X : Type 0} (before : List ℕ) (text : X → List ℕ) (items : List X) (i : ℕ) (d : X) (was told now : List ℕ) → i < length items
    → was ≡ texts_below before text items i → told ≡ text (get_or items i d) → now ≡ was ++ told → now ≡ texts_below before text items (i + 1)
text_more before text items i d was told now below e is more =
    more ∙ ap (λ (l : List ℕ). was ++ l) is ∙ ap (λ (l : List ℕ). l ++ text (get_or items i d)) e ∙ sym (texts_more before text items i d below)

pub texts_all : {X : Type 0} (before : List ℕ) (text : X → List ℕ) (items : List X) (i : ℕ) → length items ≤ i
    → texts_below before text items i ≡ before ++ flat_map text items
texts_all before text items i h = ap (λ (l : List _). before ++ flat_map text l) (take_all i items h)

numbered : {X : Type 0} (i j : ℕ) (x y : X) → i ≡ j → x ≡ y → ◌≡◌ {A = ℕ × X} (i, x) (j, y)
numbered i j x y e q = cc

-- the same of items that are told with their numbers
pub numbered_more : {X : Type 0} (text : ℕ × X → List ℕ) (items : List X) (n : ℕ) (item : X) (was told now : List ℕ) → n < length items
    → item ≡ get_or items n item → was ≡ texts_below [] text (enumerate_from 0 items) n → told ≡ text (n, item) → now ≡ was ++ told
    → now ≡ texts_below [] text (enumerate_from 0 items) (n + 1)
numbered_more {X} text items n item was told now within is before shown more =
    let all : List (ℕ × X) = enumerate_from 0 items in
    let last : get_or all n (0, item) ≡ (n, item) =
    get_or-enumerate_from 0 items n (0, item) within ∙ numbered (0 + n) n (get_or items n item) item (omega arith) (sym is) in
    text_more [] text all n (0, item) was told now (omega (arith, length-enumerate_from 0 items, within)) before (shown ∙ ap text (sym last)) more

pub numbered_all : {X : Type 0} (text : ℕ × X → List ℕ) (items : List X) (n : ℕ) → length items ≤ n
    → texts_below [] text (enumerate_from 0 items) n ≡ flat_map text (enumerate_from 0 items)
numbered_all text items n h = texts_all [] text (enumerate_from 0 items) n (omega (arith, h, length-enumerate_from 0 items))

-- a list by its first item and the others
pub first_rest : {X : Type 0} (items : List X) (item : X) → 1 ≤ length items → item ≡ get_or items 0 item
    → items ≡ item ∷ take (length items - 1) (drop 1 items)
first_rest [] item some is = absurd (omega (arith, some))
first_rest (x ∷ items) item some is =
    ap (λ (first : _). first ∷ items) (sym is) ∙ ap (λ (rest : List _). item ∷ rest) (sym (take_all (length (x ∷ items) - 1) items (omega arith)))
