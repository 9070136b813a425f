-- Place words, and the text that they make.
use Rattle.std.proofs.Common.{◌≡◌, ℕ, ◌+◌, ◌-◌, ◌<◌, ◌≤◌, Bool, true, false, List, [], ◌∷◌, ◌++◌, length, take, refl, sym, ap, ◌∙◌, subst, arith, append_assoc, length-append}
use Rattle.std.specs.Prelude.{◌≢◌, ◌↔◌, IsTrue}
use Rattle.std.specs.List.{list_all}
use Rattle.std.proofs.lemmas.Bool.{and_from, and_parts}
use Rattle.std.proofs.lemmas.Bool.Decides.{nat_tests}
use Rattle.std.proofs.lemmas.List.{take_at}
use Rattle.trace_file.proofs.CutLemmas.{first_other, is_other, one_cut}
use Rattle.trace_file.specs.Cuts.{IsCutAt}
use Rattle.trace_file.specs.Entries.{ArePlaceWords, IsPlaceWord, is_letter, is_place_byte, place_text}
use Rattle.trace_file.specs.Parts.{BeginsWithPlace, HasPlaces, IsBehindPlace, IsFilledWith}

-- bytes that pass one test pass a weaker one
weaker : (p q : ℕ → Bool) → ((b : ℕ) → p b ≡ true → q b ≡ true) → (bs : List ℕ) → list_all p bs ≡ true → list_all q bs ≡ true
weaker p q implies [] all = refl
weaker p q implies (b ∷ bs) all =
    let (here, rest) = and_parts (p b) (list_all p bs) all in
    and_from (q b) (list_all q bs) (implies b here) (weaker p q implies bs rest)

all_append : (p : ℕ → Bool) (xs ys : List ℕ) → list_all p xs ≡ true → list_all p ys ≡ true → list_all p (xs ++ ys) ≡ true
all_append p [] ys f g = g
all_append p (x ∷ xs) ys f g =
    let (here, rest) = and_parts (p x) (list_all p xs) f in and_from (p x) (list_all p (xs ++ ys)) here (all_append p xs ys rest g)

letter_other : (stop b : ℕ) → stop < 97 → is_letter b ≡ true → is_other stop b ≡ true
letter_other stop b low letter = grind (arith, nat_tests)

place_byte_other : (b : ℕ) → is_place_byte b ≡ true → is_other 32 b ≡ true
place_byte_other b byte = (and_parts _ _ byte).0

pub no_stop_in_letters : (stop : ℕ) (name : List ℕ) → stop < 97 → list_all is_letter name ≡ true → list_all (is_other stop) name ≡ true
no_stop_in_letters stop name low letters = weaker is_letter (is_other stop) (λ b. letter_other stop b low) name letters

-- a place word has no blank
pub no_blank_in_word : (word : List ℕ) → IsPlaceWord word → list_all (is_other 32) word ≡ true
no_blank_in_word word w =
    let value : list_all (is_other 32) (61 ∷ w.value) ≡ true = weaker is_place_byte (is_other 32) place_byte_other w.value w.bytes in
    rw w.spelled (all_append (is_other 32) w.name (61 ∷ w.value) (no_stop_in_letters 32 w.name (omega arith) w.letters) value)

-- what a test of a word says
parts_of_word : (word name value : List ℕ) → IsCutAt 61 word name value → (w : IsPlaceWord word) → (name ≡ w.name) × (value ≡ w.value)
parts_of_word word name value cut w =
    one_cut 61 name w.name value w.value cut.first (no_stop_in_letters 61 w.name (omega arith) w.letters) (sym cut.whole ∙ w.spelled)

pub no_equals : (word : List ℕ) → ((front back : List ℕ) → word ≢ front ++ 61 ∷ back) → IsTrue false ↔ IsPlaceWord word
no_equals word none = (λ same. absurd cc, λ w. absurd (none w.name w.value w.spelled))

pub no_name : (word name value : List ℕ) → IsCutAt 61 word name value → ¬ IsFilledWith is_letter name → IsTrue false ↔ IsPlaceWord word
no_name word name value cut none = (
  λ same. absurd cc,
  λ w. let (same, rest) = parts_of_word word name value cut w in
      absurd (none (subst (IsFilledWith is_letter) (sym same) (w.some_letters, w.letters))),
)

pub value_decides : (word name value : List ℕ) (test : Bool) → IsCutAt 61 word name value → IsFilledWith is_letter name
    → (IsTrue test ↔ IsFilledWith is_place_byte value) → IsTrue test ↔ IsPlaceWord word
value_decides word name value test cut named decides = (
  λ holds. record {
    name = name;
    value = value;
    spelled = cut.whole;
    some_letters = named.0;
    letters = named.1;
    some_bytes = (decides.0 holds).0;
    bytes = (decides.0 holds).1;
  },
  λ w. let (front, same) = parts_of_word word name value cut w in
      decides.1 (subst (IsFilledWith is_place_byte) (sym same) (w.some_bytes, w.bytes)),
)

-- the text begins with a place word
pub no_place_word : (text front back : List ℕ) → IsCutAt 32 text front back → ¬ IsPlaceWord front → ¬ BeginsWithPlace text
no_place_word text front back cut none begins =
    let (same, rest) = one_cut 32 front begins.word back begins.rest cut.first (no_blank_in_word begins.word begins.is_word) (sym cut.whole ∙ begins.whole) in
    none (subst IsPlaceWord (sym same) begins.is_word)

pub place_stands : (text front back : List ℕ) → IsCutAt 32 text front back → IsPlaceWord front → IsBehindPlace text back
place_stands text front back cut word = record { word = front; is_word = word; whole = cut.whole }

pub no_blank : (text : List ℕ) → ((front back : List ℕ) → text ≢ front ++ 32 ∷ back) → ¬ BeginsWithPlace text
no_blank text none begins = none begins.word begins.rest begins.whole

-- the place words so far
pub record IsPlaced (text rest : List ℕ) : Type 0 where
  pub words : List (List ℕ)
  pub are_words : ArePlaceWords words
  pub whole : text ≡ place_text words ++ rest
  pub within : length rest ≤ length text

pub nothing_placed : (text : List ℕ) → IsPlaced text text
nothing_placed text = record { words = []; are_words = tt; whole = refl; within = omega arith }

words_more : (words : List (List ℕ)) (word : List ℕ) → ArePlaceWords words → IsPlaceWord word → ArePlaceWords (words ++ word ∷ [])
words_more [] word all w = (w, tt)
words_more (x ∷ xs) word all w = (all.0, words_more xs word all.1 w)

text_more : (words : List (List ℕ)) (word rest : List ℕ) → place_text (words ++ word ∷ []) ++ rest ≡ place_text words ++ (word ++ 32 ∷ rest)
text_more [] word rest = append_assoc word (32 ∷ []) rest
text_more (x ∷ xs) word rest =
    append_assoc x (32 ∷ place_text (xs ++ word ∷ [])) rest
    ∙ ap (λ (more : List ℕ). x ++ 32 ∷ more) (text_more xs word rest)
    ∙ sym (append_assoc x (32 ∷ place_text xs) (word ++ 32 ∷ rest))

pub one_more_placed : (text rest behind : List ℕ) → IsPlaced text rest → IsBehindPlace rest behind → length behind < length rest → IsPlaced text behind
one_more_placed text rest behind p w shorter = record {
  words = p.words ++ w.word ∷ [];
  are_words = words_more p.words w.word p.are_words w.is_word;
  whole = p.whole ∙ ap (λ (more : List ℕ). place_text p.words ++ more) w.whole ∙ sym (text_more p.words w.word behind);
  within = omega (arith, p.within);
}

pub all_placed : (text rest : List ℕ) → IsPlaced text rest → ¬ BeginsWithPlace rest → HasPlaces text (take (length text - length rest) text) rest
all_placed text rest p none =
    let long : length text ≡ length (place_text p.words) + length rest = ap length p.whole ∙ length-append (place_text p.words) rest in
    let front : take (length text - length rest) text ≡ place_text p.words =
    ap (λ (t : List ℕ). take (length text - length rest) t) p.whole ∙ take_at (place_text p.words) rest (length text - length rest) (omega arith) in
    record { words = p.words; are_words = p.are_words; spelled = front; whole = p.whole ∙ ap (λ (front : List ℕ). front ++ rest) (sym front); all = none }

-- the place words in front of a text that begins with none are in one way
pub same_places : (ws us : List (List ℕ)) (xs ys : List ℕ) → ArePlaceWords ws → ArePlaceWords us → ¬ BeginsWithPlace xs → ¬ BeginsWithPlace ys
    → place_text ws ++ xs ≡ place_text us ++ ys → (ws ≡ us) × (xs ≡ ys)
same_places [] [] xs ys a b m n e = (refl, e)
same_places [] (u ∷ us) xs ys a b m n e =
    absurd (m (record { word = u; rest = place_text us ++ ys; is_word = b.0; whole = e ∙ append_assoc u (32 ∷ place_text us) ys }))
same_places (w ∷ ws) [] xs ys a b m n e =
    absurd (n (record { word = w; rest = place_text ws ++ xs; is_word = a.0; whole = sym e ∙ append_assoc w (32 ∷ place_text ws) xs }))
same_places (w ∷ ws) (u ∷ us) xs ys a b m n e =
    let (first, rest) = one_cut 32 w u (place_text ws ++ xs) (place_text us ++ ys) (no_blank_in_word w a.0) (no_blank_in_word u b.0)
    (sym (append_assoc w (32 ∷ place_text ws) xs) ∙ e ∙ append_assoc u (32 ∷ place_text us) ys) in
    let (others, behind) = same_places ws us xs ys a.1 b.1 m n rest in
    (cc, behind)

-- letters, and then another byte than `=`: no place word
pub no_place_in_letters : (letters : List ℕ) (stop : ℕ) (rest : List ℕ) → list_all is_letter letters ≡ true → is_letter stop ≡ false → stop ≢ 61
    → ¬ BeginsWithPlace (letters ++ stop ∷ rest)
no_place_in_letters letters stop rest all ends other begins =
    let w = begins.is_word in
    let spelled : begins.word ++ 32 ∷ begins.rest ≡ w.name ++ 61 ∷ (w.value ++ 32 ∷ begins.rest) =
    ap (λ (word : List ℕ). word ++ 32 ∷ begins.rest) w.spelled ∙ append_assoc w.name (61 ∷ w.value) (32 ∷ begins.rest) in
    let (names, stops, rests) = first_other is_letter letters w.name stop 61 rest (w.value ++ 32 ∷ begins.rest) all ends w.letters refl (begins.whole ∙ spelled) in
    other stops
