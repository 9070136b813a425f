-- A text names one image at most.
use Rattle.std.proofs.Common.{◌≡◌, ◌<◌, ◌^◌, ℕ, Bool, true, false, zero, suc, eqb, List, [], ◌∷◌, ◌++◌, codes, length, get_or, refl, sym, ap, ◌∙◌, subst, inl, inr, arith}
use Rattle.std.specs.Prelude.{◌≢◌}
use Rattle.std.specs.List.{AllZip, onto_first}
use Rattle.std.specs.Str.Parse.{IsNumeral, digits_value}
use Rattle.std.proofs.lemmas.Str.Parse.{not_in_digits}
use Rattle.text.proofs.Entries.{is_read, no_colon, own}
use Rattle.text.specs.Grammar.{IsCutText, IsEntry, IsImageName, IsListing, IsNumber, IsUpward, words}
use Rattle.text.specs.declared.image_name.name.ImageName.{ImageName}
use Rattle.text.specs.declared.image_name.name.ImageName.TheVariants.{Number, Cut}

one_number : (digits : List ℕ) (m n : ℕ) → IsNumber digits m → IsNumber digits n → m ≡ n
one_number digits m n a b = a.value ∙ sym b.value

abbrev NoColon : List ℕ → Type 0
NoColon text = (i : ℕ) → i < length text → get_or text i 0 ≢ 58

-- a text has one first colon
one_split : (xs ys us vs : List ℕ) → NoColon xs → NoColon us → xs ++ 58 ∷ ys ≡ us ++ 58 ∷ vs → (xs ≡ us) × (ys ≡ vs)
one_split [] ys [] vs a b e = (refl, cc)
one_split [] ys (u ∷ us) vs a b e = absurd (b zero (omega arith) (let same : u ≡ 58 = cc in same))
one_split (x ∷ xs) ys [] vs a b e = absurd (a zero (omega arith) (let same : x ≡ 58 = cc in same))
one_split (x ∷ xs) ys (u ∷ us) vs a b e =
    let rest : xs ++ 58 ∷ ys ≡ us ++ 58 ∷ vs = cc in
    let first : x ≡ u = cc in
    let (front, back) = one_split xs ys us vs (λ i inside. a (suc i) (omega arith)) (λ i inside. b (suc i) (omega arith)) rest in
    (cc, back)

one_entry : (word : List ℕ) (a b : ℕ × ℕ) → IsEntry word a → IsEntry word b → a ≡ b
one_entry word (l, m) (k, n) s t =
    let same : s.line_digits ++ 58 ∷ s.number_digits ≡ t.line_digits ++ 58 ∷ t.number_digits = cc (s.spelled, t.spelled) in
    let (lines, numbers) = one_split s.line_digits s.number_digits t.line_digits t.number_digits
    (no_colon s.line_digits l s.line) (no_colon t.line_digits k t.line) same in
    let Line : List ℕ → Type 0 = λ digits. IsNumber digits l in
    let Count : List ℕ → Type 0 = λ digits. IsNumber digits m in
    let line_is : l ≡ k = one_number t.line_digits l k (subst Line lines s.line) t.line in
    let number_is : m ≡ n = one_number t.number_digits m n (subst Count numbers s.number) t.number in
    cc

one_list : (ws : List (List ℕ)) (a b : List (ℕ × ℕ)) → AllZip IsEntry ws a → AllZip IsEntry ws b → a ≡ b
one_list [] [] [] s t = refl
one_list [] (x ∷ xs) b s t = absurd s
one_list [] [] (y ∷ ys) s t = absurd t
one_list (w ∷ ws) [] b s t = absurd s
one_list (w ∷ ws) (x ∷ xs) [] s t = absurd t
one_list (w ∷ ws) (x ∷ xs) (y ∷ ys) s t =
    let first = one_entry w x y s.0 t.0 in let rest = one_list ws xs ys s.1 t.1 in cc

-- a text of entries begins with an `l`
empty_word : (parts : List (List ℕ)) (entries : List (ℕ × ℕ)) → AllZip IsEntry ([] ∷ parts) entries → ⊥
empty_word parts [] says = says
empty_word parts (e ∷ es) says = let spelled = says.0.spelled in absurd cc

first_letter : (byte : ℕ) (parts : List (List ℕ)) (entries : List (ℕ × ℕ)) → AllZip IsEntry (onto_first byte parts) entries → byte ≡ 108
first_letter byte [] [] says = absurd says
first_letter byte [] (e ∷ es) says = cc (says.0.spelled)
first_letter byte (part ∷ parts) [] says = absurd says
first_letter byte (part ∷ parts) (e ∷ es) says = cc (says.0.spelled)

begins_at : (byte : ℕ) (rest : List ℕ) (entries : List (ℕ × ℕ)) (t : Bool) → eqb byte 44 ≡ t
    → AllZip IsEntry (words (byte ∷ rest)) entries → byte ≡ 108
begins_at byte rest entries true comma says = absurd (empty_word (words rest) entries (rw comma at says))
begins_at byte rest entries false other says = first_letter byte (words rest) entries (rw other at says)

begins : (text : List ℕ) (entries : List (ℕ × ℕ)) → AllZip IsEntry (words text) entries → get_or text 0 0 ≡ 108
begins [] entries says = absurd (empty_word [] entries says)
begins (byte ∷ rest) entries says = begins_at byte rest entries (eqb byte 44) refl says

floor_begins : (text : List ℕ) → text ≡ codes "floor" → get_or text 0 0 ≡ 102
floor_begins text is = ap (λ (t : List ℕ). get_or t 0 0) is

-- a number is no cut's text
not_cut : (text : List ℕ) (number : ℕ) (entries : List (ℕ × ℕ)) → IsNumber text number → IsCutText text entries → ⊥
not_cut text number entries n (inl floor) =
    not_in_digits own text 102 n.numeral.1 (λ r. omega arith) 0 n.numeral.0 (floor_begins text floor.0)
not_cut text number entries n (inr listing) =
    not_in_digits own text 108 n.numeral.1 (λ r. omega arith) 0 n.numeral.0 (begins text entries listing.says)

not_floor : (text : List ℕ) (entries : List (ℕ × ℕ)) → text ≡ codes "floor" → IsListing text entries → ⊥
not_floor text entries floor listing = omega (arith, floor_begins text floor, begins text entries listing.says)

one_cut : (text : List ℕ) (a b : List (ℕ × ℕ)) → IsCutText text a → IsCutText text b → a ≡ b
one_cut text a b (inl s) (inl t) = s.1 ∙ sym t.1
one_cut text a b (inl s) (inr t) = absurd (not_floor text b s.0 t)
one_cut text a b (inr s) (inl t) = absurd (not_floor text a t.0 s)
one_cut text a b (inr s) (inr t) = one_list (words text) a b s.says t.says

pub one_name : (text : List ℕ) (a b : ImageName) → IsImageName text a → IsImageName text b → a ≡ b
one_name text (Number m) (Number n) s t = ap (λ number. Number number) (one_number text m n s t)
one_name text (Number m) (Cut b) s t = absurd (not_cut text m b s t)
one_name text (Cut a) (Number n) s t = absurd (not_cut text n a t s)
one_name text (Cut a) (Cut b) s t = ap (λ entries. Cut entries) (one_cut text a b s t)

-- entries whose lines don't go upwards are no cut
pub falls : (text : List ℕ) (entries : List (ℕ × ℕ)) → text ≢ codes "floor" → AllZip IsEntry (words text) entries → ¬ (IsUpward entries)
    → (others : List (ℕ × ℕ)) → ¬ (IsCutText text others)
falls text entries other says down others (inl floor) = other floor.0
falls text entries other says down others (inr listing) =
    down (subst IsUpward (one_list (words text) others entries listing.says says) listing.upward)

-- what is neither a number nor a cut's text is no name
pub no_name : (text : List ℕ) → ¬ (IsNumeral 10 text × (digits_value 10 text < 2 ^ 32)) → ((entries : List (ℕ × ℕ)) → ¬ (IsCutText text entries))
    → (name : ImageName) → ¬ (IsImageName text name)
no_name text none cuts (Number number) is = none (is_read text number is)
no_name text none cuts (Cut entries) is = cuts entries is
