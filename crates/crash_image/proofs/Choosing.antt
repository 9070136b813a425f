-- What is pushed line by line: the numbers that are chosen, and the entries above their floor.
use Rattle.std.proofs.Common.{◌≡◌, ◌∙◌, ◌+◌, ℕ, suc, ◌<◌, ◌≤◌, nat_lt, true, false, Option, Some, None, List, [], ◌∷◌, ◌++◌, length, get_or, drop, refl, ap, append_assoc, add-one, drop-cons, sym, arith}
use Rattle.std.specs.Prelude.{if◌then◌else◌, option_map}
use Rattle.std.proofs.lemmas.List.{append-nil, drop_all}
use Rattle.std.proofs.lemmas.Bool.Decides.{nat_tests}
use Rattle.crash_image.specs.Named.{raised_from}
use Rattle.crash_image.specs.LeastCut.{with_number, chosen_from}
use Rattle.crash_image.specs.declared.bounds.LineBounds.{LineBounds}
use Rattle.crash_image.specs.declared.search.Sought.{Sought}

lt_is : (a b : ℕ) → a < b → nat_lt a b ≡ true
lt_is a b h = grind (arith, nat_tests)

lt_is_not : (a b : ℕ) → b ≤ a → nat_lt a b ≡ false
lt_is_not a b h = grind (arith, nat_tests)

-- the entries, and those of the lines from i on
abbrev pub chosen_with : List (ℕ × ℕ) → ℕ → List Sought → Option (List (ℕ × ℕ))
chosen_with entries i all = option_map (λ (rest : List (ℕ × ℕ)). entries ++ rest) (chosen_from i (drop i all))

chosen_here : (all : List Sought) (i n : ℕ) (d : Sought) → i < length all → (get_or all i d).number ≡ Some n →
    chosen_from i (drop i all) ≡ with_number i (get_or all i d).stores (Some n) (chosen_from (suc i) (drop (suc i) all))
chosen_here all i n d h number = rw (drop-cons all i d h, number) refl

pushed_rest : (i n stores : ℕ) (rest : Option (List (ℕ × ℕ))) (entries : List (ℕ × ℕ)) → 0 < stores →
    option_map (λ (r : List (ℕ × ℕ)). (entries ++ (i, n) ∷ []) ++ r) rest
    ≡ option_map (λ (r : List (ℕ × ℕ)). entries ++ r) (with_number i stores (Some n) rest)
pushed_rest i n stores None entries h = refl
pushed_rest i n stores (Some more) entries h =
    rw (lt_is 0 stores h) (ap (λ (r : List (ℕ × ℕ)). Some r) (append_assoc entries ((i, n) ∷ []) more))

skipped_rest : (i n stores : ℕ) (rest : Option (List (ℕ × ℕ))) (entries : List (ℕ × ℕ)) → stores ≤ 0 →
    option_map (λ (r : List (ℕ × ℕ)). entries ++ r) rest ≡ option_map (λ (r : List (ℕ × ℕ)). entries ++ r) (with_number i stores (Some n) rest)
skipped_rest i n stores None entries h = refl
skipped_rest i n stores (Some more) entries h = rw (lt_is_not 0 stores h) refl

-- line i has a store, and its number is pushed
pub chosen_pushed : (all : List Sought) (i n : ℕ) (d : Sought) (entries next : List (ℕ × ℕ)) (whole : Option (List (ℕ × ℕ))) → i < length all →
    (get_or all i d).number ≡ Some n → 0 < (get_or all i d).stores → next ≡ entries ++ (i, n) ∷ [] →
    chosen_with entries i all ≡ whole → chosen_with next (i + 1) all ≡ whole
chosen_pushed all i n d entries next whole h number stored pushed known =
    rw (add-one, pushed) (
    pushed_rest i n (get_or all i d).stores (chosen_from (suc i) (drop (suc i) all)) entries stored
    ∙ ap (λ (rest : Option (List (ℕ × ℕ))). option_map (λ (r : List (ℕ × ℕ)). entries ++ r) rest) (sym (chosen_here all i n d h number))
    ∙ known)

-- line i has no store
pub chosen_skipped : (all : List Sought) (i n : ℕ) (d : Sought) (entries : List (ℕ × ℕ)) (whole : Option (List (ℕ × ℕ))) → i < length all →
    (get_or all i d).number ≡ Some n → (get_or all i d).stores ≤ 0 → chosen_with entries i all ≡ whole → chosen_with entries (i + 1) all ≡ whole
chosen_skipped all i n d entries whole h number none known =
    rw add-one (
    skipped_rest i n (get_or all i d).stores (chosen_from (suc i) (drop (suc i) all)) entries none
    ∙ ap (λ (rest : Option (List (ℕ × ℕ))). option_map (λ (r : List (ℕ × ℕ)). entries ++ r) rest) (sym (chosen_here all i n d h number))
    ∙ known)

-- line i has no number
pub chosen_nowhere : (all : List Sought) (i : ℕ) (d : Sought) (entries : List (ℕ × ℕ)) (whole : Option (List (ℕ × ℕ))) → i < length all →
    (get_or all i d).number ≡ None → chosen_with entries i all ≡ whole → None ≡ whole
chosen_nowhere all i d entries whole h number known = rw (drop-cons all i d h, number) at known

-- no line is left
pub chosen_all : (all : List Sought) (i : ℕ) (entries : List (ℕ × ℕ)) (whole : Option (List (ℕ × ℕ))) → length all ≤ i →
    chosen_with entries i all ≡ whole → Some entries ≡ whole
chosen_all all i entries whole h known = rw (drop_all i all h, append-nil) at known

-- the entries found, and those above their floor from i on
abbrev pub raised_with : List (ℕ × ℕ) → ℕ → List LineBounds → List (ℕ × ℕ) → List (ℕ × ℕ)
raised_with found i bs es = found ++ raised_from (drop i bs) (drop i es)

raised_here : (bs : List LineBounds) (es : List (ℕ × ℕ)) (i : ℕ) (b : LineBounds) (e : ℕ × ℕ) → i < length bs → length bs ≡ length es →
    raised_from (drop i bs) (drop i es)
    ≡ (if nat_lt (get_or bs i b).floor (get_or es i e).1
    then get_or es i e ∷ raised_from (drop (suc i) bs) (drop (suc i) es) else raised_from (drop (suc i) bs) (drop (suc i) es))
raised_here bs es i b e h same = let there : i < length es = omega (arith, h, same) in rw (drop-cons bs i b h, drop-cons es i e there) refl

-- entry i stands above its floor
pub raised_pushed : (bs : List LineBounds) (es : List (ℕ × ℕ)) (i : ℕ) (b : LineBounds) (e : ℕ × ℕ) (found next whole : List (ℕ × ℕ)) →
    i < length bs → length bs ≡ length es → (get_or bs i b).floor < (get_or es i e).1 → next ≡ found ++ get_or es i e ∷ [] →
    raised_with found i bs es ≡ whole → raised_with next (i + 1) bs es ≡ whole
raised_pushed bs es i b e found next whole h same above pushed known =
    let here : raised_from (drop i bs) (drop i es) ≡ get_or es i e ∷ raised_from (drop (suc i) bs) (drop (suc i) es) =
    rw (lt_is _ _ above) at (raised_here bs es i b e h same) in
    rw (add-one, pushed, append_assoc) (rw here at known)

-- entry i stands at its floor
pub raised_skipped : (bs : List LineBounds) (es : List (ℕ × ℕ)) (i : ℕ) (b : LineBounds) (e : ℕ × ℕ) (found whole : List (ℕ × ℕ)) →
    i < length bs → length bs ≡ length es → (get_or es i e).1 ≤ (get_or bs i b).floor →
    raised_with found i bs es ≡ whole → raised_with found (i + 1) bs es ≡ whole
raised_skipped bs es i b e found whole h same low known =
    let here : raised_from (drop i bs) (drop i es) ≡ raised_from (drop (suc i) bs) (drop (suc i) es) =
    rw (lt_is_not _ _ low) at (raised_here bs es i b e h same) in
    rw add-one (rw here at known)

-- no entry is left
pub raised_all : (bs : List LineBounds) (es : List (ℕ × ℕ)) (i : ℕ) (found whole : List (ℕ × ℕ)) → length bs ≤ i →
    raised_with found i bs es ≡ whole → found ≡ whole
raised_all bs es i found whole h known = rw (drop_all i bs h, append-nil) at known
