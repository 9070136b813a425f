-- The parts of a word.
use Rattle.std.proofs.Common.{◌≡◌, ◌≢◌, ℕ, ◌+◌, ◌<◌, ◌≤◌, List, [], ◌∷◌, ◌++◌, length, get_or, take, drop, None, All, sym, refl, ap, subst, ◌∙◌, arith, length-drop, take-append-drop}
use Rattle.std.proofs.lemmas.Bool.{cond-true, cond-false, eq-eqb, ne_eqb}
use Rattle.std.proofs.lemmas.List.{drop_more, get_or-drop}
use Rattle.std.proofs.lemmas.List.Elements.{All-head, All-tail, All-from_get_or}
use Rattle.std.specs.Prelude.{Option}
use Rattle.report.specs.Addresses.{parted, parted_behind, two_parts}

abbrev pub IsNot : ℕ → ℕ → Type 0
IsNot separator byte = byte ≢ separator

pub parted_none : (separator : ℕ) (word : List ℕ) → All (IsNot separator) word → parted separator word ≡ None
unfolding parted
parted_none separator [] none = refl
parted_none separator (byte ∷ bytes) none =
    ap (λ (parts : Option (List ℕ × List ℕ)). parted_behind separator byte bytes parts) (parted_none separator bytes (All-tail (IsNot separator) byte bytes none))
    ∙ cond-false _ _ _ (ne_eqb byte separator (All-head (IsNot separator) byte bytes none))

pub parted_at : (separator : ℕ) (front back : List ℕ) → All (IsNot separator) back → parted separator (front ++ separator ∷ back) ≡ two_parts front back
unfolding parted
parted_at separator [] back none =
    ap (λ (parts : Option (List ℕ × List ℕ)). parted_behind separator separator back parts) (parted_none separator back none)
    ∙ cond-true _ _ _ (eq-eqb separator separator refl)
parted_at separator (byte ∷ front) back none =
    ap (λ (parts : Option (List ℕ × List ℕ)). parted_behind separator byte (front ++ separator ∷ back) parts) (parted_at separator front back none)

-- by the place of the last one
split_around : (word : List ℕ) (index separator : ℕ) → index < length word → get_or word index 0 ≡ separator
    → word ≡ take index word ++ separator ∷ drop (index + 1) word
split_around word index separator inside here =
    sym (take-append-drop index word)
    ∙ ap (λ (l : List ℕ). take index word ++ l) (drop_more word index 0 inside ∙ ap (λ (byte : ℕ). byte ∷ drop (index + 1) word) here)

none_behind : (separator : ℕ) (word : List ℕ) (index : ℕ) → ((k : ℕ) → index + 1 ≤ k → k < length word → get_or word k 0 ≢ separator)
    → All (IsNot separator) (drop (index + 1) word)
none_behind separator word index after =
    All-from_get_or (IsNot separator) (drop (index + 1) word) 0
    (λ k inside. subst (IsNot separator) (sym (get_or-drop (index + 1) word k 0)) (after (index + 1 + k) (omega arith) (omega (arith, length-drop (index + 1) word))))

pub parted_last : (separator : ℕ) (word : List ℕ) (index : ℕ) → index < length word → get_or word index 0 ≡ separator
    → ((k : ℕ) → index + 1 ≤ k → k < length word → get_or word k 0 ≢ separator)
    → parted separator word ≡ two_parts (take index word) (drop (index + 1) word)
parted_last separator word index inside here after =
    ap (parted separator) (split_around word index separator inside here)
    ∙ parted_at separator (take index word) (drop (index + 1) word) (none_behind separator word index after)
