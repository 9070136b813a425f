-- Lists with the same contents.
use Rattle.std.proofs.Common.{◌≡◌, ◌⊎◌, ℕ, ◌<◌, List, [], ◌∷◌, ◌++◌, length, get_or, sym, subst, inl, inr, arith}
use Rattle.std.specs.Prelude.{All, ◌↔◌}
use Rattle.std.specs.List.{Contains}
use Rattle.std.proofs.lemmas.List.Elements.{Contains-append_cases, Contains-append_left, Contains-append_right, Contains-get_or}
use Rattle.store_trace.proofs.Members.{contains_cases, contains_first, no_members}
use Rattle.routine_judge.specs.LeftContents.{HaveSame, IsUnion}

pub same_itself : (xs : List (List ℕ)) → HaveSame xs xs
same_itself xs = λ bytes. (λ h. h, λ h. h)

pub same_as : (xs ys zs : List (List ℕ)) → ys ≡ zs → HaveSame xs ys → HaveSame xs zs
same_as xs ys zs e h = subst (λ (all : List (List ℕ)). HaveSame xs all) e h

-- each of the one is among the others
pub all_among : (xs ys : List (List ℕ)) → HaveSame xs ys → All (Contains ys) xs
all_among xs ys same = λ k d there. (same (get_or xs k d)).0 (Contains-get_or xs k d there)

pub all_back : (xs ys : List (List ℕ)) → HaveSame xs ys → All (Contains xs) ys
all_back xs ys same = λ k d there. (same (get_or ys k d)).1 (Contains-get_or ys k d there)

-- where the one has some, the other has
first_there : (xs : List (List ℕ)) (x : List ℕ) → Contains xs x → 0 < length xs
first_there xs x c = let h : c.0 < length xs = c.1 in omega arith

pub same_some : (xs ys : List (List ℕ)) → HaveSame xs ys → 0 < length ys → 0 < length xs
same_some xs ys same some = first_there xs (get_or ys 0 []) ((same (get_or ys 0 [])).1 (Contains-get_or ys 0 [] some))

-- what a list has beside another one
pub only_one : (x bytes : List ℕ) → Contains (x ∷ []) bytes → bytes ≡ x
only_one x bytes c = elim (contains_cases x [] bytes c) [ inl e ↦ sym e | inr none ↦ absurd (no_members bytes none) ]

pub union_none : (old : List (List ℕ)) → IsUnion old [] old
union_none old = λ bytes. (λ h. inl h, λ s. elim s [ inl h ↦ h | inr none ↦ absurd (no_members bytes none) ])

pub union_one : (old new : List (List ℕ)) (x : List ℕ) → ((bytes : List ℕ) → Contains new bytes ↔ (Contains old bytes ⊎ (bytes ≡ x))) → IsUnion old (x ∷ []) new
union_one old new x added = λ bytes. (
  λ h. elim ((added bytes).0 h) [ inl was ↦ inl was | inr e ↦ inr (contains_first x [] bytes (sym e)) ],
  λ s. (added bytes).1 (elim s [ inl was ↦ inl was | inr c ↦ inr (only_one x bytes c) ]),
)

pub union_append : (old more middle last new : List (List ℕ)) → IsUnion old more middle → IsUnion middle last new → IsUnion old (more ++ last) new
union_append old more middle last new first second = λ bytes. (
  λ h. elim ((second bytes).0 h) [
    | inl was ↦ elim ((first bytes).0 was) [ inl o ↦ inl o | inr m ↦ inr (Contains-append_left more last bytes m) ]
    | inr l ↦ inr (Contains-append_right more last bytes l)
  ],
  λ s. (second bytes).1 (elim s [
    | inl o ↦ inl ((first bytes).1 (inl o))
    | inr both ↦ elim (Contains-append_cases more last bytes both) [ inl m ↦ inl ((first bytes).1 (inr m)) | inr l ↦ inr l ]
  ]),
)

pub union_as : (old more other new : List (List ℕ)) → more ≡ other → IsUnion old more new → IsUnion old other new
union_as old more other new e u = subst (λ (all : List (List ℕ)). IsUnion old all new) e u

-- a list that has the same as another one, and more beside it
pub same_union : (old xs more new : List (List ℕ)) → HaveSame old xs → IsUnion old more new → HaveSame new (xs ++ more)
same_union old xs more new same u = λ bytes. (
  λ h. elim ((u bytes).0 h) [
    | inl was ↦ Contains-append_left xs more bytes ((same bytes).0 was)
    | inr m ↦ Contains-append_right xs more bytes m
  ],
  λ c. (u bytes).1 (elim (Contains-append_cases xs more bytes c) [ inl x ↦ inl ((same bytes).1 x) | inr m ↦ inr m ]),
)
