-- The entries that a text's words say, one by one.
use Rattle.std.proofs.Common.{◌≡◌, ◌<◌, ℕ, zero, suc, List, [], ◌∷◌, ◌++◌, Bor, length, map, get_or, sym, subst, arith}
use Rattle.std.specs.List.{AllZip}
use Rattle.text.specs.Grammar.{IsEntry}

pub one_more_said : (words : List (Bor (List ℕ))) (entries : List (ℕ × ℕ)) (word : Bor (List ℕ)) (entry : ℕ × ℕ)
    → AllZip IsEntry (map (λ w. w.now) words) entries → IsEntry word.now entry
    → AllZip IsEntry (map (λ w. w.now) (words ++ word ∷ [])) (entries ++ entry ∷ [])
one_more_said [] [] word entry says more = (more, tt)
one_more_said [] (e ∷ es) word entry says more = absurd says
one_more_said (w ∷ ws) [] word entry says more = absurd says
one_more_said (w ∷ ws) (e ∷ es) word entry says more = (says.0, one_more_said ws es word entry says.1 more)

-- where one word says no entry, the words say no entries
pub unsaid_at : (words : List (List ℕ)) (n : ℕ) (word : List ℕ) → n < length words → word ≡ get_or words n word
    → ((entry : ℕ × ℕ) → ¬ (IsEntry word entry)) → (entries : List (ℕ × ℕ)) → ¬ (AllZip IsEntry words entries)
unsaid_at [] n word inside is none entries says = absurd (omega arith)
unsaid_at (w ∷ ws) n word inside is none [] says = absurd says
unsaid_at (w ∷ ws) zero word inside is none (e ∷ es) says =
    let P : List ℕ → Type 0 = λ text. IsEntry text e in none e (subst P (sym is) says.0)
unsaid_at (w ∷ ws) (suc n) word inside is none (e ∷ es) says = unsaid_at ws n word (omega arith) is none es says.1
