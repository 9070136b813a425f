-- A text says one list of items at most.
use Rattle.std.proofs.Common.{◌≡◌, ℕ, List, [], ◌∷◌, ◌++◌, Option, Some, None, refl, sym, ap, ◌∙◌, subst, inl, inr}
use Rattle.std.specs.List.{AllZip}
use Rattle.machine.proofs.Stars.{placed}
use Rattle.machine.specs.Grammar.{IsNumber, IsSchedule, Says}
use Rattle.machine.specs.Stars.{StepsAt}
use Rattle.text.specs.Words.{words_of_lines as words}
use Rattle.machine.specs.declared.schedule.items.Item.{Item}
use Rattle.machine.specs.declared.schedule.items.Item.TheVariants.{Steps, Evict}

one_number : (digits : List ℕ) (m n : ℕ) → IsNumber digits m → IsNumber digits n → m ≡ n
one_number digits m n a b = a.value ∙ sym b.value

one_at_place : (text : List ℕ) (place : Option ℕ) (a b : Item) → StepsAt text place a → StepsAt text place b → a ≡ b
one_at_place text None (Steps h m) (Steps k n) s t =
    let harts = one_number text h k s.0 t.0 in let counts = s.1 ∙ sym t.1 in cc
one_at_place text (Some star) (Steps h m) (Steps k n) s t =
    let harts = one_number _ h k s.0 t.0 in let counts = one_number _ m n s.1 t.1 in cc
one_at_place text None (Evict l) b s t = absurd s
one_at_place text (Some star) (Evict l) b s t = absurd s
one_at_place text None (Steps h m) (Evict l) s t = absurd t
one_at_place text (Some star) (Steps h m) (Evict l) s t = absurd t

-- what is said after an `h`
after_h : (word : List ℕ) (hart count : ℕ) → Says word (Steps hart count) → (rest : List ℕ) × (word ≡ 104 ∷ rest)
after_h word hart count (inl s) = (s.hart_digits, s.spelled)
after_h word hart count (inr s) = (s.hart_digits ++ 42 ∷ s.count_digits, s.spelled)

steps_or_other : (word : List ℕ) (hart count : ℕ) (other : Item) → Says word (Steps hart count) → Says word other → Steps hart count ≡ other
steps_or_other word hart count other s t =
    let (rest, spelled) = after_h word hart count s in
    let First : List ℕ → Type 0 = λ w. Says w (Steps hart count) in
    let Second : List ℕ → Type 0 = λ w. Says w other in
    one_at_place rest _ (Steps hart count) other (placed rest (Steps hart count) (subst First spelled s)) (placed rest other (subst Second spelled t))

pub one_said : (word : List ℕ) (a b : Item) → Says word a → Says word b → a ≡ b
one_said word (Steps hart count) b s t = steps_or_other word hart count b s t
one_said word (Evict line) (Steps hart count) s t = sym (steps_or_other word hart count (Evict line) t s)
one_said word (Evict l) (Evict m) s t =
    let same : s.line_digits ≡ t.line_digits = cc (s.spelled, t.spelled) in
    let Second : List ℕ → Type 0 = λ digits. IsNumber digits m in
    ap (λ line. Evict line) (one_number s.line_digits l m s.line_number (subst Second (sym same) t.line_number))

one_list : (ws : List (List ℕ)) (a b : List Item) → AllZip Says ws a → AllZip Says ws b → a ≡ b
one_list [] [] [] s t = refl
one_list [] (x ∷ xs) b s t = absurd s
one_list [] [] (y ∷ ys) s t = absurd t
one_list (w ∷ ws) [] b s t = absurd s
one_list (w ∷ ws) (x ∷ xs) [] s t = absurd t
one_list (w ∷ ws) (x ∷ xs) (y ∷ ys) s t =
    let first = one_said w x y s.0 t.0 in let rest = one_list ws xs ys s.1 t.1 in cc

pub one_schedule : (text : List ℕ) (a b : List Item) → AllZip Says (words text) a → IsSchedule text b → b ≡ a
one_schedule text a b s t = one_list (words text) b a t.says s
