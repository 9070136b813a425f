-- Programs and media that are the same.
use Rattle.std.proofs.Common.{◌≡◌, ℕ, suc, ◌+◌, ◌<◌, ◌≤◌, List, [], ◌∷◌, length, refl, ap, ◌∙◌, inl, inr, arith}
use Rattle.std.proofs.lemmas.Bool.{cases_eq}
use Rattle.line_memory.specs.Lines.{line_at}
use Rattle.program.specs.Sections.{Sections}
use Rattle.bus.specs.Following.{IsCoreOf}
use Rattle.bus.specs.Replays.{CoreView}
use Rattle.bus.specs.Stepping.{BusView}

pub sections_same : (a b : Sections) → a.text ≡ b.text → a.static_data ≡ b.static_data → a ≡ b
sections_same a b text static_data =
    ap (λ (l : List ℕ). record { text = l; static_data = a.static_data }) text
    ∙ ap (λ (l : List ℕ). record { text = b.text; static_data = l }) static_data

-- the first n lines are the same
pub record AreSameBelow (n : ℕ) (a b : List (List ℕ)) : Type 0 where
  pub same : (k : ℕ) → k < n → line_at a k ≡ line_at b k

pub none_below : (a b : List (List ℕ)) → AreSameBelow 0 a b
none_below a b = record { same = λ k less. absurd (omega (arith, less)) }

pub same_more : (n : ℕ) (a b : List (List ℕ)) → AreSameBelow n a b → line_at a n ≡ line_at b n → AreSameBelow (n + 1) a b
same_more n a b before here = record {
  same = λ k less. elim (cases_eq k n) [
    | inl is ↦ rw is here
    | inr apart ↦ before.same k (omega (arith, less, apart))
  ];
}

lines_are : (a b : List (List ℕ)) → length a ≡ length b → ((k : ℕ) → k < length a → line_at a k ≡ line_at b k) → a ≡ b
lines_are [] [] size same = refl
lines_are [] (y ∷ b) size same = absurd (omega (arith, size))
lines_are (x ∷ a) [] size same = absurd (omega (arith, size))
lines_are (x ∷ a) (y ∷ b) size same =
    ap (λ (z : List ℕ). z ∷ a) (same 0 (omega arith))
    ∙ ap (λ (l : List (List ℕ)). y ∷ l) (lines_are a b (omega (arith, size)) (λ k less. same (suc k) (omega (arith, less))))

pub same_lines : (n : ℕ) (a b : List (List ℕ)) → length a ≡ length b → length a ≤ n → AreSameBelow n a b → a ≡ b
same_lines n a b size whole s = lines_are a b size (λ k less. s.same k (omega (arith, less, whole)))

pub is_core_of : (bus : BusView) (core : CoreView) → core.program ≡ bus.program → core.start ≡ bus.start → core.harts ≡ bus.harts
    → core.capacity ≡ bus.capacity → IsCoreOf bus core
is_core_of bus core program start harts capacity =
    record { program = program; start_is = start; harts = harts; capacity = capacity }
