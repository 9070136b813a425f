use Rattle.std.proofs.Common.{◌≡◌, ◌⊎◌, ◌∙◌, Bor, ℕ, List, Result, Ok, ap, inl, inr, sym}
use Rattle.std.specs.Prelude.{◌↔◌}
use Rattle.std.specs.List.{Contains}
use Rattle.std.specs.Result.{result_map_both}
use Rattle.std.proofs.lemmas.Result.{on_ok_weaker}
use Rattle.routine_judge.proofs.outside.right_replies.add_found.Goals as goal

same_answer : (one other : List ℕ) → ◌≡◌ {A = Result (List ℕ) (List ℕ)} (Ok one) (Ok other) → other ≡ one
same_answer one other e = cc

-- an answer is taken in
found_more : (old new : List (List ℕ)) (shown : Result (List ℕ) (List ℕ)) (answer : List ℕ) → shown ≡ Ok answer →
    ((bytes : List ℕ) → Contains new bytes ↔ (Contains old bytes ⊎ (bytes ≡ answer))) →
    (bytes : List ℕ) → Contains new bytes ↔ (Contains old bytes ⊎ (shown ≡ Ok bytes))
found_more old new shown answer s adds bytes = (
  λ there. elim ((adds bytes).0 there) [ inl before ↦ inl before | inr e ↦ inr (s ∙ ap (λ (b : List ℕ). Ok b) (sym e)) ],
  λ there. elim there [ inl before ↦ (adds bytes).1 (inl before) | inr e ↦ (adds bytes).1 (inr (same_answer answer bytes (sym s ∙ e))) ],
)

pub returns-in_ok-of-in-Ok : goal.returns-in_ok-of-in-Ok
returns-in_ok-of-in-Ok c =
    let shown = λ (r : Result (Bor (List ℕ)) (Bor (List ℕ))). result_map_both {T = Bor (List ℕ)} {U = List ℕ} {E = Bor (List ℕ)} {D = List ℕ} (λ answer. answer.now) (λ word. word.now) r in
    on_ok_weaker c.add_answer.result
    (found_more c.args.answers.now.answers.items c.add_answer.new.self.answers.items (shown c.args.found) c.in_ok-of-in-Ok.field-0
    (ap shown c.in-Ok.is ∙ ap (λ (b : List ℕ). Ok b) (sym c.in_ok-of-in-Ok.ensures)))
    c.add_answer.ensures.answers
