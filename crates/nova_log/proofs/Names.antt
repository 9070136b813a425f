-- How a name is stored.
use Rattle.std.proofs.Common.{◌≡◌, ℕ, ◌-◌, ◌≤◌, List, ◌++◌, length, take, drop, replicate, refl, ◌∙◌}
use Rattle.std.proofs.Math.Seq.{take-append_seam}
use Rattle.std.proofs.lemmas.List.{drop-replicate}

-- bytes before the rest of 96 zeros
pub stored_name : (name front rest : List ℕ) → front ≡ name → rest ≡ drop (length name) (replicate 96 0) → length name ≤ 96
    → (length name ≤ 96) × (front ++ rest ≡ take (length name) (front ++ rest) ++ replicate (96 - length name) 0) × (length (take (length name) (front ++ rest)) ≡ length name)
stored_name name front rest same zeros short =
    let ends : rest ≡ replicate (96 - length name) 0 = zeros ∙ drop-replicate (length name) 96 0 in
    let seam : take (length name) (front ++ rest) ≡ name = rw same (take-append_seam name rest) in
    (short, rw (seam, same, ends) refl, rw seam refl)
