-- Lines that are told of power cuts in recovery.
use Rattle.std.proofs.Common.{◌≡◌, ◌∙◌, ℕ, ◌+◌, ◌<◌, ◌≤◌, List, [], ◌∷◌, ◌++◌, Bor, Option, Some, None, length, get_or, map, take, drop, ap, arith, refl, subst, sym, lit<}
use Rattle.std.specs.List.{after_first, before_first, flat_map, position_or_len}
use Rattle.std.specs.Prelude.{◌==◌, IfOk, Result, String, string_bytes}
use Rattle.std.specs.declared.alloc.AllocError.{AllocError}
use Rattle.std.specs.declared.alloc.Global.{Global}
use Rattle.routine_judge.specs.declared.cuts.outcome.ChainLink.{ChainLink}
use Rattle.command_line.specs.CutVerdicts.{fail_json}
use Rattle.std.proofs.lemmas.List.{drop_all, take_all}
use Rattle.std.proofs.lemmas.Str.Pattern.{IsSplitOnceResult, split_once_first}

-- the texts of elements behind references
pub flat_map_now : (text : List ℕ → List ℕ) (items : List (Bor (List ℕ))) →
    flat_map (λ (line : Bor (List ℕ)). text line.now) items ≡ flat_map text (map (λ (line : Bor (List ℕ)). line.now) items)
flat_map_now text [] = refl
flat_map_now text (line ∷ items) = ap (λ (l : List ℕ). text line.now ++ l) (flat_map_now text items)

-- the parts of a text at its first comma, or the whole text and nothing
pub parted_some : (object : List ℕ) (kind others : Bor (List ℕ)) → IsSplitOnceResult 44 object (Some (kind, others))
    → (kind.now ≡ before_first (λ b. b == 44) object) × (others.now ≡ after_first (λ b. b == 44) object)
parted_some object kind others split =
    let found = split_once_first 44 object (Some (kind, others)) split (lit< tt) in (found.1, found.2)

pub parted_none : (object : List ℕ) → IsSplitOnceResult 44 object None
    → (object ≡ before_first (λ b. b == 44) object) × ([] ≡ after_first (λ b. b == 44) object)
parted_none object split =
    let place : ℕ = position_or_len (λ b. b == 44) object in
    let none : place ≡ length object = split_once_first 44 object None split (lit< tt) in
    (sym (take_all place object (omega (arith, none))), sym (drop_all (place + 1) object (omega (arith, none))))

-- a failure of a chain, by its first power cut and the others
pub fail_told : (chain : List ChainLink) (link : ChainLink) (rest : List ChainLink) (cause : List ℕ) (result : Result (String Global) AllocError)
    → chain ≡ link ∷ rest → IfOk result (λ text. string_bytes text ≡ fail_json (link ∷ rest) cause)
    → IfOk result (λ text. string_bytes text ≡ fail_json chain cause)
fail_told chain link rest cause result is told =
    subst (λ (links : List ChainLink). IfOk result (λ text. string_bytes text ≡ fail_json links cause)) (sym is) told
