-- The files of version 4, one by one.
use Rattle.std.proofs.Common.{◌≡◌, ◌∙◌, ◌<◌, ◌≤◌, ◌==◌, ◌++◌, ℕ, zero, suc, Bool, true, false, cond, List, [], ◌∷◌, length, map, refl, sym, ap, arith, append_assoc, append-nil, Option, Some, None, option_and_then, option_map}
use Rattle.std.proofs.lemmas.List.{map_push}
use Rattle.std.proofs.lemmas.Option.{slice_get-map, some_pair_parts}
use Rattle.std.specs.Borrow.{Bor}
use Rattle.std.specs.Prelude.{slice_get}
use Rattle.elf_file.specs.Files.{behind_numbers, files_in}
use Rattle.elf_file.specs.Texts.{first_text, known_path, next_text}
use Rattle.elf_file.proofs.LineTexts.{found, open_text}

-- ---- files up to one with an empty path

abbrev Paths : Type 0
Paths = Option (List (List ℕ))

abbrev with_front : List (List ℕ) → Paths → Paths
with_front front files = option_map (λ more. front ++ more) files

-- a file behind its path, and those behind it
abbrev files_behind : ℕ → List ℕ → Option (List ℕ) → Paths
files_behind n path rest = option_and_then (λ rest. option_map (λ more. path ∷ more) (files_in n rest)) rest

abbrev file_or : ℕ → List ℕ × List ℕ → Paths
file_or n path = cond (length path.0 == 0) (Some []) (files_behind n path.0 (behind_numbers 3 path.1))

pushed : (front : List (List ℕ)) (path : List ℕ) (files : Paths)
    → with_front (front ++ path ∷ []) files ≡ with_front front (option_map (λ more. path ∷ more) files)
pushed front path None = refl
pushed front path (Some more) = ap Some (append_assoc front (path ∷ []) more)

-- with the path as it is lent
pub file_passed : (front : List (Bor (List ℕ))) (n : ℕ) (rest : Bor (List ℕ)) (path behind next : List ℕ) (all : Paths)
    → length rest.now ≤ n → length behind < length rest.now → length next ≤ length behind
    → found path behind ≡ next_text rest.now → (length path == 0) ≡ false → Some next ≡ behind_numbers 3 behind
    → with_front (map known_path front) (files_in n rest.now) ≡ all
    → (m : ℕ) × (length next ≤ m) × (with_front (map known_path (front ++ rest ∷ [])) (files_in m next) ≡ all)
file_passed front zero rest path behind next all few shorter numbers is some numbered eq = absurd (omega arith)
file_passed front (suc m) rest path behind next all few shorter numbers is some numbered eq =
    let paths : List (List ℕ) = map known_path front in
    let opened : found (first_text rest.now) behind ≡ next_text rest.now = open_text rest.now path behind is in
    let same : first_text rest.now ≡ path = (some_pair_parts (first_text rest.now) path behind behind (opened ∙ sym is)).0 in (
      m,
      omega arith,
      ap (λ (l : List (List ℕ)). with_front l (files_in m next)) (map_push known_path front rest)
          ∙ ap (λ (p : List ℕ). with_front (paths ++ p ∷ []) (files_in m next)) same
          ∙ pushed paths path (files_in m next)
          ∙ ap (λ (o : Option (List ℕ)). with_front paths (files_behind m path o)) numbered
          ∙ sym (ap (λ (b : Bool). with_front paths (cond b (Some []) (files_behind m path (behind_numbers 3 behind)))) some)
          ∙ ap (λ (o : Option (List ℕ × List ℕ)). with_front paths (option_and_then (file_or m) o)) is
          ∙ eq,
    )

pub empty_path : (front : List (List ℕ)) (n : ℕ) (rest path behind : List ℕ) (all : Paths) → length rest ≤ n → length behind < length rest
    → found path behind ≡ next_text rest → (length path == 0) ≡ true → with_front front (files_in n rest) ≡ all → Some front ≡ all
empty_path front zero rest path behind all few shorter is none eq = absurd (omega arith)
empty_path front (suc m) rest path behind all few shorter is none eq =
    ap Some (sym (append-nil front))
    ∙ sym (ap (λ (b : Bool). with_front front (cond b (Some []) (files_behind m path (behind_numbers 3 behind)))) none)
    ∙ ap (λ (o : Option (List ℕ × List ℕ)). with_front front (option_and_then (file_or m) o)) is
    ∙ eq

pub no_numbers : (front : List (List ℕ)) (n : ℕ) (rest path behind : List ℕ) (all : Paths)
    → found path behind ≡ next_text rest → (length path == 0) ≡ false → None ≡ behind_numbers 3 behind
    → with_front front (files_in n rest) ≡ all → None ≡ all
no_numbers front zero rest path behind all is some none eq = eq
no_numbers front (suc m) rest path behind all is some none eq =
    ap (λ (o : Option (List ℕ)). with_front front (files_behind m path o)) none
    ∙ sym (ap (λ (b : Bool). with_front front (cond b (Some []) (files_behind m path (behind_numbers 3 behind)))) some)
    ∙ ap (λ (o : Option (List ℕ × List ℕ)). with_front front (option_and_then (file_or m) o)) is
    ∙ eq

pub no_path : (front : List (List ℕ)) (n : ℕ) (rest : List ℕ) (all : Paths) → None ≡ next_text rest
    → with_front front (files_in n rest) ≡ all → None ≡ all
no_path front zero rest all is eq = eq
no_path front (suc m) rest all is eq =
    ap (λ (o : Option (List ℕ × List ℕ)). with_front front (option_and_then (file_or m) o)) is ∙ eq

-- ---- a file by its number

pub path_at : (files : List (Bor (List ℕ))) (n : ℕ) → option_map known_path (slice_get files n) ≡ slice_get (map known_path files) n
path_at files n = sym (slice_get-map known_path files n)
