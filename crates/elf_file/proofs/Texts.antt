-- A text of a string table, of which no more is looked at than the limit.
use Rattle.std.proofs.Common.{◌≡◌, ◌+◌, ◌<◌, ◌≤◌, ◌==◌, not, true, false, cond, Bool, ℕ, zero, suc, List, [], ◌∷◌, length, take, drop, refl, sym, ap, ◌∙◌, arith, inl, inr}
use Rattle.std.proofs.lemmas.Bool.{cases_Bool, cases_lt, le-leb, le-ltb, lt-leb, lt-ltb}
use Rattle.std.proofs.lemmas.Grind.{common_steps}
use Rattle.std.proofs.lemmas.List.{length-take, take-take}
use Rattle.std.proofs.lemmas.List.Quantifiers.{position-Some}
use Rattle.std.proofs.lemmas.Slice.Eq.{bytes_eq-Decides}
use Rattle.std.specs.Bool.{then_some}
use Rattle.std.specs.List.{position, position_or_len, prefix_len}
use Rattle.std.specs.Option.{option_and_then, option_map, option_map_or}
use Rattle.std.specs.Prelude.{min, nat_le, Option, None, Some}
use Rattle.std.specs.Str.{bytes_eq}
use Rattle.elf_file.specs.Sections.{short_text_at, text_at}

one_more_passes : (passes : Bool) (near all n : ℕ) → near ≡ min n all → cond passes (1 + near) 0 ≡ min (suc n) (cond passes (1 + all) 0)
one_more_passes true near all n e = omega (arith, e)
one_more_passes false near all n e = omega arith

pub prefix_len-take : (p : ℕ → Bool) (n : ℕ) (bytes : List ℕ) → prefix_len p (take n bytes) ≡ min n (prefix_len p bytes)
prefix_len-take p zero bytes = omega arith
prefix_len-take p (suc n) [] = omega arith
prefix_len-take p (suc n) (byte ∷ bytes) = one_more_passes (p byte) (prefix_len p (take n bytes)) (prefix_len p bytes) n (prefix_len-take p n bytes)

-- the first zero among the first bytes is the first of all
zero_near : (limit end : ℕ) (bytes : List ℕ) → position (λ byte. byte == 0) (take (limit + 1) bytes) ≡ Some end
    → (position (λ byte. byte == 0) bytes ≡ Some end) × (end ≤ limit)
zero_near limit end bytes found =
    let near : List ℕ = take (limit + 1) bytes in
    let inside : end < length near = (position-Some (λ byte. byte == 0) near end 0 found).0 in
    let near_is : position_or_len (λ byte. byte == 0) near ≡ end = grind (arith, common_steps) in
    let same : position_or_len (λ byte. byte == 0) near ≡ min (limit + 1) (position_or_len (λ byte. byte == 0) bytes) =
    prefix_len-take (λ byte. not (byte == 0)) (limit + 1) bytes in
    let long : length near ≡ min (limit + 1) (length bytes) = length-take (limit + 1) bytes in
    let end_is : position_or_len (λ byte. byte == 0) bytes ≡ end = omega (arith, inside, near_is, same, long) in
    let there : position_or_len (λ byte. byte == 0) bytes < length bytes = omega (arith, inside, near_is, same, long) in (
      ap (λ (b : Bool). cond b (Some (position_or_len (λ byte. byte == 0) bytes)) None) (lt-ltb (position_or_len (λ byte. byte == 0) bytes) (length bytes) there)
          ∙ ap (λ (n : ℕ). Some n) end_is,
      omega (arith, inside, long),
    )

pub text_near : (strings : List ℕ) (at limit end : ℕ) → position (λ byte. byte == 0) (take (limit + 1) (drop at strings)) ≡ Some end
    → short_text_at strings at limit ≡ Some (take end (take (limit + 1) (drop at strings)))
text_near strings at limit end found =
    let bytes : List ℕ = drop at strings in
    let near = zero_near limit end bytes found in
    let short : length (take end bytes) ≤ limit = omega (arith, length-take end bytes, near.1) in
    ap (λ (o : Option ℕ). option_and_then (λ (text : List ℕ). then_some (nat_le (length text) limit) text) (option_map (λ (end : ℕ). take end bytes) o)) near.0
    ∙ ap (λ (b : Bool). then_some b (take end bytes)) (le-leb (length (take end bytes)) limit short)
    ∙ ap (λ (text : List ℕ). Some text) (sym (take-take end (limit + 1) bytes (omega (arith, near.1))))

pub no_text_near : (strings : List ℕ) (at limit : ℕ) → position (λ byte. byte == 0) (take (limit + 1) (drop at strings)) ≡ None → short_text_at strings at limit ≡ None
no_text_near strings at limit none =
    let bytes : List ℕ = drop at strings in
    let near : List ℕ = take (limit + 1) bytes in
    let n : ℕ = position_or_len (λ byte. byte == 0) bytes in
    let past : length near ≤ position_or_len (λ byte. byte == 0) near = grind (arith, common_steps) in
    let same : position_or_len (λ byte. byte == 0) near ≡ min (limit + 1) n = prefix_len-take (λ byte. not (byte == 0)) (limit + 1) bytes in
    let long : length near ≡ min (limit + 1) (length bytes) = length-take (limit + 1) bytes in
    let text_or_none : Option ℕ → Option (List ℕ) =
    λ (o : Option ℕ). option_and_then (λ (text : List ℕ). then_some (nat_le (length text) limit) text) (option_map (λ (end : ℕ). take end bytes) o) in
    elim (cases_lt n (length bytes)) [
      | inl there ↦
          let far : limit < length (take n bytes) = omega (arith, there, past, same, long, length-take n bytes) in
          ap (λ (b : Bool). text_or_none (cond b (Some n) None)) (lt-ltb n (length bytes) there)
          ∙ ap (λ (b : Bool). then_some b (take n bytes)) (lt-leb (length (take n bytes)) limit far)
      | inr nowhere ↦ ap (λ (b : Bool). text_or_none (cond b (Some n) None)) (le-ltb n (length bytes) nowhere)
    ]

-- whether a text is this name is seen by as many bytes as the name has
is_by_short : (name : List ℕ) (found : Option (List ℕ)) → option_map_or (λ (text : List ℕ). bytes_eq text name) found false
    ≡ option_map_or (λ (text : List ℕ). bytes_eq text name) (option_and_then (λ (text : List ℕ). then_some (nat_le (length text) (length name)) text) found) false
is_by_short name None = refl
is_by_short name (Some text) =
    elim (cases_lt (length name) (length text)) [
      | inl longer ↦
          elim (cases_Bool (bytes_eq text name)) [
            | inl same ↦ absurd (omega (arith, longer, ap (λ (l : List ℕ). length l) ((bytes_eq-Decides text name).0 same)))
            | inr differs ↦ differs ∙ sym (ap (λ (b : Bool). option_map_or (λ (text : List ℕ). bytes_eq text name) (then_some b text) false) (lt-leb (length text) (length name) longer))
          ]
      | inr fits ↦ sym (ap (λ (b : Bool). option_map_or (λ (text : List ℕ). bytes_eq text name) (then_some b text) false) (le-leb (length text) (length name) fits))
    ]

pub named_near : (names name : List ℕ) (at : ℕ) → option_map_or (λ (text : List ℕ). bytes_eq text name) (text_at names at) false
    ≡ option_map_or (λ (text : List ℕ). bytes_eq text name) (short_text_at names at (length name)) false
named_near names name at = is_by_short name (text_at names at)
