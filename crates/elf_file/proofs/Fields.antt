-- The fields of an entry, one behind the other.
use Rattle.std.proofs.Common.{◌≡◌, ◌∙◌, ◌+◌, ◌<◌, ◌≤◌, ℕ, List, length, get_or, drop, sym, ap, Option, Some, None, option_and_then, option_map}
use Rattle.std.proofs.lemmas.List.{at_drop_all, at_drop_more}
use Rattle.elf_file.specs.Forms.{TextsByPlace, Value, entry_at, path_in, path_with, text_value, value_at, with_path}
use Rattle.elf_file.specs.Texts.{first_text, next_text}
use Rattle.elf_file.specs.declared.lines.forms.Format.{Format}
use Rattle.elf_file.proofs.LineTexts.{found, open_text}

-- a value, and the bytes behind it
abbrev pub valued : Option (List ℕ) → List ℕ → Value
valued value rest = Some (value, rest)

pub text_here : (bytes text rest : List ℕ) → found text rest ≡ next_text bytes → valued (Some (first_text bytes)) rest ≡ text_value bytes
text_here bytes text rest is = ap (option_map (λ (t : List ℕ × List ℕ). (Some t.0, t.1))) (open_text bytes text rest is)

-- one more field
pub goes_on : (formats : List Format) (index : ℕ) (d : Format) (texts : TextsByPlace) (path value : Option (List ℕ)) (rest behind : List ℕ) (all : Value)
    → index < length formats → valued value behind ≡ value_at (get_or formats index d).form texts rest
    → path_in (drop index formats) texts path rest ≡ all
    → path_in (drop (index + 1) formats) texts (path_with (get_or formats index d).content path value) behind ≡ all
goes_on formats index d texts path value rest behind all less is eq =
    ap (option_and_then (λ (v : Option (List ℕ) × List ℕ). path_in (drop (index + 1) formats) texts (path_with (get_or formats index d).content path v.0) v.1)) is
    ∙ sym (at_drop_more (λ (l : List Format). path_in l texts path rest) formats index d less)
    ∙ eq

-- none where one was wanted
pub stops : (formats : List Format) (index : ℕ) (d : Format) (texts : TextsByPlace) (path : Option (List ℕ)) (rest bytes : List ℕ)
    → index < length formats → None ≡ value_at (get_or formats index d).form texts rest
    → path_in (drop index formats) texts path rest ≡ path_in formats texts None bytes
    → None ≡ entry_at formats texts bytes
stops formats index d texts path rest bytes less is eq =
    ap (λ (v : Value). option_and_then with_path (option_and_then (λ (v : Option (List ℕ) × List ℕ). path_in (drop (index + 1) formats) texts (path_with (get_or formats index d).content path v.0) v.1) v)) is
    ∙ ap (option_and_then with_path) (sym (at_drop_more (λ (l : List Format). path_in l texts path rest) formats index d less) ∙ eq)

-- all
pub is_done : (formats : List Format) (index : ℕ) (texts : TextsByPlace) (path : Option (List ℕ)) (rest bytes : List ℕ)
    → length formats ≤ index → path_in (drop index formats) texts path rest ≡ path_in formats texts None bytes
    → with_path (path, rest) ≡ entry_at formats texts bytes
is_done formats index texts path rest bytes past eq =
    ap (option_and_then with_path) (sym (at_drop_all (λ (l : List Format). path_in l texts path rest) formats index past) ∙ eq)
