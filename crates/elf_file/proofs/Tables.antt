-- What a table of section headers gives.
use Rattle.std.proofs.Common.{◌≡◌, ◌+◌, ◌-◌, ◌*◌, ◌<◌, ◌≤◌, ◌==◌, ◌&&◌, Bool, true, false, cond, not, ℕ, zero, suc, List, length, ap, subst, ◌∙◌, add-one, add-suc, add-zero, arith, inl, inr}
use Rattle.std.proofs.lemmas.Bool.{and_parts, cases_Bool, leb-true}
use Rattle.std.specs.Bool.{then_some}
use Rattle.std.specs.Option.{option_or}
use Rattle.std.specs.Prelude.{nat_le, Option, None, Some}
use Rattle.elf_file.specs.Header.{number_at}
use Rattle.elf_file.specs.Sections.{HasSection, first_section, has_sections, section_count, section_header_at, sections_start}
use Rattle.elf_file.specs.declared.section_header.SectionHeader.{SectionHeader}

count_there : (file : List ℕ) (b : Bool) → has_sections file ≡ b → section_count file ≡ cond b (number_at 2 file 60) 0
unfolding section_count
count_there file b e = ap (λ (t : Bool). cond t (number_at 2 file 60) 0) e

-- the header of each section that is counted is in the file
pub header_in_file : (file : List ℕ) (number : ℕ) → number < section_count file → HasSection file number
header_in_file file number less =
    elim (cases_Bool (has_sections file)) [
      | inr lacks ↦ absurd (omega (arith, less, count_there file false lacks))
      | inl has ↦
          let count : section_count file ≡ number_at 2 file 60 = count_there file true has in
          let in_file : Bool = nat_le (sections_start file + 64 * number_at 2 file 60) (length file) in
          let outer = and_parts (nat_le 64 (length file)) (not (sections_start file == 0) && ((number_at 2 file 58 == 64) && in_file)) has in
          let inner = and_parts (not (sections_start file == 0)) ((number_at 2 file 58 == 64) && in_file) outer.1 in
          let last = and_parts (number_at 2 file 58 == 64) in_file inner.1 in
          let within : sections_start file + 64 * number_at 2 file 60 ≤ length file = leb-true (sections_start file + 64 * number_at 2 file 60) (length file) last.1 in
          record { whole = leb-true 64 (length file) outer.0; within = omega (arith, less, count, within) }
    ]

-- a file without a whole header has none
pub none_in_short : (file : List ℕ) → length file < 64 → section_count file ≡ 0
none_in_short file short =
    elim (cases_Bool (has_sections file)) [
      | inr lacks ↦ count_there file false lacks
      | inl has ↦
          let in_file : Bool = nat_le (sections_start file + 64 * number_at 2 file 60) (length file) in
          let outer = and_parts (nat_le 64 (length file)) (not (sections_start file == 0) && ((number_at 2 file 58 == 64) && in_file)) has in
          let whole : 64 ≤ length file = leb-true 64 (length file) outer.0 in
          absurd (omega (arith, whole, short))
    ]

-- a section that doesn't pass leaves none found
pub none_yet : (test : SectionHeader → Bool) (file : List ℕ) (n : ℕ) → first_section test file n ≡ None → test (section_header_at file n) ≡ false
    → first_section test file (n + 1) ≡ None
none_yet test file n none fails =
    rw add-one
    (ap (λ (o : Option SectionHeader). option_or o (then_some (test (section_header_at file n)) (section_header_at file n))) none
    ∙ ap (λ (b : Bool). then_some b (section_header_at file n)) fails)

first_stays : (test : SectionHeader → Bool) (file : List ℕ) (more n : ℕ) (header : SectionHeader) → first_section test file n ≡ Some header → first_section test file (n + more) ≡ Some header
first_stays test file zero n header found = rw add-zero found
first_stays test file (suc more) n header found =
    rw add-suc
    (ap (λ (o : Option SectionHeader). option_or o (then_some (test (section_header_at file (n + more))) (section_header_at file (n + more)))) (first_stays test file more n header found))

-- the first one that passes is the first of all
pub first_found : (test : SectionHeader → Bool) (file : List ℕ) (n count : ℕ) → n < count → first_section test file n ≡ None → test (section_header_at file n) ≡ true
    → first_section test file count ≡ Some (section_header_at file n)
first_found test file n count less none passes =
    let here : first_section test file (suc n) ≡ Some (section_header_at file n) =
    ap (λ (o : Option SectionHeader). option_or o (then_some (test (section_header_at file n)) (section_header_at file n))) none
    ∙ ap (λ (b : Bool). then_some b (section_header_at file n)) passes in
    let sum : suc n + (count - suc n) ≡ count = omega arith in
    let family : ℕ → Type 0 = λ (m : ℕ). first_section test file m ≡ Some (section_header_at file n) in
    subst family sum (first_stays test file (count - suc n) (suc n) (section_header_at file n) here)
