use Rattle.std.proofs.Common.{rules, ◌≡◌, ◌+◌, ◌-◌, ◌==◌, ℕ, List, length, take, drop, sym, ap, ◌∙◌, arith, drop_of_length-le}
use Rattle.std.proofs.lemmas.List.{length-drop, take_all}
use Rattle.std.specs.Bool.{then_some}
use Rattle.std.specs.List.{position}
use Rattle.std.specs.Option.{option_and_then, option_map}
use Rattle.std.specs.Prelude.{nat_le, None, Some}
use Rattle.elf_file.specs.Sections.{short_text_at}
use Rattle.elf_file.proofs.Texts.{no_text_near, text_near}
use Rattle.elf_file.proofs.section_header.short_text_at.Goals as goal

-- the slice from a place on is all behind it
rest_whole : (bytes : List ℕ) (at : ℕ) → take (length bytes - at) (drop at bytes) ≡ drop at bytes
rest_whole bytes at = take_all (length bytes - at) (drop at bytes) (omega (arith, length-drop at bytes))

pub returns-then-strings-at : goal.returns-then-strings-at
returns-then-strings-at c =
    ap (λ (rest : List ℕ). option_and_then (λ (text : List ℕ). then_some (nat_le (length text) c.args.limit) text) (option_map (λ (end : ℕ). take end rest) (position (λ byte. byte == 0) rest)))
    (drop_of_length-le c.args.strings.now {i = c.args.at} (omega arith))

pub returns-in_err-end : goal.returns-in_err-end
returns-in_err-end c =
    let strings = c.args.strings.now in
    let near : List ℕ = take (c.args.limit + 1) (drop c.args.at strings) in
    let rest_is : take (length strings - c.args.at) (drop c.args.at strings) ≡ drop c.args.at strings = rest_whole strings c.args.at in
    let near_is : c.bytes_through-near.result.now ≡ near = c.bytes_through-near.ensures ∙ ap (λ (rest : List ℕ). take (c.args.limit + 1) rest) rest_is in
    let none : position (λ byte. byte == 0) near ≡ None = ap (λ (bytes : List ℕ). position (λ byte. byte == 0) bytes) (sym near_is) ∙ sym c.in_err-end.ensures.place in
    let no_text : short_text_at strings c.args.at c.args.limit ≡ None = no_text_near strings c.args.at c.args.limit none in
    search rules

pub returns : goal.returns
returns c =
    let strings = c.args.strings.now in
    let end = c.in_ok-end.end in
    let near : List ℕ = take (c.args.limit + 1) (drop c.args.at strings) in
    let rest_is : take (length strings - c.args.at) (drop c.args.at strings) ≡ drop c.args.at strings = rest_whole strings c.args.at in
    let near_is : c.bytes_through-near.result.now ≡ near = c.bytes_through-near.ensures ∙ ap (λ (rest : List ℕ). take (c.args.limit + 1) rest) rest_is in
    let found : position (λ byte. byte == 0) near ≡ Some end = ap (λ (bytes : List ℕ). position (λ byte. byte == 0) bytes) (sym near_is) ∙ sym c.in_ok-end.ensures.place in
    text_near strings c.args.at c.args.limit end found ∙ ap (λ (bytes : List ℕ). Some (take end bytes)) (sym near_is)
