-- Where a line ends, and what one more register, or one more byte, adds to an answer.
use Rattle.std.proofs.Common.{◌≡◌, ◌∙◌, ℕ, zero, suc, ◌+◌, List, [], ◌∷◌, ◌++◌, ap, sym, append_assoc, arith, rules, codes, length, get_or, take, ◌<◌}
use Rattle.std.specs.List.{flat_map, range_with_len}
use Rattle.std.proofs.lemmas.Grind.{flat_map-append}
use Rattle.std.proofs.lemmas.List.{map-append, take_more}
use Rattle.hart.specs.Registers.{register}
use Rattle.hart.specs.declared.state.HartState.{HartState}
use Rattle.hart.specs.HartLines.{hexadecimal}
use Rattle.machine.specs.Represents.{MachineView}
use Rattle.debugger.specs.Answers.{changed_register, changed_text, line_of, parted_byte, register_line}
use Rattle.debugger.specs.Help.{Row, Texts, help_line, help_lines, texts_of_row, texts_of_rows}
use Rattle.debugger.specs.CommandEffects.{byte_at}

-- a line of several parts ends behind the last
pub end_of_line : (front middle last : List ℕ) → front ++ (middle ++ line_of last) ≡ line_of (front ++ (middle ++ last))
end_of_line front middle last =
    ap (λ (l : List ℕ). front ++ l) (sym (append_assoc middle last (10 ∷ []))) ∙ sym (append_assoc front (middle ++ last) (10 ∷ []))

append_none : (xs : List ℕ) → xs ++ [] ≡ xs
append_none xs = search rules

range_more : (f : ℕ → List ℕ) (a n j : ℕ) → a + n ≡ j → flat_map f (range_with_len a (suc n)) ≡ flat_map f (range_with_len a n) ++ f j
range_more f a zero j e = append_none (f a) ∙ ap f (omega arith)
range_more f a (suc n) j e =
    ap (λ (l : List ℕ). f a ++ l) (range_more f (a + 1) n j (omega arith)) ∙ sym (append_assoc (f a) (flat_map f (range_with_len (a + 1) n)) (f j))

pub texts_more : (f : ℕ → List ℕ) (n : ℕ) → flat_map f (range_with_len 0 (n + 1)) ≡ flat_map f (range_with_len 0 n) ++ f n
texts_more f n =
    let e : n + 1 ≡ suc n = omega arith in
    ap (λ (k : ℕ). flat_map f (range_with_len 0 k)) e ∙ range_more f 0 n n (omega arith)

-- the text of a state up to a register
abbrev pub registers_below : HartState → ℕ → List ℕ
registers_below state number = line_of (codes "pc=0x" ++ hexadecimal state.pc)
    ++ flat_map (λ n. register_line n (register state.registers n)) (range_with_len 0 number)

pub registers_more : (state : HartState) (number : ℕ)
    → registers_below state (number + 1) ≡ registers_below state number ++ register_line number (register state.registers number)
registers_more state number =
    let f : ℕ → List ℕ = λ n. register_line n (register state.registers n) in
    let front : List ℕ = line_of (codes "pc=0x" ++ hexadecimal state.pc) in
    ap (λ (l : List ℕ). front ++ l) (texts_more f number) ∙ sym (append_assoc front (flat_map f (range_with_len 0 number)) (f number))

-- the text of bytes up to a place
abbrev pub bytes_below : MachineView → ℕ → ℕ → List ℕ
bytes_below machine address place = flat_map (λ k. parted_byte k (byte_at machine (address + k))) (range_with_len 0 place)

pub bytes_more : (machine : MachineView) (address place : ℕ)
    → bytes_below machine address (place + 1) ≡ bytes_below machine address place ++ parted_byte place (byte_at machine (address + place))
bytes_more machine address place = texts_more (λ k. parted_byte k (byte_at machine (address + k))) place

-- what a step has changed up to a register
pub changes_begun : (front : List ℕ) (before after : HartState) → front ≡ front ++ changed_text before after 0
unfolding changed_text
changes_begun front before after = sym (append_none front)

pub changes_more : (front old new : List ℕ) (before after : HartState) (number : ℕ) → old ≡ front ++ changed_text before after number
    → new ≡ old ++ changed_register before after number → new ≡ front ++ changed_text before after (number + 1)
unfolding changed_text
changes_more front old new before after number so_far is =
    let f : ℕ → List ℕ = changed_register before after in
    let below : List ℕ = flat_map f (range_with_len 0 number) in
    is ∙ ap (λ (l : List ℕ). l ++ f number) so_far ∙ append_assoc front below (f number)
    ∙ ap (λ (l : List ℕ). front ++ l) (sym (texts_more f number))

-- the list of commands up to a row
pub help_more : (rows : List Row) (i : ℕ) (d : Row) → i < length rows
    → help_lines (texts_of_rows (take (i + 1) rows)) ≡ help_lines (texts_of_rows (take i rows)) ++ help_line (texts_of_row (get_or rows i d))
help_more rows i d h = ap (λ (l : List Row). help_lines (texts_of_rows l)) (take_more rows i d h)
    ∙ ap (λ (l : List Texts). help_lines l) (map-append texts_of_row (take i rows) (get_or rows i d ∷ []))
    ∙ flat_map-append help_line (texts_of_rows (take i rows)) (texts_of_row (get_or rows i d) ∷ [])
    ∙ ap (λ (l : List ℕ). help_lines (texts_of_rows (take i rows)) ++ l) (append_none (help_line (texts_of_row (get_or rows i d))))
