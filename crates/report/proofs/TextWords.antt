-- One more word of a text, and a word's eight digits.
use Rattle.std.proofs.Common.{◌≡◌, ◌∙◌, ℕ, ◌+◌, ◌-◌, ◌/◌, ◌<◌, ◌≤◌, ◌^◌, List, [], ◌∷◌, ◌++◌, Option, ap, sym, arith, false, get_or, length, map, replicate, take}
use Rattle.std.specs.Prelude.{All}
use Rattle.std.specs.Fmt.{char_count, digits, format_spec, padded_integral}
use Rattle.std.specs.List.{range_with_len}
use Rattle.std.proofs.lemmas.List.{append-nil, length-map, map_push, take_all, take_more}
use Rattle.std.proofs.lemmas.List.Elements.{All-append, All-cons, All-nil}
use Rattle.std.proofs.lemmas.List.FromFn.{get_or-map-range_with_len, length-map-range_with_len}
use Rattle.decode.specs.Decoding.{Decodes}
use Rattle.isa_table.specs.declared.instruction.Instr.{Instr}
use Rattle.report.specs.Words.{AreWords, eight_digits, hexadecimal, word_of}
use Rattle.report.specs.declared.disassembly.words.TextWord.{TextWord}

-- the first words of a text
pub record AreFirst (text : List ℕ) (count : ℕ) (words : List TextWord) : Type 0 where
  pub all : map (λ one. one.word) words ≡ take count (map (word_of text) (range_with_len 0 (length text / 4)))
  pub spelled : All (λ (one : TextWord). Decodes one.word one.instr) words

pub eight : (word : ℕ) → padded_integral (format_spec 32 0 4 8 (2 ^ 64 - 1)) false [] (digits 16 false word) ≡ eight_digits word
unfolding padded_integral char_count
eight word =
    let none : 8 - length (hexadecimal word) - 0 - 0 ≡ 8 - length (hexadecimal word) = omega arith in
    ap (λ (n : ℕ). replicate n 48 ++ (hexadecimal word ++ [])) none
    ∙ ap (λ (l : List ℕ). replicate (8 - length (hexadecimal word)) 48 ++ l) (append-nil (hexadecimal word))

length_all : (text : List ℕ) → length (map (word_of text) (range_with_len 0 (length text / 4))) ≡ length text / 4
length_all text = length-map-range_with_len (word_of text) 0 (length text / 4)

pub first_more : (text : List ℕ) (k word : ℕ) (instr : Option Instr) (words now : List TextWord) → k < length text / 4 → word ≡ word_of text k
    → Decodes word instr → AreFirst text k words → now ≡ words ++ record { word = word; instr = instr } ∷ [] → AreFirst text (k + 1) now
first_more text k word instr words now within is spells before more =
    let one : TextWord = record { word = word; instr = instr } in
    let every : List ℕ = map (word_of text) (range_with_len 0 (length text / 4)) in
    let here : get_or every k 0 ≡ word = get_or-map-range_with_len (word_of text) 0 (length text / 4) k k 0 within (omega arith) ∙ sym is in
    let all = map_push (λ (t : TextWord). t.word) words one
    ∙ ap (λ (l : List ℕ). l ++ word ∷ []) before.all
    ∙ ap (λ (w : ℕ). take k every ++ w ∷ []) (sym here)
    ∙ sym (take_more every k 0 (omega (arith, within, length_all text))) in
    rw more (record {
      all = all;
      spelled = All-append (λ (t : TextWord). Decodes t.word t.instr) words (one ∷ []) before.spelled
          (All-cons (λ (t : TextWord). Decodes t.word t.instr) one [] spells (All-nil (λ (t : TextWord). Decodes t.word t.instr)));
    })

pub first_all : (text : List ℕ) (k : ℕ) (words : List TextWord) → length text / 4 ≤ k → AreFirst text k words → AreWords text words
first_all text k words past first = record {
  all = first.all ∙ take_all k (map (word_of text) (range_with_len 0 (length text / 4))) (omega (arith, past, length_all text));
  spelled = first.spelled;
}

pub few_words : (text : List ℕ) (words : List TextWord) → AreWords text words → length words ≤ length text
few_words text words are =
    let count : length words ≡ length text / 4 = sym (length-map words (λ (t : TextWord). t.word)) ∙ ap length are.all ∙ length_all text in
    omega (arith, count)
