-- The words of a program's text, and what is printed of one.
use Rattle.std.specs.Prelude.{◌≡◌, ℕ, ◌*◌, ◌-◌, ◌/◌, List, ◌++◌, Option, Some, None, All, codes, false, length, map, replicate}
use Rattle.std.specs.Fmt.{digits}
use Rattle.std.specs.List.{range_with_len}
use Rattle.decode.specs.Decoding.{Decodes}
use Rattle.decode.specs.Text.{text_of}
use Rattle.isa_table.specs.declared.instruction.Instr.{Instr}
use Rattle.report.specs.declared.disassembly.words.TextWord.{TextWord}
use Rattle.word_bits.specs.Bytes.{loaded}

-- word k of a text, whose words begin at each fourth byte
abbrev pub word_of : List ℕ → ℕ → ℕ
word_of text k = loaded text (4 * k) 4

-- all whole words of the text in order, each with the instruction that it spells, if it spells one
pub record AreWords (text : List ℕ) (words : List TextWord) : Type 0 where
  pub all : map (λ one. one.word) words ≡ map (word_of text) (range_with_len 0 (length text / 4))
  pub spelled : All (λ one. Decodes one.word one.instr) words

-- plain lower-case hexadecimal, and with zeros before it up to eight digits
abbrev pub hexadecimal : ℕ → List ℕ
hexadecimal n = digits 16 false n

abbrev pub eight_digits : ℕ → List ℕ
eight_digits word = replicate (8 - length (hexadecimal word)) 48 ++ hexadecimal word

abbrev pub spelled_text : ℕ → Option Instr → List ℕ
spelled_text word None = codes ".word 0x" ++ hexadecimal word
spelled_text word (Some instr) = text_of instr

-- the text of the instruction, and of a word of none `.word 0xW`
abbrev pub instruction_text : TextWord → List ℕ
instruction_text one = spelled_text one.word one.instr

-- the word's address, its eight digits, and its instruction
abbrev pub word_text : ℕ → TextWord → List ℕ
word_text address one =
    codes "0x" ++ (hexadecimal address ++ (codes " " ++ (eight_digits one.word ++ (codes " " ++ instruction_text one))))
