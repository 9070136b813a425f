-- Bytes of statements: their sizes, and the instructions of labels.
use Rattle.std.proofs.Common.{◌≡◌, ℕ, suc, ◌+◌, ◌*◌, ◌<◌, List, [], ◌∷◌, ◌++◌, length, take, get_or, refl, sym, ap, subst, ◌∙◌, arith, append_assoc, length-append}
use Rattle.std.specs.Prelude.{None, Ok, ℤ}
use Rattle.std.specs.List.{flat_map}
use Rattle.std.specs.Result.{result_err}
use Rattle.std.proofs.lemmas.List.{take_more, append-nil, length-replicate}
use Rattle.isa_table.specs.declared.instruction.Instr.{Instr}
use Rattle.isa_table.specs.declared.instruction.Instr.TheVariants as instrs
use Rattle.isa_table.specs.declared.instruction.UpperOp.TheVariants.{Auipc}
use Rattle.isa_table.specs.declared.instruction.ImmediateOp.TheVariants.{Addi}
use Rattle.isa_table.specs.declared.register.Reg.{Reg}
use Rattle.asm_lex.specs.declared.asm_names.kinds.NumberWidth.{NumberWidth}
use Rattle.asm_lex.specs.declared.asm_names.kinds.NumberWidth.TheVariants.{Byte, Half, Word, Doubleword}
use Rattle.assemble.specs.Meanings.{Meaning, nothing, instruction, pair, branch, jump, address, section, numbers, zeros, align, width_bytes}
use Rattle.assemble.specs.Numbers.{upper_half, lower_half}
use Rattle.assemble.specs.Appending.{Appends}
use Rattle.assemble.specs.Faults.{code_of_label}
use Rattle.assemble.specs.Places.{padding, size_at}
use Rattle.assemble.specs.SourceLines.{Values, distance, HasWord, HaveWords, HasAddress, HasBytes, number_bytes}

-- two words one after the other
pub both_words : (first second : Instr) (old middle new : List ℕ) → Appends old middle (HasWord first) → Appends middle new (HasWord second) → Appends old new (HaveWords first second)
both_words first second old middle new a b = record {
  bytes = a.bytes ++ b.bytes;
  whole = b.whole ∙ ap (λ m. m ++ b.bytes) a.whole ∙ append_assoc old a.bytes b.bytes;
  has = record { first_bytes = a.bytes; second_bytes = b.bytes; first_is = a.has; second_is = b.has; whole = refl };
}

-- numbers one after the other
flat_push : (f : ℕ → List ℕ) (xs : List ℕ) (x : ℕ) → flat_map f (xs ++ x ∷ []) ≡ flat_map f xs ++ f x
flat_push f [] x = append-nil (f x)
flat_push f (y ∷ xs) x = ap (λ bs. f y ++ bs) (flat_push f xs x) ∙ sym (append_assoc (f y) (flat_map f xs) (f x))

pub numbers_next : (f : ℕ → List ℕ) (old bytes more values : List ℕ) (k : ℕ) → k < length values
    → bytes ≡ old ++ flat_map f (take k values) → more ≡ bytes ++ f (get_or values k 0) → more ≡ old ++ flat_map f (take (k + 1) values)
numbers_next f old bytes more values k lt before here =
    here ∙ ap (λ bs. bs ++ f (get_or values k 0)) before
    ∙ append_assoc old (flat_map f (take k values)) (f (get_or values k 0))
    ∙ ap (λ bs. old ++ bs) (sym (flat_push f (take k values) (get_or values k 0)) ∙ ap (flat_map f) (sym (take_more values k 0 lt)))

-- the address of a label
pub address_words : (rd : Reg) (z : ℤ) (upper : ℕ) (lower : ℤ) (values : Values) (place : ℕ) (label old new : List ℕ)
    → distance values place label ≡ Ok z → upper ≡ upper_half z → lower ≡ lower_half z
    → Appends old new (HaveWords (instrs.Upper Auipc rd upper) (instrs.Immediate Addi rd rd lower)) → Appends old new (HasAddress values place rd label)
address_words rd z upper lower values place label old new far high low a = record {
  bytes = a.bytes;
  whole = a.whole;
  has = (
    z,
    far,
    subst (λ (n : ℕ). HaveWords (instrs.Upper Auipc rd n) (instrs.Immediate Addi rd rd (lower_half z)) a.bytes) high
        (subst (λ (y : ℤ). HaveWords (instrs.Upper Auipc rd upper) (instrs.Immediate Addi rd rd y) a.bytes) low a.has),
  );
}

-- a statement has as many bytes as its size
word_size : (instr : Instr) (bytes : List ℕ) → HasWord instr bytes → length bytes ≡ 4
word_size instr bytes w = ap length w.bytes_is

words_size : (first second : Instr) (bytes : List ℕ) → HaveWords first second bytes → length bytes ≡ 8
words_size first second bytes w =
    ap length w.whole ∙ length-append w.first_bytes w.second_bytes
    ∙ ap (λ n. n + length w.second_bytes) (word_size first w.first_bytes w.first_is)
    ∙ ap (λ n. 4 + n) (word_size second w.second_bytes w.second_is)

number_size : (width : NumberWidth) (n : ℕ) → length (number_bytes width n) ≡ width_bytes width
number_size Byte n = refl
number_size Half n = refl
number_size Word n = refl
number_size Doubleword n = refl

numbers_size : (width : NumberWidth) (ns : List ℕ) → length (flat_map (number_bytes width) ns) ≡ width_bytes width * length ns
numbers_size width [] = grind arith
numbers_size width (n ∷ ns) =
    let here = number_size width n in
    let rest = numbers_size width ns in
    let both = length-append (number_bytes width n) (flat_map (number_bytes width) ns) in
    let more : width_bytes width * suc (length ns) ≡ width_bytes width + width_bytes width * length ns = grind arith in
    both ∙ ap (λ k. k + length (flat_map (number_bytes width) ns)) here ∙ ap (λ k. width_bytes width + k) rest ∙ sym more

pub has_size : (values : Values) (place : ℕ) (m : Meaning) (bytes : List ℕ) → HasBytes values place m bytes → length bytes ≡ size_at place m
has_size values place nothing bytes h = ap length h
has_size values place (instruction instr) bytes h = word_size instr bytes h
has_size values place (pair first second) bytes h = words_size first second bytes h
has_size values place (branch op rs1 rs2 label) bytes h = word_size (instrs.Branch op rs1 rs2 h.0) bytes h.2
has_size values place (jump rd label) bytes h = word_size (instrs.Jump rd h.0) bytes h.2
has_size values place (address rd label) bytes h = words_size (instrs.Upper Auipc rd (upper_half h.0)) (instrs.Immediate Addi rd rd (lower_half h.0)) bytes h.2
has_size values place (section s) bytes h = ap length h
has_size values place (numbers width ns) bytes h = ap length h ∙ numbers_size width ns
has_size values place (zeros count) bytes h = ap length h ∙ length-replicate count 0
has_size values place (align boundary) bytes h = ap length h ∙ length-replicate (padding place boundary) 0

-- a statement that has bytes has no fault of a label
pub no_late : (values : Values) (place : ℕ) (m : Meaning) (bytes : List ℕ) → HasBytes values place m bytes → code_of_label values place m ≡ None
no_late values place nothing bytes h = refl
no_late values place (instruction instr) bytes h = refl
no_late values place (pair first second) bytes h = refl
no_late values place (branch op rs1 rs2 label) bytes h = ap result_err h.1
no_late values place (jump rd label) bytes h = ap result_err h.1
no_late values place (address rd label) bytes h = ap result_err h.1
no_late values place (section s) bytes h = refl
no_late values place (numbers width ns) bytes h = refl
no_late values place (zeros count) bytes h = refl
no_late values place (align boundary) bytes h = refl
