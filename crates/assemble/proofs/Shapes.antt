-- What the line of each shape of instruction says.
use Rattle.std.proofs.Common.{◌≡◌, ℕ, ◌-◌, ◌^◌, ◌<◌, ◌≤◌, Bool, true, false, List, [], ◌∷◌, ◌++◌, refl, arith}
use Rattle.std.specs.Prelude.{Some, None, Result, Ok, ℤ, pos, negsuc, int_le, unsigned_abs, codes}
use Rattle.std.proofs.lemmas.Int.{ints}
use Rattle.std.proofs.lemmas.Bool.Decides.{nat_tests}
use Rattle.isa_table.specs.Names.{atomic_name, atomic_suffix, ordering_suffix, mnemonic}
use Rattle.isa_table.specs.Operands.{shift_bits}
use Rattle.isa_table.specs.Ranges.{FitsBits, IsChecked}
use Rattle.isa_table.specs.declared.register.Reg.{Reg}
use Rattle.isa_table.specs.declared.instruction.Instr.{Instr}
use Rattle.isa_table.specs.declared.instruction.Instr.TheVariants.{Upper, Jump, JumpRegister, Branch, Load, Store, Immediate, Shift, Register, Fence, FenceI, Cache, LoadReserved, Atomic, System}
use Rattle.isa_table.specs.declared.instruction.UpperOp.TheVariants.{Lui}
use Rattle.isa_table.specs.declared.instruction.BranchOp.TheVariants.{Beq}
use Rattle.isa_table.specs.declared.instruction.LoadOp.TheVariants.{Lb}
use Rattle.isa_table.specs.declared.instruction.StoreOp.TheVariants.{Sb}
use Rattle.isa_table.specs.declared.instruction.ImmediateOp.TheVariants.{Addi}
use Rattle.isa_table.specs.declared.instruction.ShiftOp.{ShiftOp}
use Rattle.isa_table.specs.declared.instruction.ShiftOp.TheVariants.{Slli}
use Rattle.isa_table.specs.declared.instruction.RegisterOp.TheVariants.{Add}
use Rattle.isa_table.specs.declared.instruction.CacheOp.TheVariants.{Inval}
use Rattle.isa_table.specs.declared.instruction.AtomicWidth.{AtomicWidth}
use Rattle.isa_table.specs.declared.instruction.AtomicWidth.TheVariants.{Word, Doubleword}
use Rattle.isa_table.specs.declared.instruction.AtomicOp.{AtomicOp}
use Rattle.isa_table.specs.declared.instruction.AtomicOp.TheVariants.{Sc}
use Rattle.isa_table.specs.declared.instruction.SystemOp.TheVariants.{Ecall}
use Rattle.assemble.specs.Grammar.{statement_of}
use Rattle.asm_lex.specs.Kinds.{Lexeme, name, colon, comma}
use Rattle.assemble.specs.declared.asm_line.fault.AsmCode.{AsmCode}
use Rattle.assemble.specs.Lines.{body_of, line_of, lexemes_line, unlabelled}
use Rattle.assemble.specs.Meanings.{Meaning, instruction}
use Rattle.asm_lex.specs.Mnemonics.{upper_of, branch_of, load_of, store_of, immediate_of, shift_of, register_op_of, cache_of, system_of, computation_of, transfer_of, special_of, operation_of, single_of, unary_of, zero_branch_of, exchanged_branch_of, pseudo_of, directive_of, form, form_of, atomic_of, atomic_mnemonic_of, mnemonic_of}
use Rattle.assemble.specs.Numbers.{unsigned, negated, within}
use Rattle.decode.specs.Text.{register_text, operand_texts, text_of}
use Rattle.assemble.proofs.Names.{named}
use Rattle.assemble.proofs.Tokens.{WriteAll, between, tokens_of, text_tokens}
use Rattle.assemble.proofs.Operands.{is_colon, by_sign, signed_lexemes, address_lexemes, distance_lexemes, set_lexeme, number_reads, number_ends, within_reads, exact_reads, register_reads, target_reads, set_reads, signed_writes, register_writes, address_writes, place_writes, distance_writes, set_writes}

-- an integer between these, with a size that a word holds
pub record IsBetween (low high z : ℤ) : Type 0 where
  pub above : int_le low z ≡ true
  pub below : int_le z high ≡ true
  pub size : unsigned_abs z < 2 ^ 64

pub between_12 : (z : ℤ) → FitsBits 12 z → IsBetween (negsuc 2047) (pos 2047) z
between_12 z h = record { above = grind (arith, ints, nat_tests); below = grind (arith, ints, nat_tests); size = grind (arith, ints, nat_tests) }

pub between_13 : (z : ℤ) → FitsBits 13 z → IsBetween (negsuc 4095) (pos 4095) z
between_13 z h = record { above = grind (arith, ints, nat_tests); below = grind (arith, ints, nat_tests); size = grind (arith, ints, nat_tests) }

pub between_21 : (z : ℤ) → FitsBits 21 z → IsBetween (negsuc 1048575) (pos 1048575) z
between_21 z h = record { above = grind (arith, ints, nat_tests); below = grind (arith, ints, nat_tests); size = grind (arith, ints, nat_tests) }

between_up_to : (n m : ℕ) → n ≤ m → m < 2 ^ 64 → IsBetween (pos 0) (pos m) (pos n)
between_up_to n m h k = record { above = grind (arith, ints, nat_tests); below = grind (arith, ints, nat_tests); size = grind (arith, ints, nat_tests) }

pub between_reads : (low high z : ℤ) → IsBetween low high z → within (by_sign (λ n. unsigned (Some n)) (λ n. negated (Some n)) z) low high ≡ Ok z
between_reads low high z h = within_reads z low high h.above h.below

-- what a statement says, by its name and its operands: its clauses open what names and shapes of operands stand for
said : List ℕ → List Lexeme → Result Meaning AsmCode
unfolding upper_of branch_of load_of store_of immediate_of shift_of register_op_of cache_of system_of computation_of transfer_of special_of operation_of single_of unary_of zero_branch_of exchanged_branch_of pseudo_of directive_of atomic_of atomic_mnemonic_of mnemonic_of statement_of
said text ls = body_of (name text ∷ ls)

-- the end of an atomic instruction's name
form_reads : (w : AtomicWidth) (a r : Bool) → form_of (atomic_suffix w a r) ≡ Some (form w a r)
unfolding form_of
form_reads Word false false = refl
form_reads Word false true = refl
form_reads Word true false = refl
form_reads Word true true = refl
form_reads Doubleword false false = refl
form_reads Doubleword false true = refl
form_reads Doubleword true false = refl
form_reads Doubleword true true = refl

reserved_says : (end : List ℕ) (w : AtomicWidth) (a r : Bool) → form_of (46 ∷ end) ≡ Some (form w a r) → (rd rs1 : Reg) → said (codes "lr" ++ (46 ∷ end)) (name (register_text rd) ∷ comma ∷ address_lexemes rs1) ≡ Ok (instruction (LoadReserved w rd rs1 a r))
unfolding said
reserved_says end w a r is rd rs1 = rw (is, register_reads rd, register_reads rs1) refl

atomic_says : (op : AtomicOp) (end : List ℕ) (w : AtomicWidth) (a r : Bool) → form_of (46 ∷ end) ≡ Some (form w a r) → (rd rs1 rs2 : Reg) → said (atomic_name op ++ (46 ∷ end)) (name (register_text rd) ∷ comma ∷ name (register_text rs2) ∷ comma ∷ address_lexemes rs1) ≡ Ok (instruction (Atomic op w rd rs1 rs2 a r))
unfolding said
atomic_says Sc end w a r is rd rs1 rs2 = rw (is, register_reads rd, register_reads rs1, register_reads rs2) refl
atomic_says op end w a r is rd rs1 rs2 = rw (is, register_reads rd, register_reads rs1, register_reads rs2) refl

-- the lexemes of an instruction's operands
abbrev operand_lexemes : Instr → List (List Lexeme)
operand_lexemes (Upper op rd n) = (name (register_text rd) ∷ []) ∷ signed_lexemes (pos n) ∷ []
operand_lexemes (Jump rd z) = (name (register_text rd) ∷ []) ∷ distance_lexemes z ∷ []
operand_lexemes (JumpRegister rd rs1 z) = (name (register_text rd) ∷ []) ∷ (signed_lexemes z ++ address_lexemes rs1) ∷ []
operand_lexemes (Branch op rs1 rs2 z) = (name (register_text rs1) ∷ []) ∷ (name (register_text rs2) ∷ []) ∷ distance_lexemes z ∷ []
operand_lexemes (Load op rd rs1 z) = (name (register_text rd) ∷ []) ∷ (signed_lexemes z ++ address_lexemes rs1) ∷ []
operand_lexemes (Store op rs2 rs1 z) = (name (register_text rs2) ∷ []) ∷ (signed_lexemes z ++ address_lexemes rs1) ∷ []
operand_lexemes (Immediate op rd rs1 z) = (name (register_text rd) ∷ []) ∷ (name (register_text rs1) ∷ []) ∷ signed_lexemes z ∷ []
operand_lexemes (Shift op rd rs1 n) = (name (register_text rd) ∷ []) ∷ (name (register_text rs1) ∷ []) ∷ signed_lexemes (pos n) ∷ []
operand_lexemes (Register op rd rs1 rs2) = (name (register_text rd) ∷ []) ∷ (name (register_text rs1) ∷ []) ∷ (name (register_text rs2) ∷ []) ∷ []
operand_lexemes (Fence p s) = (set_lexeme p ∷ []) ∷ (set_lexeme s ∷ []) ∷ []
operand_lexemes FenceI = []
operand_lexemes (Cache op rs1) = address_lexemes rs1 ∷ []
operand_lexemes (LoadReserved w rd rs1 a r) = (name (register_text rd) ∷ []) ∷ address_lexemes rs1 ∷ []
operand_lexemes (Atomic op w rd rs1 rs2 a r) = (name (register_text rd) ∷ []) ∷ (name (register_text rs2) ∷ []) ∷ address_lexemes rs1 ∷ []
operand_lexemes (System op) = []

-- the bounds of a number as an instruction's check states them
pub upper_between : (n : ℕ) → n < 2 ^ 20 → IsBetween (pos 0) (pos 1048575) (pos n)
upper_between n h = between_up_to n 1048575 (omega arith) (omega arith)

pub shift_between : (op : ShiftOp) (n : ℕ) → n < 2 ^ shift_bits op → IsBetween (pos 0) (pos (2 ^ shift_bits op - 1)) (pos n)
shift_between Slli n h = between_up_to n 63 (omega arith) (omega arith)
shift_between op n h = between_up_to n (2 ^ shift_bits op - 1) (omega arith) (omega arith)

written : (i : Instr) → IsChecked i → WriteAll (operand_texts i) (operand_lexemes i)
written (Upper op rd n) h = (register_writes rd, (signed_writes (pos n) (upper_between n h.in_range).size, tt))
written (Jump rd z) h = (register_writes rd, (distance_writes z (between_21 z h.in_range).size, tt))
written (JumpRegister rd rs1 z) h = (register_writes rd, (place_writes z rs1 (between_12 z h.in_range).size, tt))
written (Branch op rs1 rs2 z) h = (register_writes rs1, (register_writes rs2, (distance_writes z (between_13 z h.in_range).size, tt)))
written (Load op rd rs1 z) h = (register_writes rd, (place_writes z rs1 (between_12 z h.in_range).size, tt))
written (Store op rs2 rs1 z) h = (register_writes rs2, (place_writes z rs1 (between_12 z h.in_range).size, tt))
written (Immediate op rd rs1 z) h = (register_writes rd, (register_writes rs1, (signed_writes z (between_12 z h.in_range).size, tt)))
written (Shift op rd rs1 n) h = (register_writes rd, (register_writes rs1, (signed_writes (pos n) (shift_between op n h.shift).size, tt)))
written (Register op rd rs1 rs2) h = (register_writes rd, (register_writes rs1, (register_writes rs2, tt)))
written (Fence p s) h = (set_writes p, (set_writes s, tt))
written FenceI h = tt
written (Cache op rs1) h = (address_writes rs1, tt)
written (LoadReserved w rd rs1 a r) h = (register_writes rd, (address_writes rs1, tt))
written (Atomic op w rd rs1 rs2 a r) h = (register_writes rd, (register_writes rs2, (address_writes rs1, tt)))
written (System op) h = tt

says : (i : Instr) → IsChecked i → said (mnemonic i) (between (operand_lexemes i)) ≡ Ok (instruction i)
unfolding said
says (Upper Lui rd n) h = rw (register_reads rd, between_reads _ _ (pos n) (upper_between n h.in_range)) refl
says (Upper op rd n) h = rw (register_reads rd, between_reads _ _ (pos n) (upper_between n h.in_range)) refl
says (Jump rd z) h = rw (target_reads z, register_reads rd, exact_reads z, (between_21 z h.in_range).above, (between_21 z h.in_range).below, h.even) refl
says (JumpRegister rd rs1 z) h = rw (number_reads z (address_lexemes rs1), register_reads rd, register_reads rs1, between_reads _ _ z (between_12 z h.in_range)) refl
says (Branch Beq rs1 rs2 z) h = rw (target_reads z, register_reads rs1, register_reads rs2, exact_reads z, (between_13 z h.in_range).above, (between_13 z h.in_range).below, h.even) refl
says (Branch op rs1 rs2 z) h = rw (target_reads z, register_reads rs1, register_reads rs2, exact_reads z, (between_13 z h.in_range).above, (between_13 z h.in_range).below, h.even) refl
says (Load Lb rd rs1 z) h = rw (number_reads z (address_lexemes rs1), register_reads rd, register_reads rs1, between_reads _ _ z (between_12 z h.in_range)) refl
says (Load op rd rs1 z) h = rw (number_reads z (address_lexemes rs1), register_reads rd, register_reads rs1, between_reads _ _ z (between_12 z h.in_range)) refl
says (Store Sb rs2 rs1 z) h = rw (number_reads z (address_lexemes rs1), register_reads rs2, register_reads rs1, between_reads _ _ z (between_12 z h.in_range)) refl
says (Store op rs2 rs1 z) h = rw (number_reads z (address_lexemes rs1), register_reads rs2, register_reads rs1, between_reads _ _ z (between_12 z h.in_range)) refl
says (Immediate Addi rd rs1 z) h = rw (number_ends z, register_reads rd, register_reads rs1, between_reads _ _ z (between_12 z h.in_range)) refl
says (Immediate op rd rs1 z) h = rw (number_ends z, register_reads rd, register_reads rs1, between_reads _ _ z (between_12 z h.in_range)) refl
says (Shift Slli rd rs1 n) h = rw (register_reads rd, register_reads rs1, between_reads _ _ (pos n) (shift_between Slli n h.shift)) refl
says (Shift op rd rs1 n) h = rw (register_reads rd, register_reads rs1, between_reads _ _ (pos n) (shift_between op n h.shift)) refl
says (Register Add rd rs1 rs2) h = rw (register_reads rd, register_reads rs1, register_reads rs2) refl
says (Register op rd rs1 rs2) h = rw (register_reads rd, register_reads rs1, register_reads rs2) refl
says (Fence p s) h = rw ((set_reads p).read (comma ∷ set_lexeme s ∷ []), (set_reads s).read []) refl
says FenceI h = refl
says (Cache Inval rs1) h = rw (register_reads rs1) refl
says (Cache op rs1) h = rw (register_reads rs1) refl
says (LoadReserved Word rd rs1 a r) h = reserved_says (119 ∷ ordering_suffix a r) Word a r (form_reads Word a r) rd rs1
says (LoadReserved Doubleword rd rs1 a r) h = reserved_says (100 ∷ ordering_suffix a r) Doubleword a r (form_reads Doubleword a r) rd rs1
says (Atomic op Word rd rs1 rs2 a r) h = atomic_says op (119 ∷ ordering_suffix a r) Word a r (form_reads Word a r) rd rs1 rs2
says (Atomic op Doubleword rd rs1 rs2 a r) h = atomic_says op (100 ∷ ordering_suffix a r) Doubleword a r (form_reads Doubleword a r) rd rs1 rs2
says (System Ecall) h = refl
says (System op) h = refl

-- no statement of an instruction is taken for a label
abbrev begins_colon : List Lexeme → Bool
begins_colon [] = false
begins_colon (l ∷ ls) = is_colon l

no_colon : (i : Instr) → begins_colon (between (operand_lexemes i)) ≡ false
no_colon (Fence p s) = (set_reads p).no_colon
no_colon i = refl

no_label : (text : List ℕ) (ls : List Lexeme) → begins_colon ls ≡ false → lexemes_line (name text ∷ ls) ≡ unlabelled (said text ls)
unfolding said
no_label text (colon ∷ ls) h = cc
no_label text ls h = refl

line_says : (line : List ℕ) (ls : List Lexeme) → tokens_of line ≡ Some ls → line_of line ≡ lexemes_line ls
unfolding line_of tokens_of
line_says line ls h = rw h refl

pub reads_back : (i : Instr) → IsChecked i → line_of (text_of i) ≡ Ok (record { label = None; meaning = instruction i })
reads_back i h =
    let ls = between (operand_lexemes i) in
    let tokens = text_tokens (mnemonic i) (name (mnemonic i)) (operand_texts i) (operand_lexemes i) (named i).run (named i).token (written i h) in
    rw (line_says (text_of i) (name (mnemonic i) ∷ ls) tokens, no_label (mnemonic i) ls (no_colon i), says i h) refl
