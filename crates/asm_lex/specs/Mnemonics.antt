-- The names of statements: mnemonics, pseudo-instructions and directives.
-- Source: RISC-V Unprivileged ISA 20191213, chapter 25 ("RISC-V Assembly Programmer's Handbook").
use Rattle.std.specs.Prelude.{ℕ, Bool, true, false, not, List, [], ◌∷◌, Option, Some, nat_eq, ◌==◌, take, drop, codes, find, option_map, if◌then◌else◌}
use Rattle.std.specs.Option.{option_or, option_and_then}
use Rattle.std.specs.List.{prefix_len}
use Rattle.std.specs.Cmp.Lexicographic.{pointwise}
use Rattle.isa_table.specs.Names.{upper_name, branch_name, load_name, store_name, immediate_name, shift_name, register_name, cache_name, system_name, atomic_name, atomic_suffix}
use Rattle.isa_table.specs.declared.instruction.UpperOp.{UpperOp}
use Rattle.isa_table.specs.declared.instruction.UpperOp.TheVariants.{Lui, Auipc}
use Rattle.isa_table.specs.declared.instruction.BranchOp.{BranchOp}
use Rattle.isa_table.specs.declared.instruction.BranchOp.TheVariants.{Beq, Bne, Blt, Bge, Bltu, Bgeu}
use Rattle.isa_table.specs.declared.instruction.LoadOp.{LoadOp}
use Rattle.isa_table.specs.declared.instruction.LoadOp.TheVariants.{Lb, Lh, Lw, Ld, Lbu, Lhu, Lwu}
use Rattle.isa_table.specs.declared.instruction.StoreOp.{StoreOp}
use Rattle.isa_table.specs.declared.instruction.StoreOp.TheVariants.{Sb, Sh, Sw, Sd}
use Rattle.isa_table.specs.declared.instruction.ImmediateOp.{ImmediateOp}
use Rattle.isa_table.specs.declared.instruction.ImmediateOp.TheVariants.{Addi, Slti, Sltiu, Xori, Ori, Andi, Addiw}
use Rattle.isa_table.specs.declared.instruction.ShiftOp.{ShiftOp}
use Rattle.isa_table.specs.declared.instruction.ShiftOp.TheVariants.{Slli, Srli, Srai, Slliw, Srliw, Sraiw}
use Rattle.isa_table.specs.declared.instruction.RegisterOp.{RegisterOp}
use Rattle.isa_table.specs.declared.instruction.RegisterOp.TheVariants.{Add, Sub, Sll, Slt, Sltu, Xor, Srl, Sra, Or, And, Addw, Subw, Sllw, Srlw, Sraw}
use Rattle.isa_table.specs.declared.instruction.CacheOp.{CacheOp}
use Rattle.isa_table.specs.declared.instruction.CacheOp.TheVariants.{Inval, Clean, Flush}
use Rattle.isa_table.specs.declared.instruction.AtomicWidth.{AtomicWidth}
use Rattle.isa_table.specs.declared.instruction.AtomicWidth.TheVariants as widths
use Rattle.isa_table.specs.declared.instruction.AtomicOp.{AtomicOp}
use Rattle.isa_table.specs.declared.instruction.AtomicOp.TheVariants.{Sc, Amoswap, Amoadd, Amoxor, Amoand, Amoor, Amomin, Amomax, Amominu, Amomaxu}
use Rattle.isa_table.specs.declared.instruction.SystemOp.{SystemOp}
use Rattle.isa_table.specs.declared.instruction.SystemOp.TheVariants.{Ecall, Ebreak}
use Rattle.asm_lex.specs.declared.asm_names.kinds.NumberWidth.TheVariants as numbers
use Rattle.asm_lex.specs.declared.asm_names.kinds.Section.TheVariants as sections
use Rattle.asm_lex.specs.declared.asm_names.mnemonic.AtomicForm.{AtomicForm}
use Rattle.asm_lex.specs.declared.asm_names.mnemonic.UnaryOp.{UnaryOp}
use Rattle.asm_lex.specs.declared.asm_names.mnemonic.UnaryOp.TheVariants.{Mv, Not, Neg, Negw, SextW, Seqz, Snez, Sltz, Sgtz}
use Rattle.asm_lex.specs.declared.asm_names.mnemonic.ZeroBranchOp.{ZeroBranchOp}
use Rattle.asm_lex.specs.declared.asm_names.mnemonic.ZeroBranchOp.TheVariants.{Beqz, Bnez, Blez, Bgez, Bltz, Bgtz}
use Rattle.asm_lex.specs.declared.asm_names.mnemonic.ExchangedBranchOp.{ExchangedBranchOp}
use Rattle.asm_lex.specs.declared.asm_names.mnemonic.ExchangedBranchOp.TheVariants.{Bgt, Ble, Bgtu, Bleu}
use Rattle.asm_lex.specs.declared.asm_names.mnemonic.Mnemonic.{Mnemonic}
use Rattle.asm_lex.specs.declared.asm_names.mnemonic.Mnemonic.TheVariants as mnemonics
use Rattle.asm_lex.specs.Registers.{row, named}

-- the one of these values that has this text as its name
abbrev pub by_name : {A : Type 0} → (A → List ℕ) → List A → List ℕ → Option A
by_name name values text = find (λ v. pointwise nat_eq text (name v)) values

-- the mnemonics of each shape
unfoldable pub upper_of : List ℕ → Option UpperOp
upper_of text = by_name upper_name (Lui ∷ Auipc ∷ []) text

unfoldable pub branch_of : List ℕ → Option BranchOp
branch_of text = by_name branch_name (Beq ∷ Bne ∷ Blt ∷ Bge ∷ Bltu ∷ Bgeu ∷ []) text

unfoldable pub load_of : List ℕ → Option LoadOp
load_of text = by_name load_name (Lb ∷ Lh ∷ Lw ∷ Ld ∷ Lbu ∷ Lhu ∷ Lwu ∷ []) text

unfoldable pub store_of : List ℕ → Option StoreOp
store_of text = by_name store_name (Sb ∷ Sh ∷ Sw ∷ Sd ∷ []) text

unfoldable pub immediate_of : List ℕ → Option ImmediateOp
immediate_of text = by_name immediate_name (Addi ∷ Slti ∷ Sltiu ∷ Xori ∷ Ori ∷ Andi ∷ Addiw ∷ []) text

unfoldable pub shift_of : List ℕ → Option ShiftOp
shift_of text = by_name shift_name (Slli ∷ Srli ∷ Srai ∷ Slliw ∷ Srliw ∷ Sraiw ∷ []) text

unfoldable pub register_op_of : List ℕ → Option RegisterOp
register_op_of text =
    by_name register_name
    (Add ∷ Sub ∷ Sll ∷ Slt ∷ Sltu ∷ Xor ∷ Srl ∷ Sra ∷ Or ∷ And ∷ Addw ∷ Subw ∷ Sllw ∷ Srlw ∷ Sraw ∷ []) text

unfoldable pub cache_of : List ℕ → Option CacheOp
cache_of text = by_name cache_name (Inval ∷ Clean ∷ Flush ∷ []) text

unfoldable pub system_of : List ℕ → Option SystemOp
system_of text = by_name system_name (Ecall ∷ Ebreak ∷ []) text

-- the atomics: a name goes up to the first dot, and what follows tells the width and the ordering
abbrev pub up_to_dot : List ℕ → ℕ
up_to_dot text = prefix_len (λ b. not (b == 46)) text

abbrev pub stem : List ℕ → List ℕ
stem text = take (up_to_dot text) text

abbrev pub suffix : List ℕ → List ℕ
suffix text = drop (up_to_dot text) text

abbrev pub form : AtomicWidth → Bool → Bool → AtomicForm
form width acquire release = record { width = width; acquire = acquire; release = release }

abbrev pub form_suffix : AtomicForm → List ℕ
form_suffix f = atomic_suffix f.width f.acquire f.release

unfoldable pub form_of : List ℕ → Option AtomicForm
form_of text =
    by_name form_suffix
    (form widths.Word false false ∷ form widths.Word true false
    ∷ form widths.Word false true ∷ form widths.Word true true
    ∷ form widths.Doubleword false false ∷ form widths.Doubleword true false
    ∷ form widths.Doubleword false true ∷ form widths.Doubleword true true ∷ []) text

unfoldable pub atomic_of : List ℕ → Option AtomicOp
atomic_of text =
    by_name atomic_name (Sc ∷ Amoswap ∷ Amoadd ∷ Amoxor ∷ Amoand ∷ Amoor ∷ Amomin ∷ Amomax ∷ Amominu ∷ Amomaxu ∷ []) text

-- an atomic instruction of this form, where the text is one's name without its form
abbrev pub formed : List ℕ → AtomicForm → Option Mnemonic
formed text f =
    if pointwise nat_eq text (codes "lr") then Some (mnemonics.LoadReserved f)
    else option_map (λ op. mnemonics.Atomic op f) (atomic_of text)

unfoldable pub atomic_mnemonic_of : List ℕ → Option Mnemonic
atomic_mnemonic_of text = option_and_then (formed (stem text)) (form_of (suffix text))

-- the pseudo-instructions with the operands `rd, rs`
unfoldable pub unary_of : List ℕ → Option UnaryOp
unary_of text = named (
    row (codes "mv") Mv ∷ row (codes "not") Not ∷ row (codes "neg") Neg ∷ row (codes "negw") Negw
    ∷ row (codes "sext.w") SextW ∷ row (codes "seqz") Seqz ∷ row (codes "snez") Snez
    ∷ row (codes "sltz") Sltz ∷ row (codes "sgtz") Sgtz ∷ []) text

-- the branches that compare a register with zero
unfoldable pub zero_branch_of : List ℕ → Option ZeroBranchOp
zero_branch_of text = named (
    row (codes "beqz") Beqz ∷ row (codes "bnez") Bnez ∷ row (codes "blez") Blez
    ∷ row (codes "bgez") Bgez ∷ row (codes "bltz") Bltz ∷ row (codes "bgtz") Bgtz ∷ []) text

-- the branches that stand for another one with its registers exchanged
unfoldable pub exchanged_branch_of : List ℕ → Option ExchangedBranchOp
exchanged_branch_of text = named (
    row (codes "bgt") Bgt ∷ row (codes "ble") Ble ∷ row (codes "bgtu") Bgtu ∷ row (codes "bleu") Bleu ∷ []) text

-- the other mnemonics and pseudo-instructions
unfoldable pub single_of : List ℕ → Option Mnemonic
single_of text = named (
    row (codes "jal") mnemonics.Jump ∷ row (codes "jalr") mnemonics.JumpRegister
    ∷ row (codes "fence") mnemonics.Fence ∷ row (codes "fence.i") mnemonics.FenceI
    ∷ row (codes "nop") mnemonics.Nop ∷ row (codes "ret") mnemonics.Return
    ∷ row (codes "j") mnemonics.PlainJump ∷ row (codes "jr") mnemonics.PlainJumpRegister
    ∷ row (codes "li") mnemonics.LoadNumber ∷ row (codes "la") mnemonics.LoadAddress ∷ []) text

-- the directives
unfoldable pub directive_of : List ℕ → Option Mnemonic
directive_of text = named (
    row (codes ".text") (mnemonics.Section sections.Text) ∷ row (codes ".data") (mnemonics.Section sections.Data)
    ∷ row (codes ".byte") (mnemonics.Numbers numbers.Byte) ∷ row (codes ".half") (mnemonics.Numbers numbers.Half)
    ∷ row (codes ".word") (mnemonics.Numbers numbers.Word) ∷ row (codes ".dword") (mnemonics.Numbers numbers.Doubleword)
    ∷ row (codes ".zero") mnemonics.Zeros ∷ row (codes ".balign") mnemonics.Align ∷ []) text

-- the first one, or else the second
infixl 10 ◌otherwise◌
abbrev pub ◌otherwise◌ : {A : Type 0} → Option A → Option A → Option A
a otherwise b = option_or a b

-- the mnemonics of families
unfoldable pub computation_of : List ℕ → Option Mnemonic
computation_of text =
    option_map mnemonics.Register (register_op_of text)
    otherwise option_map mnemonics.Immediate (immediate_of text)
    otherwise option_map mnemonics.Shift (shift_of text)

unfoldable pub transfer_of : List ℕ → Option Mnemonic
transfer_of text =
    option_map mnemonics.Branch (branch_of text)
    otherwise option_map mnemonics.Load (load_of text)
    otherwise option_map mnemonics.Store (store_of text)

unfoldable pub special_of : List ℕ → Option Mnemonic
special_of text =
    option_map mnemonics.Upper (upper_of text)
    otherwise option_map mnemonics.Cache (cache_of text)
    otherwise option_map mnemonics.System (system_of text)

unfoldable pub operation_of : List ℕ → Option Mnemonic
operation_of text = computation_of text otherwise transfer_of text otherwise special_of text

unfoldable pub pseudo_of : List ℕ → Option Mnemonic
pseudo_of text =
    option_map mnemonics.Unary (unary_of text)
    otherwise option_map mnemonics.ZeroBranch (zero_branch_of text)
    otherwise option_map mnemonics.ExchangedBranch (exchanged_branch_of text)

-- the statement that a name begins
unfoldable pub mnemonic_of : List ℕ → Option Mnemonic
mnemonic_of text =
    operation_of text
    otherwise single_of text
    otherwise pseudo_of text
    otherwise directive_of text
    otherwise atomic_mnemonic_of text
