-- A name that begins with a dot, which is 46, is a directive or nothing.
use Rattle.std.proofs.Common.{◌≡◌, ℕ, ◌<◌, List, [], ◌∷◌, length, get_or, refl, sym, arith}
use Rattle.std.specs.Prelude.{Option, Some, None}
use Rattle.std.specs.Option.{option_or, option_and_then}
use Rattle.asm_lex.specs.Mnemonics.{mnemonic_of, operation_of, computation_of, transfer_of, special_of, pseudo_of, single_of, directive_of, upper_of, branch_of, load_of, store_of, immediate_of, shift_of, register_op_of, cache_of, system_of, atomic_of, atomic_mnemonic_of, form_of, formed, unary_of, zero_branch_of, exchanged_branch_of}
use Rattle.asm_lex.specs.declared.asm_names.kinds.NumberWidth.TheVariants.{Doubleword}
use Rattle.asm_lex.specs.declared.asm_names.mnemonic.Mnemonic.{Mnemonic}
use Rattle.asm_lex.specs.declared.asm_names.mnemonic.Mnemonic.TheVariants as mnemonics
use Rattle.asm_lex.specs.declared.asm_names.mnemonic.AtomicForm.{AtomicForm}

no_computation : (bs : List ℕ) → computation_of (46 ∷ bs) ≡ None
unfolding computation_of register_op_of immediate_of shift_of
no_computation bs = refl

no_transfer : (bs : List ℕ) → transfer_of (46 ∷ bs) ≡ None
unfolding transfer_of branch_of load_of store_of
no_transfer bs = refl

no_special : (bs : List ℕ) → special_of (46 ∷ bs) ≡ None
unfolding special_of upper_of cache_of system_of
no_special bs = refl

no_operation : (bs : List ℕ) → operation_of (46 ∷ bs) ≡ None
unfolding operation_of
no_operation bs = rw (no_computation bs, no_transfer bs, no_special bs) refl

no_single : (bs : List ℕ) → single_of (46 ∷ bs) ≡ None
unfolding single_of
no_single bs = refl

no_pseudo : (bs : List ℕ) → pseudo_of (46 ∷ bs) ≡ None
unfolding pseudo_of unary_of zero_branch_of exchanged_branch_of
no_pseudo bs = refl

-- nothing stands before the dot, which is no atomic instruction of any form
none_formed : (form : Option AtomicForm) → option_and_then (formed []) form ≡ None
unfolding atomic_of
none_formed None = refl
none_formed (Some form) = refl

no_atomic : (bs : List ℕ) → atomic_mnemonic_of (46 ∷ bs) ≡ None
unfolding atomic_mnemonic_of
no_atomic bs = none_formed (form_of (46 ∷ bs))

or_none : (found : Option Mnemonic) → option_or found None ≡ found
or_none None = refl
or_none (Some found) = refl

directive_or_nothing : (bs : List ℕ) → mnemonic_of (46 ∷ bs) ≡ directive_of (46 ∷ bs)
unfolding mnemonic_of
directive_or_nothing bs = rw (no_operation bs, no_single bs, no_pseudo bs, no_atomic bs) (or_none (directive_of (46 ∷ bs)))

pub dotted : (text : List ℕ) → 0 < length text → get_or text 0 0 ≡ 46 → directive_of text ≡ mnemonic_of text
dotted [] some first = absurd (omega arith)
dotted (b ∷ bs) some first = rw (first) (sym (directive_or_nothing bs))

-- the directives with the longest names
pub is_dword : (text : List ℕ) → length text ≡ 6 → get_or text 0 0 ≡ 46 → get_or text 1 0 ≡ 100 → get_or text 2 0 ≡ 119 → get_or text 3 0 ≡ 111 → get_or text 4 0 ≡ 114 → get_or text 5 0 ≡ 100
    → Some (mnemonics.Numbers Doubleword) ≡ directive_of text
unfolding directive_of
is_dword [] len h0 h1 h2 h3 h4 h5 = absurd (omega arith)
is_dword (a ∷ []) len h0 h1 h2 h3 h4 h5 = absurd (omega arith)
is_dword (a ∷ b ∷ []) len h0 h1 h2 h3 h4 h5 = absurd (omega arith)
is_dword (a ∷ b ∷ c ∷ []) len h0 h1 h2 h3 h4 h5 = absurd (omega arith)
is_dword (a ∷ b ∷ c ∷ d ∷ []) len h0 h1 h2 h3 h4 h5 = absurd (omega arith)
is_dword (a ∷ b ∷ c ∷ d ∷ e ∷ []) len h0 h1 h2 h3 h4 h5 = absurd (omega arith)
is_dword (a ∷ b ∷ c ∷ d ∷ e ∷ f ∷ []) len h0 h1 h2 h3 h4 h5 = rw (h0, h1, h2, h3, h4, h5) refl
is_dword (a ∷ b ∷ c ∷ d ∷ e ∷ f ∷ x ∷ xs) len h0 h1 h2 h3 h4 h5 = absurd (omega arith)

pub is_balign : (text : List ℕ) → length text ≡ 7 → get_or text 0 0 ≡ 46 → get_or text 1 0 ≡ 98 → get_or text 2 0 ≡ 97 → get_or text 3 0 ≡ 108 → get_or text 4 0 ≡ 105 → get_or text 5 0 ≡ 103 → get_or text 6 0 ≡ 110
    → Some (mnemonics.Align) ≡ directive_of text
unfolding directive_of
is_balign [] len h0 h1 h2 h3 h4 h5 h6 = absurd (omega arith)
is_balign (a ∷ []) len h0 h1 h2 h3 h4 h5 h6 = absurd (omega arith)
is_balign (a ∷ b ∷ []) len h0 h1 h2 h3 h4 h5 h6 = absurd (omega arith)
is_balign (a ∷ b ∷ c ∷ []) len h0 h1 h2 h3 h4 h5 h6 = absurd (omega arith)
is_balign (a ∷ b ∷ c ∷ d ∷ []) len h0 h1 h2 h3 h4 h5 h6 = absurd (omega arith)
is_balign (a ∷ b ∷ c ∷ d ∷ e ∷ []) len h0 h1 h2 h3 h4 h5 h6 = absurd (omega arith)
is_balign (a ∷ b ∷ c ∷ d ∷ e ∷ f ∷ []) len h0 h1 h2 h3 h4 h5 h6 = absurd (omega arith)
is_balign (a ∷ b ∷ c ∷ d ∷ e ∷ f ∷ g ∷ []) len h0 h1 h2 h3 h4 h5 h6 = rw (h0, h1, h2, h3, h4, h5, h6) refl
is_balign (a ∷ b ∷ c ∷ d ∷ e ∷ f ∷ g ∷ x ∷ xs) len h0 h1 h2 h3 h4 h5 h6 = absurd (omega arith)
