-- A register and its number.
use Rattle.std.proofs.Common.{◌≡◌, ℕ, ◌<◌, Bool, true, false, refl, ap, subst, arith, ltb-true, ltb-false}
use Rattle.std.specs.Prelude.{Some, None, Option, IsSome, IfSome, ◌↔◌, nat_lt}
use denote.Struct.Props.{props}
use Rattle.isa_table.specs.declared.register.Reg.{Reg}
use Rattle.asm_lex.specs.Registers.{register, register_if, zero_register, return_register}

same_bound : (n : ℕ) (h g : n < 32) → h ≡ g
same_bound n = let p : IsProp (n < 32) = hlevel props in p

-- two registers of one number are one
same_reg : (a b : Reg) → a.number ≡ b.number → a ≡ b
same_reg a b e =
    let P : ℕ → Type 0 = λ n. (g : n < 32) → a ≡ record { number = n; in_range = g } in
    subst P e (λ g. ap (λ (h : a.number < 32). let r : Reg = record { number = a.number; in_range = h } in r) (same_bound a.number a.in_range g)) b.in_range

found : (number : ℕ) (r : Reg) (t : Bool) (is : nat_lt number 32 ≡ t) → number < 32 → r.number ≡ number → Some r ≡ register_if number t is
found number r true is below same = ap Some (same_reg r (record { number = number; in_range = ltb-true number 32 is }) same)
found number r false is below same = absurd (omega (arith, ltb-false number 32 is))

not_found : (number : ℕ) (t : Bool) (is : nat_lt number 32 ≡ t) → (number < 32 → IsSome {T = Reg} None) → None ≡ register_if number t is
not_found number true is all = let some = all (ltb-true number 32 is) in cc
not_found number false is all = refl

pub same_register : (number : ℕ) (r : Option Reg) → (IsSome r ↔ (number < 32)) → IfSome r (λ reg. reg.number ≡ number) → r ≡ register number
unfolding register
same_register number (Some r) valid value = found number r (nat_lt number 32) refl (valid.0 refl) value
same_register number None valid value = not_found number (nat_lt number 32) refl valid.1

-- the registers x0 and x1
pub same_zero : (r : Reg) → r.number ≡ 0 → r ≡ zero_register
same_zero r e = same_reg r zero_register e

pub same_return : (r : Reg) → r.number ≡ 1 → r ≡ return_register
same_return r e = same_reg r return_register e
