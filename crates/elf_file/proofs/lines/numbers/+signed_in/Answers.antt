use Rattle.std.proofs.Common.{◌≡◌, arith, subst, get_or, pos, ◌*ℤ◌, ◌+ℤ◌, ◌-◌, w64, Some, ℤ}
use Rattle.std.proofs.lemmas.Int.{to_z-of_z}
use Rattle.elf_file.specs.Numbers.{signed_64}
use Rattle.std.proofs.lemmas.List.{take_rest}
use Rattle.elf_file.proofs.Signed.{deeper}
use Rattle.elf_file.proofs.lines.numbers.+signed_in.Goals as goal

pub returns-clause-found : goal.returns-clause-found
returns-clause-found t c =
    let value : ℤ = c.in_ok-value.value in
    let new : Some value ≡ signed_64 (c.in_ok-high.high *ℤ pos 128 +ℤ pos (get_or c.args.bytes.now 0 0 - 128)) = subst (λ h. Some value ≡ signed_64 (h *ℤ pos 128 +ℤ pos (get_or c.args.bytes.now 0 0 - 128))) (to_z-of_z w64 c.in_ok-high.high (grind arith)) c.in_ok-value.ensures in
    rw (to_z-of_z w64 value (grind arith)) (deeper c.args.most c.args.bytes.now _ c.in_ok-high.high value c.in_ok-high.rest.now (grind arith) (grind arith) (grind arith) (take_rest c.args.bytes.now 1) c.in_ok-high.ensures.found new)
