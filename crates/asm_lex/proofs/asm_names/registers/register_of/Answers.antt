use Rattle.asm_lex.specs.Registers.{register_of}
use Rattle.asm_lex.proofs.RegisterLemmas.{same_register}
use Rattle.asm_lex.proofs.asm_names.registers.register_of.Goals as goal

pub returns : goal.returns
unfolding register_of
returns c = rw (← c.in_ok-register_number.ensures) (same_register _ _ c.new.ensures.valid c.new.ensures.value)
