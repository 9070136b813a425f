use Rattle.asm_lex.proofs.Cuts.{next_found}
use Rattle.asm_lex.proofs.scan.next_piece.Goals as goal

pub returns : goal.returns
returns c = next_found _ _ _ _ _ _ c.requires c.split_at.ensures.back c.blank_len-start.ensures.value c.split_at-2.ensures.back c.in_ok-len.ensures
