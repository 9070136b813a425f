use Rattle.durability.proofs.Tellings.{completion_is_late}
use Rattle.durability.proofs.laws.completions_come_late.Goals as goal

pub returns : goal.returns
returns c = λ events moment hart line store fence high past done. completion_is_late events moment hart line store fence high past done
