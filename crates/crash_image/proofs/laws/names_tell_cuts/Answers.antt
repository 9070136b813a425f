use Rattle.crash_image.proofs.Telling.{named_once, told_names}
use Rattle.crash_image.proofs.laws.names_tell_cuts.Goals as goal

pub returns-clause-told : goal.returns-clause-told
returns-clause-told c = told_names

pub returns-clause-once : goal.returns-clause-once
returns-clause-once c = named_once
