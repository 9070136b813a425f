use Rattle.text.specs.Texts.{image_text}
use Rattle.text.proofs.OneReading.{one_name}
use Rattle.text.proofs.Written.{read_again}
use Rattle.text.proofs.image_name.laws.written_is_read.Goals as goal

pub returns-clause-read : goal.returns-clause-read
returns-clause-read c = read_again

pub returns-clause-only : goal.returns-clause-only
returns-clause-only c = λ name other proper is. one_name (image_text name) other name is (read_again name proper)
