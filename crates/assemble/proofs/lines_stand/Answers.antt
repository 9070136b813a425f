use Rattle.assemble.proofs.Standing.{line_stands, sizes}
use Rattle.std.proofs.Common.{subst}
use Rattle.assemble.specs.Assembly.{AreBytesOf, lines_back, values_of}
use Rattle.assemble.proofs.lines_stand.Goals as goal

pub returns-clause-lines : goal.returns-clause-lines
returns-clause-lines c = λ source object later earlier line a e. line_stands (values_of source) later earlier line object (subst (λ lines. AreBytesOf (values_of source) lines object) e a.lines)

pub returns-clause-sizes : goal.returns-clause-sizes
returns-clause-sizes c = λ source object section a. sizes (values_of source) (lines_back source) object section a.lines
