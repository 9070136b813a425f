use Rattle.durability.proofs.Leaving.{cuts_same, floors_same, images_same, writes_same}
use Rattle.durability.proofs.redundant.laws.needless_leave_cuts.Goals as goal

pub returns-clause-floors : goal.returns-clause-floors
returns-clause-floors c = λ events found f l m. floors_same events found f l m

pub returns-clause-stores : goal.returns-clause-stores
returns-clause-stores c = λ events found f l m. writes_same events found f l m

pub returns-clause-cuts : goal.returns-clause-cuts
returns-clause-cuts c = λ events found f m cut. cuts_same events found f m cut

pub returns-clause-images : goal.returns-clause-images
returns-clause-images c = λ events found f start k m. images_same events found f start k m
