use Rattle.bus.proofs.Crews.{crew_more}
use Rattle.bus.proofs.crew.Crew.add.Goals as goal

pub returns-clause-crew : goal.returns-clause-crew
returns-clause-crew c = λ given seat crew its.
    crew_more c.args.word.now.table given c.args.self.now.children.items c.keep_child-is_kept.new.children.items c.args.self.now.ran.mine c.raise_unless.new.stop
    c.args.self.now.ran.is_whole c.are_both-self.result c.args.child c.keep_child-is_kept.result seat c.keep_child-is_kept.ensures
    c.raise_unless.ensures.table c.raise_unless.ensures.quiet c.raise_unless.ensures.raised c.are_both-self.ensures crew its
