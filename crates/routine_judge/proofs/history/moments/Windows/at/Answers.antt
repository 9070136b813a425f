use Rattle.std.proofs.Common.{arith}
use Rattle.routine_judge.proofs.Marked.{not_true, true_of}
use Rattle.routine_judge.proofs.Telling.{sizes, told_either, told_itself, told_through}
use Rattle.routine_judge.proofs.history.moments.Windows.at.Goals as goal

pub first_pending-requires : goal.first_pending-requires
first_pending-requires c = omega (arith, c.requires.within, sizes c.args.events.now c.args.self.now.until.items c.requires.windows)

pub returns-in_default : goal.returns-in_default
returns-in_default c =
    told_itself c.args.events.now c.args.self.now.until.items c.args.moment c.requires.windows c.requires.within c.in_default.ensures

pub returns-then-is_alone : goal.returns-then-is_alone
returns-then-is_alone c =
    let alone = c.is_alone.ensures.0 (true_of c.is_alone.result c.if-is_alone.true) in
    told_either c.args.events.now c.args.self.now.until.items c.args.moment c.in-Some.first c.index.result.now c.min-after.result
    c.requires.windows c.requires.within c.in-Some.ensures c.index.ensures c.min-after.ensures alone

pub returns : goal.returns
returns c =
    told_through c.args.events.now c.args.self.now.until.items c.args.moment c.in-Some.first c.index.result.now c.min-after.result
    c.highest.result c.min.result c.requires.windows c.requires.within c.in-Some.ensures c.index.ensures c.min-after.ensures
    (λ a. not_true c.is_alone.result c.if-is_alone.false (c.is_alone.ensures.1 a)) c.highest.ensures c.min.ensures
