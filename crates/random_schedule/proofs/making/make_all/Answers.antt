use Rattle.random_schedule.proofs.Final.{all_agree, all_made, has_begun}
use Rattle.random_schedule.proofs.making.make_all.Goals as goal

pub returns-in-Ok-clause-made : goal.returns-in-Ok-clause-made
returns-in-Ok-clause-made c =
    all_made c.args.machine _ c.take_turns.new.self c.args.numbers.now _ c.args.limit _ _ _ c.new-making.ensures c.requires c.in-Ok.ensures.taken c.in-Ok.ensures.over
    c.finish.ensures.schedule c.finish.ensures.steps c.finish.ensures.stores

pub returns-in-Ok-clause-ascending : goal.returns-in-Ok-clause-ascending
returns-in-Ok-clause-ascending c =
    rw c.finish.ensures.stores ((all_agree c.args.machine _ c.take_turns.new.self c.new-making.ensures c.in-Ok.ensures.agrees).ascending)

pub returns-in-Ok-clause-count : goal.returns-in-Ok-clause-count
returns-in-Ok-clause-count c =
    rw (c.finish.ensures.schedule, c.finish.ensures.steps) ((all_agree c.args.machine _ c.take_turns.new.self c.new-making.ensures c.in-Ok.ensures.agrees).count)

pub returns-in-Ok-clause-within : goal.returns-in-Ok-clause-within
returns-in-Ok-clause-within c =
    rw (c.finish.ensures.stores, c.finish.ensures.steps) ((all_agree c.args.machine _ c.take_turns.new.self c.new-making.ensures c.in-Ok.ensures.agrees).within)

pub returns-in-Err-clause-err : goal.returns-in-Err-clause-err
returns-in-Err-clause-err c = λ c' stands.
    c.in-Err.ensures.err c' c.args.numbers.now (rw c.new-making.ensures (has_begun c.args.machine c' c.args.numbers.now c.args.limit c.requires stands))
