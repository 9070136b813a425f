use Rattle.std.proofs.Common.{arith}
use Rattle.schedule_states.proofs.memory_lists.MemoryLists.bytes.Goals as goal

pub overflow_mul-result-2 : goal.overflow_mul-result-2
overflow_mul-result-2 c = omega (arith, c.wide.ensures.few)

pub overflow_add-result : goal.overflow_add-result
overflow_add-result c = omega (arith, c.count.type_inv, c.wide.ensures.few)

pub returns-clause-few : goal.returns-clause-few
returns-clause-few c = omega (arith, c.count.type_inv, c.wide.ensures.few)
