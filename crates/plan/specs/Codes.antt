-- The codes by which faults are known.
use Rattle.std.specs.Prelude.{ℕ, List, codes}
use Rattle.plan.specs.declared.fault.PlanCode.{PlanCode}
use Rattle.plan.specs.declared.fault.PlanCode.TheVariants as plans

-- of a line of a plan
abbrev pub plan_code : PlanCode → List ℕ
plan_code plans.Line = codes "L1"
plan_code plans.Twice = codes "L2"
plan_code plans.Inode = codes "L3"
plan_code plans.Name = codes "L4"
plan_code plans.Memory = codes "L5"
