use Rattle.std.proofs.Common.{◌≢◌, Err, Ok, Some, string_bytes, rules}
use Rattle.debugger.specs.declared.fault.DebugFault.TheVariants as faults
use Rattle.debugger.proofs.Outcomes.{says_fault, says_part}
use Rattle.debugger.proofs.sessions.dialogue.answer_line.Goals as goal

pub returns-in-Ok-Some-Quit-clause-answered : goal.returns-in-Ok-Some-Quit-clause-answered
returns-in-Ok-Some-Quit-clause-answered g c = search rules

pub returns-in-Err-clause-answered : goal.returns-in-Err-clause-answered
returns-in-Err-clause-answered g c =
    let arm = c.in-Err in
    let other : arm.fault ≢ faults.Memory = search rules in
    let said = c.write_answer-in-Err.ensures in
    says_fault (g.C.Code.known c.args.code.now) string_bytes _ _ _ _ _ _ _ _ _ other c.fault_text.ensures said.goes_on said.written arm.ensures.comes_out

pub returns-in-Ok-Some-clause-unanswered : goal.returns-in-Ok-Some-clause-unanswered
returns-in-Ok-Some-clause-unanswered g c =
    let said = c.write_answer.ensures in
    says_part (g.C.Code.known c.args.code.now) string_bytes _ _ _ _ (Ok (Some c.in-Ok-Some.answer)) _ _ _ _ _ _ c.told_text.ensures said.unwritten said.front said.err (rw c.in-Ok-Some.field-0-is at c.in-Ok-Some.ensures.comes_out)

pub returns-in-Err-clause-unanswered : goal.returns-in-Err-clause-unanswered
returns-in-Err-clause-unanswered g c =
    let said = c.write_answer-in-Err.ensures in
    says_part (g.C.Code.known c.args.code.now) string_bytes _ _ _ _ (Err c.in-Err.fault) _ _ _ _ _ _ c.fault_text.ensures said.unwritten said.front said.err c.in-Err.ensures.comes_out
