use Rattle.std.proofs.Common.{◌≡◌, ◌∙◌, ◌⊎◌, inl, inr, refl, true, false, rules}
use Rattle.debugger.proofs.Runs.{no_run, run_joined}
use Rattle.debugger.proofs.Underway.{answered_more, begun, ended, ends_by_read, ends_by_write, failed_answer, failed_read}
use Rattle.debugger.proofs.sessions.dialogue.session_of.Goals as goal
use Rattle.debugger.proofs.sessions.dialogue.session_of.Goals.{then-not-goes_on-via-then-not-goes_on, then-not-goes_on-via-else-not-goes_on+then-read}

pub lines-init : goal.lines-init
lines-init g c = record {
  runs = no_run _ _ refl;
  underway = begun (g.C.Code.known c.args.code.now) _ c.new-input.result _ _;
  same_source = refl;
  same_sink = refl;
  source = refl;
  sink = refl;
}

pub returns-in-Err-clause-runs : goal.returns-in-Err-clause-runs
returns-in-Err-clause-runs g c = c.lines.invariant.runs

pub returns-in-Err-clause-same : goal.returns-in-Err-clause-same
returns-in-Err-clause-same g c = (c.read_line.ensures.same ∙ c.lines.invariant.same_source, c.lines.invariant.same_sink)

pub returns-in-Err-clause-err : goal.returns-in-Err-clause-err
returns-in-Err-clause-err g c =
    ends_by_read _ _ _ _ _ c.in-Err.unread c.in-Err.ensures.err c.lines.invariant.source c.lines.invariant.sink

pub returns-in-Err-clause-fails : goal.returns-in-Err-clause-fails
returns-in-Err-clause-fails g c =
    let sink = g.K.Sink.failures_of in
    let source = g.S.Source.failures_of in
    failed_read (g.C.Code.known c.args.code.now) _ _ c.lines.kept c.new-input.result c.lines.input c.read_line.new.self _ _ _ _ _ (sink c.args.sink.now) (sink c.lines.sink)
    (source c.lines.source) (source c.read_line.new.source) c.in-Err.unread c.new-input.ensures.ahead c.new-input.ensures.left c.lines.invariant.underway
    c.in-Err.ensures.part c.in-Err.ensures.err

pub returns-then-not-goes_on-clause-runs : goal.returns-then-not-goes_on-clause-runs
returns-then-not-goes_on-clause-runs g c = run_joined _ _ _ c.lines.invariant.runs c.answer_line.ensures.runs

pub returns-then-not-goes_on-clause-same : goal.returns-then-not-goes_on-clause-same
returns-then-not-goes_on-clause-same g c =
    (c.read_line.ensures.same ∙ c.lines.invariant.same_source, c.answer_line.ensures.same ∙ c.lines.invariant.same_sink)

pub returns-then-not-goes_on-clause-source : goal.returns-then-not-goes_on-clause-source
returns-then-not-goes_on-clause-source g c = c.in-Ok.ensures.ok ∙ c.lines.invariant.source

pub returns-then-not-goes_on-clause-sink : goal.returns-then-not-goes_on-clause-sink
returns-then-not-goes_on-clause-sink g c = c.in-Ok-answer_line.ensures.ok ∙ c.lines.invariant.sink

pub returns-then-not-goes_on-clause-session : goal.returns-then-not-goes_on-clause-session
returns-then-not-goes_on-clause-session g c =
    let over : (c.in-Ok-answer_line.goes_on ≡ false) ⊎ (c.in-Ok.read.is_last ≡ true) =
    elim c.then-not-goes_on.branch [
      | then-not-goes_on-via-then-not-goes_on w ↦ inl (search rules)
      | then-not-goes_on-via-else-not-goes_on+then-read w ↦ inr (search rules)
    ] in
    let answered = rw c.deref.ensures.value at c.in-Ok-answer_line.ensures.answered in
    ended (g.C.Code.known c.args.code.now) _ _ c.answer_line.new.debugger c.answer_line.new.kept c.new-input.result c.lines.input c.read_line.new.self _ _ _ _ _ _ c.in-Ok.read
    c.read_line.new.line.items c.in-Ok-answer_line.goes_on c.new-input.ensures.ahead c.new-input.ensures.left c.lines.invariant.underway
    c.in-Ok.ensures.line answered over

pub returns-in-Err-answer_line-clause-runs : goal.returns-in-Err-answer_line-clause-runs
returns-in-Err-answer_line-clause-runs g c = run_joined _ _ _ c.lines.invariant.runs c.answer_line.ensures.runs

pub returns-in-Err-answer_line-clause-same : goal.returns-in-Err-answer_line-clause-same
returns-in-Err-answer_line-clause-same g c =
    (c.read_line.ensures.same ∙ c.lines.invariant.same_source, c.answer_line.ensures.same ∙ c.lines.invariant.same_sink)

pub returns-in-Err-answer_line-clause-err : goal.returns-in-Err-answer_line-clause-err
returns-in-Err-answer_line-clause-err g c =
    ends_by_write _ _ _ _ _ c.in-Err-answer_line.fault c.in-Err-answer_line.ensures.err c.lines.invariant.sink
    (c.in-Ok.ensures.ok ∙ c.lines.invariant.source)

pub returns-in-Err-answer_line-clause-fails : goal.returns-in-Err-answer_line-clause-fails
returns-in-Err-answer_line-clause-fails g c =
    let arm = c.in-Err-answer_line in
    let sink = g.K.Sink.failures_of in
    let out = rw c.deref.ensures.value at arm.ensures.unanswered in
    let by = rw c.lines.invariant.sink at arm.ensures.err in
    failed_answer (g.C.Code.known c.args.code.now) _ _ c.answer_line.new.debugger c.answer_line.new.kept c.new-input.result c.lines.input c.read_line.new.self _ _ _ _ _ _
    (sink c.args.sink.now) (sink c.answer_line.new.sink) c.in-Ok.read c.read_line.new.line.items arm.fault c.new-input.ensures.ahead c.new-input.ensures.left
    c.lines.invariant.underway c.in-Ok.ensures.line out by

pub lines-preserved : goal.lines-preserved
lines-preserved g c =
    let on : c.in-Ok-answer_line.goes_on ≡ true = search rules in
    let further : c.in-Ok.read.is_last ≡ false = search rules in
    let answered = rw c.deref.ensures.value at c.in-Ok-answer_line.ensures.answered in
    record {
      runs = run_joined _ _ _ c.lines.invariant.runs c.answer_line.ensures.runs;
      underway = answered_more (g.C.Code.known c.args.code.now) _ _ _ c.new-input.result c.lines.input c.read_line.new.self _ _ _ _ _ _ c.in-Ok.read c.read_line.new.line.items
          c.in-Ok-answer_line.goes_on c.lines.invariant.underway c.in-Ok.ensures.line answered on further;
      same_source = c.read_line.ensures.same ∙ c.lines.invariant.same_source;
      same_sink = c.answer_line.ensures.same ∙ c.lines.invariant.same_sink;
      source = c.in-Ok.ensures.ok ∙ c.lines.invariant.source;
      sink = c.in-Ok-answer_line.ensures.ok ∙ c.lines.invariant.sink;
    }
