use Rattle.std.proofs.Common.{◌≡◌}
use Rattle.debugger.specs.Running.{SomeRun}
use Rattle.debugger.proofs.Underway.{IsUnderway}
use Rattle.debugger.proofs.sessions.dialogue.session_of.Given as goal

abbrev pub invariant-lines : goal.invariant-lines
invariant-lines g l = record {
  runs : SomeRun l.fn.debugger.machine l.debugger.machine;
  underway : IsUnderway (g.C.Code.known l.code) l.fn.debugger (record { debugger = l.debugger; kept = l.kept }) l.initial.input l.input
      (g.S.Source.remaining_of l.fn.source) (g.S.Source.remaining_of l.source) (g.K.Sink.contents_of l.fn.sink) (g.K.Sink.contents_of l.sink);
  same_source : g.S.Source.name_of l.source ≡ g.S.Source.name_of l.fn.source;
  same_sink : g.K.Sink.name_of l.sink ≡ g.K.Sink.name_of l.fn.sink;
  source : g.S.Source.failures_of l.source ≡ g.S.Source.failures_of l.fn.source;
  sink : g.K.Sink.failures_of l.sink ≡ g.K.Sink.failures_of l.fn.sink;
}

abbrev pub decreases-lines : goal.decreases-lines
decreases-lines g l = l.input.left
