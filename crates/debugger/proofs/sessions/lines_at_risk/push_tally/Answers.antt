use Rattle.std.proofs.Common.{◌≡◌, ◌<◌, ◌∙◌, List, ℕ, arith, codes, string_bytes}
use Rattle.std.proofs.lemmas.Result.{on_ok_weaker}
use Rattle.debugger.proofs.Tallies.{line_pushed, when_ok}
use Rattle.debugger.proofs.sessions.lines_at_risk.push_tally.Goals as goal

pub returns : goal.returns
returns c =
    let less : c.args.tally.now.floor < c.args.tally.now.stores = omega arith in
    on_ok_weaker c.push_str.result (λ written p is.
    line_pushed (string_bytes c.args.text.now) (string_bytes c.write.new.self) (string_bytes c.push_waiting_cleans.new.text) (string_bytes c.push_str.new.self)
    c.args.line p c.args.tally.now less is c.in_ok-write.ensures.bytes c.in_ok-push_waiting_cleans.ensures written)
    (when_ok c.push_str.result _ _ _ c.push_str.ensures.bytes)
