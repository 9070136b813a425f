use Rattle.std.proofs.Common.{◌∙◌, ◌++◌, ℕ, List, ap, sym, arith, get_or}
use Rattle.command_line.specs.Replies.{rank_of}
use Rattle.command_line.proofs.Replies.{rank_more}
use Rattle.command_line.proofs.replying.ranks_of.Goals as goal

pub loop-line-preserved : goal.loop-line-preserved
loop-line-preserved c =
    let more = rank_more c.args.names.now c.args.lines.now c.loop-line.line-index (omega (arith, c.loop-line-test.true)) in (
      c.in_ok-push_rank.ensures.rank
          ∙ ap (λ (l : List ℕ). l ++ rank_of c.args.names.now (get_or c.args.lines.now c.loop-line.line-index 0)) c.loop-line.invariant.0 ∙ sym more,
      c.in_ok-push_rank.ensures.there c.loop-line.invariant.1,
    )
