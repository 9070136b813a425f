use Rattle.std.proofs.Common.{arith}
use Rattle.nova_log.proofs.Writing.{line_more}
use Rattle.nova_log.proofs.log_upgrade.lines.write_lines.Goals as goal

pub loop-n-preserved : goal.loop-n-preserved
loop-n-preserved c =
    let body = c.loop-n.invariant.body in
    record {
      body = line_more c.args.volume.now c.args.medium.now c.loop-n.medium c.write_line.new.self c.loop-n.n c.line_behind.result body
          (omega arith) (omega (arith, body.size, c.lines-n-end.ensures.count)) c.line_behind.ensures c.write_line.ensures.changed;
      whole = c.write_line.ensures.whole;
    }
