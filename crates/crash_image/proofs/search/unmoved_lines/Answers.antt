use Rattle.std.proofs.Common.{◌≡◌, ℕ, [], length, refl, get_or, arith}
use Rattle.line_memory.specs.Lines.{line_at}
use Rattle.crash_image.specs.LeastCut.{IsSought}
use Rattle.crash_image.specs.declared.search.Sought.{Sought}
use Rattle.crash_image.proofs.Slices.{one_more}
use Rattle.crash_image.proofs.search.unmoved_lines.Goals as goal

pub loop-line-preserved : goal.loop-line-preserved
loop-line-preserved c = (
  omega (arith, c.in_ok-push.ensures.len, c.loop-line.invariant.0, c.loop-line.all.ok.0, c.push.new.self.ok.0),
  one_more (λ (k : ℕ) (sought : Sought). IsSought (line_at c.args.medium.now k) (line_at c.args.wanted.now k) (get_or c.args.floors.now k 0) k 0 [] sought)
      c.loop-line.all.items c.push.new.self.items c.loop-line.line c.unmoved.result c.loop-line.invariant.0 c.in_ok-push.ensures.items c.unmoved.ensures
      c.loop-line.invariant.1,
)

pub returns : goal.returns
returns c = λ low given.
    let all : c.loop-line.line ≡ length c.args.medium.now = omega (arith, c.loop-line-test.false, c.loop-line.auto.line-end, c.lines-line-end.ensures.count) in
    record {
      lines = refl;
      size = omega (arith, all, c.loop-line.invariant.0);
      shown_is = λ l h. refl;
      each = λ l d h. rw (given l 0 h) at (c.loop-line.invariant.1 l d (omega (arith, all, h)));
    }
