use Rattle.std.proofs.Common.{◌≡◌, [], length}
use Rattle.std.specs.Prelude.{All}
use Rattle.std.specs.declared.alloc.Global.{Global}
use Rattle.std.specs.declared.vec.Vec.{Vec}
use Rattle.crash_image.specs.declared.trace_index.build.Clean.{Clean}
use Rattle.crash_image.proofs.trace_index.build.no_cleans.Given as goal

abbrev pub invariant-loop-hart : goal.invariant-loop-hart
invariant-loop-hart l = record {
  size : length l.made.items ≡ l._hart;
  empty : All (λ (cleans : Vec Clean Global). cleans.items ≡ []) l.made.items;
}
