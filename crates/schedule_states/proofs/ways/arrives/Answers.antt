use Rattle.std.proofs.Common.{◌<◌, ℕ, List, [], take, slice_index_or, sym, ap, ◌∙◌}
use Rattle.std.proofs.lemmas.List.{take_more}
use Rattle.schedule_states.proofs.Marking.{walked_on, way_of}
use Rattle.schedule_states.specs.Ways.{walked}
use Rattle.schedule_states.proofs.ways.arrives.Goals as goal

pub loop-hart-preserved : goal.loop-hart-preserved
loop-hart-preserved c =
    let hart : ℕ = slice_index_or c.args.requests.now c.loop-hart.hart-index 0 in
    let few : hart < 8 = c.requires.harts c.loop-hart.hart-index 0 c.loop-hart-test.true in record {
      there = c.requires.inside c.loop-hart.at hart _ (way_of c.args.next.now c.loop-hart.at hart c.loop-hart.invariant.there few);
      is = ap (λ (n : ℕ). slice_index_or (slice_index_or c.args.next.now n []) hart 0) c.loop-hart.invariant.is
          ∙ sym (walked_on c.args.next.now 0 (take c.loop-hart.hart-index c.args.requests.now) hart)
          ∙ ap (λ (xs : List ℕ). walked c.args.next.now 0 xs) (sym (take_more c.args.requests.now c.loop-hart.hart-index 0 c.loop-hart-test.true));
    }
