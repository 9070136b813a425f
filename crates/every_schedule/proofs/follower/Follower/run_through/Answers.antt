use Rattle.std.proofs.Common.{◌≡◌, ◌+◌, ◌∷◌, ◌++◌, ℕ, [], slice_index_or, take}
use Rattle.std.proofs.lemmas.List.{take_more}
use Rattle.every_schedule.proofs.Asking.{requests_more}
use Rattle.every_schedule.proofs.follower.Follower.run_through.Goals as goal

pub loop-hart-init : goal.loop-hart-init
loop-hart-init c = c.in_ok-run_all_ahead.ensures

pub loop-hart-preserved : goal.loop-hart-preserved
loop-hart-preserved c =
    let hart : ℕ = slice_index_or c.args.harts.now c.loop-hart.hart-index 0 in
    let more : take (c.loop-hart.hart-index + 1) c.args.harts.now ≡ take c.loop-hart.hart-index c.args.harts.now ++ hart ∷ [] =
    take_more c.args.harts.now c.loop-hart.hart-index 0 c.loop-hart-test.true in
    rw more (requests_more c.args.self.now c.loop-hart.self c.make_request.new.self c.run_ahead.new.self (take c.loop-hart.hart-index c.args.harts.now) hart
    c.loop-hart.invariant c.in_ok-make_request.ensures c.in_ok-run_ahead.ensures)
