use Rattle.std.proofs.Common.{◌≡◌, ◌∙◌, ◌++◌, ℕ, length, take, drop, sym, ap, rules}
use Rattle.std.proofs.Math.Seq.{take-append_seam}
use Rattle.schedule_states.proofs.moments.fn.judge_and_look.join_mut+arg2.Goals as goal

pub returns : goal.returns
returns g c =
    let whole : length c.look_at.new.turns ≡ c.captures.turns.now.len = search rules in
    let same : take c.captures.turns.now.len (c.look_at.new.turns ++ drop (length c.look_at.new.turns) c.captures.turns.now.items) ≡ c.look_at.new.turns =
    ap (λ (n : ℕ). take n (c.look_at.new.turns ++ drop (length c.look_at.new.turns) c.captures.turns.now.items)) (sym whole)
    ∙ take-append_seam c.look_at.new.turns (drop (length c.look_at.new.turns) c.captures.turns.now.items) in
    rw same c.look_at.ensures.known
