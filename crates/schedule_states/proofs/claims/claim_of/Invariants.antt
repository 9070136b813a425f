use Rattle.std.proofs.Common.{◌≡◌, drop}
use Rattle.schedule_states.specs.Claims.{claim_in}
use Rattle.schedule_states.proofs.claims.claim_of.Given as goal

abbrev pub invariant-loop-claimed : goal.invariant-loop-claimed
invariant-loop-claimed l = claim_in l.claims l.line ≡ claim_in (drop l.claimed-index l.claims) l.line
