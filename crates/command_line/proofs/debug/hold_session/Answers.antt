use Rattle.std.proofs.Common.{inl, refl, rules}
use Rattle.command_line.proofs.Held.{held_of_file}
use Rattle.command_line.proofs.debug.hold_session.Goals as goal

pub returns : goal.returns
returns g c =
    held_of_file c.args.debug c.deref.result.now _ c.in_ok-places.places _ _ _ _ _ c.deref.ensures.value (search rules) c.in_ok-places.ensures.origins
    c.in_ok-places.ensures.names c.talk.ensures

pub returns-in_err-places : goal.returns-in_err-places
returns-in_err-places g c = inl (search (rules, c.from_residual.ensures), refl, refl)
