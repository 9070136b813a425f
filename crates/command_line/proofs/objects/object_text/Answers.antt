use Rattle.std.proofs.Common.{refl}
use Rattle.command_line.proofs.objects.object_text.Goals as goal

pub returns-in-Some : goal.returns-in-Some
returns-in-Some g c = rw (← c.in-Some.ensures) c.object_in.ensures

pub returns-in-None : goal.returns-in-None
returns-in-None g c = rw (← c.in-None.ensures) (record { value = c.refusal_json.ensures; untouched = refl })
