use Rattle.nova_log.proofs.Names.{stored_name}
use Rattle.nova_log.proofs.volume.name.Name.from_bytes.Goals as goal

pub invariant_of-result : goal.invariant_of-result
invariant_of-result c = stored_name _ _ _ c.copy_from_slice.ensures.after c.split_at_mut-front.ensures.back c.requires
