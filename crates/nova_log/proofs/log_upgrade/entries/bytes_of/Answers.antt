use Rattle.std.proofs.Common.{length, ◌∙◌}
use Rattle.nova_log.specs.Written.{entry_bytes, kind_number}
use Rattle.nova_log.proofs.Making.{entry_written}
use Rattle.nova_log.proofs.log_upgrade.entries.bytes_of.Goals as goal

pub returns : goal.returns
unfolding entry_bytes
returns c =
    let e = c.args.entry.now in
    c.replace_bytes.ensures
    ∙ rw (c.store_bytes-2.ensures, c.store_bytes.ensures, c.kind_number.ensures, c.as_bytes-name.ensures.value)
    (entry_written (kind_number e.kind) (length e.name) e.operation e.value e.name)
