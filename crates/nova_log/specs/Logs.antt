-- The log of one inode of a volume.
-- Source: NOVA, FAST 2016: a log for each inode.
use Rattle.std.specs.Prelude.{ℕ, List, [], slice_index_or}
use Rattle.nova_log.specs.declared.volume.entry.Entry.{Entry}

-- the entries of the inode of this number, none where there is no such inode
abbrev pub log_of : List (List Entry) → ℕ → List Entry
log_of logs inode = slice_index_or logs inode []
