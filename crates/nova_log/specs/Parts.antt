-- How logs lie in pages of layout 2: each log is cut into parts of 31 entries, and each part has a page.
-- Source: NOVA, FAST 2016: logs of linked 4 KB pages.
use Rattle.std.specs.Prelude.{ℕ, ◌-◌, max, Bool, ◌&&◌, eqb, List, ◌++◌, length, map}
use Rattle.std.specs.Int.{div_ceil}
use Rattle.std.specs.List.{flat_map, position_or_len, range_with_len}
use Rattle.nova_log.specs.Logs.{log_of}
use Rattle.nova_log.specs.declared.volume.entry.Entry.{Entry}
use Rattle.nova_log.specs.declared.log_upgrade.parts.Part.{Part}

-- the pages of a log of so many entries: 31 in each, and one page at least
abbrev pub page_count : ℕ → ℕ
page_count entries = max 1 (div_ceil entries 31)

-- part `index` of the log of an inode
abbrev pub part : ℕ → ℕ → Part
part inode index = record { inode = inode; index = index }

-- the parts of a log after its first
abbrev pub further_parts : List (List Entry) → ℕ → List Part
further_parts logs inode = map (part inode) (range_with_len 1 (page_count (length (log_of logs inode)) - 1))

-- the parts in the order of their pages: the first one of each log, and then log by log the further ones
unfoldable pub parts_of : List (List Entry) → List Part
parts_of logs =
    map (λ inode. part inode 0) (range_with_len 0 (length logs))
    ++ flat_map (further_parts logs) (range_with_len 0 (length logs))

-- whether a part is this one
abbrev pub is_part : ℕ → ℕ → Part → Bool
is_part inode index p = eqb p.inode inode && eqb p.index index

-- the page of a part: its place among all
abbrev pub page_of : List Part → ℕ → ℕ → ℕ
page_of parts inode index = position_or_len (is_part inode index) parts
