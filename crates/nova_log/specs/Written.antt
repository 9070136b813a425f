-- Which bytes stand where on a medium of layout 2 that holds these logs, each journal being empty.
-- Source: NOVA, FAST 2016: inodes with head and tail, and logs of linked 4 KB pages.
use Rattle.std.specs.Prelude.{ℕ, ◌+◌, ◌-◌, ◌*◌, ◌/◌, ◌%◌, leb, ltb, eqb, List, [], ◌∷◌, ◌++◌, Option, Some, None, cond, drop, length, map, replicate, slice_get, take}
use Rattle.std.specs.List.{range_with_len}
use Rattle.nova_log.specs.Fresh.{inode_line, superblock_line}
use Rattle.nova_log.specs.Layouts.{page_at}
use Rattle.nova_log.specs.Numbers.{bytes_of}
use Rattle.nova_log.specs.declared.layout.Layout.TheVariants.{Two}
use Rattle.nova_log.specs.Logs.{log_of}
use Rattle.nova_log.specs.declared.volume.entry.Entry.{Entry}
use Rattle.nova_log.specs.declared.volume.entry.EntryKind.{EntryKind}
use Rattle.nova_log.specs.declared.volume.entry.EntryKind.TheVariants.{Write, AddName, RemoveName}
use Rattle.nova_log.specs.Parts.{page_count, page_of, parts_of}
use Rattle.nova_log.specs.declared.log_upgrade.parts.Part.{Part}

-- a line that holds nothing
abbrev pub zero_line : List ℕ
zero_line = replicate 64 0

abbrev pub kind_number : EntryKind → ℕ
kind_number Write = 1
kind_number AddName = 2
kind_number RemoveName = 3

-- the 128 bytes of an entry: kind, length of the name, zeros, operation and value, the name, zeros
unfoldable pub entry_bytes : Entry → List ℕ
entry_bytes e =
    (kind_number e.kind ∷ length e.name ∷ replicate 6 0) ++ bytes_of (e.operation ∷ e.value ∷ [])
    ++ (e.name ++ replicate (104 - length e.name) 0)

-- the first or the second line of an entry, where there is one
abbrev pub entry_line : Option Entry → ℕ → List ℕ
entry_line None half = zero_line
entry_line (Some e) half = take 64 (drop (64 * half) (entry_bytes e))

-- the last part of a log
abbrev pub last_part : List (List Entry) → ℕ → ℕ
last_part logs inode = page_count (length (log_of logs inode)) - 1

-- the offset of the page after a part, or 0 after the last
abbrev pub link_after : List (List Entry) → Part → ℕ
link_after logs p = cond (ltb p.index (last_part logs p.inode)) (page_at (page_of (parts_of logs) p.inode (p.index + 1))) 0

-- the position after the last entry of a log, in the page of its last part
abbrev pub tail_of : List (List Entry) → ℕ → ℕ
tail_of logs inode =
    page_at (page_of (parts_of logs) inode (last_part logs inode)) + 128 * (length (log_of logs inode) - 31 * last_part logs inode)

-- a line of a page: 31 entries of two lines, the link, and one line more
unfoldable pub part_line : List (List Entry) → Part → ℕ → List ℕ
part_line logs p line =
    cond (ltb line 62) (entry_line (slice_get (log_of logs p.inode) (31 * p.index + line / 2)) (line % 2))
    (cond (eqb line 62) (bytes_of (link_after logs p ∷ []) ++ replicate 56 0) zero_line)

-- a line of a page that may have no part
abbrev pub page_line : List (List Entry) → Option Part → ℕ → List ℕ
page_line logs None line = zero_line
page_line logs (Some p) line = part_line logs p line

-- line n behind the superblock: the inodes, and from line 256 on the pages of 64 lines
unfoldable pub body_line : List (List Entry) → ℕ → List ℕ
body_line logs n =
    cond (leb n (length logs)) (inode_line (page_at (n - 1)) (tail_of logs (n - 1)))
    (cond (ltb n 256) zero_line (page_line logs (slice_get (parts_of logs) ((n - 256) / 64)) ((n - 256) % 64)))

-- line n of the medium
abbrev pub written_line : List (List Entry) → ℕ → ℕ → ℕ → List ℕ
written_line logs pages journals n = cond (eqb n 0) (superblock_line Two (length logs) pages journals) (body_line logs n)

-- the medium of so many lines
unfoldable pub written : List (List Entry) → ℕ → ℕ → ℕ → List (List ℕ)
written logs pages journals count = map (written_line logs pages journals) (range_with_len 0 count)
