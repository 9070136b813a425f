-- What is printed of the volume on a medium.
use Rattle.std.specs.Prelude.{◌≡◌, ℕ, List, ◌++◌, Ok, codes, decimal, length}
use Rattle.std.specs.List.{enumerate_from, flat_map}
use Rattle.std.specs.Option.{unwrap_or}
use Rattle.line_memory.specs.Lines.{line_at}
use Rattle.nova_log.specs.Superblocks.{geometry_in, layout_of}
use Rattle.nova_log.specs.Volumes.{volume_of}
use Rattle.nova_log.specs.declared.layout.Layout.{Layout}
use Rattle.nova_log.specs.declared.layout.Layout.TheVariants.{One, Two}
use Rattle.nova_log.specs.declared.superblock.Geometry.{Geometry}
use Rattle.nova_log.specs.declared.volume.entry.Entry.{Entry}
use Rattle.nova_log.specs.declared.volume.entry.EntryKind.{EntryKind}
use Rattle.nova_log.specs.declared.volume.entry.EntryKind.TheVariants.{Write, AddName, RemoveName}
use Rattle.report.specs.Names.{name_text}
use Rattle.report.specs.Rows.{line_end}

abbrev pub number_of : Layout → ℕ
number_of One = 1
number_of Two = 2

-- the number of the layout of a first line: of its magic, as `geometry_in` has it
abbrev pub layout_number : List ℕ → ℕ
layout_number first = number_of (unwrap_or (layout_of first) One)

-- `layout L inodes I pages P journals J`
abbrev pub head_of : ℕ → Geometry → List ℕ
head_of layout g = codes "layout " ++ (decimal layout ++ (codes " inodes " ++ (decimal g.inodes
    ++ (codes " pages " ++ (decimal g.pages ++ (codes " journals " ++ (decimal g.journals ++ line_end)))))))

-- by the first line of the medium
abbrev pub head_line : List ℕ → List ℕ
head_line first = head_of (layout_number first) (geometry_in first)

-- `append`, `add NAME` or `remove NAME`
abbrev pub change_text : EntryKind → List ℕ → List ℕ
change_text Write name = codes "append"
change_text AddName name = codes "add " ++ name_text name
change_text RemoveName name = codes "remove " ++ name_text name

-- `op=N`, what it says, and `value=V`
abbrev pub entry_line : Entry → List ℕ
entry_line e = codes "op=" ++ (decimal e.operation ++ (codes " " ++ (change_text e.kind e.name ++ (codes " value=" ++ (decimal e.value ++ line_end)))))

abbrev pub entries_text : List Entry → List ℕ
entries_text log = flat_map entry_line log

-- `inode N: K entries`, and a line for each of them, the oldest first
abbrev pub inode_text : ℕ → List Entry → List ℕ
inode_text inode log = codes "inode " ++ (decimal inode ++ (codes ": " ++ (decimal (length log) ++ (codes " entries" ++ (line_end ++ entries_text log)))))

abbrev pub numbered_inode : ℕ × List Entry → List ℕ
numbered_inode one = inode_text one.0 one.1

-- of each inode, upwards
abbrev pub inodes_text : List (List Entry) → List ℕ
inodes_text logs = flat_map numbered_inode (enumerate_from 0 logs)

-- what is printed of the volume that recovery finds on the medium with these lines
abbrev pub IsVolumeText : List (List ℕ) → List ℕ → Type 0
IsVolumeText lines text =
    (logs : List (List Entry)) × (volume_of lines ≡ Ok logs) × (text ≡ head_line (line_at lines 0) ++ inodes_text logs)
