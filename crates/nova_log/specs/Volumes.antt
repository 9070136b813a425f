-- The volume of a medium: the log of each inode, or the first fault that recovery finds.
-- Source: NOVA, FAST 2016: recovery replays the journals and walks the log of each inode.
use Rattle.std.specs.Prelude.{ℕ, List, [], ◌∷◌, ◌++◌, map, Option, Some, None, Result, Ok, Err}
use Rattle.std.specs.List.{flat_map, range_with_len}
use Rattle.nova_log.specs.Chains.{chain, link_questions}
use Rattle.nova_log.specs.Entries.{entry_at, entry_questions}
use Rattle.nova_log.specs.Inodes.{inode_questions, inodes_of}
use Rattle.nova_log.specs.Journals.{journal_questions}
use Rattle.nova_log.specs.Questions.{Question, first_fault, lines_asked}
use Rattle.nova_log.specs.Superblocks.{geometry_of, superblock_question}
use Rattle.nova_log.specs.declared.fault.VolumeFault.{VolumeFault}
use Rattle.nova_log.specs.declared.inode.Inode.{Inode}
use Rattle.nova_log.specs.declared.superblock.Geometry.{Geometry}
use Rattle.nova_log.specs.declared.volume.entry.Entry.{Entry}

-- the positions of the entries of an inode's log, in order
abbrev pub positions_of : Geometry → List (List ℕ) → Inode → List ℕ
positions_of g lines inode = chain g.shape lines inode.tail g.pages inode.head

abbrev pub log_in : Geometry → List (List ℕ) → Inode → List Entry
log_in g lines inode = map (entry_at lines) (positions_of g lines inode)

-- the links of a log, and then its entries
abbrev pub log_questions : Geometry → List (List ℕ) → Inode → List Question
log_questions g lines inode =
    link_questions g.shape g.pages lines inode.tail g.pages inode.head
    ++ flat_map (entry_questions g.shape.longest_name lines) (positions_of g lines inode)

-- superblock, journals upwards, inodes upwards, and then their logs
abbrev pub questions_of : Geometry → List (List ℕ) → List Question
questions_of g lines =
    (superblock_question lines ∷ [])
    ++ (flat_map (journal_questions g.inodes lines) (range_with_len 0 g.journals)
    ++ (flat_map (inode_questions g.pages lines) (range_with_len 0 g.inodes)
    ++ flat_map (log_questions g lines) (inodes_of lines g.journals g.inodes)))

-- the log of each inode
abbrev pub logs_of : Geometry → List (List ℕ) → List (List Entry)
logs_of g lines = map (log_in g lines) (inodes_of lines g.journals g.inodes)

abbrev pub recovery_questions : List (List ℕ) → List Question
recovery_questions lines = questions_of (geometry_of lines) lines

abbrev pub unless_fault : Option VolumeFault → List (List Entry) → Result (List (List Entry)) VolumeFault
unless_fault None logs = Ok logs
unless_fault (Some fault) logs = Err fault

-- the volume of the medium with these lines
unfoldable pub volume_of : List (List ℕ) → Result (List (List Entry)) VolumeFault
volume_of lines = unless_fault (first_fault (recovery_questions lines)) (logs_of (geometry_of lines) lines)

-- the lines that recovery asks for, in order
unfoldable pub asked_lines : List (List ℕ) → List ℕ
asked_lines lines = lines_asked (recovery_questions lines)
