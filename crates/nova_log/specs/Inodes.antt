-- Inodes: where the log of each begins and ends. Source: NOVA, FAST 2016: an inode holds the head and the tail of its log.
use Rattle.std.specs.Prelude.{ℕ, ◌+◌, List, [], ◌∷◌, Option, Some, None, map, cond}
use Rattle.std.specs.List.{range_with_len}
use Rattle.line_memory.specs.Lines.{line_at}
use Rattle.word_bits.specs.Bytes.{loaded}
use Rattle.nova_log.specs.Chains.{is_page}
use Rattle.nova_log.specs.Journals.{effective_tail}
use Rattle.nova_log.specs.Questions.{Question, question}
use Rattle.nova_log.specs.declared.fault.VolumeFault.{VolumeFault}
use Rattle.nova_log.specs.declared.fault.VolumeFault.TheVariants.{Head}
use Rattle.nova_log.specs.declared.inode.Inode.{Inode}

-- a log begins at a page
unfoldable pub head_fault : ℕ → List ℕ → Option VolumeFault
head_fault pages line = cond (is_page pages (loaded line 0 8)) None (Some Head)

abbrev pub inode_questions : ℕ → List (List ℕ) → ℕ → List Question
inode_questions pages lines n = question (n + 1) (head_fault pages (line_at lines (n + 1))) ∷ []

-- the head of inode n, and its effective tail
abbrev pub inode_at : List (List ℕ) → ℕ → ℕ → Inode
inode_at lines journals n = record { head = loaded (line_at lines (n + 1)) 0 8; tail = effective_tail lines journals n }

-- so many inodes
abbrev pub inodes_of : List (List ℕ) → ℕ → ℕ → List Inode
inodes_of lines journals inodes = map (inode_at lines journals) (range_with_len 0 inodes)
