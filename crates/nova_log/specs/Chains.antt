-- The chain of a log: its pages by their links, from head to tail. Source: NOVA, FAST 2016: logs of linked 4 KB pages.
use Rattle.std.specs.Prelude.{ℕ, zero, suc, ◌+◌, ◌-◌, ◌*◌, ◌/◌, ◌%◌, Bool, ◌&&◌, leb, ltb, eqb, List, [], ◌∷◌, ◌++◌, Option, Some, None, map, cond}
use Rattle.std.specs.List.{range_with_len}
use Rattle.line_memory.specs.Lines.{line_at}
use Rattle.word_bits.specs.Bytes.{loaded}
use Rattle.nova_log.specs.Layouts.{page_at}
use Rattle.nova_log.specs.Questions.{Question, question}
use Rattle.nova_log.specs.declared.fault.VolumeFault.{VolumeFault}
use Rattle.nova_log.specs.declared.fault.VolumeFault.TheVariants.{TailNotReached, Link}
use Rattle.nova_log.specs.declared.layout.Shape.{Shape}

-- whether an offset is that of one of so many pages
abbrev pub is_page : ℕ → ℕ → Bool
is_page pages offset = leb (page_at 0) offset && ltb offset (page_at pages) && eqb (offset % 4096) 0

-- the position of a page's link line, after its entries
abbrev pub link_position : Shape → ℕ → ℕ
link_position shape page = page + shape.entry_size * shape.page_entries

-- the next page
abbrev pub link_of : Shape → List (List ℕ) → ℕ → ℕ
link_of shape lines page = loaded (line_at lines (link_position shape page / 64)) 0 8

-- whether a chain ends in a page: at one of its entries, or at its link line
abbrev pub ends_in : Shape → ℕ → ℕ → Bool
ends_in shape tail page = leb page tail && leb tail (link_position shape page) && eqb ((tail - page) % shape.entry_size) 0

-- no next page; or none that may be entered, as no offset of a page, or as the walk has entered as many as there are
unfoldable pub link_fault : ℕ → ℕ → List ℕ → Option VolumeFault
link_fault pages more line =
    cond (eqb (loaded line 0 8) 0) (Some TailNotReached)
    (cond (is_page pages (loaded line 0 8) && ltb 0 more) None (Some Link))

-- the link lines that a walk from a page comes to before the tail, where so many pages may be entered
unfoldable pub link_questions : Shape → ℕ → List (List ℕ) → ℕ → ℕ → ℕ → List Question
link_questions shape pages lines tail zero page = []
link_questions shape pages lines tail (suc more) page =
    cond (ends_in shape tail page) []
    (question (link_position shape page / 64) (link_fault pages more (line_at lines (link_position shape page / 64)))
    ∷ link_questions shape pages lines tail more (link_of shape lines page))

-- how many of a page's entries stand before the tail
abbrev pub entries_before : Shape → ℕ → ℕ → ℕ
entries_before shape tail page = cond (ends_in shape tail page) ((tail - page) / shape.entry_size) shape.page_entries

-- the positions of a page's first entries
abbrev pub positions_in : Shape → ℕ → ℕ → List ℕ
positions_in shape page count = map (λ k. page + shape.entry_size * k) (range_with_len 0 count)

-- the positions of the entries that such a walk comes to, page by page
unfoldable pub chain : Shape → List (List ℕ) → ℕ → ℕ → ℕ → List ℕ
chain shape lines tail zero page = []
chain shape lines tail (suc more) page =
    positions_in shape page (entries_before shape tail page)
    ++ cond (ends_in shape tail page) [] (chain shape lines tail more (link_of shape lines page))
