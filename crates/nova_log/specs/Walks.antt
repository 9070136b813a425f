-- What a chain of positions is, step by step. Source: NOVA, FAST 2016: a log is followed from its head to its tail.
use Rattle.std.specs.Prelude.{ℕ, suc, ◌≡◌, ◌≢◌, ◌+◌, ◌*◌, ◌<◌, ◌≤◌, true, List, [], ◌∷◌}
use Rattle.nova_log.specs.Chains.{is_page, link_of}
use Rattle.nova_log.specs.declared.layout.Shape.{Shape}

-- the position of line k of a page's lines: an entry, or after all entries the link
abbrev pub position_at : Shape → ℕ → ℕ → ℕ
position_at shape page k = page + shape.entry_size * k

-- From line k of a page a walk comes to just these entries before the tail, where `more` further pages may be entered.
-- It ends at the tail; after an entry it goes on in the page, and after a link line in the linked page.
pub data IsWalk (shape : Shape) (pages : ℕ) (lines : List (List ℕ)) (tail : ℕ) : ℕ → ℕ → ℕ → List ℕ → Type 0 where
  ended : (more page k : ℕ) → k ≤ shape.page_entries → position_at shape page k ≡ tail →
      IsWalk shape pages lines tail more page k []
  entry : (more page k : ℕ) (entries : List ℕ) → k < shape.page_entries → position_at shape page k ≢ tail →
      IsWalk shape pages lines tail more page (k + 1) entries → IsWalk shape pages lines tail more page k (position_at shape page k ∷ entries)
  link : (more page k : ℕ) (entries : List ℕ) → k ≡ shape.page_entries → position_at shape page k ≢ tail → is_page pages (link_of shape lines page) ≡ true →
      IsWalk shape pages lines tail more (link_of shape lines page) 0 entries → IsWalk shape pages lines tail (suc more) page k entries
