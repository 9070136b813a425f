-- How many pages the logs need, log by log, and what comes of counts and pages.
use Rattle.std.proofs.Common.{◌≡◌, ℕ, zero, suc, ◌+◌, ◌-◌, ◌<◌, ◌≤◌, List, [], ◌∷◌, ◌++◌, Ok, Err, length, map, refl, ap, ◌∙◌, arith}
use Rattle.std.proofs.lemmas.Bool.{false_from_ne_true, le-leb, lt-leb}
use Rattle.std.proofs.lemmas.List.{append-nil, length-append}
use Rattle.std.proofs.lemmas.List.Concat.{flat_map-append}
use Rattle.std.proofs.lemmas.List.FromFn.{length-map-range_with_len}
use Rattle.std.specs.List.{flat_map, range_with_len}
use Rattle.nova_log.specs.Layouts.{AreCounts}
use Rattle.nova_log.specs.Superblocks.{counts_fit}
use Rattle.nova_log.specs.declared.fault.VolumeFault.TheVariants.{Counts, Pages}
use Rattle.nova_log.specs.Logs.{log_of}
use Rattle.nova_log.specs.declared.volume.entry.Entry.{Entry}
use Rattle.nova_log.specs.Parts.{further_parts, page_count, part, parts_of}
use Rattle.nova_log.specs.Upgraded.{moved}
use Rattle.nova_log.specs.Written.{written}
use Rattle.nova_log.specs.declared.log_upgrade.parts.Part.{Part}
use Rattle.nova_log.proofs.Making.{range_more}
use Rattle.nova_log.proofs.Recovered.{counted}
use Rattle.nova_log.proofs.Upgrading.{counts_true}

-- the parts of the first logs
unfoldable pub parts_through : List (List Entry) → ℕ → ℕ
parts_through logs n = n + length (flat_map (further_parts logs) (range_with_len 0 n))

module _ (logs : List (List Entry)) where
  pub through_none : parts_through logs 0 ≡ 0
  unfolding parts_through
  through_none = refl

  pub through_more : (n : ℕ) → parts_through logs (n + 1) ≡ parts_through logs n + page_count (length (log_of logs n))
  unfolding parts_through
  through_more n =
      let front = flat_map (further_parts logs) (range_with_len 0 n) in
      let count = page_count (length (log_of logs n)) in
      let here : 0 + n ≡ n = omega arith in
      let more : flat_map (further_parts logs) (range_with_len 0 (n + 1)) ≡ front ++ further_parts logs n =
      rw (range_more 0 n, here) (flat_map-append (further_parts logs) (range_with_len 0 n) (n ∷ [])
      ∙ ap (λ (items : List Part). front ++ items) (append-nil (further_parts logs n))) in
      let some : 1 ≤ count = omega arith in
      let size = length-map-range_with_len (part n) 1 (count - 1) in
      rw more (omega (arith, length-append front (further_parts logs n)))

  pub through_all : parts_through logs (length logs) ≡ length (parts_of logs)
  unfolding parts_through parts_of
  through_all =
      let first = map (λ (inode : ℕ). part inode 0) (range_with_len 0 (length logs)) in
      let rest = flat_map (further_parts logs) (range_with_len 0 (length logs)) in
      omega (arith, length-append first rest, length-map-range_with_len (λ (inode : ℕ). part inode 0) 0 (length logs))

  through_later : (n more : ℕ) → parts_through logs n ≤ parts_through logs (n + more)
  through_later n zero = let e : n + 0 ≡ n = omega arith in rw e (omega arith)
  through_later n (suc more) =
      let e : n + suc more ≡ n + more + 1 = omega arith in
      let before = through_later n more in
      rw e (omega (arith, through_more (n + more)))

  pub through_each : (n : ℕ) → n < length logs → parts_through logs n + page_count (length (log_of logs n)) ≤ length (parts_of logs)
  through_each n less =
      let rest = length logs - (n + 1) in
      let e : n + 1 + rest ≡ length logs = omega arith in
      let later : parts_through logs (n + 1) ≤ parts_through logs (length logs) = rw e at (through_later (n + 1) rest) in
      omega (arith, through_more n, through_all)

  module _ (journals pages count : ℕ) where
    pub counts_refused : (AreCounts (length logs) pages journals count → ⊥) → moved logs journals pages count ≡ Err Counts
    counts_refused outside =
        rw (false_from_ne_true (counts_fit (length logs) pages journals count) (λ e. outside (counted (length logs) pages journals count e))) refl

    pub pages_refused : AreCounts (length logs) pages journals count → pages < length (parts_of logs) → moved logs journals pages count ≡ Err Pages
    pages_refused h more = rw (counts_true (length logs) pages journals count h, lt-leb (length (parts_of logs)) pages more) refl

    pub has_room : AreCounts (length logs) pages journals count → length (parts_of logs) ≤ pages →
        moved logs journals pages count ≡ Ok (written logs pages journals count)
    has_room h enough = rw (counts_true (length logs) pages journals count h, le-leb (length (parts_of logs)) pages enough) refl
