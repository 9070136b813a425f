-- The state at the start stands for the start of a run.
use Rattle.std.proofs.Common.{◌≡◌, ℕ, ◌+◌, ◌<◌, ◌≤◌, List, [], ◌∷◌, ◌++◌, Some, map, length, slice_get, slice_index_or, refl, sym, ap, ◌∙◌, subst, arith}
use Rattle.std.proofs.lemmas.List.{length-append}
use Rattle.std.proofs.lemmas.List.FromFn.{get_or-map-range_with_len, length-map-range_with_len}
use Rattle.std.proofs.lemmas.Option.{get_or_from_slice_get, slice_get-get_or, slice_get_within}
use Rattle.std.specs.List.{range_with_len}
use Rattle.hart.specs.Effect.{start}
use Rattle.hart.specs.declared.state.HartState.{HartState}
use Rattle.line_memory.specs.Lines.{line_at}
use Rattle.line_memory.specs.Memory.{Memory}
use Rattle.machine.specs.Histories.{text_of}
use Rattle.machine.specs.Run.{started}
use Rattle.schedule_states.proofs.Fetching.{nothing_over}
use Rattle.schedule_states.proofs.Looking.{each_pushed}
use Rattle.schedule_states.proofs.Stepping.{line_at_start}
use Rattle.schedule_states.specs.Ahead.{ComesAlone}
use Rattle.schedule_states.specs.StartLines.{memory_at}
use Rattle.schedule_states.specs.States.{IsHartOf, IsReady, PartsView, StandsFor}
use Rattle.schedule_states.specs.Successors.{AreStartParts, HasLists, IsStartPart, memory_held}
use Rattle.schedule_states.specs.declared.program_state.HartPart.{HartPart}
use Rattle.schedule_states.specs.declared.program_state.ProgramState.{ProgramState}

-- the harts at the start
start_count : (harts : ℕ) → length (map start (range_with_len 0 harts)) ≡ harts
start_count harts = length-map-range_with_len start 0 harts

start_here : (harts h : ℕ) (own : HartState) → slice_get (map start (range_with_len 0 harts)) h ≡ Some own → own ≡ start h
start_here harts h own got =
    let few : h < harts = rw (start_count harts) at (slice_get_within (map start (range_with_len 0 harts)) h own got) in
    sym (get_or_from_slice_get (map start (range_with_len 0 harts)) h own own got) ∙ get_or-map-range_with_len start 0 harts h h own few (omega arith)

pub part_pushed : (parts : PartsView) (harts : List HartPart) (h : ℕ) (part : HartPart) → AreStartParts parts h harts → IsStartPart parts h part →
    AreStartParts parts (h + 1) (harts ++ part ∷ [])
part_pushed parts harts h part are is = record {
  count_is = let more : length (harts ++ part ∷ []) ≡ length harts + 1 = length-append harts (part ∷ []) in more ∙ ap (λ (n : ℕ). n + 1) are.count_is;
  each = each_pushed (IsStartPart parts) harts part are.each (rw are.count_is is);
}

hart_of_start : (parts : PartsView) (harts h : ℕ) (part : HartPart) (own : HartState) → slice_get parts.lists 0 ≡ Some [] → IsStartPart parts h part → own ≡ start h →
    IsHartOf parts (started parts.table.start.program parts.table.start.medium harts).common h part own
hart_of_start parts harts h part own first is mine =
    let list : slice_index_or parts.lists 0 [] ≡ [] = get_or_from_slice_get parts.lists 0 [] [] first in
    let text : text_of (memory_held parts (slice_index_or parts.lists 0 [])) ≡ text_of (memory_at parts.table.start) =
    rw (list, nothing_over parts.table.states (memory_at parts.table.start)) refl in record {
      text = record {
        held = [];
        found = ap (λ (n : ℕ). slice_get parts.lists n) is.text ∙ first;
        below = tt;
        is = ap (λ (m : Memory). text_of m) (sym (nothing_over parts.table.states (memory_at parts.table.start)));
      };
      ahead = subst (λ (m : Memory). ComesAlone m own part.state) text
          (subst (λ (t : HartState). ComesAlone (text_of (memory_held parts (slice_index_or parts.lists 0 []))) t part.state) (sym mine) is.ahead);
      ready = subst (λ (m : Memory). IsReady m part.state) text is.ready;
      reserved = λ l. rw is.reserved refl;
    }

pub start_stands : (parts : PartsView) (s : ProgramState) (harts : ℕ) → harts ≤ 8 → slice_get parts.lists 0 ≡ Some [] → s.memory ≡ 0 →
    AreStartParts parts harts s.harts.items → StandsFor parts s (started parts.table.start.program parts.table.start.medium harts)
start_stands parts s harts few first memory are = record {
  count = are.count_is ∙ sym (start_count harts);
  few = rw (start_count harts) few;
  harts = λ h part own mine here.
      hart_of_start parts harts h part own first (are.each h part mine) (start_here harts h own here);
  held = [];
  found = ap (λ (n : ℕ). slice_get parts.lists n) memory ∙ first;
  memory = record {
    below = tt;
    flat = sym (nothing_over parts.table.states (memory_at parts.table.start));
    lines = λ l there. line_at_start l (record { bytes = line_at parts.table.start.medium l; others = [] }) refl;
  };
}

pub start_lists : (parts : PartsView) (s : ProgramState) (harts : ℕ) → slice_get parts.lists 0 ≡ Some [] → s.memory ≡ 0 → AreStartParts parts harts s.harts.items →
    HasLists parts s
start_lists parts s harts first memory are =
    let there : 0 < length parts.lists = slice_get_within parts.lists 0 [] first in record {
      memory = rw memory there;
      texts = λ k d h.
          let is : IsStartPart parts k (slice_index_or s.harts.items k d) = are.each k (slice_index_or s.harts.items k d) (slice_get-get_or s.harts.items k d h) in
          rw is.text there;
    }
