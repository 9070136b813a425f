-- The lines of events, added to a text one after another.
use Rattle.std.proofs.Common.{◌≡◌, ℕ, ◌+◌, ◌<◌, ◌≤◌, List, ◌++◌, length, get_or, drop, refl, sym, ap, ◌∙◌, arith}
use Rattle.std.specs.Borrow.{Bor}
use Rattle.std.proofs.lemmas.List.{drop_all, drop_more}
use Rattle.store_trace.specs.declared.event.Event.{Event}
use Rattle.trace_file.specs.Entries.{placed_line}
use Rattle.trace_file.specs.Ranks.{file_lines, named, texts_of}

-- so many lines were added, and these are left
pub record IsPushing (names : List ℕ) (events : List Event) (places : List (Bor (List ℕ))) (start : List ℕ) (i : ℕ) (text : List ℕ) : Type 0 where
  pub so_far : (rest : List ℕ) → text ++ file_lines (i + 1) names (drop i events) (texts_of (drop i places)) rest
      ≡ start ++ file_lines 1 names events (texts_of places) rest

pub nothing_pushed : (names : List ℕ) (events : List Event) (places : List (Bor (List ℕ))) (start : List ℕ) → IsPushing names events places start 0 start
nothing_pushed names events places start = record { so_far = λ rest. refl }

pub one_more_pushed : (names : List ℕ) (events : List Event) (places : List (Bor (List ℕ))) (start : List ℕ) (i : ℕ) (old new : List ℕ) (event : Event) (place : Bor (List ℕ))
    → i < length events → length places ≡ length events → IsPushing names events places start i old
    → ((rest : List ℕ) → new ++ rest ≡ old ++ placed_line (i + 1) (get_or places i place).now (named names (get_or events i event)) rest)
    → IsPushing names events places start (i + 1) new
one_more_pushed names events places start i old new event place inside same pushing grown = record {
  so_far = λ rest.
      let more : List ℕ = file_lines (i + 1 + 1) names (drop (i + 1) events) (texts_of (drop (i + 1) places)) rest in
      let here : file_lines (i + 1) names (drop i events) (texts_of (drop i places)) rest ≡ placed_line (i + 1) (get_or places i place).now (named names (get_or events i event)) more =
      rw (drop_more events i event inside, drop_more places i place (omega arith)) refl in
      grown more ∙ ap (λ (t : List ℕ). old ++ t) (sym here) ∙ pushing.so_far rest;
}

pub all_pushed : (names : List ℕ) (events : List Event) (places : List (Bor (List ℕ))) (start : List ℕ) (i : ℕ) (text : List ℕ) → length events ≤ i
    → IsPushing names events places start i text → (rest : List ℕ) → text ++ rest ≡ start ++ file_lines 1 names events (texts_of places) rest
all_pushed names events places start i text done pushing rest =
    let none : file_lines (i + 1) names (drop i events) (texts_of (drop i places)) rest ≡ rest =
    ap (λ (es : List Event). file_lines (i + 1) names es (texts_of (drop i places)) rest) (drop_all i events done) in
    ap (λ (t : List ℕ). text ++ t) (sym none) ∙ pushing.so_far rest
