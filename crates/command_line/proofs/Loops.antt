-- What one more item adds to the text of a loop.
use Rattle.std.proofs.Common.{◌≡◌, ◌∙◌, ℕ, ◌+◌, ◌<◌, ◌≤◌, List, [], ◌∷◌, ◌++◌, Some, length, get_or, take, refl, ap, arith, rules}
use Rattle.std.specs.List.{enumerate_from, flat_map, slice_get}
use Rattle.std.proofs.lemmas.Grind.{flat_map-append}
use Rattle.std.proofs.lemmas.List.{take_all, take_more}
use Rattle.std.proofs.lemmas.List.FromFn.{length-enumerate_from, get_or-enumerate_from}
use Rattle.std.proofs.lemmas.Option.{slice_get_read, slice_get_within, get_or_from_slice_get}
use Rattle.hart.specs.declared.state.HartState.{HartState}
use Rattle.hart.specs.HartLines.{hart_line}
use Rattle.command_line.specs.Reports.{line_end}

-- the lines of the harts below one
abbrev pub harts_below : List HartState → ℕ → List ℕ
harts_below harts hart = flat_map (λ (h : ℕ × HartState). hart_line h.0 h.1 ++ line_end) (take hart (enumerate_from 0 harts))

append_none : (xs : List ℕ) → xs ++ [] ≡ xs
append_none xs = search rules

numbered : (i j : ℕ) (r s : HartState) → i ≡ j → r ≡ s → ◌≡◌ {A = ℕ × HartState} (i, r) (j, s)
numbered i j r s e q = cc

pub harts_more : (harts : List HartState) (hart : ℕ) (state : HartState) → slice_get harts hart ≡ Some state
    → harts_below harts (hart + 1) ≡ harts_below harts hart ++ (hart_line hart state ++ line_end)
harts_more harts hart state e =
    let f : ℕ × HartState → List ℕ = λ h. hart_line h.0 h.1 ++ line_end in
    let all : List (ℕ × HartState) = enumerate_from 0 harts in
    let within : hart < length harts = slice_get_within harts hart state e in
    let last : get_or all hart (0, state) ≡ (hart, state) =
    get_or-enumerate_from 0 harts hart (0, state) within ∙ numbered (0 + hart) hart (get_or harts hart state) state (omega arith) (get_or_from_slice_get harts hart state state e) in
    ap (flat_map f) (take_more all hart (0, state) (omega (arith, length-enumerate_from 0 harts)))
    ∙ flat_map-append f (take hart all) (get_or all hart (0, state) ∷ [])
    ∙ ap (λ (h : ℕ × HartState). flat_map f (take hart all) ++ (f h ++ [])) last
    ∙ ap (λ (l : List ℕ). flat_map f (take hart all) ++ l) (append_none (f (hart, state)))

pub harts_next : (harts : List HartState) (hart : ℕ) (state : HartState) → hart < length harts → state ≡ get_or harts hart state
    → harts_below harts (hart + 1) ≡ harts_below harts hart ++ (hart_line hart state ++ line_end)
harts_next harts hart state within is = harts_more harts hart state (slice_get_read harts (length harts) hart state refl within is)

pub harts_all : (harts : List HartState) (hart : ℕ) → length harts ≤ hart
    → harts_below harts hart ≡ flat_map (λ (h : ℕ × HartState). hart_line h.0 h.1 ++ line_end) (enumerate_from 0 harts)
harts_all harts hart h =
    let f : ℕ × HartState → List ℕ = λ h. hart_line h.0 h.1 ++ line_end in
    let all : List (ℕ × HartState) = enumerate_from 0 harts in
    ap (flat_map f) (take_all hart all (omega (arith, length-enumerate_from 0 harts)))
