use Rattle.std.proofs.Common.{◌≡◌, ◌+◌, ◌-◌, ◌++◌, ℕ, Some, length, slice_get, ap, sym, ◌∙◌, arith, rules}
use Rattle.std.proofs.lemmas.List.{length-append, length-map}
use Rattle.std.proofs.lemmas.Option.{slice_get-get_or}
use Rattle.std.specs.Global.{Vec}
use Rattle.schedule_states.proofs.Looking.{seen_behind}
use Rattle.schedule_states.specs.declared.held_lines.HeldLine.{HeldLine}
use Rattle.schedule_states.proofs.memory_lists.MemoryLists.list.Goals as goal

pub returns : goal.returns
returns c =
    let behind : ℕ = c.args.number - length c.as_slice-lists.result.now in
    let at : c.args.number ≡ length c.parts.result.0.now + behind = search rules in
    let long : length c.args.self.now ≡ length c.parts.result.0.now + length c.parts.result.1.now =
    ap length (sym c.self.view_is ∙ c.parts.ensures.lists)
    ∙ length-map (c.parts.result.0.now ++ c.parts.result.1.now) (λ (list : Vec HeldLine). list.items) ∙ length-append c.parts.result.0.now c.parts.result.1.now in
    let got : slice_get c.parts.result.1.now behind ≡ Some c.index-further-at.result =
    slice_get-get_or c.parts.result.1.now behind c.index-further-at.result (omega (arith, long, at, c.requires)) ∙ ap (λ (list : Vec HeldLine). Some list) (sym c.index-further-at.is) in
    rw (sym c.self.view_is, c.parts.ensures.lists, at)
    (seen_behind (λ (list : Vec HeldLine). list.items) c.parts.result.0.now c.parts.result.1.now behind c.index-further-at.result got
    ∙ ap (λ (items : _). Some items) (sym c.as_slice-2.ensures.value))
