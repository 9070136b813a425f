use Rattle.std.proofs.Common.{◌≡◌, ◌<◌, Some, length, slice_get, ap, sym, ◌∙◌, rules}
use Rattle.std.proofs.lemmas.Option.{slice_get-get_or}
use Rattle.schedule_states.specs.declared.program_state.HartPart.{HartPart}
use Rattle.schedule_states.proofs.reached.number_at.Goals as goal

pub returns-then-eq-clause-number : goal.returns-then-eq-clause-number
returns-then-eq-clause-number c =
    let was = c.index-before-hart.result in
    let there : c.args.hart < length c.args.before.parts.now = search rules in
    let got : slice_get c.args.before.parts.now c.args.hart ≡ Some was =
    slice_get-get_or c.args.before.parts.now c.args.hart was there ∙ ap (λ (p : HartPart). Some p) (sym c.index-before-hart.is) in
    let reserved : was.reserved ≡ c.args.part.reserved = c.equal_reserved_are_same.ensures was.reserved c.args.part.reserved (search rules) in
    let alike = c.requires.alike was got (search rules) in
    let same : was ≡ c.args.part = λ i. record { state = sym alike.0 i; reserved = reserved i; text = sym alike.1 i } in
    c.requires.before c.args.hart c.args.part there (got ∙ ap (λ (p : HartPart). Some p) same)
