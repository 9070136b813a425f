-- The last moment is the one after all six events.
use Rattle.std.proofs.Common.{◌≡◌, ◌≤◌, ℕ, List, length, take, subst, arith}
use Rattle.std.proofs.lemmas.List.{take_all}
use Rattle.store_trace.specs.Stores.{stores}
use Rattle.store_trace.specs.History.{history}
use Rattle.store_trace.specs.declared.event.Event.{Event}
use Rattle.verdict_tests.proofs.images.indexes.first_byte.Goals as goal

pub line-requires-clause-number : goal.line-requires-clause-number
line-requires-clause-number c =
    let six : length c.args.index.now.events ≡ 6 = c.requires in
    let few : length c.args.index.now.events ≤ 6 = omega arith in
    let whole : take 6 c.args.index.now.events ≡ c.args.index.now.events = take_all 6 c.args.index.now.events few in
    let stands : c.args.number ≤ stores 0 (history (take 6 c.args.index.now.events)) =
    subst (λ (n : ℕ). c.args.number ≤ n) c.stores.ensures c.if-number-stores.false in
    subst (λ (events : List Event). c.args.number ≤ stores 0 (history events)) whole stands
