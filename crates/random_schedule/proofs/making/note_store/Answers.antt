use Rattle.std.proofs.Common.{sym, ◌∙◌}
use Rattle.random_schedule.proofs.Stores.{store_known, store_new}
use Rattle.random_schedule.proofs.making.note_store.Goals as goal

pub returns-then-has_store : goal.returns-then-has_store
returns-then-has_store c = store_known _ _ _ _ c.in-Some.is (rw c.deref.ensures.value at (sym c.has_store.ensures ∙ c.if-has_store.true))

pub returns : goal.returns
returns c = c.in_ok-push.ensures.items ∙ store_new _ _ _ _ c.in-Some.is (rw c.deref.ensures.value at (sym c.has_store.ensures ∙ c.if-has_store.false))
