use Rattle.crash_image.proofs.Searching.{after_store}
use Rattle.crash_image.proofs.search.apply_and_compare.Goals as goal

pub returns-clause-sought : goal.returns-clause-sought
returns-clause-sought c = λ start low made p s.
    rw c.in-Store.is
    (after_store start c.args.wanted.now low made p c.args.shown.now c.store.new.medium c.args.all.now
    c.in-Store.line c.in-Store.offset c.in-Store.width c.in-Store.value _ c.note_match.new.self c.same_line.result
    (rw c.in-Store.is at c.requires.named) c.requires.size (rw (c.from.ensures, c.from-2.ensures) at c.store.ensures.changed) c.same_line.ensures c.note_match.ensures s)
