use Rattle.std.proofs.Common.{◌∙◌, sym, arith}
use Rattle.lru_cache.proofs.Told.{lines_at, copy_read, resident_at, sound_at}
use Rattle.lru_cache.proofs.Shows.{shown_copy, none_shown}
use Rattle.lru_cache.proofs.Cache.shown_line.Goals as goal

pub find-requires : goal.find-requires
find-requires c = omega (arith, lines_at _ _ _ _ _ _ c.self.invariant.0 _ c.self.view_is, c.requires.over.count)

pub returns-in-Some-clause-value : goal.returns-in-Some-clause-value
returns-in-Some-clause-value c =
    shown_copy _ _ c.args.line _ c.requires.there (copy_read _ _ _ _ _ _ c.self.invariant.0 _ c.self.view_is c.args.line _ _ c.in-Some.ensures.held c.in-Some.ensures.slot c.index.ensures)

pub returns-in-Some-clause-whole : goal.returns-in-Some-clause-whole
returns-in-Some-clause-whole c =
    (sound_at _ _ _ _ _ _ c.self.invariant.0 _ c.self.view_is).whole c.args.line _ (copy_read _ _ _ _ _ _ c.self.invariant.0 _ c.self.view_is c.args.line _ _ c.in-Some.ensures.held c.in-Some.ensures.slot c.index.ensures)

pub returns-in-None-clause-value : goal.returns-in-None-clause-value
returns-in-None-clause-value c =
    c.read_line.ensures.value ∙ sym (none_shown _ _ c.args.line c.requires.there (resident_at _ _ _ _ _ _ c.self.invariant.0 _ c.self.view_is c.args.line ∙ c.in-None.ensures.none))
