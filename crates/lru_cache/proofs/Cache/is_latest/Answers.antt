use Rattle.std.proofs.Common.{arith}
use Rattle.std.proofs.lemmas.Bool.Decides.{nat_tests}
use Rattle.lru_cache.specs.Order.{set_of}
use Rattle.lru_cache.proofs.Told.{latest_at, latest_none, recent_low}
use Rattle.lru_cache.proofs.Cache.is_latest.Goals as goal

pub line_of-requires : goal.line_of-requires
line_of-requires c = recent_low _ _ _ _ _ _ c.self.invariant.0 _ c.self.view_is (set_of c.args.line) _ c.in-Some.ensures.member

pub returns-in-Some-clause-latest : goal.returns-in-Some-clause-latest
returns-in-Some-clause-latest c =
    let is = latest_at _ _ _ _ _ _ c.self.invariant.0 _ c.self.view_is (set_of c.args.line) _ c.in-Some.ensures.value in
    (λ t. grind (arith, nat_tests, is, c.line_of.ensures), λ f. grind (arith, nat_tests, is, c.line_of.ensures))

pub returns-in-None-clause-latest : goal.returns-in-None-clause-latest
returns-in-None-clause-latest c =
    let is = latest_none _ _ _ _ _ _ c.self.invariant.0 _ c.self.view_is (set_of c.args.line) c.in-None.ensures.value in
    (λ t. cc, λ f. cc)
