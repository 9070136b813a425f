use Rattle.std.proofs.Common.{◌≡◌, ◌∙◌, ℕ, Option, Some, length, subst, sym, arith}
use Rattle.std.specs.Prelude.{IfSome}
use Rattle.routine_judge.proofs.Bad.{bad_after, found_as}
use Rattle.routine_judge.proofs.Chaining.{begins_further, further_size, leads_further}
use Rattle.routine_judge.specs.ChainCuts.{IsFurther}
use Rattle.routine_judge.specs.Chains.{BeginsAt, LeadsTo}
use Rattle.routine_judge.specs.Closing.{IsFoundAgain}
use Rattle.routine_judge.specs.declared.cuts.chain.ChainSoFar.{ChainSoFar}
use Rattle.routine_judge.specs.declared.cuts.judging.CutCause.{CutCause}
use Rattle.routine_judge.proofs.cuts.chain.chain_by.Goals as goal

pub loop-made-init : goal.loop-made-init
loop-made-init c =
    let view = c.args.run.now in
    let first = c.in_ok-first.ensures in
    let lines = subst (λ (found : Option ChainSoFar). IfSome found (λ chain. length chain.image ≡ length view.start)) c.in-Some.is first.lines in
    record {
      leads = subst (λ (found : Option ChainSoFar). IfSome found (λ chain. LeadsTo view chain.links.items chain.image chain.shown)) c.in-Some.is first.leads;
      begins = subst (λ (found : Option ChainSoFar). IfSome found (λ chain. BeginsAt c.args.moment 0 chain.links.items)) c.in-Some.is first.begins;
      lines = first.routine.1 ∙ c.requires.lines ∙ sym lines;
      program = first.routine.0 ∙ c.requires.program;
    }

pub loop-made-preserved : goal.loop-made-preserved
loop-made-preserved c =
    let view = c.args.run.now in
    let before = c.loop-made.invariant in
    let program = c.loop-made.routine.program in
    let steps = c.args.rule.steps in
    let old = c.loop-made.chain in
    let new = c.in-Some-further.longer in
    let further = subst (λ (found : Option ChainSoFar). IfSome found (IsFurther program steps old)) c.in-Some-further.is c.in_ok-further.ensures.ok in
    record {
      leads = leads_further view program steps old new before.program c.requires.steps further before.leads;
      begins = begins_further c.args.moment c.loop-made.made program steps old new further before.begins;
      lines = c.in_ok-further.ensures.routine.1 ∙ before.lines ∙ sym (further_size program steps old new further);
      program = c.in_ok-further.ensures.routine.0 ∙ before.program;
    }

pub returns-clause-bad : goal.returns-clause-bad
returns-clause-bad c = λ source is are.
    let view = c.args.run.now in
    let right = c.args.rule.right.now in
    let chain = c.loop-made.chain in
    let found = subst (λ (cause : Option CutCause). IsFoundAgain c.loop-made.routine.program c.args.rule.steps right chain.image chain.shown cause) c.in-Some-found.is
    c.in_ok-found.ensures in
    record {
      source = source;
      is_source = is;
      image = chain.image;
      shown = chain.shown;
      leads = c.loop-made.invariant.leads;
      bad = bad_after view source right chain.image chain.shown c.in-Some-found.cause are
          (found_as c.loop-made.routine.program view.routine c.args.rule.steps view.steps right chain.image chain.shown (Some c.in-Some-found.cause)
          c.loop-made.invariant.program c.requires.steps found);
    }

pub returns-clause-begins : goal.returns-clause-begins
returns-clause-begins c =
    let all : c.loop-made.made ≡ c.args.cuts = omega arith in
    subst (λ (n : ℕ). BeginsAt c.args.moment n c.loop-made.chain.links.items) all c.loop-made.invariant.begins
