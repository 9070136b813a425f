use Rattle.std.proofs.Common.{◌≡◌, ◌++◌, ℕ, List, map, subst}
use Rattle.image_check.specs.Verdicts.{whole_line}
use Rattle.image_check.proofs.Reading.{asked_below, err_held, ok_held}
use Rattle.image_check.proofs.plan_images.recover_asking.Goals as goal

pub returns-clause-below : goal.returns-clause-below
returns-clause-below g c =
    ok_held c.recover_cut-recovered.result _
    (asked_below (g.I.Images.lines c.args.images.now) c.args.asked.now.items c.ask_whole.new.asked.items c.recover_cut-recovered.new.asked.items c.requires.fresh
    (subst (λ (ls : List ℕ). c.ask_whole.new.asked.items ≡ c.args.asked.now.items ++ map whole_line ls) c.deref.ensures.value c.in_ok-ask_whole.ensures)
    c.recover_cut-recovered.ensures.below)

pub returns-clause-err_below : goal.returns-clause-err_below
returns-clause-err_below g c =
    err_held c.recover_cut-recovered.result _ _
    (asked_below (g.I.Images.lines c.args.images.now) c.args.asked.now.items c.ask_whole.new.asked.items c.recover_cut-recovered.new.asked.items c.requires.fresh
    (subst (λ (ls : List ℕ). c.ask_whole.new.asked.items ≡ c.args.asked.now.items ++ map whole_line ls) c.deref.ensures.value c.in_ok-ask_whole.ensures)
    c.recover_cut-recovered.ensures.below)
