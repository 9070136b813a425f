use Rattle.std.proofs.Common.{◌≡◌, ◌∙◌, ◌+◌, ◌<◌, ◌∷◌, [], ◌++◌, ◌||◌, Bool, ℕ, List, length, ap, sym, subst}
use Rattle.std.specs.List.{AllByRecursion}
use Rattle.verdict.specs.Branches.{has_line}
use Rattle.verdict.specs.Numbers.{is_flagged}
use Rattle.verdict.specs.declared.branches.question.Question.{Question}
use Rattle.verdict.specs.Openings.{Node}
use Rattle.verdict.specs.Pieces.{AreRuns}
use Rattle.verdict.specs.Queue.{cut_at}
use Rattle.verdict.specs.declared.branches.queue.Entry.{Entry}
use Rattle.verdict.proofs.Nodes.{node}
use Rattle.verdict.proofs.Opening.{best_above, count_last, decided_more, flagged_now, flagged_one, flagged_still, runs_join, runs_one}
use Rattle.verdict.proofs.branches.pieces.open_at.Goals as goal

pub returns-clause-piece : goal.returns-clause-piece
returns-clause-piece g c =
    let r = g.R.Recovery in
    let s = c.args.recovery.now in
    let queue = c.args.queue.now in
    let p = c.args.piece.now in
    let old = c.requires.piece in
    let one = c.open.new.self in
    let new = c.add_with_room.new.self in
    let e = c.in_ok-judged.ensures in
    let v : Node = node (cut_at (r.low s) queue c.args.place) one.asked.items in
    let marked = c.insert_asked.new.self in
    let flags : (l : ℕ) → is_flagged l new.asked ≡ (is_flagged l p.findings.asked || has_line l one.asked.items) =
    λ l. ap (λ (fs : List Bool). is_flagged l fs) c.add_with_room.ensures.asked ∙ subst (λ (qs : List Question). is_flagged l marked ≡ (is_flagged l p.findings.asked || has_line l qs)) c.deref.ensures.value (c.in_ok-insert_asked.ensures.after l) in
    let runs = runs_one (r.asks s) (r.judged s) (r.alike s) (r.low s) (r.high s) (r.lines s) c.args.place queue one.found.items one.numbers one.asked.items c.in_ok-judged.judged new.asked
    c.requires.there (c.requires.cuts.within c.args.place c.requires.there) (flagged_now p.findings.asked new.asked (λ l. has_line l one.asked.items) flags)
    (record { cut = e.cut; above = e.above; asked = e.asked; below = e.below; judges = e.judged; branches = e.found }) in
    let place : c.args.place ≡ p.first + length old.done = c.requires.next ∙ ap (λ (n : ℕ). p.first + n) (sym old.count) in
    let less = c.in_ok-piece.ensures.less (r.low s) (λ some. e.above)
    (best_above (r.judged s) (r.low s) (r.high s) p.findings.least p.cause old.done old.runs.best) in
    let all = runs_join (r.asks s) (r.judged s) (r.alike s) (r.low s) (r.high s) (r.lines s) p.first queue p.findings.found.items one.found.items one.numbers p.findings.least new.least
    c.in_ok-judged.judged p.cause c.in_ok-piece.field-0 p.findings.asked new.asked new.asked old.done (v ∷ [])
    (subst (λ (n : ℕ). AreRuns (r.asks s) (r.judged s) (r.alike s) (r.low s) (r.high s) (r.lines s) n queue one.numbers c.in_ok-judged.judged new.asked one.found.items (v ∷ [])) place runs)
    less (flagged_still p.findings.asked new.asked (λ l. has_line l one.asked.items) flags) (λ l t. t) old.runs in
    let items : new.found.items ≡ p.findings.found.items ++ one.found.items = subst (λ (es : List Entry). new.found.items ≡ p.findings.found.items ++ es) c.deref-2.ensures.value c.in_ok-piece.ensures.found in
    record {
      done = old.done ++ v ∷ [];
      count = count_last old.done v ∙ ap (λ (n : ℕ). n + 1) old.count;
      least_size = λ some. c.in_ok-piece.ensures.least_size some ∙ c.lines.ensures;
      asked_size = ap length c.add_with_room.ensures.asked ∙ c.insert_asked.ensures.size ∙ old.asked_size;
      only = decided_more p.findings.asked new.asked old.done (v ∷ []) (flagged_one p.findings.asked new.asked v flags) old.only;
      runs = subst (λ (es : List Entry). AreRuns (r.asks s) (r.judged s) (r.alike s) (r.low s) (r.high s) (r.lines s) p.first queue new.least c.in_ok-piece.field-0 new.asked es (old.done ++ v ∷ [])) (sym {A = List Entry} items) all;
    }

pub open-requires : goal.open-requires
open-requires g c =
    let cuts = c.requires.cuts in
    (c.type_bounds.send-R-Cause, (c.type_bounds.send-R-Workspace, (c.requires.tools.run, (c.requires.there, (cuts.tree, (cuts.raised, (cuts.within c.args.place c.requires.there, c.requires.tools.workspace)))))))

pub add_with_room-requires : goal.add_with_room-requires
add_with_room-requires g c = record {
  cut_size = c.open.ensures.size ∙ (c.requires.tools.run ∙ sym c.lines.ensures);
  least_size = λ some. c.requires.piece.least_size some ∙ sym c.lines.ensures;
}

pub insert_asked-requires : goal.insert_asked-requires
insert_asked-requires g c =
    subst (λ (qs : List Question). AllByRecursion (λ q. q.line < length c.args.piece.now.findings.asked) qs) (sym c.deref.ensures.value)
    (subst (λ (n : ℕ). AllByRecursion (λ q. q.line < n) c.open.new.self.asked.items) (sym c.requires.piece.asked_size) c.in_ok-judged.ensures.below)

pub invariant_of-run : goal.invariant_of-run
invariant_of-run g c = record { same_size = c.open.new.self.same_size }

pub invariant_of-run-2 : goal.invariant_of-run-2
invariant_of-run-2 g c = record { same_size = c.open.new.self.same_size ∙ sym c.add_with_room.ensures.cut_size }
