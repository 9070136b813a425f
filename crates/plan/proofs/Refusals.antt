-- A line with which no plan begins.
use Rattle.std.proofs.Common.{◌≡◌, ℕ, List, [], ◌∷◌, ◌++◌, refl, sym, arith, subst, append_assoc}
use Rattle.std.specs.List.{AllZip}
use Rattle.std.specs.Prelude.{Err, IfErr, IfOk, Ok, Result}
use Rattle.nova_log.specs.declared.layout.Layout.{Layout}
use Rattle.plan.specs.declared.draft.Draft.{Draft}
use Rattle.plan.specs.declared.draft.Draft.TheVariants.{Empty, Opened, Counted, Paged, Whole}
use Rattle.plan.specs.declared.fault.PlanCode.{PlanCode}
use Rattle.plan.specs.declared.fault.PlanCode.TheVariants as code
use Rattle.plan.specs.declared.operation.Operation.{Operation}
use Rattle.plan.proofs.Drafting.{says_more, whole_more}
use Rattle.plan.proofs.Headers.{plan_begins}
use Rattle.plan.proofs.Rules.{rules_front}
use Rattle.plan.proofs.Unique.{count_unique, head_same, inodes_after, inodes_at, opening_unique, operation_unique, tail_same}
use Rattle.plan.specs.Drafts.{AddsLine, BreaksAt, BreaksLine, Grows, IsDraft, SaysOpening, SaysToInodes, SaysToPages, TakesOperation}
use Rattle.plan.specs.Grammar.{BeginsPlan, BreaksRule, OnText, SaysInodes, SaysJournals, SaysLayout, SaysOperation, SaysPages, SaysPlan, code_number}
use Rattle.plan.specs.Plans.{KeepsRules, PlanView, with_operation}

-- a line that is none of its place breaks the first rule
no_line : (all : List (List (List ℕ))) → ¬ BeginsPlan 1 all → BreaksRule code.Line all
no_line all none = record { breaks = none; keeps = λ lower some low. absurd (omega arith) }

-- no layout and no inodes
pub no_start : (words : List (List ℕ)) → ((layout : Layout) → ¬ (SaysLayout words layout)) → ((inodes : ℕ) → ¬ (SaysInodes words inodes))
    → (all : List (List (List ℕ))) → all ≡ [] → BreaksRule code.Line (all ++ words ∷ [])
no_start words layouts none all e = no_line (all ++ words ∷ []) (λ b.
    let whole : words ∷ b.more ≡ b.says.opening ++ b.says.inodes_line ∷ b.says.pages_line ∷ b.says.journals_line ∷ b.says.operation_lines = rw e at b.says.whole in
    none b.plan.inodes (inodes_at b.says.opening b.plan.layout words b.says.inodes_line b.more (b.says.pages_line ∷ b.says.journals_line ∷ b.says.operation_lines)
    b.plan.inodes b.says.layout b.says.inodes whole layouts))

pub no_inodes : (words : List (List ℕ)) (layout : Layout) → ((inodes : ℕ) → ¬ (SaysInodes words inodes)) → (all : List (List (List ℕ))) → SaysOpening all layout
    → BreaksRule code.Line (all ++ words ∷ [])
no_inodes words layout none all d = no_line (all ++ words ∷ []) (λ b.
    let whole : d.layout_line ∷ words ∷ b.more ≡ b.says.opening ++ b.says.inodes_line ∷ b.says.pages_line ∷ b.says.journals_line ∷ b.says.operation_lines = rw d.whole at b.says.whole in
    none b.plan.inodes (inodes_after b.says.opening layout b.plan.layout d.layout_line words b.says.inodes_line b.more (b.says.pages_line ∷ b.says.journals_line ∷ b.says.operation_lines)
    b.plan.inodes d.says b.says.layout b.says.inodes whole))

pages_along : (a b : ℕ) (x y : List (List ℕ)) (n : ℕ) → a ≡ b → x ≡ y → SaysPages a x n → SaysPages b y n
pages_along a b x y n e f s = subst (λ (words : List (List ℕ)). SaysPages b words n) f (subst (λ (m : ℕ). SaysPages m x n) e s)

journals_along : (x y : List (List ℕ)) (n : ℕ) → x ≡ y → SaysJournals x n → SaysJournals y n
journals_along x y n e s = subst (λ (words : List (List ℕ)). SaysJournals words n) e s

inodes_same : (x y : List (List ℕ)) (m n : ℕ) → x ≡ y → SaysInodes x m → SaysInodes y n → m ≡ n
inodes_same x y m n e s t = count_unique _ _ 1 64 1 64 y m n (subst (λ (words : List (List ℕ)). SaysInodes words m) e s) t

pub no_pages : (words : List (List ℕ)) (layout : Layout) (inodes : ℕ) → ((pages : ℕ) → ¬ (SaysPages inodes words pages)) → (all : List (List (List ℕ)))
    → SaysToInodes all layout inodes → BreaksRule code.Line (all ++ words ∷ [])
no_pages words layout inodes none all d = no_line (all ++ words ∷ []) (λ b.
    let whole : d.opening ++ d.inodes_line ∷ words ∷ b.more ≡ b.says.opening ++ b.says.inodes_line ∷ b.says.pages_line ∷ b.says.journals_line ∷ b.says.operation_lines =
    simp (d.whole, append_assoc) at b.says.whole in
    let same = opening_unique d.opening b.says.opening layout b.plan.layout d.inodes_line b.says.inodes_line (words ∷ b.more)
    (b.says.pages_line ∷ b.says.journals_line ∷ b.says.operation_lines) inodes b.plan.inodes d.opens b.says.layout d.says b.says.inodes whole in
    let counts = inodes_same d.inodes_line b.says.inodes_line inodes b.plan.inodes (head_same _ _ _ _ same.rest) d.says b.says.inodes in
    let here = head_same _ _ _ _ (tail_same _ _ _ _ same.rest) in
    none b.plan.pages (pages_along b.plan.inodes inodes b.says.pages_line words b.plan.pages (sym counts) (sym here) b.says.pages))

pub no_journals : (words : List (List ℕ)) (layout : Layout) (inodes pages : ℕ) → ((journals : ℕ) → ¬ (SaysJournals words journals)) → (all : List (List (List ℕ)))
    → SaysToPages all layout inodes pages → BreaksRule code.Line (all ++ words ∷ [])
no_journals words layout inodes pages none all d = no_line (all ++ words ∷ []) (λ b.
    let whole : d.opening ++ d.inodes_line ∷ d.pages_line ∷ words ∷ b.more ≡ b.says.opening ++ b.says.inodes_line ∷ b.says.pages_line ∷ b.says.journals_line ∷ b.says.operation_lines =
    simp (d.whole, append_assoc) at b.says.whole in
    let same = opening_unique d.opening b.says.opening layout b.plan.layout d.inodes_line b.says.inodes_line (d.pages_line ∷ words ∷ b.more)
    (b.says.pages_line ∷ b.says.journals_line ∷ b.says.operation_lines) inodes b.plan.inodes d.opens b.says.layout d.says b.says.inodes whole in
    let here = head_same _ _ _ _ (tail_same _ _ _ _ (tail_same _ _ _ _ same.rest)) in
    none b.plan.journals (journals_along b.says.journals_line words b.plan.journals (sym here) b.says.journals))

-- the operation of a line after others
pub record IsNext (before : List Operation) (words : List (List ℕ)) (all : List Operation) : Type 0 where
  pub operation : Operation
  pub rest : List Operation
  pub whole : all ≡ before ++ operation ∷ rest
  pub says : SaysOperation words operation

next_of : (ls : List (List (List ℕ))) (words : List (List ℕ)) (more : List (List (List ℕ))) (before all : List Operation) → AllZip SaysOperation ls before
    → AllZip SaysOperation (ls ++ words ∷ more) all → IsNext before words all
next_of [] words more [] [] z y = absurd y
next_of [] words more [] (o ∷ all) z y = record { operation = o; rest = all; whole = refl; says = y.0 }
next_of [] words more (p ∷ before) all z y = absurd z
next_of (l ∷ ls) words more [] all z y = absurd z
next_of (l ∷ ls) words more (p ∷ before) [] z y = absurd y
next_of (l ∷ ls) words more (p ∷ before) (o ∷ all) z y =
    let next = next_of ls words more before all z.1 y.1 in
    let same : o ≡ p = operation_unique l o p y.0 z.0 in
    let rest : all ≡ before ++ next.operation ∷ next.rest = next.whole in
    record { operation = next.operation; rest = next.rest; whole = cc; says = next.says }

-- what a plan that begins with another's lines has of the next line
pub record IsNextLine (last : ℕ) (plan : PlanView) (words : List (List ℕ)) : Type 0 where
  pub operation : Operation
  pub says : SaysOperation words operation
  pub rules : KeepsRules last (with_operation plan operation)

pub next_line : (last : ℕ) (all : List (List (List ℕ))) (plan : PlanView) (words : List (List ℕ)) → SaysPlan 4 all plan → BeginsPlan last (all ++ words ∷ [])
    → IsNextLine last plan words
next_line last all plan words p b =
    let whole : p.opening ++ p.inodes_line ∷ p.pages_line ∷ p.journals_line ∷ (p.operation_lines ++ words ∷ b.more)
    ≡ b.says.opening ++ b.says.inodes_line ∷ b.says.pages_line ∷ b.says.journals_line ∷ b.says.operation_lines =
    simp (p.whole, append_assoc) at b.says.whole in
    let same = opening_unique p.opening b.says.opening plan.layout b.plan.layout p.inodes_line b.says.inodes_line
    (p.pages_line ∷ p.journals_line ∷ (p.operation_lines ++ words ∷ b.more)) (b.says.pages_line ∷ b.says.journals_line ∷ b.says.operation_lines)
    plan.inodes b.plan.inodes p.layout b.says.layout p.inodes b.says.inodes whole in
    let counts = inodes_same p.inodes_line b.says.inodes_line plan.inodes b.plan.inodes (head_same _ _ _ _ same.rest) p.inodes b.says.inodes in
    let lines : p.operation_lines ++ words ∷ b.more ≡ b.says.operation_lines = tail_same _ _ _ _ (tail_same _ _ _ _ (tail_same _ _ _ _ same.rest)) in
    let zip : AllZip SaysOperation (p.operation_lines ++ words ∷ b.more) b.plan.operations = rw lines b.says.operations in
    let next = next_of p.operation_lines words b.more plan.operations b.plan.operations p.operations zip in
    record {
      operation = next.operation;
      says = next.says;
      rules = rules_front last b.plan plan next.operation next.rest (sym same.layouts) (sym counts) next.whole b.says.rules;
    }

no_operation_line : (words : List (List ℕ)) (plan : PlanView) → ((operation : Operation) → ¬ SaysOperation words operation) → (all : List (List (List ℕ)))
    → SaysPlan 4 all plan → BreaksRule code.Line (all ++ words ∷ [])
no_operation_line words plan none all p =
    no_line (all ++ words ∷ []) (λ b. let next = next_line 1 all plan words p b in none next.operation next.says)

broken_at : (words : List (List ℕ)) (plan : PlanView) (broken : PlanCode) → BreaksAt plan words broken → (all : List (List (List ℕ))) → SaysPlan 4 all plan
    → BreaksRule broken (all ++ words ∷ [])
broken_at words plan broken at all p = record {
  breaks = λ b.
      let next = next_line (code_number broken) all plan words p b in
      let same : next.operation ≡ at.operation = operation_unique words next.operation at.operation next.says at.says in
      at.breaks (subst (λ (o : Operation). KeepsRules (code_number broken) (with_operation plan o)) same next.rules);
  keeps = λ lower some low.
      plan_begins lower (all ++ words ∷ []) (with_operation plan at.operation) (says_more lower 4 all plan words at.operation p at.says (at.keeps lower some low));
}

-- a line that an operation's place refuses
pub no_operation : (words : List (List ℕ)) (plan : PlanView) (broken : PlanCode) → OnText broken (BreaksLine plan words broken)
    → OnText broken ((all : List (List (List ℕ))) → SaysPlan 4 all plan → BreaksRule broken (all ++ words ∷ []))
no_operation words plan code.Line b = no_operation_line words plan b
no_operation words plan code.Twice b = broken_at words plan code.Twice b
no_operation words plan code.Inode b = broken_at words plan code.Inode b
no_operation words plan code.Name b = broken_at words plan code.Name b
no_operation words plan code.Memory b = tt

-- the same of what the parts of a draft answer
pub refused_start : (draft : Draft) (words : List (List ℕ)) (r : Result Draft PlanCode) → draft ≡ Empty → ((layout : Layout) → ¬ (SaysLayout words layout))
    → IfErr r (λ _. (inodes : ℕ) → ¬ (SaysInodes words inodes)) → IfErr r (λ broken. broken ≡ code.Line)
    → IfErr r (λ code. OnText code ((all : List (List (List ℕ))) → IsDraft all draft → BreaksRule code (all ++ words ∷ [])))
refused_start draft words (Ok next) e layouts none line = tt
refused_start draft words (Err broken) e layouts none line = rw (line, e) (no_start words layouts none)

pub refused_inodes : (draft : Draft) (words : List (List ℕ)) (layout : Layout) (r : Result Draft PlanCode) → draft ≡ Opened layout
    → IfErr r (λ _. (inodes : ℕ) → ¬ (SaysInodes words inodes)) → IfErr r (λ broken. broken ≡ code.Line)
    → IfErr r (λ code. OnText code ((all : List (List (List ℕ))) → IsDraft all draft → BreaksRule code (all ++ words ∷ [])))
refused_inodes draft words layout (Ok next) e none line = tt
refused_inodes draft words layout (Err broken) e none line = rw (line, e) (no_inodes words layout none)

pub refused_pages : (draft : Draft) (words : List (List ℕ)) (layout : Layout) (inodes : ℕ) (r : Result Draft PlanCode) → draft ≡ Counted layout inodes
    → IfErr r (λ _. (pages : ℕ) → ¬ (SaysPages inodes words pages)) → IfErr r (λ broken. broken ≡ code.Line)
    → IfErr r (λ code. OnText code ((all : List (List (List ℕ))) → IsDraft all draft → BreaksRule code (all ++ words ∷ [])))
refused_pages draft words layout inodes (Ok next) e none line = tt
refused_pages draft words layout inodes (Err broken) e none line = rw (line, e) (no_pages words layout inodes none)

pub refused_journals : (draft : Draft) (words : List (List ℕ)) (layout : Layout) (inodes pages : ℕ) → draft ≡ Paged layout inodes pages
    → ((journals : ℕ) → ¬ (SaysJournals words journals)) → (all : List (List (List ℕ))) → IsDraft all draft → BreaksRule code.Line (all ++ words ∷ [])
refused_journals draft words layout inodes pages e none = rw e (no_journals words layout inodes pages none)

pub refused_operation : (draft : Draft) (words : List (List ℕ)) (plan : PlanView) (r : Result Draft PlanCode) → draft ≡ Whole plan
    → IfErr r (λ code. OnText code (BreaksLine plan words code))
    → IfErr r (λ code. OnText code ((all : List (List (List ℕ))) → IsDraft all draft → BreaksRule code (all ++ words ∷ [])))
refused_operation draft words plan (Ok next) e b = tt
refused_operation draft words plan (Err broken) e b = rw e (no_operation words plan broken b)

grown_draft : (words : List (List ℕ)) (plan : PlanView) (next : Draft) → Grows plan words next → (all : List (List (List ℕ))) → SaysPlan 4 all plan
    → IsDraft (all ++ words ∷ []) next
grown_draft words plan Empty g all p = absurd g
grown_draft words plan (Opened layout) g all p = absurd g
grown_draft words plan (Counted layout inodes) g all p = absurd g
grown_draft words plan (Paged layout inodes pages) g all p = absurd g
grown_draft words plan (Whole new) g all p = whole_more words plan new g all p

pub accepted_operation : (draft : Draft) (words : List (List ℕ)) (plan : PlanView) (r : Result Draft PlanCode) → draft ≡ Whole plan → IfOk r (Grows plan words)
    → IfOk r (λ next. (all : List (List (List ℕ))) → IsDraft all draft → IsDraft (all ++ words ∷ []) next)
accepted_operation draft words plan (Ok next) e g = rw e (grown_draft words plan next g)
accepted_operation draft words plan (Err broken) e g = tt

asked_operation : (draft : Draft) (words : List (List ℕ)) (plan new : PlanView) → draft ≡ Whole plan → AddsLine plan words new → TakesOperation draft words
asked_operation draft words plan new e adds = record {
  operation = adds.operation;
  says = adds.says;
  next = Whole new;
  drafted = rw e (grown_draft words plan (Whole new) adds);
}

pub asked_operations : (draft : Draft) (words : List (List ℕ)) (plan : PlanView) (r : Result Draft PlanCode) → draft ≡ Whole plan
    → IfErr r (λ broken. broken ≡ code.Memory → (new : PlanView) × AddsLine plan words new) → IfErr r (λ broken. broken ≡ code.Memory → TakesOperation draft words)
asked_operations draft words plan (Ok next) e adds = tt
asked_operations draft words plan (Err broken) e adds = λ memory. let new = adds memory in asked_operation draft words plan new.0 e new.1
