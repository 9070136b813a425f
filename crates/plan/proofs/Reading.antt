-- A text that is read line by line.
use Rattle.std.proofs.Common.{◌≡◌, ◌≤◌, ◌+◌, ℕ, List, [], ◌∷◌, ◌++◌, map, length, refl, sym, ◌∙◌, ap, arith, inl, inr, subst, append_assoc, append-nil, length-append}
use Rattle.std.specs.List.{before_first, filter}
use Rattle.std.proofs.lemmas.Bool.{lt-ltb}
use Rattle.std.proofs.lemmas.List.{map-append}
use Rattle.std.proofs.lemmas.List.Elements.{filter-append}
use Rattle.nova_log.specs.declared.layout.Layout.{Layout}
use Rattle.plan.specs.declared.draft.Draft.{Draft}
use Rattle.plan.specs.declared.draft.Draft.TheVariants.{Empty, Opened, Counted, Paged, Whole}
use Rattle.plan.specs.declared.fault.PlanCode.{PlanCode}
use Rattle.plan.specs.declared.fault.PlanCode.TheVariants as code
use Rattle.plan.specs.declared.operation.Operation.{Operation}
use Rattle.plan.proofs.Headers.{counted_is_none, draft_begins, empty_is_none, opened_is_none, paged_is_none}
use Rattle.plan.proofs.Unique.{count_unique, head_same, opening_unique, operations_unique, tail_same}
use Rattle.plan.specs.Drafts.{IsDraft, IsUnfinished, TakesOperation}
use Rattle.plan.specs.Grammar.{BeginsThrough, BreaksRule, IsFirstFault, IsPlan, OnText, SaysPlan, code_number}
use Rattle.plan.specs.Lines.{is_hash, lines, statements}
use Rattle.text.specs.Words.{is_filled, words}
use Rattle.plan.specs.Plans.{KeepsRules, PlanView, by_parts}

-- the lines before the rest, and the draft of them
pub record IsReading (text : List ℕ) (number : ℕ) (rest : List ℕ) (draft : Draft) : Type 0 where
  pub before : List (List ℕ)
  pub whole : lines text ≡ before ++ lines rest
  pub place : number ≡ length before + 1
  pub drafted : IsDraft (statements before) draft

pub nothing_read : (text : List ℕ) → IsReading text 1 text Empty
nothing_read text = record { before = []; whole = refl; place = refl; drafted = refl }

-- a line more
statements_more : (before : List (List ℕ)) (line : List ℕ) → statements (before ++ line ∷ []) ≡ statements before ++ statements (line ∷ [])
statements_more before line =
    rw (map-append (λ (l : List ℕ). words (before_first is_hash l)) before (line ∷ []))
    (filter-append is_filled (map (λ (l : List ℕ). words (before_first is_hash l)) before) (words (before_first is_hash line) ∷ []))

pub blank_line : (line : List ℕ) → words (before_first is_hash line) ≡ [] → (before : List (List ℕ)) → statements (before ++ line ∷ []) ≡ statements before
blank_line line e before = statements_more before line ∙ rw (e, append-nil) refl

filled_alone : (all : List (List ℕ)) → ¬ (all ≡ []) → filter is_filled (all ∷ []) ≡ all ∷ []
filled_alone [] some = absurd (some refl)
filled_alone (word ∷ rest) some = rw (lt-ltb 0 (length (word ∷ rest)) (omega arith)) refl

pub filled_line : (line : List ℕ) → ¬ (words (before_first is_hash line) ≡ []) → (before : List (List ℕ))
    → statements (before ++ line ∷ []) ≡ statements before ++ words (before_first is_hash line) ∷ []
filled_line line some before = statements_more before line ∙ ap (λ (more : List (List (List ℕ))). statements before ++ more) (filled_alone (words (before_first is_hash line)) some)

pub one_more_read : (text : List ℕ) (number : ℕ) (rest line after : List ℕ) (draft next : Draft) → IsReading text number rest draft → lines rest ≡ line ∷ lines after
    → ((before : List (List ℕ)) → IsDraft (statements before) draft → IsDraft (statements (before ++ line ∷ [])) next) → IsReading text (number + 1) after next
one_more_read text number rest line after draft next r e more = record {
  before = r.before ++ line ∷ [];
  whole = r.whole ∙ rw (e, append_assoc) refl;
  place = omega (arith, r.place, length-append r.before (line ∷ []));
  drafted = more r.before r.drafted;
}

-- the line at fault
fault_at : (text : List ℕ) (number : ℕ) (rest line after : List ℕ) (draft : Draft) (broken : PlanCode) → IsReading text number rest draft → lines rest ≡ line ∷ lines after
    → ((before : List (List ℕ)) → IsDraft (statements before) draft → BreaksRule broken (statements (before ++ line ∷ []))) → IsFirstFault text number broken
fault_at text number rest line after draft broken r e breaks = inl (record {
  before = r.before;
  line = line;
  after = lines after;
  whole = r.whole ∙ rw e refl;
  place = r.place;
  begins = draft_begins (statements r.before) draft r.drafted;
  breaks = breaks r.before r.drafted;
})

pub line_at_fault : (text : List ℕ) (number : ℕ) (rest line after : List ℕ) (draft : Draft) (broken : PlanCode) → IsReading text number rest draft
    → lines rest ≡ line ∷ lines after
    → OnText broken ((before : List (List ℕ)) → IsDraft (statements before) draft → BreaksRule broken (statements (before ++ line ∷ [])))
    → OnText broken (IsFirstFault text number broken)
line_at_fault text number rest line after draft code.Line r e b = fault_at text number rest line after draft code.Line r e b
line_at_fault text number rest line after draft code.Twice r e b = fault_at text number rest line after draft code.Twice r e b
line_at_fault text number rest line after draft code.Inode r e b = fault_at text number rest line after draft code.Inode r e b
line_at_fault text number rest line after draft code.Name r e b = fault_at text number rest line after draft code.Name r e b
line_at_fault text number rest line after draft code.Memory r e b = tt

-- the line that asks for memory
pub asks_at : (text : List ℕ) (number : ℕ) (rest line after : List ℕ) (draft : Draft) → IsReading text number rest draft → lines rest ≡ line ∷ lines after
    → TakesOperation draft (words (before_first is_hash line)) → BeginsThrough text number
asks_at text number rest line after draft r e t =
    let spoken = words (before_first is_hash line) in
    let some : ¬ (spoken ≡ []) = λ none. let long = ap length (sym none ∙ t.says.spelled) in absurd (omega arith) in
    record {
      before = r.before;
      line = line;
      after = lines after;
      operation = t.operation;
      whole = r.whole ∙ rw e refl;
      place = r.place;
      says = t.says;
      begins = rw (filled_line line some r.before) (draft_begins (statements r.before ++ spoken ∷ []) t.next (t.drafted (statements r.before) r.drafted));
    }

-- the whole text
pub all_read : (text : List ℕ) (number : ℕ) (rest : List ℕ) (plan : PlanView) → IsReading text number rest (Whole plan) → lines rest ≡ [] → IsPlan text plan
all_read text number rest plan r e =
    let whole : lines text ≡ r.before = r.whole ∙ rw (e, append-nil) refl in
    rw whole r.drafted

unfinished_is_none : (all : List (List (List ℕ))) (draft : Draft) → IsUnfinished draft → IsDraft all draft → (plan : PlanView) → ¬ SaysPlan 4 all plan
unfinished_is_none all Empty u d = empty_is_none all d
unfinished_is_none all (Opened layout) u d = opened_is_none all layout d
unfinished_is_none all (Counted layout inodes) u d = counted_is_none all layout inodes d
unfinished_is_none all (Paged layout inodes pages) u d = paged_is_none all layout inodes pages d
unfinished_is_none all (Whole plan) u d = absurd u

pub ends_early : (text : List ℕ) (number : ℕ) (rest : List ℕ) (draft : Draft) → IsReading text number rest draft → lines rest ≡ [] → IsUnfinished draft
    → IsFirstFault text number code.Line
ends_early text number rest draft r e u =
    let whole : lines text ≡ r.before = r.whole ∙ rw (e, append-nil) refl in
    inr (record {
      place = rw whole r.place;
      missing = refl;
      begins = rw whole (draft_begins (statements r.before) draft r.drafted);
      none = rw whole (unfinished_is_none (statements r.before) draft u r.drafted);
    })

-- a text is one plan at most
plan_of : (p q : PlanView) → p.layout ≡ q.layout → p.inodes ≡ q.inodes → p.pages ≡ q.pages → p.journals ≡ q.journals → p.operations ≡ q.operations → p ≡ q
plan_of p q a b c d e =
    ap (λ (x : Layout). by_parts x p.inodes p.pages p.journals p.operations) a
    ∙ ap (λ (x : ℕ). by_parts q.layout x p.pages p.journals p.operations) b
    ∙ ap (λ (x : ℕ). by_parts q.layout q.inodes x p.journals p.operations) c
    ∙ ap (λ (x : ℕ). by_parts q.layout q.inodes q.pages x p.operations) d
    ∙ ap (λ (x : List Operation). by_parts q.layout q.inodes q.pages q.journals x) e

pub one_plan : (text : List ℕ) (p q : PlanView) → IsPlan text p → IsPlan text q → q ≡ p
one_plan text p q x y =
    let same = opening_unique y.opening x.opening q.layout p.layout y.inodes_line x.inodes_line (y.pages_line ∷ y.journals_line ∷ y.operation_lines)
    (x.pages_line ∷ x.journals_line ∷ x.operation_lines) q.inodes p.inodes y.layout x.layout y.inodes x.inodes (sym y.whole ∙ x.whole) in
    let inodes_line = head_same _ _ _ _ same.rest in
    let after_inodes = tail_same _ _ _ _ same.rest in
    let pages_line = head_same _ _ _ _ after_inodes in
    let after_pages = tail_same _ _ _ _ after_inodes in
    let journals_line = head_same _ _ _ _ after_pages in
    let operation_lines = tail_same _ _ _ _ after_pages in
    let inodes = count_unique _ _ _ _ _ _ x.inodes_line q.inodes p.inodes (rw inodes_line at y.inodes) x.inodes in
    let pages = count_unique _ _ _ _ _ _ x.pages_line q.pages p.pages (rw pages_line at y.pages) x.pages in
    let journals = count_unique _ _ _ _ _ _ x.journals_line q.journals p.journals (rw journals_line at y.journals) x.journals in
    let operations = operations_unique x.operation_lines q.operations p.operations (rw operation_lines at y.operations) x.operations in
    plan_of q p same.layouts inodes pages journals operations

-- a text with a first fault is no plan
rules_fewer : (last : ℕ) (plan : PlanView) → last ≤ 4 → KeepsRules 4 plan → KeepsRules last plan
rules_fewer last plan low keeps = record {
  distinct = λ high. keeps.distinct (omega arith);
  inodes = λ high. keeps.inodes (omega arith);
  names = λ high. keeps.names (omega arith);
}

statements-append : (front back : List (List ℕ)) → statements (front ++ back) ≡ statements front ++ statements back
statements-append front back =
    rw (map-append (λ (l : List ℕ). words (before_first is_hash l)) front back)
    (filter-append is_filled (map (λ (l : List ℕ). words (before_first is_hash l)) front) (map (λ (l : List ℕ). words (before_first is_hash l)) back))

says_fewer : (last : ℕ) (all : List (List (List ℕ))) (plan : PlanView) → last ≤ 4 → SaysPlan 4 all plan → SaysPlan last all plan
says_fewer last all plan low p = record {
  opening = p.opening;
  inodes_line = p.inodes_line;
  pages_line = p.pages_line;
  journals_line = p.journals_line;
  operation_lines = p.operation_lines;
  whole = p.whole;
  layout = p.layout;
  inodes = p.inodes;
  pages = p.pages;
  journals = p.journals;
  operations = p.operations;
  rules = rules_fewer last plan low p.rules;
}

fault_is_none : (text : List ℕ) (number last : ℕ) (broken : PlanCode) → last ≤ 4 → code_number broken ≡ last → IsFirstFault text number broken
    → (plan : PlanView) → ¬ IsPlan text plan
fault_is_none text number last broken low e (inl f) plan p =
    let parts : lines text ≡ (f.before ++ f.line ∷ []) ++ f.after = rw append_assoc f.whole in
    let whole : statements (lines text) ≡ statements (f.before ++ f.line ∷ []) ++ statements f.after =
    ap statements parts ∙ statements-append (f.before ++ f.line ∷ []) f.after in
    f.breaks.breaks (record {
      more = statements f.after;
      plan = plan;
      says = rw (← whole, e) (says_fewer last (statements (lines text)) plan low p);
    })
fault_is_none text number last broken low e (inr f) plan p = f.none plan p

pub refused_is_none : (text : List ℕ) (number : ℕ) (broken : PlanCode) → OnText broken (IsFirstFault text number broken)
    → OnText broken ((plan : PlanView) → ¬ IsPlan text plan)
refused_is_none text number code.Line f = fault_is_none text number 1 code.Line (omega arith) refl f
refused_is_none text number code.Twice f = fault_is_none text number 2 code.Twice (omega arith) refl f
refused_is_none text number code.Inode f = fault_is_none text number 3 code.Inode (omega arith) refl f
refused_is_none text number code.Name f = fault_is_none text number 4 code.Name (omega arith) refl f
refused_is_none text number code.Memory f = tt

pub one_plan_read : (text : List ℕ) (number : ℕ) (rest : List ℕ) (draft : Draft) (plan : PlanView) → IsReading text number rest draft → draft ≡ Whole plan
    → lines rest ≡ [] → (other : PlanView) → IsPlan text other → other ≡ plan
one_plan_read text number rest draft plan r e ends other is =
    let whole : IsReading text number rest (Whole plan) = subst (λ (d : Draft). IsReading text number rest d) e r in
    one_plan text plan other (all_read text number rest plan whole ends) is
