-- What can follow the lines so far.
use Rattle.std.proofs.Common.{◌≡◌, ◌≤◌, ◌<◌, ◌^◌, ℕ, List, [], ◌∷◌, codes, refl, sym, ◌∙◌, ap, arith, append-nil, append_assoc, length, length-append}
use Rattle.std.specs.Fmt.{decimal}
use Rattle.std.proofs.lemmas.Fmt.{decimal_is_IsNumeral}
use Rattle.nova_log.specs.declared.layout.Layout.{Layout}
use Rattle.nova_log.specs.declared.layout.Layout.TheVariants.{One}
use Rattle.plan.specs.declared.draft.Draft.{Draft}
use Rattle.plan.specs.declared.draft.Draft.TheVariants.{Empty, Opened, Counted, Paged, Whole}
use Rattle.plan.proofs.Rules.{distinct_none}
use Rattle.plan.proofs.Unique.{opening_unique}
use Rattle.plan.specs.Drafts.{IsDraft, SaysOpening, SaysToInodes, SaysToPages}
use Rattle.plan.specs.Grammar.{BeginsPlan, SaysCount, SaysPlan}
use Rattle.plan.specs.Plans.{KeepsRules, PlanView, by_parts}

abbrev pub new_plan : Layout → ℕ → ℕ → ℕ → PlanView
new_plan layout inodes pages journals = by_parts layout inodes pages journals []

-- a plan without operations keeps the rules
pub no_operations : (last : ℕ) (layout : Layout) (inodes pages journals : ℕ) → KeepsRules last (new_plan layout inodes pages journals)
no_operations last layout inodes pages journals = record { distinct = λ _. distinct_none; inodes = λ _. tt; names = λ _. tt }

-- a line of a count
abbrev line_of : List ℕ → ℕ → List (List ℕ)
line_of keyword count = keyword ∷ decimal count ∷ []

line_says : (keyword : List ℕ) (low high count : ℕ) → low ≤ count → count ≤ high → count < 2 ^ 64 → SaysCount keyword low high (line_of keyword count) count
line_says keyword low high count least most small =
    let (numeral, value) = decimal_is_IsNumeral count small in
    record { digits = decimal count; spelled = refl; is_number = record { numeral = numeral; value = sym value }; least = least; most = most }

abbrev inodes_text : List ℕ
inodes_text = codes "inodes"

abbrev pages_text : List ℕ
pages_text = codes "pages"

abbrev journals_text : List ℕ
journals_text = codes "journals"

-- a plan begins with the lines of each draft
pub empty_begins : (all : List (List (List ℕ))) → all ≡ [] → BeginsPlan 4 all
empty_begins all e = record {
  more = line_of inodes_text 1 ∷ line_of pages_text 240 ∷ line_of journals_text 1 ∷ [];
  plan = new_plan One 1 240 1;
  says = record {
    opening = [];
    inodes_line = line_of inodes_text 1;
    pages_line = line_of pages_text 240;
    journals_line = line_of journals_text 1;
    operation_lines = [];
    whole = rw e refl;
    layout = refl;
    inodes = line_says inodes_text 1 64 1 (omega arith) (omega arith) (omega arith);
    pages = line_says pages_text 1 240 240 (omega arith) (omega arith) (omega arith);
    journals = line_says journals_text 1 8 1 (omega arith) (omega arith) (omega arith);
    operations = tt;
    rules = no_operations 4 One 1 240 1;
  };
}

pub opened_begins : (all : List (List (List ℕ))) (layout : Layout) → SaysOpening all layout → BeginsPlan 4 all
opened_begins all layout d = record {
  more = line_of inodes_text 1 ∷ line_of pages_text 240 ∷ line_of journals_text 1 ∷ [];
  plan = new_plan layout 1 240 1;
  says = record {
    opening = d.layout_line ∷ [];
    inodes_line = line_of inodes_text 1;
    pages_line = line_of pages_text 240;
    journals_line = line_of journals_text 1;
    operation_lines = [];
    whole = rw d.whole refl;
    layout = d.says;
    inodes = line_says inodes_text 1 64 1 (omega arith) (omega arith) (omega arith);
    pages = line_says pages_text 1 240 240 (omega arith) (omega arith) (omega arith);
    journals = line_says journals_text 1 8 1 (omega arith) (omega arith) (omega arith);
    operations = tt;
    rules = no_operations 4 layout 1 240 1;
  };
}

pub counted_begins : (all : List (List (List ℕ))) (layout : Layout) (inodes : ℕ) → SaysToInodes all layout inodes → BeginsPlan 4 all
counted_begins all layout inodes d = record {
  more = line_of pages_text 240 ∷ line_of journals_text 1 ∷ [];
  plan = new_plan layout inodes 240 1;
  says = record {
    opening = d.opening;
    inodes_line = d.inodes_line;
    pages_line = line_of pages_text 240;
    journals_line = line_of journals_text 1;
    operation_lines = [];
    whole = rw (d.whole, append_assoc) refl;
    layout = d.opens;
    inodes = d.says;
    pages = line_says pages_text inodes 240 240 (omega (arith, d.says.most)) (omega arith) (omega arith);
    journals = line_says journals_text 1 8 1 (omega arith) (omega arith) (omega arith);
    operations = tt;
    rules = no_operations 4 layout inodes 240 1;
  };
}

pub paged_begins : (all : List (List (List ℕ))) (layout : Layout) (inodes pages : ℕ) → SaysToPages all layout inodes pages → BeginsPlan 4 all
paged_begins all layout inodes pages d = record {
  more = line_of journals_text 1 ∷ [];
  plan = new_plan layout inodes pages 1;
  says = record {
    opening = d.opening;
    inodes_line = d.inodes_line;
    pages_line = d.pages_line;
    journals_line = line_of journals_text 1;
    operation_lines = [];
    whole = rw (d.whole, append_assoc) refl;
    layout = d.opens;
    inodes = d.says;
    pages = d.says_pages;
    journals = line_says journals_text 1 8 1 (omega arith) (omega arith) (omega arith);
    operations = tt;
    rules = no_operations 4 layout inodes pages 1;
  };
}

pub plan_begins : (last : ℕ) (all : List (List (List ℕ))) (plan : PlanView) → SaysPlan last all plan → BeginsPlan last all
plan_begins last all plan says = record { more = []; plan = plan; says = rw append-nil says }

pub draft_begins : (all : List (List (List ℕ))) (draft : Draft) → IsDraft all draft → BeginsPlan 4 all
draft_begins all Empty d = empty_begins all d
draft_begins all (Opened layout) d = opened_begins all layout d
draft_begins all (Counted layout inodes) d = counted_begins all layout inodes d
draft_begins all (Paged layout inodes pages) d = paged_begins all layout inodes pages d
draft_begins all (Whole plan) d = plan_begins 4 all plan d

-- the lines so far are no plan where the lines of the counts are missing
pub empty_is_none : (all : List (List (List ℕ))) → all ≡ [] → (plan : PlanView) → ¬ SaysPlan 4 all plan
empty_is_none all e plan p =
    let long = ap length (sym e ∙ p.whole) in
    omega (arith, simp length-append at long)

pub opened_is_none : (all : List (List (List ℕ))) (layout : Layout) → SaysOpening all layout → (plan : PlanView) → ¬ SaysPlan 4 all plan
opened_is_none all layout d plan p =
    let long = ap length (sym d.whole ∙ p.whole) in
    omega (arith, simp length-append at long)

pub counted_is_none : (all : List (List (List ℕ))) (layout : Layout) (inodes : ℕ) → SaysToInodes all layout inodes → (plan : PlanView) → ¬ SaysPlan 4 all plan
counted_is_none all layout inodes d plan p =
    let same = opening_unique d.opening p.opening layout plan.layout d.inodes_line p.inodes_line [] (p.pages_line ∷ p.journals_line ∷ p.operation_lines) inodes plan.inodes d.opens p.layout d.says p.inodes (sym d.whole ∙ p.whole) in
    let long = ap length same.rest in
    omega (arith, long)

pub paged_is_none : (all : List (List (List ℕ))) (layout : Layout) (inodes pages : ℕ) → SaysToPages all layout inodes pages → (plan : PlanView) → ¬ SaysPlan 4 all plan
paged_is_none all layout inodes pages d plan p =
    let same = opening_unique d.opening p.opening layout plan.layout d.inodes_line p.inodes_line (d.pages_line ∷ []) (p.pages_line ∷ p.journals_line ∷ p.operation_lines) inodes plan.inodes d.opens p.layout d.says p.inodes (sym d.whole ∙ p.whole) in
    let long = ap length same.rest in
    omega (arith, long)
