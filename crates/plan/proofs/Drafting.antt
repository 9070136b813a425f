-- A draft with the line that comes next.
use Rattle.std.proofs.Common.{◌≡◌, ℕ, List, [], ◌∷◌, ◌++◌, refl, sym, subst, append_assoc}
use Rattle.std.specs.List.{AllZip}
use Rattle.nova_log.specs.declared.layout.Layout.{Layout}
use Rattle.nova_log.specs.declared.layout.Layout.TheVariants.{One}
use Rattle.plan.specs.declared.operation.Operation.{Operation}
use Rattle.plan.proofs.Headers.{new_plan, no_operations}
use Rattle.plan.specs.Drafts.{AddsLine, SaysOpening, SaysToInodes, SaysToPages}
use Rattle.plan.specs.Grammar.{SaysInodes, SaysJournals, SaysLayout, SaysOperation, SaysPages, SaysPlan}
use Rattle.plan.specs.Plans.{KeepsRules, PlanView, with_operation}

pub opened : (words : List (List ℕ)) (layout : Layout) → SaysLayout words layout → (all : List (List (List ℕ))) → all ≡ [] → SaysOpening (all ++ words ∷ []) layout
opened words layout s all e = record { layout_line = words; whole = rw e refl; says = s }

pub counted : (words : List (List ℕ)) (inodes : ℕ) → SaysInodes words inodes → (all : List (List (List ℕ))) → all ≡ [] → SaysToInodes (all ++ words ∷ []) One inodes
counted words inodes s all e = record { opening = []; inodes_line = words; whole = rw e refl; opens = refl; says = s }

pub counted_later : (words : List (List ℕ)) (layout : Layout) (inodes : ℕ) → SaysInodes words inodes → (all : List (List (List ℕ))) → SaysOpening all layout
    → SaysToInodes (all ++ words ∷ []) layout inodes
counted_later words layout inodes s all d = record {
  opening = d.layout_line ∷ [];
  inodes_line = words;
  whole = rw d.whole refl;
  opens = d.says;
  says = s;
}

pub paged : (words : List (List ℕ)) (layout : Layout) (inodes pages : ℕ) → SaysPages inodes words pages → (all : List (List (List ℕ)))
    → SaysToInodes all layout inodes → SaysToPages (all ++ words ∷ []) layout inodes pages
paged words layout inodes pages s all d = record {
  opening = d.opening;
  inodes_line = d.inodes_line;
  pages_line = words;
  whole = rw (d.whole, append_assoc) refl;
  opens = d.opens;
  says = d.says;
  says_pages = s;
}

pub whole : (words : List (List ℕ)) (layout : Layout) (inodes pages journals : ℕ) → SaysJournals words journals → (all : List (List (List ℕ)))
    → SaysToPages all layout inodes pages → SaysPlan 4 (all ++ words ∷ []) (new_plan layout inodes pages journals)
whole words layout inodes pages journals s all d = record {
  opening = d.opening;
  inodes_line = d.inodes_line;
  pages_line = d.pages_line;
  journals_line = words;
  operation_lines = [];
  whole = rw (d.whole, append_assoc) refl;
  layout = d.opens;
  inodes = d.says;
  pages = d.says_pages;
  journals = s;
  operations = tt;
  rules = no_operations 4 layout inodes pages journals;
}

zip_more : (ls : List (List (List ℕ))) (os : List Operation) (l : List (List ℕ)) (o : Operation) → AllZip SaysOperation ls os → SaysOperation l o
    → AllZip SaysOperation (ls ++ l ∷ []) (os ++ o ∷ [])
zip_more [] [] l o z s = (s, tt)
zip_more [] (p ∷ os) l o z s = absurd z
zip_more (k ∷ ls) [] l o z s = absurd z
zip_more (k ∷ ls) (p ∷ os) l o z s = (z.0, zip_more ls os l o z.1 s)

-- the lines of a plan and that of an operation more
pub says_more : (last first : ℕ) (all : List (List (List ℕ))) (plan : PlanView) (words : List (List ℕ)) (operation : Operation) → SaysPlan first all plan
    → SaysOperation words operation → KeepsRules last (with_operation plan operation) → SaysPlan last (all ++ words ∷ []) (with_operation plan operation)
says_more last first all plan words operation p s keeps = record {
  opening = p.opening;
  inodes_line = p.inodes_line;
  pages_line = p.pages_line;
  journals_line = p.journals_line;
  operation_lines = p.operation_lines ++ words ∷ [];
  whole = rw (p.whole, append_assoc) refl;
  layout = p.layout;
  inodes = p.inodes;
  pages = p.pages;
  journals = p.journals;
  operations = zip_more p.operation_lines plan.operations words operation p.operations s;
  rules = keeps;
}

pub whole_more : (words : List (List ℕ)) (old new : PlanView) → AddsLine old words new → (all : List (List (List ℕ))) → SaysPlan 4 all old
    → SaysPlan 4 (all ++ words ∷ []) new
whole_more words old new a all p =
    let P : PlanView → Type 0 = λ plan. SaysPlan 4 (all ++ words ∷ []) plan in
    subst P (sym a.grown) (says_more 4 4 all old words a.operation p a.says (subst (λ (plan : PlanView). KeepsRules 4 plan) a.grown a.rules))
