-- What the line of an operation says, by the words that were found.
use Rattle.std.proofs.Common.{◌≡◌, ◌≢◌, ℕ, List, [], ◌∷◌, Option, get_or, codes, refl, sym, ◌∙◌, ap, arith, subst}
use Rattle.plan.specs.declared.operation.Action.{Action}
use Rattle.plan.specs.declared.operation.Action.TheVariants.{Append, Rename}
use Rattle.plan.specs.declared.operation.Operation.{Operation}
use Rattle.plan.specs.declared.operation_line.WordedAction.{WordedAction}
use Rattle.plan.specs.declared.operation_line.WordedAction.TheVariants as worded
use Rattle.plan.proofs.Beginnings.{first_same, rest_same}
use Rattle.plan.specs.Grammar.{IsNumber, SaysAction, SaysAppend, SaysOperation, SaysRename}
use Rattle.plan.specs.Worded.{BeginsInode, BeginsWide, HoldsName, WordsAction, WordsOperation}

-- the two keywords differ
pub keywords_differ : (keyword : List ℕ) → keyword ≡ codes "append" → keyword ≡ codes "rename" → ⊥
keywords_differ keyword e f = omega (arith, ap (λ (word : List ℕ). get_or word 0 0) (sym e ∙ f))

only_append : (words : List (List ℕ)) → ((inode value : ℕ) → ¬ SaysAppend words inode value) → (action : Action) → ¬ (SaysAction (codes "append") words action)
only_append words none (Append inode value) s = none inode value s.1
only_append words none (Rename from to name value) s = keywords_differ (codes "append") refl s.0

only_rename : (words : List (List ℕ)) → ((from to : ℕ) (name : List ℕ) (value : ℕ) → ¬ SaysRename words from to name value)
    → (action : Action) → ¬ (SaysAction (codes "rename") words action)
only_rename words none (Append inode value) s = keywords_differ (codes "rename") s.0 refl
only_rename words none (Rename from to name value) s = none from to name value s.1

-- after `append`
pub append_worded : (words one two : List (List ℕ)) (found : Option ℕ) (value : ℕ) → BeginsInode words found one → BeginsWide one value two → two ≡ []
    → WordsAction (codes "append") words (worded.Append found value)
append_worded words one two found value b v e = record {
  action = Append b.inode value;
  says = (
    refl,
    record {
      inode_digits = b.digits;
      value_digits = v.digits;
      spelled = rw (b.spelled, v.spelled, e) refl;
      inode_number = b.is_number;
      value_number = v.is_wide;
    },
  );
  holds = (b.holds, refl);
}

pub append_no_inode : (words : List (List ℕ))
    → ((digits : List ℕ) (inode : ℕ) (rest : List (List ℕ)) → words ≡ digits ∷ rest → ¬ (IsNumber digits inode))
    → (action : Action) → ¬ (SaysAction (codes "append") words action)
append_no_inode words none = only_append words (λ inode value s. none s.inode_digits inode (s.value_digits ∷ []) s.spelled s.inode_number)

after_inode : (words one : List (List ℕ)) (found : Option ℕ) (digits : List ℕ) (rest : List (List ℕ)) → BeginsInode words found one
    → words ≡ digits ∷ rest → one ≡ rest
after_inode words one found digits rest b e = rest_same words b.digits digits one rest b.spelled e

pub append_no_value : (words one : List (List ℕ)) (found : Option ℕ) → BeginsInode words found one
    → ((number : ℕ) (rest : List (List ℕ)) → ¬ (BeginsWide one number rest)) → (action : Action) → ¬ (SaysAction (codes "append") words action)
append_no_value words one found b none =
    only_append words (λ inode value s. none value [] (record {
      digits = s.value_digits;
      spelled = after_inode words one found s.inode_digits (s.value_digits ∷ []) b s.spelled;
      is_wide = s.value_number;
    }))

pub append_more : (words one two : List (List ℕ)) (found : Option ℕ) (value : ℕ) → BeginsInode words found one → BeginsWide one value two → ¬ (two ≡ [])
    → (action : Action) → ¬ (SaysAction (codes "append") words action)
append_more words one two found value b v more =
    only_append words (λ inode written s.
    more (rest_same one v.digits s.value_digits two [] v.spelled (after_inode words one found s.inode_digits (s.value_digits ∷ []) b s.spelled)))

-- after `rename`
pub rename_worded : (words one two three four : List (List ℕ)) (source target : Option ℕ) (word : List ℕ) (called : Option (List ℕ)) (value : ℕ)
    → BeginsInode words source one → BeginsInode one target two → two ≡ word ∷ three → BeginsWide three value four → four ≡ [] → HoldsName called word
    → WordsAction (codes "rename") words (worded.Rename source target called value)
rename_worded words one two three four source target word called value b c e v f h = record {
  action = Rename b.inode c.inode word value;
  says = (
    refl,
    record {
      from_digits = b.digits;
      to_digits = c.digits;
      value_digits = v.digits;
      spelled = rw (b.spelled, c.spelled, e, v.spelled, f) refl;
      from_number = b.is_number;
      to_number = c.is_number;
      value_number = v.is_wide;
    },
  );
  holds = (b.holds, c.holds, h, refl);
}

pub rename_no_from : (words : List (List ℕ))
    → ((digits : List ℕ) (inode : ℕ) (rest : List (List ℕ)) → words ≡ digits ∷ rest → ¬ (IsNumber digits inode))
    → (action : Action) → ¬ (SaysAction (codes "rename") words action)
rename_no_from words none =
    only_rename words (λ from to name value s. none s.from_digits from (s.to_digits ∷ name ∷ s.value_digits ∷ []) s.spelled s.from_number)

pub rename_no_to : (words one : List (List ℕ)) (source : Option ℕ) → BeginsInode words source one
    → ((digits : List ℕ) (inode : ℕ) (rest : List (List ℕ)) → one ≡ digits ∷ rest → ¬ (IsNumber digits inode))
    → (action : Action) → ¬ (SaysAction (codes "rename") words action)
rename_no_to words one source b none =
    only_rename words (λ from to name value s. none s.to_digits to (name ∷ s.value_digits ∷ [])
    (after_inode words one source s.from_digits (s.to_digits ∷ name ∷ s.value_digits ∷ []) b s.spelled) s.to_number)

after_two : (words one two : List (List ℕ)) (source target : Option ℕ) (first second : List ℕ) (rest : List (List ℕ)) → BeginsInode words source one
    → BeginsInode one target two → words ≡ first ∷ second ∷ rest → two ≡ rest
after_two words one two source target first second rest b c e =
    after_inode one two target second rest c (after_inode words one source first (second ∷ rest) b e)

pub rename_no_name : (words one two : List (List ℕ)) (source target : Option ℕ) → BeginsInode words source one → BeginsInode one target two → two ≡ []
    → (action : Action) → ¬ (SaysAction (codes "rename") words action)
rename_no_name words one two source target b c e =
    only_rename words (λ from to name value s.
    let rest : two ≡ name ∷ s.value_digits ∷ [] = after_two words one two source target s.from_digits s.to_digits (name ∷ s.value_digits ∷ []) b c s.spelled in
    cc)

after_three : (words one two three : List (List ℕ)) (source target : Option ℕ) (word first second third : List ℕ) (rest : List (List ℕ))
    → BeginsInode words source one → BeginsInode one target two → two ≡ word ∷ three → words ≡ first ∷ second ∷ third ∷ rest → three ≡ rest
after_three words one two three source target word first second third rest b c e f =
    rest_same two word third three rest e (after_two words one two source target first second (third ∷ rest) b c f)

pub rename_no_value : (words one two three : List (List ℕ)) (source target : Option ℕ) (word : List ℕ) → BeginsInode words source one
    → BeginsInode one target two → two ≡ word ∷ three → ((number : ℕ) (rest : List (List ℕ)) → ¬ (BeginsWide three number rest))
    → (action : Action) → ¬ (SaysAction (codes "rename") words action)
rename_no_value words one two three source target word b c e none =
    only_rename words (λ from to name value s. none value [] (record {
      digits = s.value_digits;
      spelled = after_three words one two three source target word s.from_digits s.to_digits name (s.value_digits ∷ []) b c e s.spelled;
      is_wide = s.value_number;
    }))

pub rename_more : (words one two three four : List (List ℕ)) (source target : Option ℕ) (word : List ℕ) (value : ℕ) → BeginsInode words source one
    → BeginsInode one target two → two ≡ word ∷ three → BeginsWide three value four → ¬ (four ≡ []) → (action : Action) → ¬ (SaysAction (codes "rename") words action)
rename_more words one two three four source target word value b c e v more =
    only_rename words (λ from to name written s.
    more (rest_same three v.digits s.value_digits four [] v.spelled
    (after_three words one two three source target word s.from_digits s.to_digits name (s.value_digits ∷ []) b c e s.spelled)))

-- another keyword
pub other_keyword : (keyword : List ℕ) (words : List (List ℕ)) → keyword ≢ codes "append" → keyword ≢ codes "rename"
    → (action : Action) → ¬ (SaysAction keyword words action)
other_keyword keyword words append rename (Append inode value) s = append s.0
other_keyword keyword words append rename (Rename from to name value) s = rename s.0

-- the whole line
pub operation_worded : (words one two three : List (List ℕ)) (number : ℕ) (keyword : List ℕ) (found : WordedAction) → words ≡ codes "op" ∷ one
    → BeginsWide one number two → two ≡ keyword ∷ three → WordsAction keyword three found
    → WordsOperation words (record { number = number; action = found })
operation_worded words one two three number keyword found e b f a = record {
  operation = record { number = number; action = a.action };
  says = record {
    number_digits = b.digits;
    keyword = keyword;
    rest = three;
    spelled = rw (e, b.spelled, f) refl;
    number = b.is_wide;
    action = a.says;
  };
  number = refl;
  holds = a.holds;
}

pub no_op : (words : List (List ℕ)) → ((rest : List (List ℕ)) → words ≢ codes "op" ∷ rest) → (operation : Operation) → ¬ (SaysOperation words operation)
no_op words none operation s = none (s.number_digits ∷ s.keyword ∷ s.rest) s.spelled

pub no_number : (words one : List (List ℕ)) → words ≡ codes "op" ∷ one → ((number : ℕ) (rest : List (List ℕ)) → ¬ (BeginsWide one number rest))
    → (operation : Operation) → ¬ (SaysOperation words operation)
no_number words one e none operation s =
    none operation.number (s.keyword ∷ s.rest) (record {
      digits = s.number_digits;
      spelled = rest_same words (codes "op") (codes "op") one (s.number_digits ∷ s.keyword ∷ s.rest) e s.spelled;
      is_wide = s.number;
    })

after_number : (words one two : List (List ℕ)) (number : ℕ) (digits keyword : List ℕ) (rest : List (List ℕ)) → words ≡ codes "op" ∷ one
    → BeginsWide one number two → words ≡ codes "op" ∷ digits ∷ keyword ∷ rest → two ≡ keyword ∷ rest
after_number words one two number digits keyword rest e b f =
    rest_same one b.digits digits two (keyword ∷ rest) b.spelled (rest_same words (codes "op") (codes "op") one (digits ∷ keyword ∷ rest) e f)

pub no_action_word : (words one two : List (List ℕ)) (number : ℕ) → words ≡ codes "op" ∷ one → BeginsWide one number two → two ≡ []
    → (operation : Operation) → ¬ (SaysOperation words operation)
no_action_word words one two number e b f operation s =
    let rest : two ≡ s.keyword ∷ s.rest = after_number words one two number s.number_digits s.keyword s.rest e b s.spelled in
    cc

pub no_action : (words one two three : List (List ℕ)) (number : ℕ) (keyword : List ℕ) → words ≡ codes "op" ∷ one → BeginsWide one number two
    → two ≡ keyword ∷ three → ((action : Action) → ¬ (SaysAction keyword three action)) → (operation : Operation) → ¬ (SaysOperation words operation)
no_action words one two three number keyword e b f none operation s =
    let rest : two ≡ s.keyword ∷ s.rest = after_number words one two number s.number_digits s.keyword s.rest e b s.spelled in
    let same : s.keyword ≡ keyword = first_same two s.keyword keyword s.rest three rest f in
    let after : s.rest ≡ three = rest_same two s.keyword keyword s.rest three rest f in
    none operation.action
    (subst (λ (words : List (List ℕ)). SaysAction keyword words operation.action) after
    (subst (λ (word : List ℕ). SaysAction word s.rest operation.action) same s.action))
