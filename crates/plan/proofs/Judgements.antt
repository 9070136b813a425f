-- Which actions are allowed.
use Rattle.std.proofs.Common.{◌≡◌, ◌≢◌, ◌<◌, ◌≤◌, ◌^◌, ℕ, List, Option, Some, None, length, sym, ◌∙◌, arith, subst}
use Rattle.nova_log.specs.declared.layout.Layout.{Layout}
use Rattle.nova_log.specs.declared.layout.Layout.TheVariants.{One, Two}
use Rattle.plan.specs.declared.fault.PlanCode.TheVariants as code
use Rattle.plan.specs.declared.operation.Action.TheVariants.{Append, Rename}
use Rattle.plan.specs.declared.operation_line.WordedAction.TheVariants as worded
use Rattle.plan.specs.Plans.{IsName, longest_name}
use Rattle.plan.specs.Worded.{Allows, Forbids, HoldsInode, HoldsName}

-- inodes
pub inode_there : (found inodes : ℕ) → found < inodes → (inode : ℕ) → HoldsInode (Some found) inode → (found ≡ inode) × (inode < inodes)
inode_there found inodes low inode h = (h.1, omega (arith, h.1))

pub inode_high : (found inodes : ℕ) → inodes ≤ found → (inode : ℕ) → HoldsInode (Some found) inode → ¬ (inode < inodes)
inode_high found inodes high inode h low = omega (arith, h.1)

pub inode_missing : (inodes : ℕ) → inodes < 2 ^ 32 → (inode : ℕ) → HoldsInode None inode → ¬ (inode < inodes)
inode_missing inodes small inode h low = h (omega arith)

-- names
within_96 : (layout : Layout) → longest_name layout ≤ 96
within_96 One = omega arith
within_96 Two = omega arith

pub name_there : (found : List ℕ) (layout : Layout) → length found ≤ longest_name layout → (name : List ℕ) → HoldsName (Some found) name
    → (found ≡ name) × IsName (longest_name layout) name
name_there found layout short name h = (
  h.1,
  subst (λ (bytes : List ℕ). IsName (longest_name layout) bytes) h.1
      (record { some = rw h.1 h.0.some; short = short; bytes = rw h.1 h.0.bytes }),
)

pub name_long : (found : List ℕ) (layout : Layout) → longest_name layout < length found → (name : List ℕ) → HoldsName (Some found) name
    → ¬ (IsName (longest_name layout) name)
name_long found layout long name h is = let short : length found ≤ longest_name layout = rw h.1 is.short in omega arith

pub name_missing : (layout : Layout) → (name : List ℕ) → HoldsName None name → ¬ (IsName (longest_name layout) name)
name_missing layout name h is = h (record { some = is.some; short = omega (arith, within_96 layout, is.short); bytes = is.bytes })

-- actions
pub append_allowed : (layout : Layout) (inodes : ℕ) (found : Option ℕ) (there value : ℕ)
    → ((inode : ℕ) → HoldsInode found inode → (there ≡ inode) × (inode < inodes)) → Allows layout inodes (worded.Append found value) (Append there value)
append_allowed layout inodes found there value allowed (Append inode written) h =
    let (same, low) = allowed inode h.0 in
    let value_same : value ≡ written = h.1 in
    record { same = cc; inodes_there = low; name_fits = tt }
append_allowed layout inodes found there value allowed (Rename from to name written) h = absurd h

pub append_forbidden : (layout : Layout) (inodes : ℕ) (found : Option ℕ) (value : ℕ) → ((inode : ℕ) → HoldsInode found inode → ¬ (inode < inodes))
    → Forbids layout inodes (worded.Append found value) code.Inode
append_forbidden layout inodes found value none (Append inode written) h = none inode h.0
append_forbidden layout inodes found value none (Rename from to name written) h = absurd h

pub rename_allowed : (layout : Layout) (inodes : ℕ) (source target : Option ℕ) (called : Option (List ℕ)) (value there next : ℕ) (named : List ℕ)
    → ((inode : ℕ) → HoldsInode source inode → (there ≡ inode) × (inode < inodes))
    → ((inode : ℕ) → HoldsInode target inode → (next ≡ inode) × (inode < inodes)) → there ≢ next
    → ((name : List ℕ) → HoldsName called name → (named ≡ name) × IsName (longest_name layout) name)
    → Allows layout inodes (worded.Rename source target called value) (Rename there next named value)
rename_allowed layout inodes source target called value there next named f g apart n (Append inode written) h = absurd h
rename_allowed layout inodes source target called value there next named f g apart n (Rename from to name written) h =
    let (from_same, from_low) = f from h.0 in
    let (to_same, to_low) = g to h.1 in
    let (name_same, fits) = n name h.2 in
    let value_same : value ≡ written = h.3 in
    record { same = cc; inodes_there = (from_low, to_low, λ same. apart (from_same ∙ same ∙ sym to_same)); name_fits = fits }

pub rename_no_from : (layout : Layout) (inodes : ℕ) (source target : Option ℕ) (called : Option (List ℕ)) (value : ℕ)
    → ((inode : ℕ) → HoldsInode source inode → ¬ (inode < inodes)) → Forbids layout inodes (worded.Rename source target called value) code.Inode
rename_no_from layout inodes source target called value none (Append inode written) h = absurd h
rename_no_from layout inodes source target called value none (Rename from to name written) h = λ there. none from h.0 there.0

pub rename_no_to : (layout : Layout) (inodes : ℕ) (source target : Option ℕ) (called : Option (List ℕ)) (value : ℕ)
    → ((inode : ℕ) → HoldsInode target inode → ¬ (inode < inodes)) → Forbids layout inodes (worded.Rename source target called value) code.Inode
rename_no_to layout inodes source target called value none (Append inode written) h = absurd h
rename_no_to layout inodes source target called value none (Rename from to name written) h = λ there. none to h.1 there.1

pub rename_same : (layout : Layout) (inodes : ℕ) (source target : Option ℕ) (called : Option (List ℕ)) (value there next : ℕ)
    → ((inode : ℕ) → HoldsInode source inode → (there ≡ inode) × (inode < inodes))
    → ((inode : ℕ) → HoldsInode target inode → (next ≡ inode) × (inode < inodes)) → there ≡ next
    → Forbids layout inodes (worded.Rename source target called value) code.Inode
rename_same layout inodes source target called value there next f g same (Append inode written) h = absurd h
rename_same layout inodes source target called value there next f g same (Rename from to name written) h =
    λ allowed. allowed.2 (sym (f from h.0).0 ∙ same ∙ (g to h.1).0)

pub rename_no_name : (layout : Layout) (inodes : ℕ) (source target : Option ℕ) (called : Option (List ℕ)) (value there next : ℕ)
    → ((inode : ℕ) → HoldsInode source inode → (there ≡ inode) × (inode < inodes))
    → ((inode : ℕ) → HoldsInode target inode → (next ≡ inode) × (inode < inodes)) → there ≢ next
    → ((name : List ℕ) → HoldsName called name → ¬ (IsName (longest_name layout) name))
    → Forbids layout inodes (worded.Rename source target called value) code.Name
rename_no_name layout inodes source target called value there next f g apart none (Append inode written) h = absurd h
rename_no_name layout inodes source target called value there next f g apart none (Rename from to name written) h =
    let (from_same, from_low) = f from h.0 in
    let (to_same, to_low) = g to h.1 in
    ((from_low, to_low, λ same. apart (from_same ∙ same ∙ sym to_same)), none name h.2)
