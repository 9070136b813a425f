-- An upgraded medium has the volume of the old one, and upgraded again it is itself.
use Rattle.std.proofs.Common.{◌≡◌, ℕ, ◌≤◌, true, leb, List, Ok, Err, Result, length, refl, sym, ◌∙◌, inl, inr}
use Rattle.std.proofs.lemmas.Bool.{cases_Bool, leb-true}
use Rattle.std.specs.List.{All}
use Rattle.nova_log.specs.Superblocks.{counts_fit, geometry_of}
use Rattle.nova_log.specs.Volumes.{volume_of}
use Rattle.nova_log.specs.declared.fault.VolumeFault.{VolumeFault}
use Rattle.nova_log.specs.declared.volume.entry.Entry.{Entry}
use Rattle.nova_log.specs.Parts.{parts_of}
use Rattle.nova_log.specs.Upgraded.{IsOfBytes, moved, moved_if, upgraded}
use Rattle.nova_log.specs.Written.{written}
use Rattle.nova_log.proofs.Recovered.{geometry_back, volume_back}
use Rattle.nova_log.proofs.Sound.{all_storable, has_volume}
use Rattle.nova_log.proofs.StoredEntries.{IsStorable}

-- a volume that was moved
record IsMoved (logs : List (List Entry)) (journals pages count : ℕ) (made : List (List ℕ)) : Type 0 where
  fit : counts_fit (length logs) pages journals count ≡ true
  enough : leb (length (parts_of logs)) pages ≡ true
  medium : made ≡ written logs pages journals count

is_moved : (logs : List (List Entry)) (journals pages count : ℕ) (made : List (List ℕ)) → moved logs journals pages count ≡ Ok made → IsMoved logs journals pages count made
is_moved logs journals pages count made e = elim (cases_Bool (counts_fit (length logs) pages journals count)) [
  | inr bad ↦ let h = rw bad at e in absurd (cc)
  | inl fit ↦ elim (cases_Bool (leb (length (parts_of logs)) pages)) [
    | inr few ↦ let h = rw (fit, few) at e in absurd (cc)
    | inl enough ↦ let h = rw (fit, enough) at e in record { fit = fit; enough = enough; medium = cc }
  ]
]

split : (r : Result (List (List Entry)) VolumeFault) (journals pages count : ℕ) (made : List (List ℕ)) → moved_if r journals pages count ≡ Ok made →
    (logs : List (List Entry)) × (r ≡ Ok logs) × (moved logs journals pages count ≡ Ok made)
split (Ok logs) journals pages count made e = (logs, refl, e)
split (Err fault) journals pages count made e = absurd (cc)

pub volume_kept : (logs : List (List Entry)) (journals pages count : ℕ) → All (All IsStorable) logs → counts_fit (length logs) pages journals count ≡ true →
    length (parts_of logs) ≤ pages → volume_of (written logs pages journals count) ≡ Ok logs
volume_kept logs journals pages count storable fit room = volume_back logs pages journals count storable fit room

pub again : (lines made : List (List ℕ)) (pages count : ℕ) → IsOfBytes lines → upgraded lines pages count ≡ Ok made →
    upgraded made pages count ≡ Ok made
unfolding upgraded
again lines made pages count bytes e =
    let journals = (geometry_of lines).journals in
    let s = split (volume_of lines) journals pages count made e in
    let m = is_moved s.0 journals pages count made s.2 in
    let storable = all_storable lines s.0 (has_volume lines s.0 s.1) bytes in
    let room = leb-true (length (parts_of s.0)) pages m.enough in
    rw (m.medium, volume_back s.0 pages journals count storable m.fit room, geometry_back s.0 pages journals count storable m.fit room, m.fit, m.enough) refl

-- recovery finds the old volume
pub recovered : (lines made : List (List ℕ)) (pages count : ℕ) → IsOfBytes lines → upgraded lines pages count ≡ Ok made →
    volume_of made ≡ volume_of lines
unfolding upgraded
recovered lines made pages count bytes e =
    let journals = (geometry_of lines).journals in
    let s = split (volume_of lines) journals pages count made e in
    let m = is_moved s.0 journals pages count made s.2 in
    let storable = all_storable lines s.0 (has_volume lines s.0 s.1) bytes in
    let room = leb-true (length (parts_of s.0)) pages m.enough in
    rw m.medium (volume_back s.0 pages journals count storable m.fit room ∙ sym s.1)
