-- An entry is read from its two lines as it was written.
use Rattle.std.proofs.Common.{◌≡◌, ℕ, ◌-◌, ◌^◌, ◌<◌, ◌≤◌, true, ◌&&◌, cond, leb, ltb, List, [], ◌++◌, None, length, take, drop, replicate, refl, arith, inl, inr}
use Rattle.std.proofs.lemmas.Bool.{and_parts, cases_lt, eqb-true, leb-true, le-ltb, lt-ltb}
use Rattle.std.proofs.lemmas.List.{append-nil, length-append, length-drop, length-replicate, take-append-drop, take-take, take_all, take_at}
use Rattle.word_bits.specs.Bytes.{loaded}
use Rattle.nova_log.specs.Entries.{entry_fault, entry_in, is_long, kind_of, length_fits}
use Rattle.nova_log.specs.declared.volume.entry.Entry.{Entry}
use Rattle.nova_log.specs.declared.volume.entry.EntryKind.{EntryKind}
use Rattle.nova_log.specs.declared.volume.entry.EntryKind.TheVariants.{Write, AddName, RemoveName}
use Rattle.nova_log.specs.Written.{entry_bytes, kind_number}
use Rattle.nova_log.proofs.Numbers.{number_read}

-- an entry whose numbers have eight bytes, and whose name fits its kind
pub record IsStorable (e : Entry) : Type 0 where
  pub operation : e.operation < 2 ^ 64
  pub value : e.value < 2 ^ 64
  pub name : length_fits 96 (kind_number e.kind) (length e.name) ≡ true

kind_back : (k : EntryKind) → kind_of (kind_number k) ≡ k
kind_back Write = refl
kind_back AddName = refl
kind_back RemoveName = refl

kind_fits : (k : EntryKind) → (leb 1 (kind_number k) && leb (kind_number k) 3) ≡ true
kind_fits Write = refl
kind_fits AddName = refl
kind_fits RemoveName = refl

name_short : (k : EntryKind) (n : ℕ) → length_fits 96 (kind_number k) n ≡ true → n ≤ 96
name_short Write n e = let h : n ≡ 0 = eqb-true n 0 e in omega arith
name_short AddName n e = leb-true n 96 (and_parts (leb 1 n) (leb n 96) e).1
name_short RemoveName n e = leb-true n 96 (and_parts (leb 1 n) (leb n 96) e).1

-- a name, cut at 40 bytes and put together again where it is longer
name_read : (name : List ℕ) → length name ≤ 96 →
    take (length name) (take 40 (name ++ replicate (104 - length name) 0)
    ++ cond (ltb 40 (length name)) (take 64 (drop 40 (name ++ replicate (104 - length name) 0))) []) ≡ name
name_read name short =
    let zeros = replicate {A = ℕ} (104 - length name) 0 in
    let rest = name ++ zeros in
    let size : length rest ≡ 104 = omega (arith, length-append name zeros, length-replicate {A = ℕ} (104 - length name) 0) in
    let whole : take (length name) rest ≡ name = take_at name zeros (length name) refl in
    elim (cases_lt 40 (length name)) [
      | inl long ↦
          let left : length (drop 40 rest) ≤ 64 = omega (arith, length-drop 40 rest) in
          rw (lt-ltb 40 (length name) long, take_all 64 (drop 40 rest) left, take-append-drop 40 rest) whole
      | inr fits ↦
          rw (le-ltb 40 (length name) fits, append-nil (take 40 rest), take-take (length name) 40 rest fits) whole
    ]

same_entry : (e : Entry) (o v : ℕ) (k : EntryKind) (name : List ℕ) → o ≡ e.operation → k ≡ e.kind → name ≡ e.name → v ≡ e.value →
    record { operation = o; kind = k; name = name; value = v } ≡ e
same_entry e o v k name eo ek en ev = rw (eo, ek, en, ev) refl

-- the two lines
abbrev pub first_line : Entry → List ℕ
first_line e = take 64 (drop 0 (entry_bytes e))

abbrev pub second_line : Entry → List ℕ
second_line e = take 64 (drop 64 (entry_bytes e))

pub entry_read : (e : Entry) → IsStorable e → entry_in (first_line e) (cond (is_long (first_line e)) (second_line e) []) ≡ e
unfolding entry_in entry_bytes
entry_read e h =
    same_entry e (loaded (first_line e) 8 8) (loaded (first_line e) 16 8) (kind_of (kind_number e.kind))
    (take (length e.name) (take 40 (e.name ++ replicate (104 - length e.name) 0)
    ++ cond (ltb 40 (length e.name)) (take 64 (drop 40 (e.name ++ replicate (104 - length e.name) 0))) []))
    (number_read e.operation [] h.operation) (kind_back e.kind) (name_read e.name (name_short e.kind (length e.name) h.name)) (number_read e.value [] h.value)

pub entry_clean : (e : Entry) → IsStorable e → entry_fault 96 (first_line e) ≡ None
unfolding entry_fault entry_bytes
entry_clean e h = rw (kind_fits e.kind, h.name) refl
