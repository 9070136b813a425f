-- Why an event is refused, and which one is allowed.
use Rattle.std.proofs.Common.{◌≡◌, ℕ, ◌+◌, ◌*◌, ◌%◌, ◌^◌, ◌-◌, ◌<◌, ◌≤◌, Ok, Err, sym, ap, ◌∙◌, subst, arith}
use Rattle.std.specs.Prelude.{◌≢◌}
use Rattle.store_trace.specs.TraceView.{IsWidth}
use Rattle.store_trace.specs.declared.event.Event.TheVariants as kinds
use Rattle.text.specs.Numbers.{IsOf}
use Rattle.text.specs.declared.numbers.Number.{Number}
use Rattle.trace_file.specs.Parts.{Fits, IsFitting, IsJudged, IsKept}
use Rattle.trace_file.specs.declared.fault.TraceFileCode.TheVariants as code
use Rattle.trace_file.specs.declared.judging.StoreNumbers.{StoreNumbers}
use Rattle.trace_file.specs.declared.judging.Written.{Written}

pub no_width : (o w v : ℕ) (width : Number) → ((n : ℕ) → IsOf n width → ¬ IsWidth n) → IsOf w width → ¬ Fits o w v
no_width o w v width none is fits = none w is fits.0

pub no_offset : (o w v : ℕ) (offset : Number) → ((n : ℕ) → IsOf n offset → 63 < n) → IsOf o offset → ¬ Fits o w v
no_offset o w v offset none is fits = let past = none o is in let low = fits.2 in omega arith

pub no_value : (o w v bytes greatest : ℕ) (width value : Number) → ((n : ℕ) → IsOf n width → n ≡ bytes) → greatest + 1 ≡ 2 ^ (8 * bytes)
    → ((n : ℕ) → IsOf n value → greatest < n) → IsOf w width → IsOf v value → ¬ Fits o w v
no_value o w v bytes greatest width value same most none is is_value fits =
    let past = none v is_value in
    let low : v < 2 ^ (8 * bytes) = subst (λ (n : ℕ). v < 2 ^ (8 * n)) (same w is) fits.3 in
    omega (arith, most)

pub no_multiple : (o w v bytes kept : ℕ) (offset width : Number) → ((n : ℕ) → IsOf n width → n ≡ bytes) → IsKept offset 63 kept
    → kept % bytes ≢ 0 → IsOf o offset → IsOf w width → ¬ Fits o w v
no_multiple o w v bytes kept offset width same at other is is_width fits =
    other (ap (λ (n : ℕ). n % bytes) (sym (at o is).0) ∙ ap (λ (n : ℕ). o % n) (sym (same w is_width)) ∙ fits.1)

pub fitting : (o w v bytes greatest kept value_kept : ℕ) (offset width value : Number) → ((n : ℕ) → IsOf n width → n ≡ bytes) → IsWidth bytes
    → greatest + 1 ≡ 2 ^ (8 * bytes) → IsKept offset 63 kept → IsKept value greatest value_kept → kept % bytes ≡ 0 → IsOf o offset → IsOf w width → IsOf v value
    → IsFitting o w v (record { offset = kept; width = bytes; value = value_kept })
fitting o w v bytes greatest kept value_kept offset width value same is_width most at value_at multiple is width_is value_is =
    let (o_same, o_low) = at o is in
    let (v_same, v_low) = value_at v value_is in
    let w_same : w ≡ bytes = same w width_is in
    let small : v < 2 ^ (8 * bytes) = omega (arith, most) in
    record {
      offset_is = o_same;
      width_is = w_same;
      value_is = v_same;
      fits = (
        subst IsWidth (sym w_same) is_width,
        ap (λ (n : ℕ). o % n) w_same ∙ ap (λ (n : ℕ). n % bytes) o_same ∙ multiple,
        omega arith,
        subst (λ (n : ℕ). v < 2 ^ (8 * n)) (sym w_same) small,
      );
    }

pub store_kept : (h l o w v hart line : ℕ) (written : Written) → (h ≡ hart) → (h ≤ 7) → (l ≡ line) → (l ≤ 2 ^ 32 - 1) → IsFitting o w v written
    → IsJudged (kinds.Store h l o w v) (Ok (kinds.Store hart line written.offset written.width written.value))
store_kept h l o w v hart line written h_is h_low l_is l_low f = record {
  same = let a = f.offset_is in let b = f.width_is in let c = f.value_is in cc;
  fits = f.fits;
  within = (omega arith, omega arith);
}

pub store_unfit : (hart : Number) (store : StoreNumbers) → ((o w v : ℕ) → IsOf o store.offset → IsOf w store.width → IsOf v store.value → ¬ Fits o w v)
    → (h l o w v : ℕ) → IsOf h hart → IsOf l store.line → IsOf o store.offset → IsOf w store.width → IsOf v store.value
    → IsJudged (kinds.Store h l o w v) (Err code.Store)
store_unfit hart store none h l o w v is_h is_l is_o is_w is_v = none o w v is_o is_w is_v

pub store_of_no_hart : (hart : Number) (store : StoreNumbers) (written : Written)
    → ((o w v : ℕ) → IsOf o store.offset → IsOf w store.width → IsOf v store.value → IsFitting o w v written)
    → ((n : ℕ) → IsOf n hart → 7 < n)
    → (h l o w v : ℕ) → IsOf h hart → IsOf l store.line → IsOf o store.offset → IsOf w store.width → IsOf v store.value
    → IsJudged (kinds.Store h l o w v) (Err code.Limit)
store_of_no_hart hart store written fitting none h l o w v is_h is_l is_o is_w is_v =
    ((fitting o w v is_o is_w is_v).fits, λ within. let past = none h is_h in omega arith)

pub store_of_no_line : (hart : Number) (store : StoreNumbers) (written : Written)
    → ((o w v : ℕ) → IsOf o store.offset → IsOf w store.width → IsOf v store.value → IsFitting o w v written)
    → ((n : ℕ) → IsOf n store.line → 2 ^ 32 - 1 < n)
    → (h l o w v : ℕ) → IsOf h hart → IsOf l store.line → IsOf o store.offset → IsOf w store.width → IsOf v store.value
    → IsJudged (kinds.Store h l o w v) (Err code.Limit)
store_of_no_line hart store written fitting none h l o w v is_h is_l is_o is_w is_v =
    ((fitting o w v is_o is_w is_v).fits, λ within. let past = none l is_l in omega arith)

pub store_allowed : (hart : Number) (store : StoreNumbers) (written : Written) (kept line : ℕ)
    → ((o w v : ℕ) → IsOf o store.offset → IsOf w store.width → IsOf v store.value → IsFitting o w v written)
    → IsKept hart 7 kept → IsKept store.line (2 ^ 32 - 1) line
    → (h l o w v : ℕ) → IsOf h hart → IsOf l store.line → IsOf o store.offset → IsOf w store.width → IsOf v store.value
    → IsJudged (kinds.Store h l o w v) (Ok (kinds.Store kept line written.offset written.width written.value))
store_allowed hart store written kept line fitting at line_at h l o w v is_h is_l is_o is_w is_v =
    let (h_same, h_low) = at h is_h in
    let (l_same, l_low) = line_at l is_l in
    store_kept h l o w v kept line written h_same h_low l_same l_low (fitting o w v is_o is_w is_v)

-- a clean
pub clean_of_no_hart : (hart line : Number) → ((n : ℕ) → IsOf n hart → 7 < n) → (h l : ℕ) → IsOf h hart → IsOf l line → IsJudged (kinds.Clean h l) (Err code.Limit)
clean_of_no_hart hart line none h l is_h is_l = (tt, λ within. let past = none h is_h in omega arith)

pub clean_of_no_line : (hart line : Number) → ((n : ℕ) → IsOf n line → 2 ^ 32 - 1 < n) → (h l : ℕ) → IsOf h hart → IsOf l line
    → IsJudged (kinds.Clean h l) (Err code.Limit)
clean_of_no_line hart line none h l is_h is_l = (tt, λ within. let past = none l is_l in omega arith)

pub clean_kept : (hart line : Number) (kept line_kept : ℕ) → IsKept hart 7 kept → IsKept line (2 ^ 32 - 1) line_kept → (h l : ℕ) → IsOf h hart → IsOf l line
    → IsJudged (kinds.Clean h l) (Ok (kinds.Clean kept line_kept))
clean_kept hart line kept line_kept at line_at h l is_h is_l =
    let (h_same, h_low) = at h is_h in
    let (l_same, l_low) = line_at l is_l in
    record { same = cc; fits = tt; within = (omega arith, omega arith) }

-- a fence
pub fence_of_no_hart : (hart : Number) → ((n : ℕ) → IsOf n hart → 7 < n) → (h : ℕ) → IsOf h hart → IsJudged (kinds.Fence h) (Err code.Limit)
fence_of_no_hart hart none h is_h = (tt, λ within. let past = none h is_h in omega arith)

pub fence_kept : (hart : Number) (kept : ℕ) → IsKept hart 7 kept → (h : ℕ) → IsOf h hart → IsJudged (kinds.Fence h) (Ok (kinds.Fence kept))
fence_kept hart kept at h is_h =
    let (h_same, h_low) = at h is_h in
    record { same = cc; fits = tt; within = omega arith }

-- a mark
pub no_mark_hart : (hart op : Number) → ((n : ℕ) → IsOf n hart → 7 < n) → (h o : ℕ) → IsOf h hart → IsOf o op → ¬ ((h < 8) × (o < 2 ^ 64))
no_mark_hart hart op none h o is_h is_o within = let past = none h is_h in omega arith

pub no_mark_op : (hart op : Number) → ((n : ℕ) → IsOf n op → 2 ^ 64 - 1 < n) → (h o : ℕ) → IsOf h hart → IsOf o op → ¬ ((h < 8) × (o < 2 ^ 64))
no_mark_op hart op none h o is_h is_o within = let past = none o is_o in omega arith

pub mark_kept : (hart op : Number) (kept op_kept : ℕ) → IsKept hart 7 kept → IsKept op (2 ^ 64 - 1) op_kept → (h o : ℕ) → IsOf h hart → IsOf o op
    → (h ≡ kept) × (o ≡ op_kept) × (h < 8) × (o < 2 ^ 64)
mark_kept hart op kept op_kept at op_at h o is_h is_o =
    let (h_same, h_low) = at h is_h in
    let (o_same, o_low) = op_at o is_o in
    (h_same, o_same, omega arith, omega arith)

pub begin_refused : (hart op : Number) → ((h o : ℕ) → IsOf h hart → IsOf o op → ¬ ((h < 8) × (o < 2 ^ 64))) → (h o : ℕ) → IsOf h hart → IsOf o op
    → IsJudged (kinds.Begin h o) (Err code.Limit)
begin_refused hart op none h o is_h is_o = (tt, none h o is_h is_o)

pub begin_kept : (hart op : Number) (kept op_kept : ℕ) → ((h o : ℕ) → IsOf h hart → IsOf o op → (h ≡ kept) × (o ≡ op_kept) × (h < 8) × (o < 2 ^ 64))
    → (h o : ℕ) → IsOf h hart → IsOf o op → IsJudged (kinds.Begin h o) (Ok (kinds.Begin kept op_kept))
begin_kept hart op kept op_kept at h o is_h is_o =
    let (h_same, o_same, h_low, o_low) = at h o is_h is_o in
    record { same = cc; fits = tt; within = (h_low, o_low) }

pub end_refused : (hart op : Number) → ((h o : ℕ) → IsOf h hart → IsOf o op → ¬ ((h < 8) × (o < 2 ^ 64))) → (h o : ℕ) → IsOf h hart → IsOf o op
    → IsJudged (kinds.End h o) (Err code.Limit)
end_refused hart op none h o is_h is_o = (tt, none h o is_h is_o)

pub end_kept : (hart op : Number) (kept op_kept : ℕ) → ((h o : ℕ) → IsOf h hart → IsOf o op → (h ≡ kept) × (o ≡ op_kept) × (h < 8) × (o < 2 ^ 64))
    → (h o : ℕ) → IsOf h hart → IsOf o op → IsJudged (kinds.End h o) (Ok (kinds.End kept op_kept))
end_kept hart op kept op_kept at h o is_h is_o =
    let (h_same, o_same, h_low, o_low) = at h o is_h is_o in
    record { same = cc; fits = tt; within = (h_low, o_low) }
