-- What holds of parts holds as they grow.
use Rattle.std.proofs.Common.{◌≡◌, inl, inr, ℕ, ◌<◌, List, Some, length, slice_get, slice_index_or, refl, sym, ap, ◌∙◌, subst, arith}
use Rattle.std.proofs.lemmas.Option.{get_or_from_slice_get, same_Some, slice_get-get_or, slice_get_within}
use Rattle.bus.proofs.Places.{there_is}
use Rattle.hart.specs.declared.need.Request.{Request}
use Rattle.hart.specs.declared.need.Reply.{Reply}
use Rattle.hart.specs.declared.state.HartState.{HartState}
use Rattle.line_memory.specs.Memory.{Memory}
use Rattle.machine.specs.Histories.{text_of}
use Rattle.schedule_states.proofs.Looking.{within_kept}
use Rattle.schedule_states.specs.Ahead.{IsNext}
use Rattle.schedule_states.specs.Memories.{TableView}
use Rattle.schedule_states.specs.States.{AreGrown, IsReady, PartsView}
use Rattle.schedule_states.specs.Successors.{AreHartsAfter, AreServed, HasLists, HaveMoved, IsTextAfter, memory_held}
use Rattle.schedule_states.specs.declared.ahead.Next.{Next}
use Rattle.schedule_states.specs.declared.ahead.Next.TheVariants as nexts
use Rattle.schedule_states.specs.declared.held_lines.HeldLine.{HeldLine}
use Rattle.schedule_states.specs.declared.program_state.HartPart.{HartPart}
use Rattle.schedule_states.specs.declared.program_state.ProgramState.{ProgramState}

pub grown_then : (old middle new : PartsView) → AreGrown old middle → AreGrown middle new → AreGrown old new
grown_then old middle new a b = record {
  table = record { start = b.table.start ∙ a.table.start; grows = λ n s found. b.table.grows n s (a.table.grows n s found) };
  lists = λ n held found. b.lists n held (a.lists n held found);
  claims = b.claims ∙ a.claims;
}

pub there_still : (old new : PartsView) (n : ℕ) → AreGrown old new → n < length old.lists → n < length new.lists
there_still old new n grown h = within_kept old.lists new.lists n grown.lists h

pub text_still : (middle new : PartsView) (request : Request) (lines : List HeldLine) (before after : ℕ) → AreGrown middle new → new.table ≡ middle.table →
    IsTextAfter middle request lines before after → IsTextAfter new request lines before after
text_still middle new request lines before after grown same text = record {
  kept = text.kept;
  renewed = λ h.
      let list : (held : List HeldLine) × (slice_get middle.lists after ≡ Some held) × (text_of (memory_held middle held) ≡ text_of (memory_held middle lines)) =
      text.renewed h in (
        list.0,
        grown.lists after list.0 list.1,
        ap (λ (t : TableView). text_of (memory_held (record { table = t; lists = new.lists; claims = new.claims }) list.0)) same ∙ list.2
            ∙ sym (ap (λ (t : TableView). text_of (memory_held (record { table = t; lists = new.lists; claims = new.claims }) lines)) same),
      );
}

pub served_still : (old middle new : PartsView) (h : ℕ) (request : Request) (reply : Reply) (held lines : List HeldLine) → new.table ≡ middle.table →
    AreServed old middle h request reply held lines → AreServed old new h request reply held lines
served_still old middle new h request reply held lines same served = subst (λ (t : TableView). AreServed old (record { table = t; lists = new.lists; claims = new.claims }) h request reply held lines)
    (sym same) (record { below = served.below; served = served.served })

pub has_lists_after : (old new : PartsView) (s next : ProgramState) (h : ℕ) (own : HartPart) (request : Request) (reply : Reply) → AreGrown old new → HasLists old s →
    next.memory < length new.lists → own.text < length new.lists → AreHartsAfter h own request reply s.harts.items next.harts.items → HasLists new next
has_lists_after old new s next h own request reply grown lists memory text harts = record {
  memory = memory;
  texts = λ k d there.
      let part : HartPart = slice_index_or next.harts.items k d in
      elim (harts.each k part (slice_get-get_or next.harts.items k d there)) [
        | inl mine ↦ subst (λ (p : HartPart). p.text < length new.lists) (sym mine.1) text
        | inr other ↦
            let was : HartPart = other.1.0 in
            let at : k < length s.harts.items = omega (arith, harts.count, there) in
            let same : slice_index_or s.harts.items k was ≡ was = get_or_from_slice_get s.harts.items k was was other.1.1 in
            let few : was.text < length old.lists = subst (λ (p : HartPart). p.text < length old.lists) same (lists.texts k was at) in
            subst (λ (n : ℕ). n < length new.lists) (sym other.1.2.text) (there_still old new was.text grown few)
      ];
}

-- a hart that doesn't run on for too long is ready
pub ready_of_next : (text : Memory) (s : HartState) (next : Next) → IsNext text s next → (next ≡ nexts.TooLong → ⊥) → IsReady text s
ready_of_next text s (nexts.Asks instr request) is not = inl (request, is.0)
ready_of_next text s nexts.Stopped is not = inr is
ready_of_next text s nexts.TooLong is not = absurd (not refl)

-- the other harts' parts are as before, but for what they have reserved
pub moved_after : (h : ℕ) (own : HartPart) (request : Request) (reply : Reply) (before after : List HartPart) → AreHartsAfter h own request reply before after →
    HaveMoved h before after
moved_after h own request reply before after harts = record {
  count = harts.count;
  others = λ g was part here there apart.
      elim (harts.each g part there) [
        | inl mine ↦ absurd (apart mine.0)
        | inr other ↦
            let same : other.1.0 ≡ was = same_Some other.1.0 was (sym other.1.1 ∙ here) in
            (other.1.2.state ∙ ap (λ (p : HartPart). p.state) same, other.1.2.text ∙ ap (λ (p : HartPart). p.text) same)
      ];
}

pub moved_itself : (h : ℕ) (parts : List HartPart) → HaveMoved h parts parts
moved_itself h parts = record {
  count = refl;
  others = λ g was part here there apart.
      let same : part ≡ was = same_Some part was (sym there ∙ here) in
      (ap (λ (p : HartPart). p.state) same, ap (λ (p : HartPart). p.text) same);
}

pub moved_then : (h : ℕ) (a b c : List HartPart) → HaveMoved h a b → HaveMoved h b c → HaveMoved h a c
moved_then h a b c one two = record {
  count = two.count ∙ one.count;
  others = λ g was part here there apart.
      let middle : (at : HartPart) × (slice_get b g ≡ Some at) = there_is b g (subst (λ (n : ℕ). g < n) (sym one.count) (slice_get_within a g was here)) in
      let first : (middle.0.state ≡ was.state) × (middle.0.text ≡ was.text) = one.others g was middle.0 here middle.1 apart in
      let second : (part.state ≡ middle.0.state) × (part.text ≡ middle.0.text) = two.others g middle.0 part middle.1 there apart in
      (second.0 ∙ first.0, second.1 ∙ first.1);
}
