-- A session underway: the lines that were taken so far were answered.
use Rattle.std.proofs.Common.{◌≡◌, ◌∙◌, ◌++◌, ◌∷◌, ◌⊎◌, inl, inr, ℕ, List, [], Bool, true, false, Option, Some, None, ap, sym, refl, arith, ◌≤◌, ◌<◌, length}
use Rattle.std.proofs.lemmas.List.{append_assoc, append-nil, length-append}
use Rattle.std.specs.Io.KnownBytes.{Appends, Consumes}
use Rattle.debugger.specs.Points.{DebuggerView}
use Rattle.debugger.specs.declared.fault.DebugFault.{DebugFault}
use Rattle.debugger.specs.declared.fault.DebugFault.TheVariants as faults
use Rattle.debugger.specs.Code.{KnownCode}
use Rattle.debugger.specs.CommandEffects.{SessionState}
use Rattle.debugger.specs.StreamFailures.{EndsBy, FailsBy}
use Rattle.debugger.specs.Reading.{IsHeld, IsOver, OverIf, ReadsLine, Takes, ahead_of, line_end}
use Rattle.debugger.specs.Sessions.{BreaksOff, Fails, IsInputEnd, IsLastLine, Session}
use Rattle.debugger.specs.Dialogue.{IsAnswered, LacksAnswer, Turns, beginning, none, more}
use Rattle.debugger.specs.declared.sessions.input.Input.{Input}
use Rattle.debugger.specs.declared.sessions.effects.Kept.{Kept}
use Rattle.debugger.specs.declared.sessions.input.ReadLine.{ReadLine}
use Rattle.debugger.proofs.Ahead.{near_ahead}
use Rattle.debugger.proofs.Taking.{takes_more, takes_none}

abbrev pub state_of : DebuggerView → Kept → SessionState
state_of debugger kept = record { debugger = debugger; kept = kept }

-- the sink has the answers to the lines that were taken
pub record IsUnderway (code : KnownCode) (old : DebuggerView) (state : SessionState) (fresh input : Input) (source source_then sink sink_then : Option (List ℕ)) : Type 0 where
  pub taken : List ℕ
  pub answered : List ℕ
  pub takes : Takes fresh input source source_then taken
  pub turns : Turns code (beginning old) state taken answered
  pub writes : Appends sink sink_then answered

pub appends_none : (a : Option (List ℕ)) → Appends a a []
appends_none None = tt
appends_none (Some xs) = sym (append-nil xs)

appends_more : (a b c : Option (List ℕ)) (xs ys : List ℕ) → Appends a b xs → Appends b c ys → Appends a c (xs ++ ys)
appends_more None b c xs ys p q = tt
appends_more (Some x) None c xs ys p q = absurd p
appends_more (Some x) (Some y) None xs ys p q = absurd q
appends_more (Some x) (Some y) (Some z) xs ys p q = q ∙ ap (λ (l : List ℕ). l ++ ys) p ∙ append_assoc x xs ys

pub begun : (code : KnownCode) (old : DebuggerView) (fresh : Input) (source sink : Option (List ℕ)) → IsUnderway code old (beginning old) fresh fresh source source sink sink
begun code old fresh source sink = record {
  taken = [];
  answered = [];
  takes = takes_none fresh source;
  turns = none (beginning old);
  writes = appends_none sink;
}

-- what was read, of an input of which nothing was taken before
read_is : (fresh input : Input) (s t : Option (List ℕ)) (taken : List ℕ) → ahead_of fresh ≡ [] → (takes : Takes fresh input s t taken)
    → takes.read ≡ taken ++ ahead_of input
read_is fresh input s t taken empty takes = ap (λ (l : List ℕ). l ++ takes.read) (sym empty) ∙ takes.bytes

regroup : (taken line rest ahead : List ℕ) → (taken ++ (line ++ rest)) ++ ahead ≡ taken ++ (line ++ (rest ++ ahead))
regroup taken line rest ahead =
    append_assoc taken (line ++ rest) ahead ∙ ap (λ (l : List ℕ). taken ++ l) (append_assoc line rest ahead)

-- one more line, with its line end, is answered
pub answered_more : (code : KnownCode) (old : DebuggerView) (state after : SessionState) (fresh input further : Input) (s t u k l m : Option (List ℕ))
    (read : ReadLine) (held : List ℕ) (goes_on : Bool) → IsUnderway code old state fresh input s t k l → ReadsLine input further t u read held
    → ((whole : List ℕ) → IsHeld read.fit held whole → IsAnswered code state after whole goes_on l m) → goes_on ≡ true → read.is_last ≡ false
    → IsUnderway code old after fresh further s u k m
answered_more code old state after fresh input further s t u k l m read held goes_on so_far line answered on ends =
    let said : IsAnswered code state after line.whole true l m = rw on at (answered line.whole line.held) in
    let takes : Takes input further t u (line.whole ++ 10 ∷ []) = rw ends at line.takes in
    record {
      taken = so_far.taken ++ (line.whole ++ 10 ∷ []);
      answered = so_far.answered ++ said.0;
      takes = takes_more fresh input further s t u so_far.taken (line.whole ++ 10 ∷ []) so_far.takes takes;
      turns = more (beginning old) state after so_far.taken so_far.answered line.whole said.0 so_far.turns line.is_line said.1;
      writes = appends_more k l m so_far.answered said.0 so_far.writes said.2;
    }

-- what is taken stays within the limit of an input
within : (fresh input : Input) (s t : Option (List ℕ)) (taken : List ℕ) → fresh.left ≡ 4294967295 → Takes fresh input s t taken
    → length taken ≤ 4294967295
within fresh input s t taken all takes = omega (arith, takes.left, all)

-- the end of an input, by its limit
limit_reached : (fresh input : Input) (s t : Option (List ℕ)) (taken line : List ℕ) → fresh.left ≡ 4294967295 → Takes fresh input s t (taken ++ (line ++ []))
    → IsOver input t → IsInputEnd (taken ++ line) (ahead_of input) t
limit_reached fresh input s t taken line all takes over =
    let most : length (taken ++ line) ≤ 4294967295 =
    omega (arith, length-append taken line, simp (length-append, append-nil) at takes.left, all) in
    elim over [
      | inl ended ↦ (most, inl ended)
      | inr empty ↦ (most, inr (omega (arith, length-append taken line, simp (length-append, append-nil) at takes.left, all, empty)))
    ]

-- a line that its line end ends, with which it stays within the limit
below_limit : (fresh input : Input) (s t : Option (List ℕ)) (taken line : List ℕ) → fresh.left ≡ 4294967295
    → Takes fresh input s t (taken ++ (line ++ 10 ∷ [])) → length (taken ++ line) < 4294967295
below_limit fresh input s t taken line all takes =
    omega (arith, length-append taken line, length-append taken (line ++ 10 ∷ []), length-append line (10 ∷ []), takes.left, all)

-- the bytes of the line that was read last, behind those that were taken before
line_bytes : (fresh input : Input) (s t : Option (List ℕ)) (taken line : List ℕ) (is_last : Bool) → fresh.left ≡ 4294967295
    → Takes fresh input s t (taken ++ (line ++ line_end is_last)) → OverIf is_last input t
    → IsLastLine (taken ++ ((line ++ line_end is_last) ++ ahead_of input)) taken line (ahead_of input) t
line_bytes fresh input s t taken line false all takes over = inl (
  ap (λ (l : List ℕ). taken ++ l) (append_assoc line (10 ∷ []) (ahead_of input)),
  below_limit fresh input s t taken line all takes,
)
line_bytes fresh input s t taken line true all takes over = inr (
  ap (λ (l : List ℕ). taken ++ l) (append_assoc line [] (ahead_of input)),
  limit_reached fresh input s t taken line all takes over,
)

-- those of a session that ends by `quit`
quit_bytes : (fresh input : Input) (s t : Option (List ℕ)) (taken line : List ℕ) (is_last : Bool) → ahead_of fresh ≡ [] → fresh.left ≡ 4294967295
    → (takes : Takes fresh input s t (taken ++ (line ++ line_end is_last))) → OverIf is_last input t
    → IsLastLine takes.read taken line (ahead_of input) t
quit_bytes fresh input s t taken line is_last empty all takes over =
    let e : takes.read ≡ taken ++ ((line ++ line_end is_last) ++ ahead_of input) =
    read_is fresh input s t (taken ++ (line ++ line_end is_last)) empty takes ∙ append_assoc taken (line ++ line_end is_last) (ahead_of input) in
    let same = sym e in
    rw same at (line_bytes fresh input s t taken line is_last all takes over)

kept_appends : (k l m : Option (List ℕ)) (answered : List ℕ) → Appends k l answered → m ≡ l → Appends k m answered
kept_appends k l m answered writes e = rw e writes

ended_by_quit : (code : KnownCode) (old : DebuggerView) (state after : SessionState) (fresh input further : Input) (s t u k l m : Option (List ℕ))
    (read : ReadLine) (held : List ℕ) → ahead_of fresh ≡ [] → fresh.left ≡ 4294967295
    → IsUnderway code old state fresh input s t k l → (line : ReadsLine input further t u read held) → IsAnswered code state after line.whole false l m
    → Session code old after.debugger s u k m
ended_by_quit code old state after fresh input further s t u k l m read held empty all so_far line quits =
    let takes : Takes fresh further s u (so_far.taken ++ (line.whole ++ line_end read.is_last)) =
    takes_more fresh input further s t u so_far.taken (line.whole ++ line_end read.is_last) so_far.takes line.takes in
    record {
      read = takes.read;
      answered = so_far.answered;
      reads = takes.reads;
      writes = kept_appends k l m so_far.answered so_far.writes quits.1;
      ends = inl (record {
        taken = so_far.taken;
        line = line.whole;
        ahead = ahead_of further;
        before = state;
        after = after;
        turns = so_far.turns;
        line_of = line.is_line;
        quits = quits.0;
        debugger = refl;
        bytes = quit_bytes fresh further s u so_far.taken line.whole read.is_last empty all takes line.over;
        near = near_ahead further;
      });
    }

-- it ends with the input
ended_by_input : (code : KnownCode) (old : DebuggerView) (state after : SessionState) (fresh input further : Input) (s t u k l m : Option (List ℕ))
    (read : ReadLine) (held : List ℕ) → ahead_of fresh ≡ [] → fresh.left ≡ 4294967295
    → IsUnderway code old state fresh input s t k l → (line : ReadsLine input further t u read held) → read.is_last ≡ true
    → IsAnswered code state after line.whole true l m → Session code old after.debugger s u k m
ended_by_input code old state after fresh input further s t u k l m read held empty all so_far line last said =
    let taken : Takes input further t u (line.whole ++ []) = rw last at line.takes in
    let over : IsOver further u = rw last at line.over in
    let takes : Takes fresh further s u (so_far.taken ++ (line.whole ++ [])) =
    takes_more fresh input further s t u so_far.taken (line.whole ++ []) so_far.takes taken in
    record {
      read = takes.read;
      answered = so_far.answered ++ said.0;
      reads = takes.reads;
      writes = appends_more k l m so_far.answered said.0 so_far.writes said.2;
      ends = inr (record {
        taken = so_far.taken;
        answers = so_far.answered;
        line = line.whole;
        answer = said.0;
        ahead = ahead_of further;
        before = state;
        after = after;
        turns = so_far.turns;
        line_of = line.is_line;
        turn = said.1;
        debugger = refl;
        bytes = read_is fresh further s u (so_far.taken ++ (line.whole ++ [])) empty takes ∙ regroup so_far.taken line.whole [] (ahead_of further);
        written = refl;
        ended = limit_reached fresh further s u so_far.taken line.whole all takes over;
      });
    }

-- it ends by the line that was answered last
pub ended : (code : KnownCode) (old : DebuggerView) (state : SessionState) (debugger : DebuggerView) (kept : Kept) (fresh input further : Input) (s t u k l m : Option (List ℕ))
    (read : ReadLine) (held : List ℕ) (goes_on : Bool) → ahead_of fresh ≡ [] → fresh.left ≡ 4294967295
    → IsUnderway code old state fresh input s t k l → ReadsLine input further t u read held
    → ((whole : List ℕ) → IsHeld read.fit held whole → IsAnswered code state (state_of debugger kept) whole goes_on l m) → (goes_on ≡ false) ⊎ (read.is_last ≡ true)
    → Session code old debugger s u k m
ended code old state debugger kept fresh input further s t u k l m read held false empty all so_far line answered e =
    ended_by_quit code old state (state_of debugger kept) fresh input further s t u k l m read held empty all so_far line (answered line.whole line.held)
ended code old state debugger kept fresh input further s t u k l m read held true empty all so_far line answered (inl e) = absurd (cc)
ended code old state debugger kept fresh input further s t u k l m read held true empty all so_far line answered (inr e) =
    ended_by_input code old state (state_of debugger kept) fresh input further s t u k l m read held empty all so_far line e (answered line.whole line.held)

-- a session that is broken off while a line is read
further_read : (fresh input : Input) (s t : Option (List ℕ)) (taken part : List ℕ) → ahead_of fresh ≡ []
    → (takes : Takes fresh input s t (taken ++ part)) → Consumes s t (taken ++ (part ++ ahead_of input))
further_read fresh input s t taken part empty takes =
    let e : takes.read ≡ taken ++ (part ++ ahead_of input) =
    read_is fresh input s t (taken ++ part) empty takes ∙ append_assoc taken part (ahead_of input) in
    rw e at takes.reads

unread : (code : KnownCode) (old : DebuggerView) (state : SessionState) (fresh input further : Input) (s t u k l : Option (List ℕ)) (part : List ℕ)
    → ahead_of fresh ≡ [] → fresh.left ≡ 4294967295 → (so_far : IsUnderway code old state fresh input s t k l) → Takes input further t u part
    → BreaksOff code old state.debugger s u so_far.answered []
unread code old state fresh input further s t u k l part empty all so_far takes = record {
  taken = so_far.taken;
  further = part ++ ahead_of further;
  state = state;
  reads = further_read fresh further s u so_far.taken part empty (takes_more fresh input further s t u so_far.taken part so_far.takes takes);
  within = within fresh input s t so_far.taken all so_far.takes;
  turns = so_far.turns;
  stands = inl (refl, refl);
}

pub failed_read : (code : KnownCode) (old debugger : DebuggerView) (kept : Kept) (fresh input further : Input) (s t u k l : Option (List ℕ)) (n m a b : ℕ)
    (fault : DebugFault) → ahead_of fresh ≡ [] → fresh.left ≡ 4294967295 → IsUnderway code old (state_of debugger kept) fresh input s t k l
    → ((part : List ℕ) × Takes input further t u part) → FailsBy a b fault → Fails code old debugger s u k l n m fault
failed_read code old debugger kept fresh input further s t u k l n m a b faults.Memory empty all so_far takes by =
    (so_far.answered, unread code old (state_of debugger kept) fresh input further s t u k l takes.0 empty all so_far takes.1, so_far.writes)
failed_read code old debugger kept fresh input further s t u k l n m a b faults.InputOutput empty all so_far takes by = (
  so_far.answered,
  [],
  unread code old (state_of debugger kept) fresh input further s t u k l takes.0 empty all so_far takes.1,
  rw append-nil so_far.writes,
  inl refl,
)
failed_read code old debugger kept fresh input further s t u k l n m a b fault empty all so_far takes by = absurd by

-- and while it is answered
unanswered : (code : KnownCode) (old : DebuggerView) (state after : SessionState) (fresh input further : Input) (s t u k l m : Option (List ℕ))
    (read : ReadLine) (held : List ℕ) (fault : DebugFault) → ahead_of fresh ≡ [] → fresh.left ≡ 4294967295
    → (so_far : IsUnderway code old state fresh input s t k l) → (line : ReadsLine input further t u read held)
    → (out : LacksAnswer code state after line.whole l m fault) → BreaksOff code old after.debugger s u so_far.answered out.part
unanswered code old state after fresh input further s t u k l m read held fault empty all so_far line out =
    let part : List ℕ = line.whole ++ line_end read.is_last in
    let takes : Takes fresh further s u (so_far.taken ++ part) = takes_more fresh input further s t u so_far.taken part so_far.takes line.takes in
    record {
      taken = so_far.taken;
      further = part ++ ahead_of further;
      state = state;
      reads = further_read fresh further s u so_far.taken part empty takes;
      within = within fresh input s t so_far.taken all so_far.takes;
      turns = so_far.turns;
      stands = inr (record {
        line = line.whole;
        behind = ahead_of further;
        bytes = line_bytes fresh further s u so_far.taken line.whole read.is_last all takes line.over;
        line_of = line.is_line;
        outcome = out.outcome;
        after = after;
        comes_out = out.comes_out;
        begun = out.begun;
        debugger = refl;
      });
    }

pub failed_answer : (code : KnownCode) (old : DebuggerView) (state : SessionState) (debugger : DebuggerView) (kept : Kept) (fresh input further : Input) (s t u k l m : Option (List ℕ)) (a b : ℕ)
    (read : ReadLine) (held : List ℕ) (fault : DebugFault) → ahead_of fresh ≡ [] → fresh.left ≡ 4294967295
    → IsUnderway code old state fresh input s t k l → ReadsLine input further t u read held
    → ((whole : List ℕ) → IsHeld read.fit held whole → LacksAnswer code state (state_of debugger kept) whole l m fault)
    → FailsBy a b fault → Fails code old debugger s u k m a b fault
failed_answer code old state debugger kept fresh input further s t u k l m a b read held faults.Memory empty all so_far line out by =
    let lacks = out line.whole line.held in
    let none = lacks.none refl in
    let broken = unanswered code old state (state_of debugger kept) fresh input further s t u k l m read held faults.Memory empty all so_far line lacks in
    let writes = appends_more k l m so_far.answered lacks.part so_far.writes lacks.writes in
    (so_far.answered, rw none at broken, rw (none, append-nil) at writes)
failed_answer code old state debugger kept fresh input further s t u k l m a b read held faults.InputOutput empty all so_far line out by =
    let lacks = out line.whole line.held in (
      so_far.answered,
      lacks.part,
      unanswered code old state (state_of debugger kept) fresh input further s t u k l m read held faults.InputOutput empty all so_far line lacks,
      appends_more k l m so_far.answered lacks.part so_far.writes lacks.writes,
      inr by,
    )
failed_answer code old state debugger kept fresh input further s t u k l m a b read held fault empty all so_far line out by = absurd by

-- why the session ends by a line that wasn't read, and by one that wasn't answered
pub ends_by_read : (s t u k l : ℕ) (fault : DebugFault) → FailsBy t u fault → t ≡ s → l ≡ k → EndsBy s u k l fault
ends_by_read s t u k l faults.Memory by source sink = (by ∙ source, sink)
ends_by_read s t u k l faults.InputOutput by source sink = inl (rw (← source) by, sink)
ends_by_read s t u k l fault by source sink = absurd by

pub ends_by_write : (s t k l m : ℕ) (fault : DebugFault) → FailsBy l m fault → l ≡ k → t ≡ s → EndsBy s t k m fault
ends_by_write s t k l m faults.Memory by sink source = (source, by ∙ sink)
ends_by_write s t k l m faults.InputOutput by sink source = inr (source, rw (← sink) by)
ends_by_write s t k l m fault by sink source = absurd by
