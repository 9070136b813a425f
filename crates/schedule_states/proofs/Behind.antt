-- A configuration goes on being behind another one.
use Rattle.std.proofs.Common.{◌≡◌, ◌≢◌, inl, inr, ℕ, zero, suc, List, [], ◌∷◌, Option, Some, None, slice_get, slice_set, refl, sym, ap, ◌∙◌, subst}
use Rattle.std.proofs.lemmas.Bool.{cases_eq}
use Rattle.std.proofs.lemmas.Option.{same_Some}
use Rattle.bus.proofs.Following.{asking_stays}
use Rattle.bus.proofs.Places.{got_else}
use Rattle.bus.specs.Alone.{Asks, StepsAlone}
use Rattle.hart.specs.Effect.{answered}
use Rattle.hart.specs.Needs.{IsSpelledBy}
use Rattle.hart.specs.Requests.{IsRequest}
use Rattle.hart.specs.declared.need.Need.TheVariants.{Ask}
use Rattle.hart.specs.declared.need.Request.{Request}
use Rattle.hart.specs.declared.need.Reply.{Reply}
use Rattle.hart.specs.declared.state.HartState.{HartState}
use Rattle.hart.specs.declared.state.Status.TheVariants.{Running}
use Rattle.isa_table.specs.declared.instruction.Instr.{Instr}
use Rattle.line_memory.specs.Memory.{Memory}
use Rattle.machine.proofs.Determined.{needs_once, steps_once}
use Rattle.machine.specs.Replies.{reply_after, shared_after}
use Rattle.machine.specs.Run.{Config, StepsTo, after_request, fetched, with_hart}
use Rattle.machine.specs.declared.schedule.items.Step.TheVariants.{Hart}
use Rattle.schedule_states.proofs.Answered.{kept_text}
use Rattle.schedule_states.proofs.Commuting.{Commute, local_commutes}
use Rattle.schedule_states.proofs.Happening.{steps_alone, steps_asking}
use Rattle.schedule_states.proofs.Keeping.{local_keeps}
use Rattle.schedule_states.proofs.Seen.{seen_shared}
use Rattle.schedule_states.specs.Behind.{AreAlike, GoesOwn, GoesOwnBy, IsBehind, IsFit, IsFitMove, IsOwnMove, Moves}
use Rattle.schedule_states.specs.Claims.{IsLocal}
use Rattle.schedule_states.specs.Seen.{Seen, reply_seen, seen, seen_after}
use Rattle.schedule_states.specs.States.{text_for}
use Rattle.schedule_states.specs.declared.claims.Claim.{Claim}

-- alike configurations
pub alike_itself : (c : Config) → AreAlike c c
alike_itself c = record { harts = refl; seen = refl }

pub alike_back : (c d : Config) → AreAlike c d → AreAlike d c
alike_back c d alike = record { harts = sym alike.harts; seen = sym alike.seen }

pub alike_then : (c d e : Config) → AreAlike c d → AreAlike d e → AreAlike c e
alike_then c d e one two = record { harts = two.harts ∙ one.harts; seen = two.seen ∙ one.seen }

-- where a request leads from what hart h is
asked_harts : (c d : Config) (h : ℕ) (own : HartState) (instr : Instr) (request : Request) → AreAlike c d → AreAlike (after_request c h own instr request) (after_request d h own instr request)
asked_harts c d h own instr request alike = record {
  harts = ap (λ (v : Seen). slice_set d.harts h (answered own instr (reply_seen v h request))) alike.seen
      ∙ ap (λ (harts : List HartState). slice_set harts h (answered own instr (reply_after c.common h request))) alike.harts;
  seen = seen_shared d.common h request ∙ ap (λ (v : Seen). seen_after v h request) alike.seen ∙ sym (seen_shared c.common h request);
}

pub alike_text : (c d : Config) (h : ℕ) → AreAlike c d → text_for d.common h ≡ text_for c.common h
alike_text c d h alike = ap (λ (v : Seen). v.texts h) alike.seen

-- a step of a hart from what is alike
abbrev pub MovesAlike : Config → ℕ → Option Request → Config → Type 0
MovesAlike d h request next = (e : Config) × Moves d h request e × AreAlike next e

pub alike_moves : (c d next : Config) (h : ℕ) (request : Option Request) → AreAlike c d → Moves c h request next → MovesAlike d h request next
alike_moves c d next h None alike move = (
  with_hart d h move.next,
  record {
    own = move.own;
    next = move.next;
    here = ap (λ (harts : List HartState). slice_get harts h) alike.harts ∙ move.here;
    step = subst (λ (text : Memory). StepsAlone text move.own move.next) (sym (alike_text c d h alike)) move.step;
    is = refl;
  },
  subst (λ (e : Config). AreAlike e (with_hart d h move.next)) (sym move.is)
      (record { harts = ap (λ (harts : List HartState). slice_set harts h move.next) alike.harts; seen = alike.seen }),
)
alike_moves c d next h (Some request) alike move = (
  after_request d h move.own move.instr request,
  record {
    own = move.own;
    instr = move.instr;
    here = ap (λ (harts : List HartState). slice_get harts h) alike.harts ∙ move.here;
    asks = subst (λ (text : Memory). Asks text move.own request) (sym (alike_text c d h alike)) move.asks;
    spelled = subst (λ (text : Memory). IsSpelledBy (fetched text move.own.pc) move.instr) (sym (alike_text c d h alike)) move.spelled;
    is = refl;
  },
  subst (λ (e : Config). AreAlike e (after_request d h move.own move.instr request)) (sym move.is) (asked_harts c d h move.own move.instr request alike),
)

-- steps of two harts
set_twice : (harts : List HartState) (h g : ℕ) (x y : HartState) → h ≢ g → slice_set (slice_set harts h x) g y ≡ slice_set (slice_set harts g y) h x
set_twice [] h g x y apart = refl
set_twice (one ∷ harts) zero zero x y apart = absurd (apart refl)
set_twice (one ∷ harts) zero (suc g) x y apart = refl
set_twice (one ∷ harts) (suc h) zero x y apart = refl
set_twice (one ∷ harts) (suc h) (suc g) x y apart = ap (λ (rest : List HartState). one ∷ rest) (set_twice harts h g x y (λ same. apart (ap suc same)))

-- from where two harts have made a step of their own each, in either order
pub record Meet (claims : ℕ → Option Claim) (m next : Config) (h g : ℕ) (own other : Option Request) : Type 0 where
  pub one : Config
  pub two : Config
  pub moves : Moves m g other one
  pub goes : Moves next h own two
  pub alike : AreAlike one two

quiet_meet : (claims : ℕ → Option Claim) (c : Config) (h g : ℕ) (own next of to : HartState) → h ≢ g → slice_get c.harts h ≡ Some own → slice_get c.harts g ≡ Some of →
    StepsAlone (text_for c.common h) own next → StepsAlone (text_for c.common g) of to → Meet claims (with_hart c h next) (with_hart c g to) h g None None
quiet_meet claims c h g own next of to apart mine other one two = record {
  one = with_hart (with_hart c h next) g to;
  two = with_hart (with_hart c g to) h next;
  moves = record { own = of; next = to; here = got_else c.harts h g next (λ same. apart (sym same)) ∙ other; step = two; is = refl };
  goes = record { own = own; next = next; here = got_else c.harts g h to apart ∙ mine; step = one; is = refl };
  alike = record { harts = sym (set_twice c.harts h g next to apart); seen = refl };
}

-- a request after a step of another hart's registers, and that step after the request
half_meet : (claims : ℕ → Option Claim) (c : Config) (h g : ℕ) (own next of : HartState) (instr : Instr) (request : Request) → h ≢ g → slice_get c.harts h ≡ Some own → slice_get c.harts g ≡ Some of →
    StepsAlone (text_for c.common h) own next → Asks (text_for c.common g) of request → IsSpelledBy (fetched (text_for c.common g) of.pc) instr →
    Meet claims (with_hart c h next) (after_request c g of instr request) h g None (Some request)
half_meet claims c h g own next of instr request apart mine other step asks spelled =
    let text : text_for (shared_after c.common g request) h ≡ text_for c.common h = kept_text c g h request (inr (λ same. apart (sym same))) in record {
      one = after_request (with_hart c h next) g of instr request;
      two = with_hart (after_request c g of instr request) h next;
      moves = record { own = of; instr = instr; here = got_else c.harts h g next (λ same. apart (sym same)) ∙ other; asks = asks; spelled = spelled; is = refl };
      goes = record {
        own = own;
        next = next;
        here = got_else c.harts g h (answered of instr (reply_after c.common g request)) apart ∙ mine;
        step = subst (λ (t : Memory). StepsAlone t own next) (sym text) step;
        is = refl;
      };
      alike = record { harts = sym (set_twice c.harts h g next (answered of instr (reply_after c.common g request)) apart); seen = refl };
    }

meet_back : (claims : ℕ → Option Claim) (m next : Config) (h g : ℕ) (own other : Option Request) → Meet claims m next h g own other → Meet claims next m g h other own
meet_back claims m next h g own other meet = record { one = meet.two; two = meet.one; moves = meet.goes; goes = meet.moves; alike = alike_back meet.one meet.two meet.alike }

-- two requests, of which one is its hart's own affair
full_meet : (claims : ℕ → Option Claim) (c : Config) (h g : ℕ) (own of : HartState) (mine other : Instr) (r q : Request) → h ≢ g → slice_get c.harts h ≡ Some own → slice_get c.harts g ≡ Some of →
    Asks (text_for c.common h) own r → IsSpelledBy (fetched (text_for c.common h) own.pc) mine → Asks (text_for c.common g) of q → IsSpelledBy (fetched (text_for c.common g) of.pc) other →
    IsLocal claims h r × IsRequest r → IsFit claims g q → Meet claims (after_request c h own mine r) (after_request c g of other q) h g (Some r) (Some q)
full_meet claims c h g own of mine other r q apart here there asks spelled asking spells local fit =
    let commute : Commute (seen c.common) h g r q = local_commutes claims h g (seen c.common) r q (λ same. apart (sym same)) local.0 local.1 fit.keeps fit.is in
    let text : text_for (shared_after c.common h r) g ≡ text_for c.common g = kept_text c h g r (inr apart) in
    let own_text : text_for (shared_after c.common g q) h ≡ text_for c.common h = kept_text c g h q (inr (λ same. apart (sym same))) in
    let reply : reply_after (shared_after c.common h r) g q ≡ reply_after c.common g q =
    ap (λ (v : Seen). reply_seen v g q) (seen_shared c.common h r) ∙ commute.other in
    let own_reply : reply_after (shared_after c.common g q) h r ≡ reply_after c.common h r =
    ap (λ (v : Seen). reply_seen v h r) (seen_shared c.common g q) ∙ commute.own in
    let x : HartState = answered own mine (reply_after c.common h r) in
    let y : HartState = answered of other (reply_after c.common g q) in record {
      one = after_request (after_request c h own mine r) g of other q;
      two = after_request (after_request c g of other q) h own mine r;
      moves = record {
        own = of;
        instr = other;
        here = got_else c.harts h g x (λ same. apart (sym same)) ∙ there;
        asks = subst (λ (t : Memory). Asks t of q) (sym text) asking;
        spelled = subst (λ (t : Memory). IsSpelledBy (fetched t of.pc) other) (sym text) spells;
        is = refl;
      };
      goes = record {
        own = own;
        instr = mine;
        here = got_else c.harts g h y apart ∙ here;
        asks = subst (λ (t : Memory). Asks t own r) (sym own_text) asks;
        spelled = subst (λ (t : Memory). IsSpelledBy (fetched t own.pc) mine) (sym own_text) spelled;
        is = refl;
      };
      alike = record {
        harts = ap (λ (s : Reply). slice_set (slice_set c.harts g y) h (answered own mine s)) own_reply
            ∙ sym (set_twice c.harts h g x y apart)
            ∙ sym (ap (λ (s : Reply). slice_set (slice_set c.harts h x) g (answered of other s)) reply);
        seen = seen_shared (shared_after c.common g q) h r ∙ ap (λ (v : Seen). seen_after v h r) (seen_shared c.common g q)
            ∙ sym commute.seen
            ∙ sym (ap (λ (v : Seen). seen_after v g q) (seen_shared c.common h r)) ∙ sym (seen_shared (shared_after c.common h r) g q);
      };
    }

-- a step that is its hart's own affair, and another hart's, in either order
meet_at : (claims : ℕ → Option Claim) (c m next m' next' : Config) (h g : ℕ) (own other : Option Request) → m ≡ m' → next ≡ next' → Meet claims m' next' h g own other →
    Meet claims m next h g own other
meet_at claims c m next m' next' h g own other same_m same_next meet =
    subst (λ (x : Config). Meet claims x next h g own other) (sym same_m) (subst (λ (y : Config). Meet claims m' y h g own other) (sym same_next) meet)

pub moves_meet : (claims : ℕ → Option Claim) (c m next : Config) (h g : ℕ) (own other : Option Request) → h ≢ g → Moves c h own m → IsOwnMove claims h own → Moves c g other next →
    IsFitMove claims g other → Meet claims m next h g own other
moves_meet claims c m next h g None None apart a local b fit = meet_at claims c m next _ _ h g None None a.is b.is
    (quiet_meet claims c h g a.own a.next b.own b.next apart a.here b.here a.step b.step)
moves_meet claims c m next h g None (Some q) apart a local b fit = meet_at claims c m next _ _ h g None (Some q) a.is b.is
    (half_meet claims c h g a.own a.next b.own b.instr q apart a.here b.here a.step b.asks b.spelled)
moves_meet claims c m next h g (Some r) None apart a local b fit = meet_at claims c m next _ _ h g (Some r) None a.is b.is
    (meet_back claims _ _ g h None (Some r) (half_meet claims c g h b.own b.next a.own a.instr r (λ same. apart (sym same)) b.here a.here b.step a.asks a.spelled))
moves_meet claims c m next h g (Some r) (Some q) apart a local b fit = meet_at claims c m next _ _ h g (Some r) (Some q) a.is b.is
    (full_meet claims c h g a.own b.own a.instr b.instr r q apart a.here b.here a.asks a.spelled b.asks b.spelled local fit)

-- a step of a hart is determined, and so is its request
pub move_steps : (c d : Config) (h : ℕ) (request : Option Request) → Moves c h request d → StepsTo c (Hart h) d
move_steps c d h None move = subst (λ (e : Config). StepsTo c (Hart h) e) (sym move.is) (steps_alone c h move.own move.next move.here move.step)
move_steps c d h (Some request) move =
    steps_asking c d h (record { own = move.own; instr = move.instr; request = request; here = move.here; asks = move.asks; spelled = move.spelled; is = move.is })

pub moves_once : (c d e : Config) (h : ℕ) (one other : Option Request) → Moves c h one d → Moves c h other e → d ≡ e
moves_once c d e h one other a b = steps_once c (Hart h) d e (move_steps c d h one a) (move_steps c e h other b)

pub asks_once : (text : Memory) (s : HartState) (r q : Request) → Asks text s r → Asks text s q → r ≡ q
asks_once text s r q a b = let same : Ask r ≡ Ask q = needs_once s (fetched text s.pc) (Ask r) (Ask q) a.needs b.needs in cc

pub request_once : (c d e : Config) (h : ℕ) (one other : Option Request) → Moves c h one d → Moves c h other e → one ≡ other
request_once c d e h None None a b = refl
request_once c d e h None (Some q) a b =
    let same : a.own ≡ b.own = same_Some a.own b.own (sym a.here ∙ b.here) in
    absurd (asking_stays (text_for c.common h) b.own a.next q b.asks (subst (λ (s : HartState). StepsAlone (text_for c.common h) s a.next) same a.step))
request_once c d e h (Some r) None a b =
    let same : b.own ≡ a.own = same_Some b.own a.own (sym b.here ∙ a.here) in
    absurd (asking_stays (text_for c.common h) a.own b.next r a.asks (subst (λ (s : HartState). StepsAlone (text_for c.common h) s b.next) same b.step))
request_once c d e h (Some r) (Some q) a b =
    let same : a.own ≡ b.own = same_Some a.own b.own (sym a.here ∙ b.here) in
    ap (λ (x : Request). Some x) (asks_once (text_for c.common h) b.own r q (subst (λ (s : HartState). Asks (text_for c.common h) s r) same a.asks) b.asks)

own_fits : (claims : ℕ → Option Claim) (h : ℕ) (request : Option Request) → IsOwnMove claims h request → IsFitMove claims h request
own_fits claims h None own = tt
own_fits claims h (Some r) own = record { keeps = local_keeps claims h r own.0; is = own.1 }

-- another hart's step leaves a hart where it is
other_hart : (c m : Config) (h g : ℕ) (request : Option Request) (own : HartState) → h ≢ g → Moves c h request m → slice_get c.harts g ≡ Some own → slice_get m.harts g ≡ Some own
other_hart c m h g None own apart move here =
    ap (λ (e : Config). slice_get e.harts g) move.is ∙ got_else c.harts h g move.next (λ same. apart (sym same)) ∙ here
other_hart c m h g (Some r) own apart move here =
    ap (λ (e : Config). slice_get e.harts g) move.is ∙ got_else c.harts h g (answered move.own move.instr (reply_after c.common h r)) (λ same. apart (sym same)) ∙ here

other_text : (c m : Config) (h g : ℕ) (request : Option Request) → h ≢ g → Moves c h request m → text_for m.common g ≡ text_for c.common g
other_text c m h g None apart move = ap (λ (e : Config). text_for e.common g) move.is
other_text c m h g (Some r) apart move = ap (λ (e : Config). text_for e.common g) move.is ∙ kept_text c h g r (inr apart)

still_moves : (c m next : Config) (h g : ℕ) (mine other : Option Request) → h ≢ g → Moves c h mine m → Moves c g other next → (e : Config) × Moves m g other e
still_moves c m next h g mine None apart a b = (
  with_hart m g b.next,
  record {
    own = b.own;
    next = b.next;
    here = other_hart c m h g mine b.own apart a b.here;
    step = subst (λ (t : Memory). StepsAlone t b.own b.next) (sym (other_text c m h g mine apart a)) b.step;
    is = refl;
  },
)
still_moves c m next h g mine (Some q) apart a b = (
  after_request m g b.own b.instr q,
  record {
    own = b.own;
    instr = b.instr;
    here = other_hart c m h g mine b.own apart a b.here;
    asks = subst (λ (t : Memory). Asks t b.own q) (sym (other_text c m h g mine apart a)) b.asks;
    spelled = subst (λ (t : Memory). IsSpelledBy (fetched t b.own.pc) b.instr) (sym (other_text c m h g mine apart a)) b.spelled;
    is = refl;
  },
)

-- whatever hart g asks next in d keeps to the claims
abbrev pub AreFit : (ℕ → Option Claim) → Config → ℕ → Type 0
AreFit claims d g = (request : Option Request) (e : Config) → Moves d g request e → IsFitMove claims g request

-- so does what it asks next behind that
pub behind_fits : (claims : ℕ → Option Claim) (harts : List ℕ) (c d next : Config) (g : ℕ) (request : Option Request) → IsBehind claims harts c d → AreFit claims d g → Moves c g request next →
    IsFitMove claims g request
behind_fits claims [] c d next g request behind fit move =
    let on : MovesAlike d g request next = alike_moves c d next g request behind move in fit request on.0 on.1
behind_fits claims (h ∷ harts) c d next g request behind fit move = elim (cases_eq h g) [
  | inl same ↦
      let mine : Moves c g behind.1.0 behind.0 = subst (λ (k : ℕ). Moves c k behind.1.0 behind.0) same behind.1.1 in
      let own : IsOwnMove claims g behind.1.0 = subst (λ (k : ℕ). IsOwnMove claims k behind.1.0) same behind.1.2 in
      own_fits claims g request (subst (λ (r : Option Request). IsOwnMove claims g r) (request_once c behind.0 next g behind.1.0 request mine move) own)
  | inr apart ↦
      let on : (e : Config) × Moves behind.0 g request e = still_moves c behind.0 next h g behind.1.0 request apart behind.1.1 move in
      behind_fits claims harts behind.0 d on.0 g request behind.2 fit on.1
]

-- what is alike is behind the same
pub alike_behind : (claims : ℕ → Option Claim) (harts : List ℕ) (c e d : Config) → AreAlike c e → IsBehind claims harts c d → IsBehind claims harts e d
alike_behind claims [] c e d alike behind = alike_then e c d (alike_back c e alike) behind
alike_behind claims (h ∷ harts) c e d alike behind =
    let on : MovesAlike e h behind.1.0 behind.0 = alike_moves c e behind.0 h behind.1.0 alike behind.1.1 in
    (on.0, (behind.1.0, on.1, behind.1.2), alike_behind claims harts behind.0 on.0 d on.2 behind.2)

-- the reply to its request is the same in d as in c
abbrev pub HasSameReply : Config → Config → ℕ → Option Request → Type 0
HasSameReply c d g None = Unit {0}
HasSameReply c d g (Some q) = reply_after d.common g q ≡ reply_after c.common g q

other_reply : (claims : ℕ → Option Claim) (c m next : Config) (h g : ℕ) (own other : Option Request) → h ≢ g → Moves c h own m → IsOwnMove claims h own → Moves c g other next →
    IsFitMove claims g other → HasSameReply c m g other
other_reply claims c m next h g own None apart a local b fit = tt
other_reply claims c m next h g None (Some q) apart a local b fit = ap (λ (e : Config). reply_after e.common g q) a.is
other_reply claims c m next h g (Some r) (Some q) apart a local b fit =
    let commute : Commute (seen c.common) h g r q = local_commutes claims h g (seen c.common) r q (λ same. apart (sym same)) local.0 local.1 fit.keeps fit.is in
    ap (λ (e : Config). reply_after e.common g q) a.is ∙ ap (λ (v : Seen). reply_seen v g q) (seen_shared c.common h r) ∙ commute.other

reply_then : (c d e : Config) (g : ℕ) (request : Option Request) → HasSameReply c d g request → HasSameReply d e g request → HasSameReply c e g request
reply_then c d e g None one two = tt
reply_then c d e g (Some q) one two = two ∙ one

alike_reply : (c d : Config) (g : ℕ) (request : Option Request) → AreAlike c d → HasSameReply c d g request
alike_reply c d g None alike = tt
alike_reply c d g (Some q) alike = ap (λ (v : Seen). reply_seen v g q) alike.seen

-- A step of hart g: it is behind d still, and the step was the hart's own affair, or hart g makes the same step from d, with the same reply.
pub data Follows (claims : ℕ → Option Claim) (c d next : Config) (g : ℕ) (request : Option Request) : Type 0 where
  still : (harts : List ℕ) → IsBehind claims harts next d → IsOwnMove claims g request → Follows claims c d next g request
  along : (harts : List ℕ) (e : Config) → Moves d g request e → IsBehind claims harts next e → HasSameReply c d g request → Follows claims c d next g request

follows_back : (claims : ℕ → Option Claim) (c m d next one two : Config) (h g : ℕ) (own other : Option Request) → Moves next h own two → IsOwnMove claims h own → AreAlike one two →
    HasSameReply c m g other → Follows claims m d one g other → Follows claims c d next g other
follows_back claims c m d next one two h g own other goes local alike same (still harts behind is) =
    still (h ∷ harts) (two, (own, goes, local), alike_behind claims harts one two d alike behind) is
follows_back claims c m d next one two h g own other goes local alike same (along harts e move behind reply) =
    along (h ∷ harts) e move (two, (own, goes, local), alike_behind claims harts one two e alike behind) (reply_then c m d g other same reply)

pub behind_step : (claims : ℕ → Option Claim) (harts : List ℕ) (c d next : Config) (g : ℕ) (request : Option Request) → IsBehind claims harts c d → Moves c g request next →
    IsFitMove claims g request → Follows claims c d next g request
behind_step claims [] c d next g request behind move fit =
    let on : MovesAlike d g request next = alike_moves c d next g request behind move in along [] on.0 on.1 on.2 (alike_reply c d g request behind)
behind_step claims (h ∷ harts) c d next g request behind move fit = elim (cases_eq h g) [
  | inl same ↦
      let mine : Moves c g behind.1.0 behind.0 = subst (λ (k : ℕ). Moves c k behind.1.0 behind.0) same behind.1.1 in
      let own : IsOwnMove claims g behind.1.0 = subst (λ (k : ℕ). IsOwnMove claims k behind.1.0) same behind.1.2 in
      still harts (subst (λ (e : Config). IsBehind claims harts e d) (moves_once c behind.0 next g behind.1.0 request mine move) behind.2)
      (subst (λ (r : Option Request). IsOwnMove claims g r) (request_once c behind.0 next g behind.1.0 request mine move) own)
  | inr apart ↦
      let meet : Meet claims behind.0 next h g behind.1.0 request = moves_meet claims c behind.0 next h g behind.1.0 request apart behind.1.1 behind.1.2 move fit in
      follows_back claims c behind.0 d next meet.one meet.two h g behind.1.0 request meet.goes behind.1.2 meet.alike
      (other_reply claims c behind.0 next h g behind.1.0 request apart behind.1.1 behind.1.2 move fit)
      (behind_step claims harts behind.0 d meet.one g request behind.2 meet.moves fit)
]

-- a further step of d that is its hart's own affair
pub behind_more : (claims : ℕ → Option Claim) (harts : List ℕ) (c d e : Config) (h : ℕ) → IsBehind claims harts c d → GoesOwn claims d h e → (more : List ℕ) × IsBehind claims more c e
behind_more claims [] c d e h behind goes =
    let on : MovesAlike c h goes.0 e = alike_moves d c e h goes.0 (alike_back c d behind) goes.1 in
    (h ∷ [], (on.0, (goes.0, on.1, goes.2), alike_back e on.0 on.2))
behind_more claims (g ∷ harts) c d e h behind goes =
    let on : (more : List ℕ) × IsBehind claims more behind.0 e = behind_more claims harts behind.0 d e h behind.2 goes in
    (g ∷ on.0, (behind.0, behind.1, on.1))

pub behind_by : (claims : ℕ → Option Claim) (harts : List ℕ) (c d e : Config) (h n : ℕ) → IsBehind claims harts c d → GoesOwnBy claims h n d e → (more : List ℕ) × IsBehind claims more c e
behind_by claims harts c d e h zero behind goes = (harts, subst (λ (x : Config). IsBehind claims harts c x) (sym goes) behind)
behind_by claims harts c d e h (suc n) behind goes =
    let on : (more : List ℕ) × IsBehind claims more c goes.0 = behind_by claims harts c d goes.0 h n behind goes.1 in
    behind_more claims on.0 c goes.0 e h on.1 goes.2

stopped_moves_not : (c d : Config) (g : ℕ) (request : Option Request) (own : HartState) → Moves c g request d → slice_get c.harts g ≡ Some own → own.status ≢ Running → ⊥
stopped_moves_not c d g None own move here stopped =
    stopped (subst (λ (s : HartState). s.status ≡ Running) (same_Some move.own own (sym move.here ∙ here)) move.step.running)
stopped_moves_not c d g (Some r) own move here stopped =
    stopped (subst (λ (s : HartState). s.status ≡ Running) (same_Some move.own own (sym move.here ∙ here)) move.asks.running)

-- a hart that has stopped stands where it does in what it is behind of
pub behind_stopped : (claims : ℕ → Option Claim) (harts : List ℕ) (c d : Config) (g : ℕ) (own : HartState) → IsBehind claims harts c d → slice_get c.harts g ≡ Some own → own.status ≢ Running →
    slice_get d.harts g ≡ Some own
behind_stopped claims [] c d g own behind here stopped = ap (λ (all : List HartState). slice_get all g) behind.harts ∙ here
behind_stopped claims (h ∷ harts) c d g own behind here stopped = elim (cases_eq h g) [
  | inl same ↦
      let mine : Moves c g behind.1.0 behind.0 = subst (λ (k : ℕ). Moves c k behind.1.0 behind.0) same behind.1.1 in
      absurd (stopped_moves_not c behind.0 g behind.1.0 own mine here stopped)
  | inr apart ↦ behind_stopped claims harts behind.0 d g own behind.2 (other_hart c behind.0 h g behind.1.0 own apart behind.1.1 here) stopped
]
