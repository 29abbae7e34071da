-- What reaches a session decides what is said of it.
use Rattle.std.proofs.Common.{◌≡◌, refl, sym, ap, ◌∙◌, subst, ℕ, suc, ◌<◌, ◌≤◌, ◌==◌, ◌++◌, Bool, true, false, not, cond, ◌&&◌, ◌||◌, List, [], ◌∷◌, ◌↔◌, length, is_some, Some, None, arith}
use Rattle.std.proofs.lemmas.Bool.{false≢true, and_parts, or_parts, false_from_ne_true}
use Rattle.relay_model.specs.declared.places.Part.TheVariants.{Both}
use Rattle.relay_model.specs.declared.places.Side.TheVariants.{Left}
use Rattle.relay_model.specs.declared.places.Way.{Way}
use Rattle.relay_model.specs.declared.places.Place.{Place}
use Rattle.relay_model.specs.declared.commands.Config.{Config}
use Rattle.relay_model.specs.declared.acts.Why.{Why}
use Rattle.relay_model.specs.declared.acts.Why.TheVariants as whys
use Rattle.relay_model.specs.declared.acts.Act.{Act}
use Rattle.relay_model.specs.declared.acts.Act.TheVariants.{Turn, Opened, OpenLater, OpenFailed, Listening, ListenFailed, Accepted, NoPeer, AcceptFailed, Read, ReadEmpty, ReadEnd, ReadNotYet, ReadFault, Wrote, WriteNotYet, WriteFault, Shut, ShutFault, Closed, Reaped, Note, NoteFault}
use Rattle.relay_model.specs.Places.{same_place}
use Rattle.relay_model.specs.Configs.{place_at, input, output, options_of, keeps_borders, way_from, way_to, has_fork, program_door, is_program_door}
use Rattle.relay_model.specs.Choices.{only_if}
use Rattle.relay_model.specs.History.{put, got, sent, stop_said, memory_said, same_why}
use Rattle.relay_model.specs.Sessions.{numbers}
use Rattle.relay_model.specs.Transfers.{due, due_pieces, greatest_read, is_spent}
use Rattle.relay_model.specs.Conversions.{read_size, packet_size, packet_cap}
use Rattle.relay_model.specs.Arming.{armed_to_read, is_armed}
use Rattle.relay_model.specs.Moments.{passed}
use Rattle.relay_model.specs.Cause.{running}
use Rattle.relay_model.specs.Rest.{owed, is_going}
use Rattle.relay_model.specs.May.{MayAsk, MayRead, MayOffer, MayWrite, MayTryWrite, MayShut, BeginsWith, KeepsBorders, May}
use Rattle.relay_model.specs.declared.acts.Shut.{Shut as Shutting}
use Rattle.relay_model.specs.Frames.{IsForeign, is_common, is_turn, SameSession}
use Rattle.relay_laws.specs.Stories.{is_own_place, is_own, StoryEvent, Own, Turned, AcceptingFailed, Ending, is_news, reaches, and_event, story, transfers}
use Rattle.relay_laws.proofs.PlaceLemmas.{same_place_equal}
use Rattle.relay_laws.proofs.Elsewhere.{elsewhere}
use Rattle.relay_laws.proofs.Apart.{Base, base_step, closed_step, write_step, accept_step, pieces_step, passing_same, over_same, backlog_same, moves_same, session_begun}
use Rattle.relay_laws.proofs.OwnThings.{input_own, output_own}
use Rattle.relay_laws.proofs.Alike.{own_from, own_is, apart_from, seen, at_turned, at_joined, Alike, alike_kept, alike_itself, alike_turned, alike_joined}

-- ---- acts that are none of the session's own

pub foreign_act : (c : Config) (s : ℕ) (act : Act) → is_own c s act ≡ false → IsForeign c s act
foreign_act c s (Turn until at ready stop) k p e d = refl
foreign_act c s (Opened q) k p e d = apart_from c s q p k (own_from c s p e d)
foreign_act c s (OpenLater q) k p e d = apart_from c s q p k (own_from c s p e d)
foreign_act c s (OpenFailed q) k p e d = apart_from c s q p k (own_from c s p e d)
foreign_act c s (Listening q) k p e d = apart_from c s q p k (own_from c s p e d)
foreign_act c s (ListenFailed q) k p e d = apart_from c s q p k (own_from c s p e d)
foreign_act c s (Accepted q peer) k p e d = apart_from c s q p k (own_from c s p e d)
foreign_act c s (NoPeer q) k p e d = apart_from c s q p k (own_from c s p e d)
foreign_act c s (AcceptFailed q) k p e d = apart_from c s q p k (own_from c s p e d)
foreign_act c s (Read q bytes) k p e d = apart_from c s q p k (own_from c s p e d)
foreign_act c s (ReadEmpty q) k p e d = apart_from c s q p k (own_from c s p e d)
foreign_act c s (ReadEnd q) k p e d = apart_from c s q p k (own_from c s p e d)
foreign_act c s (ReadNotYet q) k p e d = apart_from c s q p k (own_from c s p e d)
foreign_act c s (ReadFault q) k p e d = apart_from c s q p k (own_from c s p e d)
foreign_act c s (Wrote q bytes) k p e d = apart_from c s q p k (own_from c s p e d)
foreign_act c s (WriteNotYet q) k p e d = apart_from c s q p k (own_from c s p e d)
foreign_act c s (WriteFault q) k p e d = apart_from c s q p k (own_from c s p e d)
foreign_act c s (Shut q way) k p e d = apart_from c s q p k (own_from c s p e d)
foreign_act c s (ShutFault q way) k p e d = apart_from c s q p k (own_from c s p e d)
foreign_act c s (Closed q why) k p e d = apart_from c s q p k (own_from c s p e d)
foreign_act c s (Reaped q end) k p e d = apart_from c s q p k (own_from c s p e d)
foreign_act c s (Note text) k p e d = refl
foreign_act c s (NoteFault text) k p e d = refl

common_is_no_turn : (c : Config) (act : Act) → is_common c act ≡ false → is_turn act ≡ false
common_is_no_turn c (Turn until at ready stop) k = absurd (false≢true (sym k))
common_is_no_turn c act k = refl

pub passes : (c : Config) (s : ℕ) (act : Act) (past : List Act) → IsForeign c s act → is_common c act ≡ false → Alike c s (act ∷ past) past
passes c s act past f k = record {
  base = base_step c act past s f k;
  written = λ w. write_step act past (input c s w) (output c s w) (common_is_no_turn c act k) (f (input c s w) refl (input_own c s w)) (f (output c s w) refl (output_own c s w));
  accepted = accept_step c act past s f (common_is_no_turn c act k);
  pieces = pieces_step c act past s f;
}

-- a closing elsewhere that tells of nothing new
told_before : (a x : Bool) → (a && not x) ≡ false → (a || x) ≡ x
told_before true false e = absurd (false≢true (sym e))
told_before true true e = refl
told_before false x e = refl

closing_passes : (c : Config) (s : ℕ) (q : Place) (why : Why) (past : List Act) → IsForeign c s (Closed q why) → is_news past why ≡ false → Alike c s (Closed q why ∷ past) past
closing_passes c s q why past f k =
    let told = or_parts (same_why why whys.Stopped && not (stop_said past)) (same_why why whys.Memory && not (memory_said past)) k in
    record {
      base = record {
        own = λ p e d. elsewhere (Closed q why) past p refl (f p e d);
        now_same = refl;
        memory_same = told_before (same_why why whys.Memory) (memory_said past) told.1;
        stop_same = told_before (same_why why whys.Stopped) (stop_said past) told.0;
        door_same = refl;
        closed_same = closed_step c (Closed q why) past s f;
        moved_same = refl;
      };
      written = λ w. refl;
      accepted = λ d e o. refl;
      pieces = λ w. refl;
    }

-- where a closing elsewhere is makes no difference
closing_moves : (c : Config) (s : ℕ) (q r : Place) (why : Why) (past : List Act) → IsForeign c s (Closed q why) → IsForeign c s (Closed r why) → Alike c s (Closed q why ∷ past) (Closed r why ∷ past)
closing_moves c s q r why past f g = record {
  base = record {
    own = λ p e d. at_joined p (Closed q why ∷ past) past (Closed r why ∷ past) (elsewhere (Closed q why) past p refl (f p e d)) (at_turned p (Closed r why ∷ past) past (elsewhere (Closed r why) past p refl (g p e d)));
    now_same = refl;
    memory_same = refl;
    stop_same = refl;
    door_same = refl;
    closed_same = closed_step c (Closed q why) past s f ∙ sym (closed_step c (Closed r why) past s g);
    moved_same = refl;
  };
  written = λ w. refl;
  accepted = λ d e o. refl;
  pieces = λ w. refl;
}

-- ---- a story, told as a list of acts again

abbrev pub elsewhere_of : ℕ → Place
elsewhere_of s = place_at (suc s) Left Both

abbrev pub retold : Config → ℕ → StoryEvent → Act
retold c s (Own act) = act
retold c s (Turned at entries stop) = Turn None at (record { entries = entries; room = 0 }) stop
retold c s AcceptingFailed = AcceptFailed program_door
retold c s (Ending why) = Closed (elsewhere_of s) why

abbrev pub retell : Config → ℕ → List StoryEvent → List Act
retell c s [] = []
retell c s (e ∷ events) = retold c s e ∷ retell c s events

next_is_foreign : (c : Config) (s : ℕ) (why : Why) → IsForeign c s (Closed (elsewhere_of s) why)
next_is_foreign c s why p e d = false_from_ne_true (same_place (elsewhere_of s) p) (λ h. let k : suc s ≡ s = ap (λ x. x.session) (same_place_equal (elsewhere_of s) p h) ∙ e in omega (arith, k))

own_is_seen : (c : Config) (s : ℕ) (act : Act) → is_own c s act ≡ true → seen c s act ≡ act
own_is_seen c s (Turn until at ready stop) k = absurd (false≢true k)
own_is_seen c s act k = refl

reaching : (c : Config) (s : ℕ) (act : Act) (past : List Act) (events : List StoryEvent) → is_own c s act ≡ false → Alike c s past (retell c s events) → Alike c s (act ∷ past) (retell c s (and_event (reaches c s past act) events))
reaching c s (Turn until at ready stop) past events k ih = alike_kept c s (Turn until at ready stop) past (retell c s events) ih
reaching c s (AcceptFailed q) past events k ih = go (is_program_door c q) refl
  where
    go : (b : Bool) → is_program_door c q ≡ b → Alike c s (AcceptFailed q ∷ past) (retell c s (and_event (only_if b AcceptingFailed) events))
    go true d = subst (λ (x : Place). Alike c s (AcceptFailed q ∷ past) (AcceptFailed x ∷ retell c s events)) (same_place_equal q program_door (and_parts (same_place q program_door) (has_fork c) d).0) (alike_kept c s (AcceptFailed q) past (retell c s events) ih)
    go false d = alike_joined c s (AcceptFailed q ∷ past) past (retell c s events) (passes c s (AcceptFailed q) past (foreign_act c s (AcceptFailed q) k) d) ih
reaching c s (Closed q why) past events k ih = go (is_news past why) refl
  where
    go : (b : Bool) → is_news past why ≡ b → Alike c s (Closed q why ∷ past) (retell c s (and_event (only_if b (Ending why)) events))
    go true n =
        alike_joined c s (Closed q why ∷ past) (Closed q why ∷ retell c s events) (Closed (elsewhere_of s) why ∷ retell c s events)
        (alike_kept c s (Closed q why) past (retell c s events) ih)
        (closing_moves c s q (elsewhere_of s) why (retell c s events) (foreign_act c s (Closed q why) k) (next_is_foreign c s why))
    go false n = alike_joined c s (Closed q why ∷ past) past (retell c s events) (closing_passes c s q why past (foreign_act c s (Closed q why) k) n) ih
reaching c s act past events k ih = alike_joined c s (act ∷ past) past (retell c s events) (passes c s act past (foreign_act c s act k) refl) ih

pub retelling : (c : Config) (s : ℕ) (past : List Act) → Alike c s past (retell c s (story c s past))
retelling c s [] = alike_itself c s []
retelling c s (act ∷ past) = go (is_own c s act) refl (retelling c s past)
  where
    go : (b : Bool) → is_own c s act ≡ b → Alike c s past (retell c s (story c s past)) → Alike c s (act ∷ past) (retell c s (and_event (cond b (Some (Own act)) (reaches c s past act)) (story c s past)))
    go true k ih = subst (λ (x : Act). Alike c s (act ∷ past) (x ∷ retell c s (story c s past))) (own_is_seen c s act k) (alike_kept c s act past (retell c s (story c s past)) ih)
    go false k ih = reaching c s act past (story c s past) k ih

pub alike : (c : Config) (s : ℕ) (one other : List Act) → story c s one ≡ story c s other → Alike c s one other
alike c s one other e =
    alike_joined c s one (retell c s (story c s other)) other
    (subst (λ (x : List StoryEvent). Alike c s one (retell c s x)) e (retelling c s one))
    (alike_turned c s other (retell c s (story c s other)) (retelling c s other))

pub own_session : (c : Config) (one other : List Act) (s : ℕ) → s < numbers c one → s < numbers c other → story c s one ≡ story c s other → SameSession c s one other
own_session c one other s h k e = let a = alike c s one other e in session_begun c s one other h k a.base a.written a.accepted a.pieces

pub own_output : (c : Config) (one other : List Act) (s : ℕ) (p : Place) → story c s one ≡ story c s other → p.session ≡ s → is_program_door c p ≡ false → put one p ≡ put other p
own_output c one other s p e o d = ((alike c s one other e).base.own p o d).put_same

-- ---- what the session may do

-- two lists say the same of the session of a place of its own, which runs in both or in neither
record Here (c : Config) (p : Place) (one other : List Act) : Type 0 where
  alike : Alike c p.session one other
  runs : running c one p.session ≡ running c other p.session
  own : is_program_door c p ≡ false

here_turned : (c : Config) (p : Place) (one other : List Act) → Here c p one other → Here c p other one
here_turned c p one other h = record { alike = alike_turned c p.session one other h.alike; runs = sym h.runs; own = h.own }

moving_after : (c : Config) (one other : List Act) (p : Place) (w : Way) → Here c p one other → is_going c one p.session w ≡ true → is_going c other p.session w ≡ true
moving_after c one other p w h m = sym (moves_same c p.session one other h.alike.base h.runs w) ∙ m

unpassed_after : (c : Config) (one other : List Act) (p : Place) (w : Way) → Here c p one other → passed c one p.session w ≡ false → passed c other p.session w ≡ false
unpassed_after c one other p w h m = ap is_some (sym (passing_same c p.session one other h.alike.base w)) ∙ m

room_same : (c : Config) (s : ℕ) (one other : List Act) → Base c s one other → (w : Way) → greatest_read c one s w ≡ greatest_read c other s w
room_same c s one other base w =
    let g = (base.own (input c s w) refl (input_own c s w)).got_same in
    let k = backlog_same c s one other base w in
    λ i. cond (keeps_borders c w)
    (packet_size c.block (packet_cap (options_of c (output c 0 w)).conv) (options_of c (input c 0 w)).input.readbytes (length (g i)) (k i))
    (read_size c.block (options_of c (input c 0 w)).input.readbytes (length (g i)) (k i))

ask_after : (c : Config) (one other : List Act) (p : Place) → Here c p one other → MayAsk c one p → MayAsk c other p
ask_after c one other p h m =
    let at = h.alike.base.own p refl h.own in
    let x = at.read_arming_same in
    let y = h.alike.base.now_same in
    let armed : armed_to_read one p ≡ armed_to_read other p = λ i. is_armed (x i) (y i) in
    record {
      is_input = m.is_input;
      moving = moving_after c one other p (way_from p.side) h m.moving;
      not_passed = unpassed_after c one other p (way_from p.side) h m.not_passed;
      not_over = sym (over_same c p.session one other h.alike.base p refl h.own) ∙ m.not_over;
      armed = sym armed ∙ m.armed;
    }

read_after : (c : Config) (one other : List Act) (p : Place) (n : ℕ) → Here c p one other → MayRead c one p n → MayRead c other p n
read_after c one other p n h m = record {
  asks = ask_after c one other p h m.asks;
  some_bytes = m.some_bytes;
  in_room = subst (λ (x : ℕ). n ≤ x) (room_same c p.session one other h.alike.base (way_from p.side)) m.in_room;
}

offer_after : (c : Config) (one other : List Act) (p : Place) → Here c p one other → MayOffer c one p → MayOffer c other p
offer_after c one other p h m = record {
  is_output = m.is_output;
  moving = moving_after c one other p (way_to p.side) h m.moving;
  not_passed = unpassed_after c one other p (way_to p.side) h m.not_passed;
  armed = sym (h.alike.base.own p refl h.own).armed_to_write_same ∙ m.armed;
}

write_after : (c : Config) (one other : List Act) (p : Place) (bytes : List ℕ) → Here c p one other → MayWrite c one p bytes → MayWrite c other p bytes
write_after c one other p bytes h m =
    let w = way_to p.side in
    let base = h.alike.base in
    let at = base.own p refl h.own in
    let i = input c p.session w in
    record {
      offers = offer_after c one other p h m.offers;
      some_bytes = m.some_bytes;
      is_due =
          subst (λ (x : List ℕ). BeginsWith (x ++ bytes) (due c w (got other i))) at.put_same
          (subst (λ (x : List ℕ). BeginsWith (put one p ++ bytes) (due c w x)) (base.own i refl (input_own c p.session w)).got_same m.is_due);
      pieces =
          subst (λ (x : List (List ℕ)). KeepsBorders (keeps_borders c w) (x ++ bytes ∷ []) (due_pieces c other p.session w)) at.sent_same
          (subst (λ (x : List (List ℕ)). KeepsBorders (keeps_borders c w) (sent one p ++ bytes ∷ []) x) (h.alike.pieces w) m.pieces);
    }

try_after : (c : Config) (one other : List Act) (p : Place) → Here c p one other → MayTryWrite c one p → MayTryWrite c other p
try_after c one other p h m = record {
  offers = offer_after c one other p h m.offers;
  waiting = subst (λ (x : ℕ). 1 ≤ x) (backlog_same c p.session one other h.alike.base (way_to p.side)) m.waiting;
}

shut_after : (c : Config) (one other : List Act) (p : Place) (way : Shutting) → Here c p one other → MayShut c one p way → MayShut c other p way
shut_after c one other p way h m =
    let w = way_to p.side in
    let base = h.alike.base in
    let x = over_same c p.session one other base (input c p.session w) refl (input_own c p.session w) in
    let y = backlog_same c p.session one other base w in
    let spent : is_spent c one p.session w ≡ is_spent c other p.session w = λ i. x i && y i == 0 in
    record {
      is_output = m.is_output;
      moving = moving_after c one other p w h m.moving;
      spent = sym spent ∙ m.spent;
      not_passed = unpassed_after c one other p w h m.not_passed;
      is_how = m.is_how;
    }

move_after :
    (c : Config) (n m : ℕ) (one other : List Act) (s : ℕ) (act : Act) → ((p : Place) → is_own_place c s p ≡ true → Here c p one other) →
    owed c other ≡ None → is_own c s act ≡ true → transfers act ≡ true → May c n one act → May c m other act
move_after c n m one other s (Read p bytes) h o k t x = (o, read_after c one other p (length bytes) (h p k) x.1)
move_after c n m one other s (ReadEmpty p) h o k t x = (o, read_after c one other p 1 (h p k) x.1)
move_after c n m one other s (ReadEnd p) h o k t x = (o, read_after c one other p 1 (h p k) x.1)
move_after c n m one other s (ReadNotYet p) h o k t x = (o, read_after c one other p 1 (h p k) x.1)
move_after c n m one other s (ReadFault p) h o k t x = (o, read_after c one other p 1 (h p k) x.1)
move_after c n m one other s (Wrote p bytes) h o k t x = (o, write_after c one other p bytes (h p k) x.1)
move_after c n m one other s (WriteNotYet p) h o k t x = (o, try_after c one other p (h p k) x.1)
move_after c n m one other s (WriteFault p) h o k t x = (o, try_after c one other p (h p k) x.1)
move_after c n m one other s (Shut p way) h o k t x = (o, shut_after c one other p way (h p k) x.1)
move_after c n m one other s (ShutFault p way) h o k t x = (o, shut_after c one other p way (h p k) x.1)
move_after c n m one other s act h o k t x = absurd (false≢true t)

pub alike_moves :
    (c : Config) (n m : ℕ) (one other : List Act) (s : ℕ) (act : Act) → s < numbers c one → s < numbers c other → story c s one ≡ story c s other →
    owed c one ≡ None → owed c other ≡ None → is_own c s act ≡ true → transfers act ≡ true → May c n one act ↔ May c m other act
alike_moves c n m one other s act b d e o u k t =
    let a = alike c s one other e in
    let run = (own_session c one other s b d e).running_same in
    let h : (p : Place) → is_own_place c s p ≡ true → Here c p one other = λ p own. let q = own_is c s p own in record {
      alike = subst (λ (x : ℕ). Alike c x one other) (sym q.0) a;
      runs = subst (λ (x : ℕ). running c one x ≡ running c other x) (sym q.0) run;
      own = q.1;
    } in
    (λ x. move_after c n m one other s act h u k t x, λ x. move_after c m n other one s act (λ p own. here_turned c p one other (h p own)) o k t x)
