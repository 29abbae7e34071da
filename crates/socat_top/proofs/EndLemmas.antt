-- What standard streams passed is what was read and written at the ends that are alone on them.
use Rattle.std.proofs.Common.{◌≡◌, refl, sym, ap, subst, ◌∙◌, ℕ, Bool, true, false, not, cond, ◌&&◌, ◌||◌, ◌==◌, nat_lt, is_none, List, [], ◌∷◌, Option, None, Some, IfSome}
use Rattle.std.specs.List.{list_all}
use Rattle.std.proofs.lemmas.Bool.{and_parts, eqb-true, false≢true}
use Rattle.relay_model.specs.declared.places.Way.{Way}
use Rattle.relay_model.specs.declared.places.Place.{Place}
use Rattle.relay_model.specs.declared.commands.Config.{Config}
use Rattle.relay_model.specs.declared.acts.Act.{Act}
use Rattle.relay_model.specs.declared.acts.Act.TheVariants.{Note, NoteFault, Read, ReadEmpty, ReadEnd, ReadNotYet, ReadFault, Wrote}
use Rattle.relay_model.specs.Places.{same_place}
use Rattle.relay_model.specs.Choices.{joined}
use Rattle.relay_model.specs.Configs.{input, output, formed, has_fork, places, single, way_from, way_to}
use Rattle.relay_model.specs.History.{got, put}
use Rattle.relay_model.specs.Sessions.{admitted, holds, live}
use Rattle.relay_model.specs.Cause.{cause}
use Rattle.relay_model.specs.Rest.{is_going}
use Rattle.relay_model.specs.Openings.{ready}
use Rattle.relay_model.specs.May.{Legal}
use Rattle.relay_laws.proofs.PlaceLemmas.{same_place_equal}
use Rattle.relay_laws.proofs.Holdings.{input_passes, output_passes, moves_formed, moves_running}
use Rattle.relay_model.specs.Frames.{IsForeign}
use Rattle.relay_laws.proofs.Apart.{base_step, ending_same}
use Rattle.relay_laws.proofs.Written.{written_due}
use Rattle.relay_laws.proofs.Finishes.{finished_whole}
use Rattle.port_desk.specs.Following.{PassedBy, input_ended, input_read, output_written}
use Rattle.socat_top.specs.Ends.{StandardEnds, HasEnded, IsDue, PassedEnds, came_in, is_alone, is_on_input, is_on_output, last_met_end, went_out}

-- ---- the ends of a direction that moves

-- without `fork` only session 0 moves
only_session : (c : Config) (past : List Act) (s : ℕ) (w : Way) → has_fork c ≡ false → is_going c past s w ≡ true → s ≡ 0
only_session c past s w alone moves =
    let lives : live c past s ≡ true = (and_parts (live c past s) (ready c past s) (and_parts (live c past s && ready c past s) (is_none (cause c past s)) (moves_running c past s w moves)).0).0 in
    eqb-true s 0 (subst (λ (fork : Bool). cond fork (nat_lt s (admitted c past) && holds c past s) (s == 0) ≡ true) alone lives)

same_tests : (a b : Bool) → (a ≡ true → b ≡ true) → (b ≡ true → a ≡ true) → a ≡ b
same_tests true b to from = sym (to refl)
same_tests false true to from = absurd (false≢true (from refl))
same_tests false false to from = refl

-- the other places are not on the stream
only_this : (here on : Bool) → (here || not on) ≡ true → on ≡ true → here ≡ true
only_this true on e is = refl
only_this false true e is = absurd (false≢true e)
only_this false false e is = absurd (false≢true is)

-- the three parts of being alone
fork_free : (fork on all : Bool) → (not fork && on && all) ≡ true → fork ≡ false
fork_free true on all e = absurd (false≢true e)
fork_free false on all e = refl

alone_on : (fork on all : Bool) → (not fork && on && all) ≡ true → on ≡ true
alone_on true on all e = absurd (false≢true e)
alone_on false true all e = refl
alone_on false false all e = absurd (false≢true e)

alone_all : (fork on all : Bool) → (not fork && on && all) ≡ true → all ≡ true
alone_all true on all e = absurd (false≢true e)
alone_all false true all e = e
alone_all false false all e = absurd (false≢true e)

-- a place is this one exactly where it is on the stream
on_alone : (on : Place → Bool) (p q : Place) → on p ≡ true → (same_place q p || not (on q)) ≡ true → on q ≡ same_place q p
on_alone on p q here only = same_tests (on q) (same_place q p) (only_this (same_place q p) (on q) only) (λ same. ap on (same_place_equal q p same) ∙ here)

-- ---- standard input

-- where a read was made, the place is one of the session's inputs, and so on the stream only if it is this one
read_here : (c : Config) (past : List Act) (p q : Place) → has_fork c ≡ false → is_on_input c p ≡ true → list_all (λ r. same_place r p || not (is_on_input c r)) (places c 0) ≡ true → same_place q (input c q.session (way_from q.side)) ≡ true → is_going c past q.session (way_from q.side) ≡ true → is_on_input c q ≡ same_place q p
read_here c past p q alone here only is moves =
    let w = way_from q.side in
    let e : q ≡ input c 0 w = same_place_equal q (input c q.session w) is ∙ ap (λ (s : ℕ). input c s w) (only_session c past q.session w alone moves) in
    on_alone (is_on_input c) p q here (subst (λ (r : Place). (same_place r p || not (is_on_input c r)) ≡ true) (sym e) (input_passes c (λ r. same_place r p || not (is_on_input c r)) 0 w (moves_formed c past q.session w moves) only))

ended_cut : (a b x y : Bool) → a ≡ b → x ≡ y → (not a && x) ≡ (not b && y)
ended_cut a b x y e f = ap (λ (t : Bool). not t && x) e ∙ ap (λ (t : Bool). not b && t) f

ended_met : (a b x y : Bool) → a ≡ b → x ≡ y → (a || x) ≡ (b || y)
ended_met a b x y e f = ap (λ (t : Bool). t || x) e ∙ ap (λ (t : Bool). b || t) f

all_read : (c : Config) (n : ℕ) (past : List Act) (p : Place) → has_fork c ≡ false → is_on_input c p ≡ true → list_all (λ r. same_place r p || not (is_on_input c r)) (places c 0) ≡ true → Legal c n past → input_read (single c) past ≡ got past p
all_read c n [] p alone here only legal = refl
all_read c n (Read q bytes ∷ past) p alone here only legal =
    let before = all_read c n past p alone here only legal.1 in
    let asks = legal.0.1.asks in
    ap (λ (b : Bool). joined b (input_read (single c) past) bytes) (read_here c past p q alone here only asks.is_input asks.moving) ∙ ap (λ (all : List ℕ). joined (same_place q p) all bytes) before
all_read c n (act ∷ past) p alone here only legal = all_read c n past p alone here only legal.1

-- the last read of standard input is the last one at its place
all_ended : (c : Config) (n : ℕ) (past : List Act) (p : Place) → has_fork c ≡ false → is_on_input c p ≡ true → list_all (λ r. same_place r p || not (is_on_input c r)) (places c 0) ≡ true → Legal c n past → input_ended (single c) past ≡ last_met_end past p
all_ended c n [] p alone here only legal = refl
all_ended c n (Read q bytes ∷ past) p alone here only legal = let asks = legal.0.1.asks in ended_cut (is_on_input c q) (same_place q p) (input_ended (single c) past) (last_met_end past p) (read_here c past p q alone here only asks.is_input asks.moving) (all_ended c n past p alone here only legal.1)
all_ended c n (ReadEmpty q ∷ past) p alone here only legal = let asks = legal.0.1.asks in ended_cut (is_on_input c q) (same_place q p) (input_ended (single c) past) (last_met_end past p) (read_here c past p q alone here only asks.is_input asks.moving) (all_ended c n past p alone here only legal.1)
all_ended c n (ReadNotYet q ∷ past) p alone here only legal = let asks = legal.0.1.asks in ended_cut (is_on_input c q) (same_place q p) (input_ended (single c) past) (last_met_end past p) (read_here c past p q alone here only asks.is_input asks.moving) (all_ended c n past p alone here only legal.1)
all_ended c n (ReadFault q ∷ past) p alone here only legal = let asks = legal.0.1.asks in ended_cut (is_on_input c q) (same_place q p) (input_ended (single c) past) (last_met_end past p) (read_here c past p q alone here only asks.is_input asks.moving) (all_ended c n past p alone here only legal.1)
all_ended c n (ReadEnd q ∷ past) p alone here only legal = let asks = legal.0.1.asks in ended_met (is_on_input c q) (same_place q p) (input_ended (single c) past) (last_met_end past p) (read_here c past p q alone here only asks.is_input asks.moving) (all_ended c n past p alone here only legal.1)
all_ended c n (act ∷ past) p alone here only legal = all_ended c n past p alone here only legal.1

-- ---- standard output

written_here : (c : Config) (past : List Act) (p q : Place) → has_fork c ≡ false → is_on_output c p ≡ true → list_all (λ r. same_place r p || not (is_on_output c r)) (places c 0) ≡ true → same_place q (output c q.session (way_to q.side)) ≡ true → is_going c past q.session (way_to q.side) ≡ true → is_on_output c q ≡ same_place q p
written_here c past p q alone here only is moves =
    let w = way_to q.side in
    let e : q ≡ output c 0 w = same_place_equal q (output c q.session w) is ∙ ap (λ (s : ℕ). output c s w) (only_session c past q.session w alone moves) in
    on_alone (is_on_output c) p q here (subst (λ (r : Place). (same_place r p || not (is_on_output c r)) ≡ true) (sym e) (output_passes c (λ r. same_place r p || not (is_on_output c r)) 0 w (moves_formed c past q.session w moves) only))

all_written : (c : Config) (n : ℕ) (past : List Act) (p : Place) → has_fork c ≡ false → is_on_output c p ≡ true → list_all (λ r. same_place r p || not (is_on_output c r)) (places c 0) ≡ true → Legal c n past → output_written (single c) past ≡ put past p
all_written c n [] p alone here only legal = refl
all_written c n (Wrote q bytes ∷ past) p alone here only legal =
    let before = all_written c n past p alone here only legal.1 in
    let offers = legal.0.1.offers in
    ap (λ (b : Bool). joined b (output_written (single c) past) bytes) (written_here c past p q alone here only offers.is_output offers.moving) ∙ ap (λ (all : List ℕ). joined (same_place q p) all bytes) before
all_written c n (act ∷ past) p alone here only legal = all_written c n past p alone here only legal.1

-- ---- both ends

-- what is told of one end is what the acts say of it
one_end : (alone : Bool) (slot : Option (List ℕ)) (acted : List ℕ) → (alone ≡ true → IfSome slot (λ all. all ≡ acted)) → IfSome (cond alone slot (Some acted)) (λ all. all ≡ acted)
one_end true slot acted told = told refl
one_end false slot acted told = refl

-- a fact of what the acts say is one of what is told
on_told : (P : List ℕ → Type 0) (slot : Option (List ℕ)) (acted : List ℕ) → IfSome slot (λ all. all ≡ acted) → P acted → IfSome slot P
on_told P None acted e h = tt
on_told P (Some all) acted e h = subst P (sym e) h

came_told : (c : Config) (n : ℕ) (acts : List Act) (w : Way) (gave took said : Option (List ℕ)) (ended : Bool) → Legal c n acts → (has_fork c ≡ false → PassedBy (single c) acts gave took said ended) → IfSome (came_in c acts w gave) (λ all. all ≡ got acts (input c 0 w))
came_told c n acts w gave took said ended legal passes =
    let p = input c 0 w in
    let all = list_all (λ q. same_place q p || not (is_on_input c q)) (places c 0) in
    one_end (is_alone c (is_on_input c) p) gave (got acts p) (λ is.
    let free = fork_free (has_fork c) (is_on_input c p) all is in
    subst (λ (x : List ℕ). IfSome gave (λ given. given ≡ x)) (all_read c n acts p free (alone_on (has_fork c) (is_on_input c p) all is) (alone_all (has_fork c) (is_on_input c p) all is) legal) (passes free).given)

went_told : (c : Config) (n : ℕ) (acts : List Act) (w : Way) (gave took said : Option (List ℕ)) (ended : Bool) → Legal c n acts → (has_fork c ≡ false → PassedBy (single c) acts gave took said ended) → IfSome (went_out c acts w took) (λ all. all ≡ put acts (output c 0 w))
went_told c n acts w gave took said ended legal passes =
    let p = output c 0 w in
    let all = list_all (λ q. same_place q p || not (is_on_output c q)) (places c 0) in
    one_end (is_alone c (is_on_output c) p) took (put acts p) (λ is.
    let free = fork_free (has_fork c) (is_on_output c p) all is in
    subst (λ (x : List ℕ). IfSome took (λ taken. taken ≡ x)) (all_written c n acts p free (alone_on (has_fork c) (is_on_output c p) all is) (alone_all (has_fork c) (is_on_output c p) all is) legal) (passes free).taken)

ended_told : (c : Config) (n : ℕ) (acts : List Act) (w : Way) (gave took said : Option (List ℕ)) (ended : Bool) → Legal c n acts → (has_fork c ≡ false → PassedBy (single c) acts gave took said ended) → HasEnded c acts w → ended ≡ true
ended_told c n acts w gave took said ended legal passes (is, met) =
    let p = input c 0 w in
    let all = list_all (λ q. same_place q p || not (is_on_input c q)) (places c 0) in
    let free = fork_free (has_fork c) (is_on_input c p) all is in
    (passes free).over (all_ended c n acts p free (alone_on (has_fork c) (is_on_input c p) all is) (alone_all (has_fork c) (is_on_input c p) all is) legal ∙ met)

due_told : (c : Config) (n : ℕ) (acts : List Act) (w : Way) (gave took said : Option (List ℕ)) (ended : Bool) → Legal c n acts → (has_fork c ≡ false → PassedBy (single c) acts gave took said ended) → formed c w ≡ true → IfSome (came_in c acts w gave) (λ came. IfSome (went_out c acts w took) (λ went. IsDue c acts w came went))
due_told c n acts w gave took said ended legal passes is =
    let i = got acts (input c 0 w) in
    let o = put acts (output c 0 w) in
    let due_here : IsDue c acts w i o = record { begins = written_due c n acts 0 w legal; whole = λ over. finished_whole c n acts 0 w legal over is } in
    on_told (λ came. IfSome (went_out c acts w took) (λ went. IsDue c acts w came went)) (came_in c acts w gave) i (came_told c n acts w gave took said ended legal passes)
    (on_told (λ went. IsDue c acts w i went) (went_out c acts w took) o (went_told c n acts w gave took said ended legal passes) due_here)

pub ends : PassedEnds
ends c n acts gave took said ended legal passes = record {
  is_due = λ w is. due_told c n acts w gave took said ended legal passes is;
  is_ended = λ w is has. ended_told c n acts w gave took said ended legal passes has;
}

-- ---- a note behind the acts

note_foreign : (c : Config) (text : List ℕ) → IsForeign c 0 (Note text)
note_foreign c text p own apart = refl

fault_foreign : (c : Config) (text : List ℕ) → IsForeign c 0 (NoteFault text)
fault_foreign c text p own apart = refl

-- what is due of each end is so under another cause that is the same
due_as : (c : Config) (acts more : List Act) (w : Way) (came went : List ℕ) → cause c more 0 ≡ cause c acts 0 → IsDue c acts w came went → IsDue c more w came went
due_as c acts more w came went same h = record { begins = h.begins; whole = λ over. h.whole (sym same ∙ over) }

-- a fact of what is told, made one by one
each : (P Q : List ℕ → Type 0) (slot : Option (List ℕ)) → ((all : List ℕ) → P all → Q all) → IfSome slot P → IfSome slot Q
each P Q None go h = tt
each P Q (Some all) go h = go all h

pub note_ends : (c : Config) (text : List ℕ) (acts : List Act) (gave took : Option (List ℕ)) (ended : Bool) → StandardEnds c acts gave took ended → StandardEnds c (Note text ∷ acts) gave took ended
note_ends c text acts gave took ended before =
    let same : cause c (Note text ∷ acts) 0 ≡ cause c acts 0 = ending_same c 0 (Note text ∷ acts) acts (base_step c (Note text) acts 0 (note_foreign c text) refl) in
    record {
      is_due = λ w is. each _ _ (came_in c acts w gave) (λ came. each _ _ (went_out c acts w took) (λ went. due_as c acts (Note text ∷ acts) w came went same)) (before.is_due w is);
      is_ended = λ w is has. before.is_ended w is has;
    }

pub fault_ends : (c : Config) (text : List ℕ) (acts : List Act) (gave took : Option (List ℕ)) (ended : Bool) → StandardEnds c acts gave took ended → StandardEnds c (NoteFault text ∷ acts) gave took ended
fault_ends c text acts gave took ended before =
    let same : cause c (NoteFault text ∷ acts) 0 ≡ cause c acts 0 = ending_same c 0 (NoteFault text ∷ acts) acts (base_step c (NoteFault text) acts 0 (fault_foreign c text) refl) in
    record {
      is_due = λ w is. each _ _ (came_in c acts w gave) (λ came. each _ _ (went_out c acts w took) (λ went. due_as c acts (NoteFault text ∷ acts) w came went same)) (before.is_due w is);
      is_ended = λ w is has. before.is_ended w is has;
    }
