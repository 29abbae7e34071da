-- How a run goes on by the acts of one session.
use Rattle.std.proofs.Common.{◌≡◌, refl, sym, ap, subst, ◌∙◌, ℕ, ◌+◌, ◌-◌, ◌*◌, ◌^◌, ◌<◌, ◌≤◌, ◌⊎◌, inl, inr, Bool, true, false, not, ◌||◌, List, [], ◌∷◌, ◌++◌, append_assoc, Option, Some, None, IfNone, IfSome, option_map, min, arith}
use Rattle.std.proofs.lemmas.Bool.{true≢false, false≢true}
use Rattle.relay_model.specs.declared.acts.Act.{Act}
use Rattle.relay_model.specs.declared.acts.Act.TheVariants as acts
use Rattle.relay_model.specs.declared.acts.Why.{Why}
use Rattle.relay_model.specs.declared.acts.Why.TheVariants as whys
use Rattle.relay_model.specs.declared.places.Place.{Place}
use Rattle.relay_model.specs.declared.commands.Config.{Config}
use Rattle.relay_model.specs.declared.commands.Dump.TheVariants as dumps
use Rattle.relay_model.specs.Configs.{single, way_from}
use Rattle.relay_model.specs.Dumps.{dump_of}
use Rattle.relay_model.specs.Journals.{History, Asking}
use Rattle.relay_model.specs.Holding.{hold_after}
use Rattle.relay_model.specs.History.{now as moment, same_why}
use Rattle.relay_model.specs.Rest.{owed}
use Rattle.relay_model.specs.May.{May}
use Rattle.relay_model.specs.Frames.{is_turn, is_common, reads_bytes}
use Rattle.relay_laws.proofs.PlaceLemmas.{same_place_self}
use Rattle.relay_laws.specs.Births.{OnlyHeldWereNamed}
use Rattle.world_trait.specs.Seen.{Waitless}
use Rattle.session_laws.proofs.Noted as kept
use Rattle.world_trait.specs.Recordings.{with_act, with_asking}
use Rattle.world_trait.specs.Answers.{DidNothing, Rose}
use Rattle.relay_session.specs.declared.sessions.Session.{Session}
use Rattle.relay_session.specs.declared.wishes.Wish.{Wish}
use Rattle.relay_session.specs.declared.wishes.Wish.TheVariants as wishes
use Rattle.relay_session.specs.Sessions.{Stands, wish_of, has_ended}
use Rattle.relay_session.specs.Blames.{is_blamed}
use Rattle.world_trait.specs.Seen.{Seen}
use Rattle.session_driver.specs.Steps.{extend, Acts, DidFor, Idles, OwnAsking, IsActOf, ClosesAsWished, NoTurn, StepIs}
use Rattle.session_driver.specs.Dumpers.{Counted, IsDumpSettled, counted_at}
use Rattle.session_driver.specs.Noted.{MeetsUnowed, ReadNoted, UnreadIs, note_of}
use Rattle.session_driver.specs.Owing.{ReadOwed, SettledStep, undumped, unread, noted}
use Rattle.session_driver.specs.declared.dumpers.Dumper.{Dumper}
use Rattle.session_driver.specs.declared.stepped.Stepped.{Stepped}
use Rattle.session_driver.specs.declared.stepped.Stepped.TheVariants as steps
use Rattle.session_driver.proofs.Counting.{counted_more, note_unread, owes_by, read_at, settled_on, settled_undumped}
use Rattle.session_driver.proofs.Noting.{unclosed_by, unread_step}
use Rattle.session_loop.specs.Pauses.{PauseIs, SpreadsNot, ends_all, pause_of}
use Rattle.session_loop.specs.Runs.{IsCommands, OnlyCommands, HasRisen, Run, RunOf, Runs, RunsOn, Ran, stayed, acted, WentOn, Owes, rank, unit_of}
use Rattle.session_loop.specs.declared.members.Member.{Member}
use Rattle.session_loop.specs.declared.pauses.Pause.{Pause}

-- ---- what a world tells

pub told_act : (act : Act) (past : List Act) (pairs : List Asking) (start : Option History) → option_map (with_act act) (option_map (extend past pairs) start) ≡ option_map (extend (act ∷ past) pairs) start
told_act act past pairs None = refl
told_act act past pairs (Some h) = refl

pub told_asking : (act : Act) (asking : Asking) (past : List Act) (pairs : List Asking) (start : Option History) → option_map (with_asking act asking) (option_map (extend past pairs) start) ≡ option_map (extend (act ∷ past) (pairs ++ asking ∷ [])) start
told_asking act asking past pairs None = refl
told_asking act asking past pairs (Some h) = ap (λ xs. Some (record { acts = act ∷ (past ++ h.acts); asked = xs })) (append_assoc h.asked pairs (asking ∷ []))

pub asked_more : (c : Config) (pairs : List Asking) (asking : Asking) → OnlyCommands c pairs → IsCommands c asking.0 → asking.1 ≡ single c asking.0 → OnlyCommands c (pairs ++ asking ∷ [])
asked_more c [] asking own of e = (of, e, tt)
asked_more c (pair ∷ pairs) asking own of e = (own.0, own.1, asked_more c pairs asking own.2 of e)

-- ---- counts

pub risen_later : (start before now : ℕ) → start ≤ before → min (before + 1) (2 ^ 64 - 1) ≤ now → HasRisen start now
risen_later start before now h e = omega arith

pub risen_kept : (start before now : ℕ) → before ≤ now → HasRisen start before → HasRisen start now
risen_kept start before now h e = omega arith

-- ---- acts

pub named_before : (act : Act) (past : List Act) → is_turn act ≡ false → OnlyHeldWereNamed past → OnlyHeldWereNamed (act ∷ past)
named_before (acts.Turn until at ready stop) past e h = absurd (false≢true (sym e))
named_before act past e h = h

pub moment_before : (act : Act) (past : List Act) → is_turn act ≡ false → moment (act ∷ past) ≡ moment past
moment_before (acts.Turn until at ready stop) past e = absurd (false≢true (sym e))
moment_before act past e = refl

-- what was asked for, if anything, is the command's own
abbrev pub AllCommands : Config → Option Asking → Type 0
AllCommands c None = Unit {0}
AllCommands c (Some asking) = IsCommands c asking.0 × (asking.1 ≡ single c asking.0)

-- a run goes on by an act that is no turn
pub acted_run : (c : Config) (n : ℕ) (start old new : Seen) (past : List Act) (act : Act) (asked : Option Asking) (failed : Bool) → Run c n start old past → DidFor asked old new act → AllCommands c asked → May c n past act → is_turn act ≡ false → NoTurn act → Rose old.faults new.faults failed → (failed ≡ false → is_blamed (act ∷ past) ≡ is_blamed past) → Waitless old new → Run c n start new (act ∷ past)
acted_run c n start old new past act asked failed on did own may untimed no_turn rose blameless waitless = go asked did own
  where
    blamed : (b : Bool) → failed ≡ b → is_blamed (act ∷ past) ≡ true → HasRisen start.faults new.faults
    blamed true e h = risen_later start.faults old.faults new.faults on.later (rose.rose e)
    blamed false e h = risen_kept start.faults old.faults new.faults rose.later (on.blamed (sym (blameless e) ∙ h))

    with_pairs : (pairs : List Asking) → OnlyCommands c pairs → new.told ≡ option_map (extend (act ∷ past) pairs) start.told → ((p : Place) → new.held p ≡ hold_after act p (old.held p)) → Run c n start new (act ∷ past)
    with_pairs pairs own told held = record {
      legal = (may, on.legal);
      named = named_before act past untimed on.named;
      pairs = pairs;
      asked = own;
      told = told;
      holds = λ p. held p ∙ ap (hold_after act p) (on.holds p);
      later = (let a = on.later in let b = rose.later in omega (arith, a, b));
      blamed = blamed failed refl;
      waited = (let a = on.waited in let b = waitless.waits in let e = no_turn.turns_same past in omega (arith, a, b, e));
      few_waits = (let a = on.few_waits in let b = waitless.waits in let e = no_turn.turns_same past in omega (arith, a, b, e));
      later_stops = (let a = on.later_stops in let b = waitless.stops in omega (arith, a, b));
      stopped = λ h. risen_kept start.stops old.stops new.stops waitless.stops (on.stopped (sym (no_turn.stops_same past) ∙ h));
      clock = (let a = on.clock in let b = waitless.clock in let e = moment_before act past untimed in omega (arith, a, b, e));
    }

    go : (asked : Option Asking) → DidFor asked old new act → AllCommands c asked → Run c n start new (act ∷ past)
    go None did own = with_pairs on.pairs on.asked (did.told ∙ (ap (option_map (with_act act)) on.told ∙ told_act act past on.pairs start.told)) did.held
    go (Some asking) did own = with_pairs (on.pairs ++ asking ∷ []) (asked_more c on.pairs asking on.asked own.0 own.1) (did.told ∙ (ap (option_map (with_asking act asking)) on.told ∙ told_asking act asking past on.pairs start.told)) did.held

-- it goes on where nothing was done
pub idle_run : (c : Config) (n : ℕ) (start old new : Seen) (past : List Act) → Run c n start old past → DidNothing old new → Rose old.faults new.faults false → Waitless old new → Run c n start new past
idle_run c n start old new past on did rose waitless = record {
  legal = on.legal;
  named = on.named;
  pairs = on.pairs;
  asked = on.asked;
  told = did.told ∙ on.told;
  holds = λ p. did.held p ∙ on.holds p;
  later = (let a = on.later in let b = rose.later in omega (arith, a, b));
  blamed = λ h. risen_kept start.faults old.faults new.faults rose.later (on.blamed h);
  waited = (let a = on.waited in let b = waitless.waits in omega (arith, a, b));
  few_waits = (let a = on.few_waits in let b = waitless.waits in omega (arith, a, b));
  later_stops = (let a = on.later_stops in let b = waitless.stops in omega (arith, a, b));
  stopped = λ h. risen_kept start.stops old.stops new.stops waitless.stops (on.stopped h);
  clock = (let a = on.clock in let b = waitless.clock in omega (arith, a, b));
}

-- ---- acts of one session

-- a session's own act that is no closing which ends all ends none
pub uncommon : (c : Config) (s : ℕ) (wish : Wish) (act : Act) → IsActOf c s act → ClosesAsWished wish act → SpreadsNot wish → is_common c act ≡ false
uncommon c s wish (acts.Turn until at ready stop) here closes none = absurd (false≢true (sym here.untimed))
uncommon c s wish (acts.AcceptFailed q) here closes none = (here.own q (same_place_self q)).1
uncommon c s wish (acts.Closed q why) here closes none = closing wish closes none
  where
    spreads_not : (w : Why) → ends_all w ≡ false → (same_why w whys.Stopped || same_why w whys.Memory) ≡ false
    spreads_not whys.Stopped e = absurd (true≢false e)
    spreads_not whys.Memory e = absurd (true≢false e)
    spreads_not w e = refl

    closing : (w : Wish) → ClosesAsWished w (acts.Closed q why) → SpreadsNot w → (same_why why whys.Stopped || same_why why whys.Memory) ≡ false
    closing (wishes.Close p for) e k = let same : why ≡ for = cc in spreads_not why (ap ends_all same ∙ k)
    closing w e k = absurd (true≢false e)
uncommon c s wish act here closes none = refl

commands_of : (c : Config) (s : ℕ) (asked : Option Asking) → OwnAsking c s asked → AllCommands c asked
commands_of c s None own = tt
commands_of c s (Some asking) own = (inl (s, own.0), own.1)

-- what a session owes that is to close nothing which ends all
unowed_by : (c : Config) (past : List Act) (x : Session) → Owes c past x → SpreadsNot (wish_of x) → owed c past ≡ None
unowed_by c past x (inl e) none = e
unowed_by c past x (inr (q, e, k)) none = absurd (true≢false (subst SpreadsNot e none))

-- a run goes on by an act that the session heard
heard_run : (c : Config) (n : ℕ) (start old new : Seen) (past : List Act) (s : ℕ) (x y : Session) (act : Act) → Run c n start old past → Stands c n past s x → owed c past ≡ None → Acts c old new x y act → Run c n start new (act ∷ past)
heard_run c n start old new past s x y act on st unowed a =
    acted_run c n start old new past act a.asked a.failed on a.did (commands_of c s a.asked (a.own n past s st)) ((a.heard n past s st).may unowed) (a.here n past s st).untimed a.no_turn a.rose (λ e. a.blameless e past) a.waitless

acts_on : (c : Config) (n : ℕ) (start old new : Seen) (past : List Act) (s : ℕ) (m m' : Member) (act : Act) → RunOf c n start old past s m → owed c past ≡ None → Acts c old new m.session m'.session act → SpreadsNot (wish_of m.session) → IsDumpSettled c (act ∷ past) s m'.dumper → WentOn c n start new past s m'
acts_on c n start old new past s m m' act on unowed a none settled =
    let here = a.here n past s on.stands in
    record {
      since = act ∷ past;
      ran = acted act past here (uncommon c s (wish_of m.session) act here a.closes none) stayed;
      run = record {
        run = heard_run c n start old new past s m.session m'.session act on.run on.stands unowed a;
        stands = (a.heard n past s on.stands).stands;
        counted = settled.counted;
        owes = inl settled.unowed;
      };
    }

-- nothing was done, and no more was counted
still_counted : (c : Config) (past : List Act) (s : ℕ) (dumper dumper' : Dumper) → (c.dump ≡ dumps.Off) ⊎ (dumper' ≡ dumper) → Counted c past s dumper → Counted c past s dumper'
still_counted c past s dumper dumper' (inl off) k = λ dumped. absurd (dumped off)
still_counted c past s dumper dumper' (inr same) k = subst (Counted c past s) (sym same) k

idles_on : (c : Config) (n : ℕ) (start old new : Seen) (past : List Act) (s : ℕ) (m m' : Member) → RunOf c n start old past s m → owed c past ≡ None → Idles c old new m.session m'.session → (c.dump ≡ dumps.Off) ⊎ (m'.dumper ≡ m.dumper) → WentOn c n start new past s m'
idles_on c n start old new past s m m' on unowed a same = record {
  since = past;
  ran = stayed;
  run = record { run = idle_run c n start old new past on.run a.did a.rose a.waitless; stands = a.stands n past s on.stands; counted = still_counted c past s m.dumper m'.dumper same on.counted; owes = inl unowed };
}

unmoved : (c : Config) (n : ℕ) (start old new : Seen) (past : List Act) (s : ℕ) (m m' : Member) → RunOf c n start old past s m → owed c past ≡ None → new ≡ old → m'.session ≡ m.session → (c.dump ≡ dumps.Off) ⊎ (m'.dumper ≡ m.dumper) → WentOn c n start new past s m'
unmoved c n start old new past s m m' on unowed e f same = record {
  since = past;
  ran = stayed;
  run = record {
    run = subst (λ (z : Seen). Run c n start z past) (sym e) on.run;
    stands = subst (Stands c n past s) (sym f) on.stands;
    counted = still_counted c past s m.dumper m'.dumper same on.counted;
    owes = inl unowed;
  };
}

-- ---- notes

note_turns : (failed : Bool) (text : List ℕ) → NoTurn (note_of failed text)
note_turns false text = record { turns_same = λ past. refl; stops_same = λ past. refl }
note_turns true text = record { turns_same = λ past. refl; stops_same = λ past. refl }

note_blames : (failed : Bool) (text : List ℕ) (past : List Act) → is_blamed (note_of failed text ∷ past) ≡ is_blamed past
note_blames false text past = refl
note_blames true text past = refl

note_untimed : (failed : Bool) (text : List ℕ) → is_turn (note_of failed text) ≡ false
note_untimed false text = refl
note_untimed true text = refl

note_here : (c : Config) (s : ℕ) (failed : Bool) (text : List ℕ) → IsActOf c s (note_of failed text)
note_here c s false text = record { own = λ p e. absurd (false≢true e); untimed = refl }
note_here c s true text = record { own = λ p e. absurd (false≢true e); untimed = refl }

note_uncommon : (c : Config) (failed : Bool) (text : List ℕ) → is_common c (note_of failed text) ≡ false
note_uncommon c false text = refl
note_uncommon c true text = refl

may_note : (c : Config) (n : ℕ) (past : List Act) (failed : Bool) (text : List ℕ) → owed c past ≡ Some text → May c n past (note_of failed text)
may_note c n past false text o = o
may_note c n past true text o = o

stands_noted : (c : Config) (n : ℕ) (past : List Act) (s : ℕ) (x : Session) (failed : Bool) (text : List ℕ) → owed c past ≡ Some text → Stands c n past s x → Stands c n (note_of failed text ∷ past) s x
stands_noted c n past s x false text o st = kept.stands_noted c n past s x text o st
stands_noted c n past s x true text o st = kept.stands_unnoted c n past s x text o st

-- bytes were read and noted
read_noted : (c : Config) (n : ℕ) (start old new : Seen) (past : List Act) (s : ℕ) (m m' : Member) → RunOf c n start old past s m → owed c past ≡ None → SpreadsNot (wish_of m.session) → ReadNoted c old new m.session m'.session m.dumper m'.dumper → WentOn c n start new past s m'
read_noted c n start old new past s m m' on unowed none h =
    let p = h.place in
    let bytes = h.bytes in
    let reading = acts.Read p bytes in
    let a = h.reads in
    let b = h.notes.failed in
    let at = read_at c n old h.between s m.session m'.session past p bytes unowed on.stands a in
    let here = a.here n past s on.stands in
    let read = heard_run c n start old h.between past s m.session m'.session reading on.run on.stands unowed a in
    let text = dump_of c.dump (way_from p.side) (counted_at m.dumper p.side) bytes in
    let owes = owes_by c past s p bytes m.dumper h.dumped at on.counted in
    let note = note_of b text in
    let settled = settled_on c note (reading ∷ past) s m'.dumper m'.dumper (note_unread b text) refl (counted_more c past s p bytes m.dumper m'.dumper at.first at.at h.counts on.counted) in
    record {
      since = note ∷ reading ∷ past;
      ran = acted note (reading ∷ past) (note_here c s b text) (note_uncommon c b text) (acted reading past here (uncommon c s (wish_of m.session) reading here a.closes none) stayed);
      run = record {
        run = acted_run c n start h.between new (reading ∷ past) note None b read h.notes.did tt (may_note c n (reading ∷ past) b text owes) (note_untimed b text) (note_turns b text) h.notes.rose (λ e. note_blames b text (reading ∷ past)) h.notes.waitless;
        stands = stands_noted c n (reading ∷ past) s m'.session b text owes (a.heard n past s on.stands).stands;
        counted = settled.counted;
        owes = inl settled.unowed;
      };
    }

-- bytes were read, and there was no memory to note them
read_owed : (c : Config) (n : ℕ) (start old new : Seen) (past : List Act) (s : ℕ) (m m' : Member) → RunOf c n start old past s m → owed c past ≡ None → SpreadsNot (wish_of m.session) → ReadOwed c old new m.session m'.session m.dumper m'.dumper → WentOn c n start new past s m'
read_owed c n start old new past s m m' on unowed none h =
    let p = h.place in
    let bytes = h.bytes in
    let reading = acts.Read p bytes in
    let a = h.reads in
    let at = read_at c n old h.between s m.session h.heard past p bytes unowed on.stands a in
    let here = a.here n past s on.stands in
    let read = heard_run c n start old h.between past s m.session h.heard reading on.run on.stands unowed a in
    let u = unclosed_by c n past s m.session.state.ending h.going on.stands.fields.ending_is in
    let k = h.cut in
    record {
      since = reading ∷ past;
      ran = acted reading past here (uncommon c s (wish_of m.session) reading here a.closes none) stayed;
      run = record {
        run = idle_run c n start h.between new (reading ∷ past) read h.nothing.did h.nothing.rose h.nothing.waitless;
        stands = k.stands n (reading ∷ past) s (a.heard n past s on.stands).stands u;
        counted = counted_more c past s p bytes m.dumper m'.dumper at.first at.at h.counts on.counted;
        owes = inr (k.short.thing, k.short.wish, refl);
      };
    }

-- ---- steps

settled_by : (c : Config) (act : Act) (past : List Act) (s : ℕ) (dumper dumper' : Dumper) → reads_bytes act ≡ false → (c.dump ≡ dumps.Off) ⊎ (dumper' ≡ dumper) → Counted c past s dumper → IsDumpSettled c (act ∷ past) s dumper'
settled_by c act past s dumper dumper' e (inl off) k = settled_undumped c (act ∷ past) s dumper' off
settled_by c act past s dumper dumper' e (inr same) k = settled_on c act past s dumper dumper' e same k

-- a step that nothing more was counted by, with what was made of an act
step_goes : (c : Config) (n : ℕ) (start old new : Seen) (past : List Act) (s : ℕ) (m m' : Member) (stepped : Stepped) → RunOf c n start old past s m → owed c past ≡ None → SpreadsNot (wish_of m.session) → (stepped ≡ steps.Acted → WentOn c n start new past s m') → (c.dump ≡ dumps.Off) ⊎ (m'.dumper ≡ m.dumper) → StepIs c old new m.session m'.session stepped → WentOn c n start new past s m'
step_goes c n start old new past s m m' steps.Acted on unowed none by_act same h = by_act refl
step_goes c n start old new past s m m' (steps.ReadFailed p) on unowed none by_act same h = acts_on c n start old new past s m m' (acts.ReadFault p) on unowed h.1 none (settled_by c (acts.ReadFault p) past s m.dumper m'.dumper refl same on.counted)
step_goes c n start old new past s m m' (steps.WriteFailed p) on unowed none by_act same h = acts_on c n start old new past s m m' (acts.WriteFault p) on unowed h.1 none (settled_by c (acts.WriteFault p) past s m.dumper m'.dumper refl same on.counted)
step_goes c n start old new past s m m' steps.Childless on unowed none by_act same h = idles_on c n start old new past s m m' on unowed h.0 same
step_goes c n start old new past s m m' steps.Memory on unowed none by_act same h = idles_on c n start old new past s m m' on unowed h.0 same
step_goes c n start old new past s m m' (steps.Sleep until) on unowed none by_act same h = unmoved c n start old new past s m m' on unowed h.0 h.1 same
step_goes c n start old new past s m m' (steps.Done why) on unowed none by_act same h = unmoved c n start old new past s m m' on unowed h.0 h.1 same

settled_goes : (c : Config) (n : ℕ) (start old new : Seen) (past : List Act) (s : ℕ) (m m' : Member) (stepped : Stepped) → RunOf c n start old past s m → owed c past ≡ None → SpreadsNot (wish_of m.session) → SettledStep c old new m.session m'.session m.dumper m'.dumper stepped → WentOn c n start new past s m'
settled_goes c n start old new past s m m' stepped on unowed none (undumped off h) =
    step_goes c n start old new past s m m' stepped on unowed none
    (λ e. let k : StepIs c old new m.session m'.session steps.Acted = subst (StepIs c old new m.session m'.session) e h in acts_on c n start old new past s m m' k.0 on unowed k.2 none (settled_undumped c (k.0 ∷ past) s m'.dumper off))
    (inl off) h
settled_goes c n start old new past s m m' stepped on unowed none (unread same h) =
    step_goes c n start old new past s m m' stepped on unowed none
    (λ e. let k : UnreadIs c old new m.session m'.session steps.Acted = subst (UnreadIs c old new m.session m'.session) e h in acts_on c n start old new past s m m' k.0 on unowed k.3 none (settled_on c k.0 past s m.dumper m'.dumper k.1 same on.counted))
    (inr same) (unread_step c old new m.session m'.session stepped h)
settled_goes c n start old new past s m m' stepped on unowed none (noted e h) = read_noted c n start old new past s m m' on unowed none h

-- a step after which no dump is owed, and one after which one is
pub settled_runs : (c : Config) (old new : Seen) (m m' : Member) (stepped : Stepped) → SpreadsNot (wish_of m.session) → SettledStep c old new m.session m'.session m.dumper m'.dumper stepped → RunsOn c old new m m'
settled_runs c old new m m' stepped none h = λ n start past s on. settled_goes c n start old new past s m m' stepped on (unowed_by c past m.session on.owes none) none h

pub owed_runs : (c : Config) (old new : Seen) (m m' : Member) → SpreadsNot (wish_of m.session) → ReadOwed c old new m.session m'.session m.dumper m'.dumper → RunsOn c old new m m'
owed_runs c old new m m' none h = λ n start past s on. read_owed c n start old new past s m m' on (unowed_by c past m.session on.owes none) none h

-- ---- one after another

joined : (c : Config) (s : ℕ) (past mid since : List Act) → Ran c s past mid → Ran c s mid since → Ran c s past since
joined c s past mid all r stayed = r
joined c s past mid all r (acted act since here k t) = acted act since here k (joined c s past mid since r t)

pub then_on : (c : Config) (old mid new : Seen) (x y z : Member) → RunsOn c old mid x y → RunsOn c mid new y z → RunsOn c old new x z
then_on c old mid new x y z one two = λ n start past s on.
    let a = one n start past s on in
    let b = two n start a.since s a.run in
    record { since = b.since; ran = joined c s past a.since b.since a.ran b.ran; run = b.run }

pub runs_on : (c : Config) (old new : Seen) (x y : Member) → Runs c old x → RunsOn c old new x y → Runs c new y
runs_on c old new x y at k = let o = k at.n at.start at.past at.s at.run in record { n = at.n; start = at.start; past = o.since; s = at.s; run = o.run }

pub stays_on : (c : Config) (now : Seen) (x : Member) → RunsOn c now now x x
stays_on c now x = λ n start past s on. record { since = past; ran = stayed; run = on }

pub meets : (c : Config) (now : Seen) (m : Member) → Runs c now m → SpreadsNot (wish_of m.session) → MeetsUnowed c now m.session
meets c now m at none =
    let r = at.run.run in
    record {
      meets = record { n = at.n; past = at.past; s = at.s; legal = r.legal; stands = at.run.stands; start = at.start.told; pairs = r.pairs; told = r.told; holds = r.holds };
      unowed = unowed_by c at.past m.session at.run.owes none;
    }

-- ---- what is left, and pauses

unit_small : (t : Bool) → unit_of t ≤ 1
unit_small true = omega arith
unit_small false = omega arith

-- an answer that was heard leaves fewer steps, and so does a cut of what went on
pub rank_heard : (left left2 : ℕ) (t t2 : Bool) → left2 < left → 2 * left2 + unit_of t2 < 2 * left + unit_of t
rank_heard left left2 t t2 h = omega (arith, unit_small t2)

pub rank_cut : (left left2 : ℕ) (t t2 : Bool) → left2 ≡ left → t ≡ false → t2 ≡ true → 2 * left2 + unit_of (not t2) < 2 * left + unit_of (not t)
rank_cut left left2 t t2 e f g = rw (e, f, g) (omega arith)

step_fewer : (c : Config) (n : ℕ) (old new : Seen) (past : List Act) (s : ℕ) (x y : Session) (stepped : Stepped) → Stands c n past s x → pause_of stepped ≡ None → StepIs c old new x y stepped → rank y < rank x
step_fewer c n old new past s x y steps.Acted st e h = rank_heard _ _ _ _ (h.2.heard n past s st).fewer
step_fewer c n old new past s x y (steps.ReadFailed p) st e h = rank_heard _ _ _ _ (h.1.heard n past s st).fewer
step_fewer c n old new past s x y (steps.WriteFailed p) st e h = rank_heard _ _ _ _ (h.1.heard n past s st).fewer
step_fewer c n old new past s x y steps.Childless st e h = rank_heard _ _ _ _ (h.1 n past s st).0
step_fewer c n old new past s x y steps.Memory st e h = rank_cut _ _ _ _ h.3 h.1 h.2
step_fewer c n old new past s x y (steps.Sleep until) st e h = let k : ⊥ = cc in absurd k
step_fewer c n old new past s x y (steps.Done why) st e h = let k : ⊥ = cc in absurd k

settled_fewer : (c : Config) (old new : Seen) (m m' : Member) (stepped : Stepped) → Runs c old m → pause_of stepped ≡ None → SettledStep c old new m.session m'.session m.dumper m'.dumper stepped → rank m'.session < rank m.session
settled_fewer c old new m m' stepped at e (undumped off h) = step_fewer c at.n old new at.past at.s m.session m'.session stepped at.run.stands e h
settled_fewer c old new m m' stepped at e (unread same h) = step_fewer c at.n old new at.past at.s m.session m'.session stepped at.run.stands e (unread_step c old new m.session m'.session stepped h)
settled_fewer c old new m m' stepped at e (noted k h) = rank_heard _ _ _ _ (h.reads.heard at.n at.past at.s at.run.stands).fewer

-- so of what was told of the step
pub fewer_for : (c : Config) (old new : Seen) (m m' : Member) (stepped : Stepped) (told : Option Pause) → told ≡ pause_of stepped → Runs c old m → SettledStep c old new m.session m'.session m.dumper m'.dumper stepped → IfNone told (rank m'.session < rank m.session)
fewer_for c old new m m' stepped None e at h = settled_fewer c old new m m' stepped at (sym e) h
fewer_for c old new m m' stepped (Some p) e at h = tt

pub owed_fewer : (c : Config) (old new : Seen) (m m' : Member) → Runs c old m → ReadOwed c old new m.session m'.session m.dumper m'.dumper → rank m'.session < rank m.session
owed_fewer c old new m m' at h = let a = (h.reads.heard at.n at.past at.s at.run.stands).fewer in let b = h.cut.left in rank_heard _ _ _ _ (omega (arith, a, b))

step_pause : (c : Config) (old new : Seen) (x y : Session) (stepped : Stepped) → StepIs c old new x y stepped → IfSome (pause_of stepped) (PauseIs y)
step_pause c old new x y (steps.Sleep until) h = (ap wish_of h.1 ∙ h.2, ap has_ended h.1 ∙ h.3)
step_pause c old new x y (steps.Done why) h = (why, ap wish_of h.1 ∙ h.2)
step_pause c old new x y steps.Acted h = tt
step_pause c old new x y (steps.ReadFailed p) h = tt
step_pause c old new x y (steps.WriteFailed p) h = tt
step_pause c old new x y steps.Childless h = tt
step_pause c old new x y steps.Memory h = tt

pub settled_pause : (c : Config) (old new : Seen) (x y : Session) (dumper dumper' : Dumper) (stepped : Stepped) → SettledStep c old new x y dumper dumper' stepped → IfSome (pause_of stepped) (PauseIs y)
settled_pause c old new x y dumper dumper' stepped (undumped off h) = step_pause c old new x y stepped h
settled_pause c old new x y dumper dumper' stepped (unread same h) = step_pause c old new x y stepped (unread_step c old new x y stepped h)
settled_pause c old new x y dumper dumper' stepped (noted e h) = subst (λ (k : Stepped). IfSome (pause_of k) (PauseIs y)) (sym e) tt
