-- What a step of the loop makes of its course, where what is read is noted.
use Rattle.std.proofs.Common.{◌≡◌, ◌⊎◌, inl, inr, refl, sym, ap, subst, ◌∙◌, ℕ, ◌<◌, ◌+◌, ◌*◌, Bool, true, false, not, List, ◌∷◌, arith}
use Rattle.std.proofs.lemmas.Bool.{false≢true, true≢false}
use Rattle.relay_model.specs.declared.acts.Act.{Act}
use Rattle.relay_model.specs.declared.acts.Act.TheVariants as acts
use Rattle.relay_model.specs.declared.acts.Why.TheVariants as whys
use Rattle.relay_model.specs.declared.commands.Config.{Config}
use Rattle.relay_model.specs.declared.commands.Dump.TheVariants as dumps
use Rattle.relay_model.specs.Configs.{way_from}
use Rattle.relay_model.specs.Dumps.{dump_of}
use Rattle.relay_model.specs.Outcome.{first_fault}
use Rattle.relay_model.specs.May.{May}
use Rattle.relay_model.specs.Frames.{reads_bytes}
use Rattle.relay_session.specs.declared.sessions.Session.{Session}
use Rattle.relay_session.specs.States.{Allowed}
use Rattle.relay_session.specs.Sessions.{Stands, left_of, has_ended}
use Rattle.world_trait.specs.Seen.{Seen}
use Rattle.session_driver.specs.Steps.{Acts, Idles, StepIs}
use Rattle.session_driver.specs.Dumpers.{Counted, IsDumpSettled, counted_at}
use Rattle.session_driver.specs.Noted.{NotedStep, ReadNoted, ReadUnnoted, note_of, undumped, unread, noted, unnoted}
use Rattle.session_driver.specs.declared.dumpers.Dumper.{Dumper}
use Rattle.session_driver.specs.declared.stepped.Stepped.{Stepped}
use Rattle.session_driver.specs.declared.stepped.Stepped.TheVariants as steps
use Rattle.session_driver.proofs.Noting.{unread_step, unclosed_by}
use Rattle.session_loop.specs.Answers.{told_fault}
use Rattle.session_loop.specs.declared.drivers.Driver.{Driver}
use Rattle.session_loop.specs.Courses.{DriverCourse, Onward, unit_of}
use Rattle.session_loop.proofs.Going.{acted_run, idled, idled_run, noted_run, rank_cut, rank_heard, run_as}
use Rattle.session_driver.proofs.Counting.{counted_more, note_unread, owes_by, read_at, settled_on, settled_undumped}

-- ---- steps that read nothing that is dumped

-- an act after which no dump is owed
pub acted_on : (c : Config) (n : ℕ) (start old new : Seen) (r r' : Driver) (past : List Act) (act : Act) → DriverCourse c n start old r past → Acts c old new r.session r'.session act → r'.made ≡ r.made → told_fault r'.fault ≡ first_fault c (act ∷ past) 0 → IsDumpSettled c (act ∷ past) 0 r'.dumper → Onward c n start new r'
acted_on c n start old new r r' past act on a em ef settled =
    let run = acted_run c n start old new r.session r'.session r.made r.fault r'.fault past act on.run a ((a.heard n past 0 on.run.stands).may on.settled.unowed) ef in
    record { past = act ∷ past; course = record { run = run_as c n start new r'.session r.made r'.made r'.fault r'.fault (act ∷ past) em refl run; settled = settled } }

-- whether a step can't have read what is dumped
abbrev pub is_plain : Stepped → Bool
is_plain steps.Acted = false
is_plain steps.Memory = false
is_plain stepped = true

-- a step that is one where nothing is dumped too, and either nothing is dumped or nothing more was counted
pub record Plain (c : Config) (old new : Seen) (x x' : Session) (dumper dumper' : Dumper) (stepped : Stepped) : Type 0 where
  pub step : StepIs c old new x x' stepped
  pub uncounted : (c.dump ≡ dumps.Off) ⊎ (dumper' ≡ dumper)

pub plain_step : (c : Config) (old new : Seen) (x x' : Session) (dumper dumper' : Dumper) (stepped : Stepped) → is_plain stepped ≡ true → NotedStep c old new x x' dumper dumper' stepped → Plain c old new x x' dumper dumper' stepped
plain_step c old new x x' dumper dumper' stepped t (undumped e h) = record { step = h; uncounted = inl e }
plain_step c old new x x' dumper dumper' stepped t (unread e h) = record { step = unread_step c old new x x' stepped h; uncounted = inr e }
plain_step c old new x x' dumper dumper' stepped t (noted e h) = absurd (false≢true (sym (ap is_plain e) ∙ t))
plain_step c old new x x' dumper dumper' stepped t (unnoted e h) = absurd (false≢true (sym (ap is_plain e) ∙ t))

-- what was settled stays so after an act that reads nothing, or where nothing is dumped
pub settled_act : (c : Config) (act : Act) (past : List Act) (dumper dumper' : Dumper) → reads_bytes act ≡ false → (c.dump ≡ dumps.Off) ⊎ (dumper' ≡ dumper) → Counted c past 0 dumper → IsDumpSettled c (act ∷ past) 0 dumper'
settled_act c act past dumper dumper' e (inl off) counted = settled_undumped c (act ∷ past) 0 dumper' off
settled_act c act past dumper dumper' e (inr same) counted = settled_on c act past 0 dumper dumper' e same counted

-- and after none
pub settled_still : (c : Config) (past : List Act) (dumper dumper' : Dumper) → (c.dump ≡ dumps.Off) ⊎ (dumper' ≡ dumper) → IsDumpSettled c past 0 dumper → IsDumpSettled c past 0 dumper'
settled_still c past dumper dumper' (inl off) s = settled_undumped c past 0 dumper' off
settled_still c past dumper dumper' (inr same) s = subst (IsDumpSettled c past 0) (sym same) s

-- ---- a read that is noted

read_noted : (c : Config) (n : ℕ) (start old new : Seen) (r r' : Driver) (past : List Act) → DriverCourse c n start old r past → ReadNoted c old new r.session r'.session r.dumper r'.dumper → r'.made ≡ r.made → r'.fault ≡ r.fault → Onward c n start new r'
read_noted c n start old new r r' past on h em er =
    let p = h.place in
    let bytes = h.bytes in
    let reading = acts.Read p bytes in
    let at = read_at c n old h.between 0 r.session r'.session past p bytes on.settled.unowed on.run.stands h.reads in
    let read = acted_run c n start old h.between r.session r'.session r.made r.fault r.fault past reading on.run h.reads ((h.reads.heard n past 0 on.run.stands).may on.settled.unowed) on.run.fault in
    let text = dump_of c.dump (way_from p.side) (counted_at r.dumper p.side) bytes in
    let owes = owes_by c past 0 p bytes r.dumper h.dumped at on.settled.counted in
    let run = noted_run c n start h.between new r'.session r.made r.fault (reading ∷ past) r.dumper p bytes text h.notes refl owes read in
    let note = note_of h.notes.failed text in
    record {
      past = note ∷ reading ∷ past;
      course = record {
        run = run_as c n start new r'.session r.made r'.made r.fault r'.fault (note ∷ reading ∷ past) em er run;
        settled = settled_on c note (reading ∷ past) 0 r'.dumper r'.dumper (note_unread h.notes.failed text) refl (counted_more c past 0 p bytes r.dumper r'.dumper at.first at.at h.counts on.settled.counted);
      };
    }

read_unnoted : (c : Config) (n : ℕ) (start old new : Seen) (r r' : Driver) (past : List Act) → DriverCourse c n start old r past → ReadUnnoted c old new r.session r'.session r.dumper r'.dumper → r'.made ≡ r.made → r'.fault ≡ r.fault → Onward c n start new r'
read_unnoted c n start old new r r' past on h em er =
    let p = h.place in
    let bytes = h.bytes in
    let reading = acts.Read p bytes in
    let at = read_at c n old h.between 0 r.session h.heard past p bytes on.settled.unowed on.run.stands h.reads in
    let read = acted_run c n start old h.between r.session h.heard r.made r.fault r.fault past reading on.run h.reads ((h.reads.heard n past 0 on.run.stands).may on.settled.unowed) on.run.fault in
    let u = unclosed_by c n past 0 r.session.state.ending h.going on.run.stands.fields.ending_is in
    let k = h.gives_up in
    let stands = k.stands n (reading ∷ past) 0 read.stands u in
    let late = idled_run c n start h.between h.late h.heard k.cut r.made r.fault (reading ∷ past) read h.nothing.did stands h.nothing.rose.later h.nothing.waitless.waits h.nothing.waitless.stops in
    let closing = acts.Closed k.thing whys.Memory in
    let wished = subst (Allowed c n (reading ∷ past) 0 k.cut.state) k.wish stands.allowed in
    let may : May c n (reading ∷ past) closing = record { is_held = wished.0.is_held; licensed = wished.0.licensed; timely = inr refl } in
    let run = acted_run c n start h.late new k.cut r'.session r.made r.fault r.fault (reading ∷ past) closing late k.closes may on.run.fault in
    record {
      past = closing ∷ reading ∷ past;
      course = record {
        run = run_as c n start new r'.session r.made r'.made r.fault r'.fault (closing ∷ reading ∷ past) em er run;
        settled = settled_on c closing (reading ∷ past) 0 r'.dumper r'.dumper refl refl (counted_more c past 0 p bytes r.dumper r'.dumper at.first at.at h.counts on.settled.counted);
      };
    }

-- ---- the steps that may have been such a read

pub on_acted : (c : Config) (n : ℕ) (start old new : Seen) (r r' : Driver) (past : List Act) → DriverCourse c n start old r past → NotedStep c old new r.session r'.session r.dumper r'.dumper steps.Acted → r'.made ≡ r.made → r'.fault ≡ r.fault → Onward c n start new r'
on_acted c n start old new r r' past on (undumped e h) em er = acted_on c n start old new r r' past h.0 on h.2 em (ap told_fault er ∙ on.run.fault ∙ sym (h.1 past 0)) (settled_undumped c (h.0 ∷ past) 0 r'.dumper e)
on_acted c n start old new r r' past on (unread e h) em er = acted_on c n start old new r r' past h.0 on h.3 em (ap told_fault er ∙ on.run.fault ∙ sym (h.2 past 0)) (settled_on c h.0 past 0 r.dumper r'.dumper h.1 e on.settled.counted)
on_acted c n start old new r r' past on (noted e h) em er = read_noted c n start old new r r' past on h em er
on_acted c n start old new r r' past on (unnoted e h) em er = let x : ⊥ = cc in absurd x

pub on_idle : (c : Config) (n : ℕ) (start old new : Seen) (r r' : Driver) (past : List Act) → DriverCourse c n start old r past → Idles c old new r.session r'.session → r'.made ≡ r.made → r'.fault ≡ r.fault → IsDumpSettled c past 0 r'.dumper → Onward c n start new r'
on_idle c n start old new r r' past on h em er settled = idled c n start old new r r' past on h.did (h.stands n past 0 on.run.stands) em er settled h.rose.later h.waitless.waits h.waitless.stops

pub on_memory : (c : Config) (n : ℕ) (start old new : Seen) (r r' : Driver) (past : List Act) → DriverCourse c n start old r past → NotedStep c old new r.session r'.session r.dumper r'.dumper steps.Memory → r'.made ≡ r.made → r'.fault ≡ r.fault → Onward c n start new r'
on_memory c n start old new r r' past on (undumped e h) em er = on_idle c n start old new r r' past on h.0 em er (settled_undumped c past 0 r'.dumper e)
on_memory c n start old new r r' past on (unread e h) em er = on_idle c n start old new r r' past on h.0 em er (settled_still c past r.dumper r'.dumper (inr e) on.settled)
on_memory c n start old new r r' past on (noted e h) em er = let x : ⊥ = cc in absurd x
on_memory c n start old new r r' past on (unnoted e h) em er = read_unnoted c n start old new r r' past on h em er

-- fewer steps are left after an act
pub fewer_acted : (c : Config) (n : ℕ) (old new : Seen) (x x' : Session) (dumper dumper' : Dumper) (past : List Act) → Stands c n past 0 x → NotedStep c old new x x' dumper dumper' steps.Acted → left_of x' < left_of x
fewer_acted c n old new x x' dumper dumper' past st (undumped e h) = (h.2.heard n past 0 st).fewer
fewer_acted c n old new x x' dumper dumper' past st (unread e h) = (h.3.heard n past 0 st).fewer
fewer_acted c n old new x x' dumper dumper' past st (noted e h) = (h.reads.heard n past 0 st).fewer
fewer_acted c n old new x x' dumper dumper' past st (unnoted e h) = let x : ⊥ = cc in absurd x

pub over_acted : (c : Config) (n : ℕ) (old new : Seen) (x x' : Session) (dumper dumper' : Dumper) (past : List Act) → Stands c n past 0 x → NotedStep c old new x x' dumper dumper' steps.Acted → has_ended x ≡ true → has_ended x' ≡ true
over_acted c n old new x x' dumper dumper' past st (undumped e h) t = h.2.over n past 0 st t
over_acted c n old new x x' dumper dumper' past st (unread e h) t = h.3.over n past 0 st t
over_acted c n old new x x' dumper dumper' past st (noted e h) t = absurd (true≢false (sym t ∙ h.going))
over_acted c n old new x x' dumper dumper' past st (unnoted e h) t = let x : ⊥ = cc in absurd x

-- and after a cut for want of memory
pub fewer_memory : (c : Config) (n : ℕ) (old new : Seen) (x x' : Session) (dumper dumper' : Dumper) (past : List Act) → Stands c n past 0 x → NotedStep c old new x x' dumper dumper' steps.Memory → 2 * left_of x' + unit_of (not (has_ended x')) < 2 * left_of x + unit_of (not (has_ended x))
fewer_memory c n old new x x' dumper dumper' past st (undumped e h) = rank_cut _ _ _ _ h.3 h.1 h.2
fewer_memory c n old new x x' dumper dumper' past st (unread e h) = rank_cut _ _ _ _ h.3 h.1 h.2
fewer_memory c n old new x x' dumper dumper' past st (noted e h) = let x : ⊥ = cc in absurd x
fewer_memory c n old new x x' dumper dumper' past st (unnoted e h) =
    let read = h.reads.heard n past 0 st in
    let k = h.gives_up in
    let stands = k.stands n (acts.Read h.place h.bytes ∷ past) 0 read.stands (unclosed_by c n past 0 x.state.ending h.going st.fields.ending_is) in
    let closed = k.closes.heard n (acts.Read h.place h.bytes ∷ past) 0 stands in
    let one = read.fewer in
    let same = k.left in
    let two = closed.fewer in
    rank_heard _ _ _ _ (omega (arith, one, same, two))

pub over_memory : (c : Config) (old new : Seen) (x x' : Session) (dumper dumper' : Dumper) → NotedStep c old new x x' dumper dumper' steps.Memory → has_ended x ≡ true → has_ended x' ≡ true
over_memory c old new x x' dumper dumper' (undumped e h) t = h.2
over_memory c old new x x' dumper dumper' (unread e h) t = h.2
over_memory c old new x x' dumper dumper' (noted e h) t = let x : ⊥ = cc in absurd x
over_memory c old new x x' dumper dumper' (unnoted e h) t = absurd (true≢false (sym t ∙ h.going))
