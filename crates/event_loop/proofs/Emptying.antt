-- What the closings of one session leave of all others, and what comes of a row.
use Rattle.std.specs.Prelude.{vec_len}
use Rattle.std.proofs.Common.{◌≡◌, ◌≢◌, refl, sym, subst, ◌∙◌, ℕ, ◌+◌, ◌<◌, ◌⊎◌, inl, inr, Bool, true, false, cond, List, [], ◌∷◌, Option, Some, None, arith, ap, ◌≤◌, length, ◌++◌, append_assoc, length-append, is_some}
use Rattle.std.specs.List.{list_any}
use Rattle.std.proofs.lemmas.Bool.{cases_eq, or_parts, or_from, false≢true}
use Rattle.relay_model.specs.declared.commands.Config.{Config}
use Rattle.relay_model.specs.declared.places.Place.{Place}
use Rattle.relay_model.specs.declared.acts.Act.{Act}
use Rattle.relay_model.specs.declared.acts.Act.TheVariants.{Closed}
use Rattle.relay_model.specs.declared.acts.Why.{Why}
use Rattle.relay_model.specs.Places.{same_place}
use Rattle.relay_model.specs.Configs.{has_fork, things}
use Rattle.relay_model.specs.History.{turns, stage, held, holds_at}
use Rattle.relay_model.specs.declared.stages.Stage.TheVariants.{Gone}
use Rattle.relay_model.specs.declared.stages.Stage.{Stage}
use Rattle.relay_model.specs.Sessions.{admitted, holds}
use Rattle.relay_model.specs.May.{Legal}
use Rattle.relay_session.specs.declared.sessions.Session.{Session}
use Rattle.relay_session.specs.States.{Wished}
use Rattle.relay_session.specs.Sessions.{Leaver, Stands}
use Rattle.program_door.specs.declared.doors.Door.{Door}
use Rattle.program_door.proofs.Moves.{numbers_are}
use Rattle.fork_table.specs.Tables.{row_of, IsFirstLive, SameBounds}
use Rattle.world_trait.specs.Seen.{Seen}
use Rattle.session_laws.specs.SessionSets.{MaySay}
use Rattle.session_laws.proofs.Members.{closings_leave, acts_leave}
use Rattle.event_loop.specs.declared.all_sessions.Sessions.{Sessions}
use Rattle.event_loop.specs.declared.all_sessions.Row.{Row}
use Rattle.event_loop.specs.Courses.{CountsSessions, OthersStay}
use Rattle.event_loop.specs.Endings.{LeavesRow}
use Rattle.event_loop.specs.Waited.{Exit, LeavingAt}
use Rattle.event_loop.specs.Closings.{AllLeft, Emptied, IsLeaving, SomeLeaves, LeftBy, stayed, closed, acted, LeavesOn, IsOver, SomeLeaving, EmptiesRow, RowLeaves}
use Rattle.event_loop.proofs.Closings.{may_on, may_still, unclosed_holds}
use Rattle.event_loop.proofs.LivingRows.{EachTo, SameFrom, each_first, each_next}
use Rattle.event_loop.proofs.RowLoops.{RowsTo, rows_first, rows_next}
use Rattle.event_loop.proofs.Others.{act_leaves, foreign_to}
use Rattle.event_loop.proofs.Rooms.{kept_room}

-- ---- a closing ends holdings alone

still_free : (b : Bool) (why : Why) (st : Stage) → holds_at st ≡ false → holds_at (cond b (Gone why) st) ≡ false
still_free true why st e = refl
still_free false why st e = e

pub none_held : (past : List Act) (q : Place) (why : Why) (ps : List Place) → list_any (held past) ps ≡ false → list_any (held (Closed q why ∷ past)) ps ≡ false
none_held past q why [] e = refl
none_held past q why (p ∷ ps) e =
    let h = or_parts (held past p) (list_any (held past) ps) e in
    or_from (held (Closed q why ∷ past) p) (list_any (held (Closed q why ∷ past)) ps) (still_free (same_place q p) why (stage past p) h.0) (none_held past q why ps h.1)

-- ---- what is left of all but the session

pub record LeftOthers (c : Config) (n : ℕ) (past since : List Act) (t : ℕ) (why : Why) : Type 0 where
  pub admitted_same : admitted c since ≡ admitted c past
  pub turns_same : turns since ≡ turns past
  pub may : MaySay why since
  pub rows : (s : ℕ) (row : Option Row) → s ≢ t → LeavesRow c n past s why row → LeavesRow c n since s why row

pub left_others : (c : Config) (n t : ℕ) (why : Why) (past since : List Act) → has_fork c ≡ true → Legal c n since → t < admitted c past → MaySay why past → LeftBy c t why past since → LeftOthers c n past since t why
left_others c n t why past all fork legal begun may stayed = record { admitted_same = refl; turns_same = refl; may = may; rows = λ s row apart r. r }
left_others c n t why past all fork legal begun may (closed q since here l) =
    let one = left_others c n t why past since fork legal.1 begun may l in
    record {
      admitted_same = one.admitted_same;
      turns_same = one.turns_same;
      may = may_still since q why one.may;
      rows = λ s row apart r. each s row apart one.may (one.rows s row apart r);
    }
  where
    each : (s : ℕ) (row : Option Row) → s ≢ t → MaySay why since → LeavesRow c n since s why row → LeavesRow c n (Closed q why ∷ since) s why row
    each s None apart m r = λ below. none_held since q why (things c s) (r below)
    each s (Some row) apart m r = closings_leave c n since s q why row.member.session (foreign_to c s t (Closed q why) here apart) m r
left_others c n t why past all fork legal begun may (acted act since here k said l) =
    let one = left_others c n t why past since fork legal.1 begun may l in
    let same = one.admitted_same in
    let two = act_leaves c n act since t fork legal (omega (arith, begun, same)) here k in
    record {
      admitted_same = two.admitted_same ∙ one.admitted_same;
      turns_same = two.turns_same ∙ one.turns_same;
      may = may_on c act since why k one.may;
      rows = λ s row apart r. each s row apart (λ h. (two.rows s [] None None apart (h, refl)).0) (one.rows s row apart r);
    }
  where
    each : (s : ℕ) (row : Option Row) → s ≢ t → ((s < admitted c since → holds c since s ≡ false) → s < admitted c (act ∷ since) → holds c (act ∷ since) s ≡ false) → LeavesRow c n since s why row → LeavesRow c n (act ∷ since) s why row
    each s None apart gone r = gone r
    each s (Some row) apart gone r = acts_leave c n act since s why row.member.session (foreign_to c s t act here apart) k said r

-- ---- a row

leaves_at : (c : Config) (n : ℕ) (start now : Seen) (past : List Act) (t : ℕ) (why : Why) (sessions : Sessions) (x : Row) → LeavingAt c n start now past why sessions → row_of sessions.table t ≡ Some x → IsLeaving c n start now past t why x.member.session sessions.door
leaves_at c n start now past t why sessions x l had =
    let o : Leaver c n past t why x.member.session = subst (LeavesRow c n past t why) had (l.rows t) in
    record { exit = l.exit; stands = o.stands; ending = o.ending; said = inl o.unclosed }

pub some_leaves : (c : Config) (now : Seen) (t : ℕ) (why : Why) (sessions : Sessions) (x : Row) → SomeLeaving c now why sessions → row_of sessions.table t ≡ Some x → SomeLeaves c now why x.member.session sessions.door
some_leaves c now t why sessions x at had = record { n = at.n; start = at.start; past = at.past; s = t; leaves = leaves_at c at.n at.start now at.past t why sessions x at.leaving had }

-- all but the door and the row of this number is as it was
pub record SameBut (t : ℕ) (before after : Sessions) : Type 0 where
  pub made_same : after.made ≡ before.made
  pub scratch_same : vec_len after.scratch ≡ vec_len before.scratch
  pub admitted_same : after.table.admitted ≡ before.table.admitted
  pub bounds_same : SameBounds before.table after.table
  pub others : OthersStay t before after

over_holds : (c : Config) (n : ℕ) (past : List Act) (t : ℕ) (x : Session) → Stands c n past t x → IsOver x → holds c past t ≡ false
over_holds c n past t x st over = (subst (Wished c n past t) over.1 st.allowed.0).nothing_held

-- the session of this number has closed all by these acts
record HasEmptied (c : Config) (n : ℕ) (start now : Seen) (before : List Act) (t : ℕ) (why : Why) (was : Option Row) (sessions : Sessions) (made since : List Act) : Type 0 where
  acted : is_some was ≡ true → 1 ≤ length made
  exit : Exit c n start now since why sessions.door
  counts : CountsSessions c since sessions.table
  made_is : turns since ≡ sessions.made
  room : c.block ≤ vec_len sessions.scratch
  rows : (s : ℕ) → s ≢ t → LeavesRow c n since s why (row_of sessions.table s)
  empty : t < admitted c since → holds c since t ≡ false

has_emptied : (c : Config) (n : ℕ) (start now : Seen) (before : List Act) (t : ℕ) (why : Why) (was : Option Row) (sessions : Sessions) (made : List Act) → HasEmptied c n start now before t why was sessions made (made ++ before) → Emptied c n start now before t why was sessions
has_emptied c n start now before t why was sessions made h = record { made = made; acted = h.acted; exit = h.exit; counts = h.counts; made_is = h.made_is; room = h.room; rows = h.rows; empty = h.empty }

-- what came since
left_newer : (c : Config) (t : ℕ) (why : Why) (past since : List Act) → LeftBy c t why past since → (newer : List Act) × (since ≡ newer ++ past)
left_newer c t why past all stayed = ([], refl)
left_newer c t why past all (closed q since here l) = let r = left_newer c t why past since l in (Closed q why ∷ r.0, ap (λ (xs : List Act). Closed q why ∷ xs) r.1)
left_newer c t why past all (acted act since here k said l) = let r = left_newer c t why past since l in (act ∷ r.0, ap (λ (xs : List Act). act ∷ xs) r.1)

-- a session of which nothing was closed holds something, and holds nothing once it has closed all
some_act : (c : Config) (past since newer : List Act) (t : ℕ) → since ≡ newer ++ past → holds c past t ≡ true → holds c since t ≡ false → 1 ≤ length newer
some_act c past since [] t e h f = absurd (false≢true (sym f ∙ (ap (λ (xs : List Act). holds c xs t) e ∙ h)))
some_act c past since (act ∷ newer) t e h f = omega arith

pub row_emptied : (c : Config) (old new : Seen) (t : ℕ) (why : Why) (before after : Sessions) (x : Row) (y : Session) → row_of before.table t ≡ Some x → LeavesOn c old new why x.member.session y before.door after.door → IsOver y → SameBut t before after → EmptiesRow c old new t why before after
row_emptied c old new t why before after x y had run over same = record {
  emptied = λ n start past l.
      let at = leaves_at c n start old past t why before x l had in
      let one : Leaver c n past t why x.member.session = subst (LeavesRow c n past t why) had (l.rows t) in
      let o = run n start past t at in
      let e = numbers_are c past l.exit.fork in
      let b = at.stands.fields.ground.begun in
      let r = left_others c n t why past o.since l.exit.fork o.leaves.exit.run.legal (omega (arith, b, e)) l.exit.may o.left in
      let k = left_newer c t why past o.since o.left in
      let none = over_holds c n o.since t y o.leaves.stands over in
      has_emptied c n start new past t why (row_of before.table t) after k.0 (subst (λ (xs : List Act). HasEmptied c n start new past t why (row_of before.table t) after k.0 xs) k.1 (record {
        acted = λ _. some_act c past o.since k.0 t k.1 (unclosed_holds c n past t x.member.session l.exit.fork one.stands one.unclosed) none;
        exit = o.leaves.exit;
        counts = record {
          admitted_is = same.admitted_same ∙ l.counts.admitted_is ∙ sym r.admitted_same;
          children_is = same.bounds_same.0 ∙ l.counts.children_is;
          stop_is = same.bounds_same.1 ∙ l.counts.stop_is;
        };
        made_is = r.turns_same ∙ l.made_is ∙ sym same.made_same;
        room = kept_room _ _ _ l.room same.scratch_same;
        rows = λ s apart. subst (LeavesRow c n o.since s why) (sym (same.others s apart)) (r.rows s (row_of before.table s) apart (l.rows s));
        empty = λ _. none;
      }));
  others = same.others;
}

-- where none lives nothing is to be closed
pub no_row_emptied : (c : Config) (now : Seen) (t : ℕ) (why : Why) (before after : Sessions) → row_of before.table t ≡ None → after.door ≡ before.door → SameBut t before after → EmptiesRow c now now t why before after
no_row_emptied c now t why before after none door same = record {
  emptied = λ n start past l. record {
    made = [];
    acted = λ h. absurd (false≢true (sym (ap is_some none) ∙ h));
    exit = subst (λ (d : Door). Exit c n start now past why d) (sym door) l.exit;
    counts = record { admitted_is = same.admitted_same ∙ l.counts.admitted_is; children_is = same.bounds_same.0 ∙ l.counts.children_is; stop_is = same.bounds_same.1 ∙ l.counts.stop_is };
    made_is = l.made_is ∙ sym same.made_same;
    room = kept_room _ _ _ l.room same.scratch_same;
    rows = λ s apart. subst (LeavesRow c n past s why) (sym (same.others s apart)) (l.rows s);
    empty = subst (LeavesRow c n past t why) none (l.rows t);
  };
  others = same.others;
}

-- the row goes then
pub row_gone : (c : Config) (old new : Seen) (t : ℕ) (why : Why) (before mid after : Sessions) → EmptiesRow c old new t why before mid → after.door ≡ mid.door → SameBut t mid after → row_of after.table t ≡ None → RowLeaves c old new t why before after
row_gone c old new t why before mid after e door same gone = record {
  keeps = λ n start past l.
      let m = e.emptied n start past l in
      let since = m.made ++ past in
      record {
        made = m.made;
        acted = m.acted;
        leaving = record {
          exit = subst (λ (d : Door). Exit c n start new since why d) (sym door) m.exit;
          counts = record { admitted_is = same.admitted_same ∙ m.counts.admitted_is; children_is = same.bounds_same.0 ∙ m.counts.children_is; stop_is = same.bounds_same.1 ∙ m.counts.stop_is };
          made_is = m.made_is ∙ sym same.made_same;
          room = kept_room _ _ _ m.room same.scratch_same;
          rows = λ s. each n since s (subst (LeavesRow c n since t why) (sym gone) m.empty) (λ apart. subst (LeavesRow c n since s why) (sym (same.others s apart)) (m.rows s apart)) (cases_eq s t);
        };
      };
  gone = gone;
  others = λ s apart. same.others s apart ∙ e.others s apart;
}
  where
    each : (n : ℕ) (past : List Act) (s : ℕ) → LeavesRow c n past t why (row_of after.table t) → (s ≢ t → LeavesRow c n past s why (row_of after.table s)) → (s ≡ t) ⊎ (s ≡ t → ⊥) → LeavesRow c n past s why (row_of after.table s)
    each n past s here others (inl k) = subst (λ (x : ℕ). LeavesRow c n past x why (row_of after.table x)) (sym k) here
    each n past s here others (inr apart) = others apart

-- ---- all rows

abbrev pub IsGone : ℕ → Option Row → Option Row → Type 0
IsGone s before after = after ≡ None

pub gone_first : (sessions : Sessions) (first : Option ℕ) → IsFirstLive sessions.table 0 first → RowsTo IsGone first sessions sessions
gone_first sessions first f = rows_first IsGone (λ s. refl) sessions first f

pub gone_next : (t : ℕ) (before mid after : Sessions) (next : Option ℕ) → RowsTo IsGone (Some t) before mid → row_of after.table t ≡ None → OthersStay t mid after → IsFirstLive after.table (t + 1) next → RowsTo IsGone next before after
gone_next t before mid after next done gone others first = rows_next IsGone (λ s. refl) t before mid after next done gone others first

-- the sessions before the next row have closed all, each by an act of its own at least, and no look came without one
pub record LeftSoFar (c : Config) (n : ℕ) (start now : Seen) (before : List Act) (why : Why) (first sessions : Sessions) (next : Option ℕ) (old new : ℕ) : Type 0 where
  pub made : List Act
  pub leaving : LeavingAt c n start now (made ++ before) why sessions
  pub each : EachTo first next (length made)
  pub few : new ≤ old + length made

-- so of each run
abbrev pub LeaveSoFar : Config → Seen → Seen → Why → Sessions → Sessions → Option ℕ → ℕ → ℕ → Type 0
LeaveSoFar c old new why first sessions next ticks more = (n : ℕ) (start : Seen) (past : List Act) → LeavingAt c n start old past why first → LeftSoFar c n start new past why first sessions next ticks more

pub leave_first : (c : Config) (now : Seen) (why : Why) (sessions : Sessions) (first : Option ℕ) (ticks : ℕ) → IsFirstLive sessions.table 0 first → LeaveSoFar c now now why sessions sessions first ticks ticks
leave_first c now why sessions first ticks f = λ n start past l. record { made = []; leaving = l; each = each_first sessions first f; few = omega arith }

pub leave_next : (c : Config) (old mid new : Seen) (why : Why) (k : ℕ) (one two three : Sessions) (next : Option ℕ) (ticks more last : ℕ) → LeaveSoFar c old mid why one two (Some k) ticks more → SameFrom k one two → RowLeaves c mid new k why two three → last ≤ more + 1 → IsFirstLive three.table (k + 1) next → LeaveSoFar c old new why one three next ticks last
leave_next c old mid new why k one two three next ticks more last f same r l first = λ n start past on.
    let a = f n start past on in
    let b = r.keeps n start (a.made ++ past) a.leaving in
    let some : is_some (row_of two.table k) ≡ true = ap is_some (same k (omega arith)) ∙ a.each.1 in
    let acts = b.acted some in
    let s = length-append b.made a.made in
    record {
      made = b.made ++ a.made;
      leaving = subst (λ (xs : List Act). LeavingAt c n start new xs why three) (sym (append_assoc b.made a.made past)) b.leaving;
      each = each_next k one two three next (length a.made) (length (b.made ++ a.made)) a.each same r.others (omega (arith, acts, s)) first;
      few = (let x = a.few in omega (arith, x, l, acts, s));
    }

pub leave_all : (c : Config) (old new : Seen) (why : Why) (first sessions : Sessions) (ticks more : ℕ) → LeaveSoFar c old new why first sessions None ticks more → (n : ℕ) (start : Seen) (past : List Act) → LeavingAt c n start old past why first → AllLeft c n start new past why first sessions ticks more
leave_all c old new why first sessions ticks more f n start past on = let a = f n start past on in record { made = a.made; leaving = a.leaving; each = a.each; few = a.few }

pub some_leaving_on : (c : Config) (old new : Seen) (why : Why) (first sessions : Sessions) (next : Option ℕ) (ticks more : ℕ) → SomeLeaving c old why first → LeaveSoFar c old new why first sessions next ticks more → SomeLeaving c new why sessions
some_leaving_on c old new why first sessions next ticks more at f = let o = f at.n at.start at.past at.leaving in record { n = at.n; start = at.start; past = o.made ++ at.past; leaving = o.leaving }
