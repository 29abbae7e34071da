-- What the acts of one session leave of the door and of all other sessions.
use Rattle.std.proofs.Common.{◌≡◌, ◌≢◌, refl, sym, ◌∙◌, ℕ, ◌<◌, inl, inr, Bool, true, false, ◌||◌, ◌&&◌, List, ◌∷◌, Option, Some, None, arith}
use Rattle.std.proofs.lemmas.Bool.{false≢true, or_parts, false_from_ne_true}
use Rattle.relay_model.specs.declared.commands.Config.{Config}
use Rattle.relay_model.specs.declared.acts.Why.TheVariants as whys
use Rattle.relay_model.specs.declared.acts.Act.{Act}
use Rattle.relay_model.specs.declared.acts.Act.TheVariants as acts
use Rattle.relay_model.specs.Choices.{one_more}
use Rattle.relay_model.specs.Configs.{has_fork, is_left}
use Rattle.relay_model.specs.History.{now as moment, turns, memory_said, stop_said, same_why}
use Rattle.relay_model.specs.Sessions.{admitted, numbers, permits}
use Rattle.relay_model.specs.May.{Legal}
use Rattle.relay_model.specs.Frames.{IsForeign, is_common, is_turn, is_at}
use Rattle.program_door.specs.declared.doors.Door.{Door}
use Rattle.program_door.specs.Stands.{DoorStands}
use Rattle.program_door.specs.Steps.{meets_left}
use Rattle.program_door.proofs.Apart.{apart as left_apart}
use Rattle.program_door.proofs.Held.{of_session}
use Rattle.program_door.proofs.Moves.{numbers_are}
use Rattle.relay_laws.proofs.Slept.{passes, begun_step, session_alike}
use Rattle.session_driver.specs.Steps.{IsActOf}
use Rattle.session_laws.proofs.Members.{through_acts}
use Rattle.session_loop.specs.Runs.{Ran, stayed, acted}
use Rattle.event_loop.specs.declared.all_sessions.Row.{Row}
use Rattle.event_loop.specs.Rows.{RowIs}
use Rattle.event_loop.specs.Courses.{Unsaid}
use Rattle.event_loop.proofs.Counting.{counted_kept}
use Rattle.event_loop.proofs.RowLaws.{wakes_kept}

-- what some acts leave
pub record Leave (c : Config) (n : ℕ) (past since : List Act) (t : ℕ) : Type 0 where
  pub admitted_same : admitted c since ≡ admitted c past
  pub moment_same : moment since ≡ moment past
  pub turns_same : turns since ≡ turns past
  pub unsaid : Unsaid past → Unsaid since
  pub door : (door : Door) → DoorStands c past door → DoorStands c since door
  pub rows : (s : ℕ) (work : List ℕ) (timer : Option ℕ) (row : Option Row) → s ≢ t → RowIs c n past s work timer row → RowIs c n since s work timer row

-- ---- one act

pub foreign_to : (c : Config) (s t : ℕ) (act : Act) → IsActOf c t act → s ≢ t → IsForeign c s act
foreign_to c s t act here apart = λ p e d. false_from_ne_true (is_at act p) (λ at. apart (sym e ∙ (here.own p at).0))

pub moment_kept : (act : Act) (past : List Act) → is_turn act ≡ false → moment (act ∷ past) ≡ moment past
moment_kept (acts.Turn until at ready stop) past e = absurd (false≢true (sym e))
moment_kept act past e = refl

pub turns_kept : (act : Act) (past : List Act) → is_turn act ≡ false → turns (act ∷ past) ≡ turns past
turns_kept (acts.Turn until at ready stop) past e = absurd (false≢true (sym e))
turns_kept act past e = refl

no_more : (left fork permitted : Bool) (n : ℕ) → left ≡ false → one_more (left && fork && permitted) n ≡ n
no_more true fork permitted n e = absurd (false≢true (sym e))
no_more false fork permitted n e = refl

admitted_kept : (c : Config) (act : Act) (past : List Act) → meets_left act ≡ false → admitted c (act ∷ past) ≡ admitted c past
admitted_kept c (acts.Accepted p peer) past e = no_more (is_left p) (has_fork c) (permits c p peer) (admitted c past) e
admitted_kept c act past e = refl

said_kept : (a b : Bool) → a ≡ false → b ≡ false → (a || b) ≡ false
said_kept a b e f = λ i. (e i) || (f i)

pub unsaid_kept : (c : Config) (act : Act) (past : List Act) → is_common c act ≡ false → Unsaid past → Unsaid (act ∷ past)
unsaid_kept c (acts.Turn until at ready stop) past k u = absurd (false≢true (sym k))
unsaid_kept c (acts.Closed q why) past k u =
    let w = or_parts (same_why why whys.Stopped) (same_why why whys.Memory) k in
    record { remembered = said_kept (same_why why whys.Memory) (memory_said past) w.1 u.remembered; unstopped = said_kept (same_why why whys.Stopped) (stop_said past) w.0 u.unstopped }
unsaid_kept c act past k u = record { remembered = u.remembered; unstopped = u.unstopped }

row_kept : (c : Config) (n : ℕ) (act : Act) (past : List Act) (s : ℕ) (work : List ℕ) (timer : Option ℕ) (row : Option Row) → has_fork c ≡ true → IsForeign c s act → is_common c act ≡ false → admitted c (act ∷ past) ≡ admitted c past → RowIs c n past s work timer row → RowIs c n (act ∷ past) s work timer row
row_kept c n act past s work timer None fork f k same r = (
  λ below.
      let b : s < admitted c past = omega (arith, below, same) in
      let e = numbers_are c past fork in
      let m : s < numbers c past = omega (arith, b, e) in
      (session_alike c s (act ∷ past) past (begun_step c act past s m) m (passes c s act past f k)).holds_same ∙ r.0 b,
  r.1,
)
row_kept c n act past s work timer (Some row) fork f k same (inl r) = inl (r.0, wakes_kept c n act past s row f k r.1)
row_kept c n act past s work timer (Some row) fork f k same (inr o) = inr (through_acts c n act past s timer row.turn row.member.session f k o.0, counted_kept c act past s row.member.dumper f o.1)

pub act_leaves : (c : Config) (n : ℕ) (act : Act) (past : List Act) (t : ℕ) → has_fork c ≡ true → Legal c n (act ∷ past) → t < admitted c past → IsActOf c t act → is_common c act ≡ false → Leave c n past (act ∷ past) t
act_leaves c n act past t fork legal begun here k =
    let p = of_session c n act past t legal fork begun here.own k in
    let same = admitted_kept c act past p.no_peer in
    record {
      admitted_same = same;
      moment_same = moment_kept act past here.untimed;
      turns_same = turns_kept act past here.untimed;
      unsaid = unsaid_kept c act past k;
      door = λ door d. left_apart c act past door d p;
      rows = λ s work timer row apart r. row_kept c n act past s work timer row fork (foreign_to c s t act here apart) k same r;
    }

-- ---- all acts of one session

pub ran_leaves : (c : Config) (n t : ℕ) (past since : List Act) → has_fork c ≡ true → Legal c n since → t < admitted c past → Ran c t past since → Leave c n past since t
ran_leaves c n t past all fork legal begun stayed = record { admitted_same = refl; moment_same = refl; turns_same = refl; unsaid = λ u. u; door = λ door d. d; rows = λ s work timer row apart r. r }
ran_leaves c n t past all fork legal begun (acted act since here k ran) =
    let one = ran_leaves c n t past since fork legal.1 begun ran in
    let same = one.admitted_same in
    let two = act_leaves c n act since t fork legal (omega (arith, begun, same)) here k in
    record {
      admitted_same = two.admitted_same ∙ one.admitted_same;
      moment_same = two.moment_same ∙ one.moment_same;
      turns_same = two.turns_same ∙ one.turns_same;
      unsaid = λ u. two.unsaid (one.unsaid u);
      door = λ door d. two.door door (one.door door d);
      rows = λ s work timer row apart r. two.rows s work timer row apart (one.rows s work timer row apart r);
    }
