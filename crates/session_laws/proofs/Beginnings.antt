-- That sessions begin.
use Rattle.std.proofs.Common.{◌≡◌, refl, sym, ◌∙◌, ℕ, ◌-◌, ◌^◌, true, false, ◌&&◌, ◌||◌, List, arith}
use Rattle.std.specs.List.{list_any}
use Rattle.std.proofs.lemmas.Bool.{true≢false, false_from_ne_true}
use Rattle.relay_model.specs.declared.places.Place.{Place}
use Rattle.relay_model.specs.declared.commands.Config.{Config}
use Rattle.relay_model.specs.declared.acts.Peer.{Peer}
use Rattle.relay_model.specs.declared.acts.Act.{Act}
use Rattle.relay_model.specs.Places.{same_place}
use Rattle.relay_model.specs.Configs.{has_fork, is_of, is_program_door, program_door, things}
use Rattle.relay_model.specs.Sessions.{admitted, next_place, permits}
use Rattle.relay_model.specs.declared.calls.Call.TheVariants.{Accept}
use Rattle.relay_model.specs.Calls.{door_call}
use Rattle.relay_model.specs.May.{Legal}
use Rattle.relay_laws.proofs.PlaceLemmas.{same_place_equal}
use Rattle.relay_laws.proofs.OwnThings.{each_thing, among_own}
use Rattle.relay_laws.specs.Examples.{forked_command}
use Rattle.relay_laws.proofs.Sound.{legal_is}
use Rattle.relay_laws.specs.Births.{is_named_by, OnlyHeldWereNamed}
use Rattle.relay_laws.proofs.Untouched.{unbegun_unnamed}
use Rattle.relay_session.specs.States.{home}
use Rattle.relay_session.specs.Births.{BeginsSession}
use Rattle.session_laws.specs.Beginnings.{BeginsAfterRefusal, refused_before}

pub next : (c : Config) (n : ℕ) (past : List Act) (peer : Peer) → has_fork c ≡ true → Legal c n past → OnlyHeldWereNamed past → door_call c past ≡ Accept program_door (next_place c past) → permits c (home c (admitted c past)) peer ≡ true → BeginsSession c n past (admitted c past) peer
next c n past peer fork legal only called permitted = record {
  fork = fork;
  legal = legal;
  next = refl;
  called = called;
  permitted = permitted;
  unnamed = λ q o.
      let a = among_own c (admitted c past) q (things c (admitted c past)) (each_thing c (admitted c past)) o in
      unbegun_unnamed c n past q fork legal only (let e = a.0 in omega (arith, e)) a.1;
}

unnamed_by_door : (c : Config) (q : Place) → has_fork c ≡ true → is_program_door c q ≡ false → same_place program_door q ≡ false
unnamed_by_door c q f d = false_from_ne_true (same_place program_door q) (λ e. let t = same_place_equal program_door q e in let g = sym f in true≢false ((λ i. same_place (t i) program_door && g i) ∙ d))

example_unnamed : (q : Place) → is_of forked_command 0 q ≡ true → list_any (is_named_by q) refused_before ≡ false
example_unnamed q o =
    let x = unnamed_by_door forked_command q refl (among_own forked_command 0 q (things forked_command 0) (each_thing forked_command 0) o).1 in
    λ i. x i && true || false || (x i && false || false) || false

pub begins_once : BeginsAfterRefusal
begins_once = record {
  closed = refl;
  begins = record { fork = refl; legal = legal_is forked_command (2 ^ 64 - 1) refused_before refl; next = refl; called = refl; permitted = refl; unnamed = example_unnamed };
}
