-- What is behind ports is what they passed, up to the first fault.
use Rattle.std.proofs.Common.{◌≡◌, refl, sym, ap, subst, ◌∙◌, ℕ, Bool, true, false, cond, List, [], ◌∷◌, ◌++◌, Option, None, Some, IfSome}
use Rattle.relay_model.specs.declared.places.Way.{Way}
use Rattle.relay_model.specs.declared.commands.Config.{Config}
use Rattle.relay_model.specs.declared.acts.Act.{Act}
use Rattle.relay_model.specs.Configs.{input, output}
use Rattle.relay_model.specs.History.{got, put}
use Rattle.relay_model.specs.May.{BeginsWith}
use Rattle.relay_model.specs.Transfers.{due}
use Rattle.port_trait.specs.Ports.{Agrees, PortSeen}
use Rattle.port_table.specs.declared.endings.Back.{Back}
use Rattle.port_table.specs.declared.endings.Back.TheVariants as backs
use Rattle.port_table.specs.Endings.{OnJoinedBack, handed}
use Rattle.socat_top.specs.Ends.{IsDue, came_in, is_alone, is_on_input, is_on_output, went_out}
use Rattle.socat_top.specs.Behind.{BehindIsDue, IsDueBehind, StandsBehind, far_bytes, far_faults, faults_out, told_behind}

joined_rest : (xs ys zs : List ℕ) → (xs ++ ys) ++ zs ≡ xs ++ (ys ++ zs)
joined_rest [] ys zs = refl
joined_rest (x ∷ xs) ys zs = ap (λ (all : List ℕ). x ∷ all) (joined_rest xs ys zs)

-- a beginning of a beginning is one of the whole
begins_through : (first list whole : List ℕ) → BeginsWith first list → BeginsWith list whole → BeginsWith first whole
begins_through first list whole one other = (one.0 ++ other.0, other.1 ∙ (ap (λ (xs : List ℕ). xs ++ other.0) one.1 ∙ joined_rest first one.0 other.0))

-- what came in at the far end is what the port gave
came_far : (alone : Bool) (P : List ℕ → Type 0) (acted : List ℕ) (gave behind : Option (List ℕ)) → IfSome gave (λ all. IfSome behind (λ bytes. bytes ≡ all)) → IfSome (cond alone gave (Some acted)) P → IfSome (cond alone (far_bytes gave behind) (Some acted)) P
came_far false P acted gave behind e h = h
came_far true P acted gave None e h = h
came_far true P acted None (Some bytes) e h = tt
came_far true P acted (Some all) (Some bytes) e h = subst P (sym e) h

-- what went out there is a beginning of what the port took, and all of it where no fault is there
went_far : (alone : Bool) (c : Config) (acts : List Act) (w : Way) (came acted : List ℕ) (took behind : Option (List ℕ)) (faults : Option ℕ) → IfSome took (λ all. IfSome behind (λ bytes. BeginsWith bytes all)) → (faults ≡ Some 0 → IfSome took (λ all. IfSome behind (λ bytes. bytes ≡ all))) → IfSome (cond alone took (Some acted)) (λ went. IsDue c acts w came went) → IfSome (cond alone (far_bytes took behind) (Some acted)) (λ went. IsDueBehind c acts w (cond alone (far_faults behind faults) (Some 0)) came went)
went_far false c acts w came acted took behind faults front whole h = record { begins = h.begins; whole = λ over sound. h.whole over }
went_far true c acts w came acted None None faults front whole h = tt
went_far true c acts w came acted (Some all) None faults front whole h = record { begins = h.begins; whole = λ over sound. h.whole over }
went_far true c acts w came acted None (Some bytes) faults front whole h = tt
went_far true c acts w came acted (Some all) (Some bytes) faults front whole h = record {
  begins = begins_through bytes all (due c w came) front h.begins;
  whole = λ over sound. whole sound ∙ h.whole over;
}

-- a fact of what came in, made one by one
each : (P Q : List ℕ → Type 0) (slot : Option (List ℕ)) → ((all : List ℕ) → P all → Q all) → IfSome slot P → IfSome slot Q
each P Q None go h = tt
each P Q (Some all) go h = go all h

pub behind : BehindIsDue
behind c acts stdin stdout source sink ends at_source at_sink =
    record {
      is_due = λ w is.
          each (λ came. IfSome (went_out c acts w stdout.took) (λ went. IsDue c acts w came went)) (λ came. IfSome (went_out c acts w (far_bytes stdout.took sink.took)) (λ went. IsDueBehind c acts w (faults_out c w (far_faults sink.took sink.faults)) came went))
          (came_in c acts w (far_bytes stdin.gave source.gave))
          (λ came. went_far (is_alone c (is_on_output c) (output c 0 w)) c acts w came (put acts (output c 0 w)) stdout.took sink.took sink.faults at_sink.taken at_sink.whole)
          (came_far (is_alone c (is_on_input c) (input c 0 w)) (λ came. IfSome (went_out c acts w stdout.took) (λ went. IsDue c acts w came went)) (got acts (input c 0 w)) stdin.gave source.gave at_source.given (ends.is_due w is));
      is_spent = λ w is has. at_source.spent (ends.is_ended w is has);
    }

unsaid : (slot : Option (List ℕ)) → IfSome slot (λ all. Unit {0})
unsaid None = tt
unsaid (Some all) = tt

-- what a port that came back tells of what is behind it is so; one that was left tells nothing of it
pub behind_back : {T : Type 0} (tells : T → PortSeen) (back : Back T) → OnJoinedBack (λ port. Agrees (tells port)) back → StandsBehind (tells (handed back)) (told_behind tells back)
behind_back tells (backs.Joined port) agrees = agrees.behind
behind_back tells (backs.Left port) left = record {
  given = unsaid (tells port).gave;
  taken = unsaid (tells port).took;
  whole = λ sound. unsaid (tells port).took;
  spent = λ over. tt;
}
