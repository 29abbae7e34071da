-- A journal that is gone through from its oldest act on, and what its acts add up to.
use Rattle.std.proofs.Common.{◌≡◌, ◌+◌, ◌-◌, ◌<◌, ◌≤◌, ℕ, zero, suc, Bool, true, false, ◌||◌, List, [], ◌∷◌, drop, length, reverse, sum, Some, slice_get, get_or, refl, sym, ap, ◌∙◌, arith, length-append}
use Rattle.std.specs.List.{list_any}
use Rattle.std.proofs.lemmas.Bool.{or_left, or_right}
use Rattle.std.proofs.lemmas.Option.{get_or_from_slice_get}
use Rattle.std.proofs.lemmas.List.{drop_more, get_or-reverse, drop_all}
use Rattle.std.proofs.lemmas.List.Sums.{sum_by-append}
use Rattle.relay_model.specs.declared.acts.Act.{Act}
use Rattle.relay_model.specs.declared.acts.Act.TheVariants.{Accepted}
use Rattle.relay_model.specs.declared.acts.Peer.{Peer}
use Rattle.relay_model.specs.declared.acts.Peer.TheVariants.{V4, V6, Local}
use Rattle.relay_model.specs.declared.places.Place.{Place}
use Rattle.relay_model.specs.declared.places.Side.{Side}
use Rattle.relay_model.specs.declared.places.Side.TheVariants.{Left, Right}
use Rattle.relay_model.specs.Choices.{one_more}
use Rattle.relay_model.specs.Places.{same_side}
use Rattle.relay_model.specs.Sessions.{admitted, is_admission}
use Rattle.socat_top.specs.Command.{load_command}
use Rattle.socat_top.specs.Sums.{begins, brought, delivered}

-- one act more
pub older-more : (acts : List Act) (i : ℕ) (act : Act) → i < length acts → slice_get (reverse acts) i ≡ Some act → drop (length acts - (i + 1)) acts ≡ act ∷ drop (length acts - i) acts
older-more acts i act within e =
    let j = length acts - (i + 1) in
    let inside : j < length acts = omega arith in
    let read : get_or acts j act ≡ act = ap (λ k. get_or acts k act) (let f : j ≡ length acts - 1 - i = omega arith in f) ∙ sym (get_or-reverse acts i act within) ∙ get_or_from_slice_get (reverse acts) i act act e in
    drop_more acts j act inside ∙ ap (λ a. a ∷ drop (j + 1) acts) read ∙ ap (λ k. act ∷ drop k acts) (let f : j + 1 ≡ length acts - i = omega arith in f)

-- none in the beginning
pub older-none : (acts : List Act) → drop (length acts - 0) acts ≡ []
older-none acts = drop_all (length acts - 0) acts (omega arith)

-- all at the end
pub older-all : (acts : List Act) → drop (length acts - length acts) acts ≡ acts
older-all acts = ap (λ k. drop k acts) (let e : length acts - length acts ≡ 0 = omega arith in e)

pub delivered-drop : (k : ℕ) (acts : List Act) → (length (delivered (drop k acts)) ≤ length (delivered acts)) × (sum (delivered (drop k acts)) ≤ sum (delivered acts))
delivered-drop zero acts = (omega arith, omega arith)
delivered-drop (suc k) [] = (omega arith, omega arith)
delivered-drop (suc k) (act ∷ past) =
    let ih = delivered-drop k past in
    let l = length-append (delivered past) (brought act) in
    let s = sum_by-append (λ x. x) (delivered past) (brought act) in
    (omega (arith, ih.0), omega (arith, ih.1))

accepts : (p : Place) (peer : Peer) (side : Side) → p.side ≡ side → is_admission load_command p peer ≡ same_side p.side Left
accepts p (V4 addr port) Left e = rw e refl
accepts p (V6 addr port) Left e = rw e refl
accepts p Local Left e = rw e refl
accepts p peer Right e = rw e refl

-- each accepting at a left place begins a session
pub admitted-more : (act : Act) (past : List Act) → admitted load_command (act ∷ past) ≡ one_more (begins act) (admitted load_command past)
admitted-more (Accepted p peer) past = ap (λ b. one_more b (admitted load_command past)) (accepts p peer p.side refl)
admitted-more act past = refl

any-drop : (test : Act → Bool) (k : ℕ) (acts : List Act) → list_any test (drop k acts) ≡ true → list_any test acts ≡ true
any-drop test zero acts e = e
any-drop test (suc k) [] e = e
any-drop test (suc k) (act ∷ past) e = or_right (test act) (list_any test past) (any-drop test k past e)

-- an act that is found among those from some act on is among all
pub found-older : (test : Act → Bool) (acts : List Act) (i : ℕ) (act : Act) → i < length acts → slice_get (reverse acts) i ≡ Some act → test act ≡ true → list_any test acts ≡ true
found-older test acts i act within e found =
    any-drop test (length acts - (i + 1)) acts (ap (list_any test) (older-more acts i act within e) ∙ or_left (test act) (list_any test (drop (length acts - i) acts)) found)

-- one more that isn't found
pub not_found-older : (test : Act → Bool) (acts : List Act) (i : ℕ) (act : Act) → i < length acts → slice_get (reverse acts) i ≡ Some act → test act ≡ false → list_any test (drop (length acts - i) acts) ≡ false → list_any test (drop (length acts - (i + 1)) acts) ≡ false
not_found-older test acts i act within e other none =
    ap (list_any test) (older-more acts i act within e) ∙ ap (λ b. b || list_any test (drop (length acts - i) acts)) other ∙ none

-- one more that begins a session, or doesn't
pub admitted-older : (acts : List Act) (i : ℕ) (act : Act) (b : Bool) → i < length acts → slice_get (reverse acts) i ≡ Some act → begins act ≡ b → admitted load_command (drop (length acts - (i + 1)) acts) ≡ one_more b (admitted load_command (drop (length acts - i) acts))
admitted-older acts i act b within e f =
    ap (admitted load_command) (older-more acts i act within e) ∙ admitted-more act (drop (length acts - i) acts) ∙ ap (λ x. one_more x (admitted load_command (drop (length acts - i) acts))) f

-- what one more delivers
pub length-older : (acts : List Act) (i : ℕ) (act : Act) → i < length acts → slice_get (reverse acts) i ≡ Some act → length (delivered (drop (length acts - (i + 1)) acts)) ≡ length (delivered (drop (length acts - i) acts)) + length (brought act)
length-older acts i act within e = ap (λ xs. length (delivered xs)) (older-more acts i act within e) ∙ length-append (delivered (drop (length acts - i) acts)) (brought act)

pub sum-older : (acts : List Act) (i : ℕ) (act : Act) → i < length acts → slice_get (reverse acts) i ≡ Some act → sum (delivered (drop (length acts - (i + 1)) acts)) ≡ sum (delivered (drop (length acts - i) acts)) + sum (brought act)
sum-older acts i act within e = ap (λ xs. sum (delivered xs)) (older-more acts i act within e) ∙ sum_by-append (λ x. x) (delivered (drop (length acts - i) acts)) (brought act)
