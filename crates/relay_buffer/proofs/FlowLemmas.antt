-- What a flow stands for after each of its calls.
use Rattle.std.proofs.Common.{◌≡◌, ℕ, ◌-◌, ◌<◌, ◌≤◌, false, ◌||◌, List, [], ◌++◌, length, Option, None, Some, refl, sym, ap, ◌∙◌, ⊎_elim, arith}
use Rattle.std.proofs.lemmas.Bool.{cases_lt, eq-eqb, le-leb, leb-false, lt-leb, ne_eqb}
use Rattle.std.proofs.lemmas.List.{append_assoc, length-append, take_all}
use Rattle.relay_model.specs.Conversions.{before_escape, first_bytes, holds_escape, is_met, is_over, is_used_up}
use Rattle.line_ends.specs.Converted.{converted}
use Rattle.line_ends.proofs.Appended.{converted-append}
use Rattle.relay_buffer.specs.declared.lanes.Lane.{Lane}
use Rattle.relay_buffer.specs.Flows.{Flowing, IsFlow, IsPassedWhole, at_most, due, lowered, most_at_once, none_left, over_in, room_in}
use Rattle.relay_buffer.proofs.EscapeLemmas.{before_escape-all, before_escape-append, holds_escape-append, or_false}
use Rattle.relay_buffer.proofs.RoomLemmas.{not_over}

-- no more bytes than may be read
abbrev Fits : Option ℕ → ℕ → Type 0
Fits None count = Unit {0}
Fits (Some most) count = count ≤ most

first_bytes_all : (readbytes : Option ℕ) (xs : List ℕ) → Fits readbytes (length xs) → first_bytes readbytes xs ≡ xs
first_bytes_all None xs fits = refl
first_bytes_all (Some most) xs fits = take_all most xs fits

fits_before : (readbytes : Option ℕ) (xs : List ℕ) → is_used_up readbytes xs ≡ false → Fits readbytes (length xs)
fits_before None xs going = tt
fits_before (Some most) xs going = let less = leb-false most (length xs) going in omega arith

fits_after : (readbytes : Option ℕ) (xs ys : List ℕ) (n : ℕ) → is_used_up readbytes xs ≡ false → length ys ≤ at_most (lowered readbytes (length xs)) n → Fits readbytes (length (xs ++ ys))
fits_after None xs ys n going le = tt
fits_after (Some most) xs ys n going le =
    let less = leb-false most (length xs) going in
    let both = length-append xs ys in
    omega arith

none_left-lowered : (readbytes : Option ℕ) (xs : List ℕ) → none_left (lowered readbytes (length xs)) ≡ is_used_up readbytes xs
none_left-lowered None xs = refl
none_left-lowered (Some most) xs =
    ⊎_elim (λ less. ne_eqb (most - length xs) 0 (λ e. omega arith) ∙ sym (lt-leb most (length xs) less)) (λ all. eq-eqb (most - length xs) 0 (omega arith) ∙ sym (le-leb most (length xs) all)) (cases_lt (length xs) most)

lowered-lowered : (readbytes : Option ℕ) (xs ys : List ℕ) → lowered (lowered readbytes (length xs)) (length ys) ≡ lowered readbytes (length (xs ++ ys))
lowered-lowered None xs ys = refl
lowered-lowered (Some most) xs ys =
    let both = length-append xs ys in
    let same : most - length xs - length ys ≡ most - length (xs ++ ys) = omega arith in ap Some same

pub over_is : (lane : Lane) (x y : List ℕ) (flow : Flowing) → IsFlow lane x y flow → over_in flow ≡ is_over lane.readbytes lane.escape x
over_is lane x y flow is =
    ap (λ left. none_left left || flow.met) is.left_is
    ∙ ap (λ met. none_left (lowered lane.readbytes (length x)) || met) is.met_is
    ∙ ap (λ used. used || is_met lane.readbytes lane.escape x) (none_left-lowered lane.readbytes x)

-- one fill, of bytes that are read while the input isn't over
pub record Fills (old : Flowing) (bytes : List ℕ) (new : Flowing) : Type 0 where
  pub lane : new.lane ≡ old.lane
  pub left : new.left ≡ lowered old.left (length bytes)
  pub met : new.met ≡ holds_escape old.lane.escape bytes
  pub backlog : new.backlog ≡ old.backlog ++ converted old.lane.how (before_escape old.lane.escape bytes)

lacks_escape : (lane : Lane) (x : List ℕ) → is_over lane.readbytes lane.escape x ≡ false → holds_escape lane.escape x ≡ false
lacks_escape lane x going =
    let parts = or_false (is_used_up lane.readbytes x) (is_met lane.readbytes lane.escape x) going in
    ap (holds_escape lane.escape) (sym (first_bytes_all lane.readbytes x (fits_before lane.readbytes x parts.0))) ∙ parts.1

due-append : (lane : Lane) (x bytes : List ℕ) → is_over lane.readbytes lane.escape x ≡ false → Fits lane.readbytes (length (x ++ bytes)) → due lane (x ++ bytes) ≡ due lane x ++ converted lane.how (before_escape lane.escape bytes)
due-append lane x bytes going fits =
    let parts = or_false (is_used_up lane.readbytes x) (is_met lane.readbytes lane.escape x) going in
    let lacks = lacks_escape lane x going in
    let before = ap (before_escape lane.escape) (first_bytes_all lane.readbytes x (fits_before lane.readbytes x parts.0)) ∙ before_escape-all lane.escape x lacks in
    let after = ap (before_escape lane.escape) (first_bytes_all lane.readbytes (x ++ bytes) fits) ∙ before_escape-append lane.escape x bytes lacks in
    ap (converted lane.how) after
    ∙ converted-append lane.how x (before_escape lane.escape bytes)
    ∙ ap (λ d. d ++ converted lane.how (before_escape lane.escape bytes)) (ap (converted lane.how) (sym before))

met-append : (lane : Lane) (x bytes : List ℕ) → is_over lane.readbytes lane.escape x ≡ false → Fits lane.readbytes (length (x ++ bytes)) → is_met lane.readbytes lane.escape (x ++ bytes) ≡ holds_escape lane.escape bytes
met-append lane x bytes going fits =
    ap (holds_escape lane.escape) (first_bytes_all lane.readbytes (x ++ bytes) fits)
    ∙ holds_escape-append lane.escape x bytes
    ∙ ap (λ met. met || holds_escape lane.escape bytes) (lacks_escape lane x going)

pub filled : (lane : Lane) (x y bytes : List ℕ) (old new : Flowing) → 0 < length bytes → length bytes ≤ room_in old → Fills old bytes new → IsFlow lane x y old → IsFlow lane (x ++ bytes) y new
filled lane x y bytes old new some le fills is =
    let most = most_at_once old.lane.packets old.lane.block (length old.backlog) in
    let room = not_over (over_in old) (at_most old.left most) (length bytes) some le in
    let going = sym (over_is lane x y old is) ∙ room.0 in
    let parts = or_false (is_used_up lane.readbytes x) (is_met lane.readbytes lane.escape x) going in
    let fits = fits_after lane.readbytes x bytes most parts.0 (rw is.left_is at room.1) in record {
      lane_is = fills.lane ∙ is.lane_is;
      left_is = fills.left ∙ ap (λ left. lowered left (length bytes)) is.left_is ∙ lowered-lowered lane.readbytes x bytes;
      met_is = fills.met ∙ ap (λ (l : Lane). holds_escape l.escape bytes) is.lane_is ∙ sym (met-append lane x bytes going fits);
      bytes =
          ap (λ b. y ++ b) fills.backlog
          ∙ sym (append_assoc y old.backlog (converted old.lane.how (before_escape old.lane.escape bytes)))
          ∙ ap (λ d. d ++ converted old.lane.how (before_escape old.lane.escape bytes)) is.bytes
          ∙ ap (λ (l : Lane). due lane x ++ converted l.how (before_escape l.escape bytes)) is.lane_is
          ∙ sym (due-append lane x bytes going fits);
    }

-- one trade, of bytes that go out as they are, where nothing waits
pub record Trades (old : Flowing) (bytes : List ℕ) (new : Flowing) : Type 0 where
  pub lane : new.lane ≡ old.lane
  pub left : new.left ≡ lowered old.left (length bytes)
  pub met : new.met ≡ old.met
  pub empty : old.backlog ≡ []
  pub backlog : new.backlog ≡ bytes

pub traded : (lane : Lane) (x y bytes : List ℕ) (old new : Flowing) → 0 < length bytes → length bytes ≤ room_in old → IsPassedWhole old.lane bytes → Trades old bytes new → IsFlow lane x y old → IsFlow lane (x ++ bytes) y new
traded lane x y bytes old new some le whole trades is =
    let most = most_at_once old.lane.packets old.lane.block (length old.backlog) in
    let going = (not_over (over_in old) (at_most old.left most) (length bytes) some le).0 in
    let unmet = (or_false (none_left old.left) old.met going).1 in
    filled lane x y bytes old new some le (record {
      lane = trades.lane;
      left = trades.left;
      met = trades.met ∙ unmet ∙ sym whole.lacks;
      backlog =
          trades.backlog
          ∙ sym (ap (converted old.lane.how) whole.whole ∙ whole.plain)
          ∙ ap (λ b. b ++ converted old.lane.how (before_escape old.lane.escape bytes)) (sym trades.empty);
    }) is
