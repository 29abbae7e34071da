-- Acts and their lines: what is read was spelt so, and what is spelt is read.
use Rattle.std.proofs.Common.{◌≡◌, ℕ, ◌-◌, ◌^◌, ◌≤◌, Bool, true, List, [], ◌∷◌, ◌++◌, Option, Some, option_map, refl, sym, ap, ◌∙◌, subst, append_assoc, arith, lit<, lit≤}
use Rattle.std.specs.Fmt.{decimal}
use Rattle.std.specs.List.{AllByRecursion}
use Rattle.std.specs.Str.{bytes_eq}
use Rattle.std.proofs.lemmas.Option.{same_Some}
use Rattle.relay_model.specs.Acts.{copied_act}
use Rattle.relay_model.specs.declared.places.Place.{Place}
use Rattle.relay_model.specs.declared.acts.Act.{Act}
use Rattle.relay_model.specs.declared.acts.Act.TheVariants as act
use Rattle.relay_model.specs.Readiness.{Listed}
use Rattle.journal_text.specs.declared.kinds.ActKind.{ActKind}
use Rattle.journal_text.specs.declared.kinds.ActKind.TheVariants as kind
use Rattle.journal_text.specs.Fields.{flag_text, optional_text, place_text, ready_text, bytes_text, peer_text, shut_text, why_text, child_text}
use Rattle.journal_text.specs.Kinds.{kind_of, fields_of}
use Rattle.journal_text.specs.Lines.{words_of, body_of, line_of}
use Rattle.journal_text.specs.Ranges.{IsMoment, IsOptionalMoment, IsPlace, IsReady, IsBytes, IsPeer, IsChildEnd, IsAct}
use Rattle.journal_text.specs.Reading.{◌>>=◌, around_first, moment_in, optional_in, flag_in, place_in, ready_in, bytes_in, peer_in, shut_in, why_in, child_in, kind_text, all_kinds, kind_in, front_in, placed_in, turn_in, fields_in, act_in, line_in}
use Rattle.journal_text.proofs.ByteLemmas.{map_some, bind_some, find_some, same_bytes, around_is, is_over, is_over-weaken, is_over-joined, lacks-from_over, around_again, around_takes}
use Rattle.journal_text.proofs.NumberLemmas.{decimal_over, number_again, number_takes, optional_again, optional_takes, optional_over}
use Rattle.journal_text.proofs.PlaceLemmas.{place_again, place_takes, place_over, ready_again, ready_takes, ready_over}
use Rattle.journal_text.proofs.FieldLemmas.{flag_again, flag_takes, flag_over, bytes_again, bytes_take, bytes_over, peer_again, peer_takes, peer_over, shut_again, shut_takes, shut_over, why_again, why_takes, why_over, child_again, child_takes, child_over}

-- ---- a place and a further field

front_again : (p : Place) (rest : List ℕ) → IsPlace p → front_in (place_text p ++ 32 ∷ rest) ≡ Some (p, rest)
unfolding front_in
front_again p rest fits =
    rw (around_again 32 (place_text p) rest (lacks-from_over 32 44 (place_text p) (lit≤ tt) (place_over p fits)))
    (rw (place_again p fits) refl)

placed_again : {A : Type 0} (make : Place → A → Act) (field_in : List ℕ → Option A) (p : Place) (value : A) (field : List ℕ) → IsPlace p → field_in field ≡ Some value → placed_in make field_in (place_text p ++ 32 ∷ field) ≡ Some (make p value)
placed_again make field_in p value field fits e = rw (front_again p field fits) (rw e refl)

front_takes : (text : List ℕ) (front : Place × List ℕ) → front_in text ≡ Some front → (text ≡ place_text front.0 ++ 32 ∷ front.1) × IsPlace front.0
unfolding front_in
front_takes text front e =
    let a = bind_some (around_first 32 text) (λ parts. place_in parts.0 >>= λ place. Some (place, parts.1)) front e in
    let b = bind_some (place_in a.0.0) (λ place. Some (place, a.0.1)) front a.2 in
    let cut = around_takes 32 text a.0 a.1 in
    let p = place_takes a.0.0 b.0 b.1 in
    let made : Place × List ℕ = (b.0, a.0.1) in
    subst (λ (x : Place × List ℕ). (text ≡ place_text x.0 ++ 32 ∷ x.1) × IsPlace x.0) {x = made} (same_Some made front b.2) (cut ∙ ap (λ (t : List ℕ). t ++ 32 ∷ a.0.1) p.0, p.1)

-- ---- turns

turn_again : (until : Option ℕ) (at : ℕ) (ready : Listed) (stop : Bool) → IsOptionalMoment until → IsMoment at → IsReady ready.entries → turn_in (fields_of (act.Turn until at ready stop)) ≡ Some (copied_act (act.Turn until at ready stop))
unfolding turn_in
turn_again until at ready stop first second third =
    rw (around_again 32 (optional_text until) (decimal at ++ 32 ∷ (ready_text ready.entries ++ 32 ∷ flag_text stop)) (lacks-from_over 32 44 (optional_text until) (lit≤ tt) (optional_over until first)))
    (rw (optional_again until first)
    (rw (around_again 32 (decimal at) (ready_text ready.entries ++ 32 ∷ flag_text stop) (lacks-from_over 32 47 (decimal at) (lit≤ tt) (decimal_over at second)))
    (rw (number_again (2 ^ 64 - 1) at (lit< tt) (omega (arith, second)))
    (rw (around_again 32 (ready_text ready.entries) (flag_text stop) (lacks-from_over 32 43 (ready_text ready.entries) (lit≤ tt) (ready_over ready.entries third)))
    (rw (ready_again ready.entries third)
    (rw (flag_again stop) refl))))))

-- ---- what was read as the fields of a kind

pub record IsFieldsOf (k : ActKind) (text : List ℕ) (a : Act) : Type 0 where
  pub of_kind : kind_of a ≡ k
  pub fields : text ≡ fields_of a
  pub fits : IsAct a
  pub copied : copied_act a ≡ a

turn_takes : (text : List ℕ) (a : Act) → turn_in text ≡ Some a → IsFieldsOf kind.Turn text a
unfolding turn_in
turn_takes text a e =
    let first = bind_some (around_first 32 text) (λ first. optional_in first.0 >>= λ until. around_first 32 first.1 >>= λ second. moment_in second.0 >>= λ at. around_first 32 second.1 >>= λ third. ready_in third.0 >>= λ entries. flag_in third.1 >>= λ stop. Some (act.Turn until at (record { entries = entries; room = 0 }) stop)) a e in
    let until = bind_some (optional_in first.0.0) (λ until. around_first 32 first.0.1 >>= λ second. moment_in second.0 >>= λ at. around_first 32 second.1 >>= λ third. ready_in third.0 >>= λ entries. flag_in third.1 >>= λ stop. Some (act.Turn until at (record { entries = entries; room = 0 }) stop)) a first.2 in
    let second = bind_some (around_first 32 first.0.1) (λ second. moment_in second.0 >>= λ at. around_first 32 second.1 >>= λ third. ready_in third.0 >>= λ entries. flag_in third.1 >>= λ stop. Some (act.Turn until.0 at (record { entries = entries; room = 0 }) stop)) a until.2 in
    let at = bind_some (moment_in second.0.0) (λ at. around_first 32 second.0.1 >>= λ third. ready_in third.0 >>= λ entries. flag_in third.1 >>= λ stop. Some (act.Turn until.0 at (record { entries = entries; room = 0 }) stop)) a second.2 in
    let third = bind_some (around_first 32 second.0.1) (λ third. ready_in third.0 >>= λ entries. flag_in third.1 >>= λ stop. Some (act.Turn until.0 at.0 (record { entries = entries; room = 0 }) stop)) a at.2 in
    let entries = bind_some (ready_in third.0.0) (λ entries. flag_in third.0.1 >>= λ stop. Some (act.Turn until.0 at.0 (record { entries = entries; room = 0 }) stop)) a third.2 in
    let stop = bind_some (flag_in third.0.1) (λ stop. Some (act.Turn until.0 at.0 (record { entries = entries.0; room = 0 }) stop)) a entries.2 in
    let listed : Listed = record { entries = entries.0; room = 0 } in
    let made : Act = act.Turn until.0 at.0 listed stop.0 in
    let u = optional_takes first.0.0 until.0 until.1 in
    let n = number_takes (2 ^ 64 - 1) at.0 second.0.0 (lit< tt) at.1 in
    let r = ready_takes third.0.0 entries.0 entries.1 in
    let moment : IsMoment at.0 = omega (arith, n.1) in
    let spelt : text ≡ fields_of made =
    around_takes 32 text first.0 first.1
    ∙ around_is 32 _ _ _ _ u.0 (around_takes 32 first.0.1 second.0 second.1
    ∙ around_is 32 _ _ _ _ n.0 (around_takes 32 second.0.1 third.0 third.1
    ∙ around_is 32 _ _ _ _ r.0 (flag_takes third.0.1 stop.0 stop.1))) in
    subst (λ (x : Act). IsFieldsOf kind.Turn text x) {x = made} (same_Some made a stop.2) (record { of_kind = refl; fields = spelt; fits = (u.1, moment, r.1); copied = refl })

-- an act of a place alone
at_place : (k : ActKind) (make : Place → Act) (text : List ℕ) (a : Act) → ((p : Place) → IsPlace p → IsFieldsOf k (place_text p) (make p)) → option_map make (place_in text) ≡ Some a → IsFieldsOf k text a
at_place k make text a made e =
    let m = map_some make (place_in text) a e in
    let t = place_takes text m.0 m.1 in
    subst (λ (x : Act). IsFieldsOf k text x) m.2 (subst (λ (x : List ℕ). IsFieldsOf k x (make m.0)) (sym t.0) (made m.0 t.1))

-- an act of bytes alone
of_bytes : (k : ActKind) (make : List ℕ → Act) (text : List ℕ) (a : Act) → ((bytes : List ℕ) → IsBytes bytes → IsFieldsOf k (bytes_text bytes) (make bytes)) → option_map make (bytes_in text) ≡ Some a → IsFieldsOf k text a
of_bytes k make text a made e =
    let m = map_some make (bytes_in text) a e in
    let t = bytes_take text m.0 m.1 in
    subst (λ (x : Act). IsFieldsOf k text x) m.2 (subst (λ (x : List ℕ). IsFieldsOf k x (make m.0)) (sym t.0) (made m.0 t.1))

-- an act of a place and a further field
with_field : {A : Type 0} (Fits : A → Type 0) (spelling : A → List ℕ) (k : ActKind) (make : Place → A → Act) (field_in : List ℕ → Option A) (takes : (field : List ℕ) (value : A) → field_in field ≡ Some value → (field ≡ spelling value) × Fits value) (text : List ℕ) (a : Act) → ((p : Place) (value : A) → IsPlace p → Fits value → IsFieldsOf k (place_text p ++ 32 ∷ spelling value) (make p value)) → placed_in make field_in text ≡ Some a → IsFieldsOf k text a
with_field Fits spelling k make field_in takes text a made e =
    let f = bind_some (front_in text) (λ front. field_in front.1 >>= λ value. Some (make front.0 value)) a e in
    let v = bind_some (field_in f.0.1) (λ value. Some (make f.0.0 value)) a f.2 in
    let front = front_takes text f.0 f.1 in
    let field = takes f.0.1 v.0 v.1 in
    let spelt : text ≡ place_text f.0.0 ++ 32 ∷ spelling v.0 = front.0 ∙ ap (λ (t : List ℕ). place_text f.0.0 ++ 32 ∷ t) field.0 in
    subst (λ (x : Act). IsFieldsOf k text x) {x = make f.0.0 v.0} (same_Some (make f.0.0 v.0) a v.2) (subst (λ (x : List ℕ). IsFieldsOf k x (make f.0.0 v.0)) (sym spelt) (made f.0.0 v.0 front.1 field.1))

abbrev Always : {A : Type 0} → A → Type 0
Always value = Unit {0}

pub fields_again : (a : Act) → IsAct a → fields_in (kind_of a) (fields_of a) ≡ Some (copied_act a)
unfolding fields_in
fields_again (act.Turn until at ready stop) fits = turn_again until at ready stop fits.0 fits.1 fits.2
fields_again (act.Opened p) fits = ap (option_map act.Opened) (place_again p fits)
fields_again (act.OpenLater p) fits = ap (option_map act.OpenLater) (place_again p fits)
fields_again (act.OpenFailed p) fits = ap (option_map act.OpenFailed) (place_again p fits)
fields_again (act.Listening p) fits = ap (option_map act.Listening) (place_again p fits)
fields_again (act.ListenFailed p) fits = ap (option_map act.ListenFailed) (place_again p fits)
fields_again (act.Accepted p peer) fits = placed_again act.Accepted peer_in p peer (peer_text peer) fits.0 (peer_again peer fits.1)
fields_again (act.NoPeer p) fits = ap (option_map act.NoPeer) (place_again p fits)
fields_again (act.AcceptFailed p) fits = ap (option_map act.AcceptFailed) (place_again p fits)
fields_again (act.Read p bytes) fits = placed_again act.Read bytes_in p bytes (bytes_text bytes) fits.0 (bytes_again bytes fits.1)
fields_again (act.ReadEmpty p) fits = ap (option_map act.ReadEmpty) (place_again p fits)
fields_again (act.ReadEnd p) fits = ap (option_map act.ReadEnd) (place_again p fits)
fields_again (act.ReadNotYet p) fits = ap (option_map act.ReadNotYet) (place_again p fits)
fields_again (act.ReadFault p) fits = ap (option_map act.ReadFault) (place_again p fits)
fields_again (act.Wrote p bytes) fits = placed_again act.Wrote bytes_in p bytes (bytes_text bytes) fits.0 (bytes_again bytes fits.1)
fields_again (act.WriteNotYet p) fits = ap (option_map act.WriteNotYet) (place_again p fits)
fields_again (act.WriteFault p) fits = ap (option_map act.WriteFault) (place_again p fits)
fields_again (act.Shut p how) fits = placed_again act.Shut shut_in p how (shut_text how) fits (shut_again how)
fields_again (act.ShutFault p how) fits = placed_again act.ShutFault shut_in p how (shut_text how) fits (shut_again how)
fields_again (act.Closed p why) fits = placed_again act.Closed why_in p why (why_text why) fits (why_again why)
fields_again (act.Reaped p end) fits = placed_again act.Reaped child_in p end (child_text end) fits.0 (child_again end fits.1)
fields_again (act.Note bytes) fits = ap (option_map act.Note) (bytes_again bytes fits)
fields_again (act.NoteFault bytes) fits = ap (option_map act.NoteFault) (bytes_again bytes fits)

pub fields_take : (k : ActKind) (text : List ℕ) (a : Act) → fields_in k text ≡ Some a → IsFieldsOf k text a
unfolding fields_in
fields_take kind.Turn text a e = turn_takes text a e
fields_take kind.Opened text a e = at_place kind.Opened act.Opened text a (λ p fits. record { of_kind = refl; fields = refl; fits = fits; copied = refl }) e
fields_take kind.OpenLater text a e = at_place kind.OpenLater act.OpenLater text a (λ p fits. record { of_kind = refl; fields = refl; fits = fits; copied = refl }) e
fields_take kind.OpenFailed text a e = at_place kind.OpenFailed act.OpenFailed text a (λ p fits. record { of_kind = refl; fields = refl; fits = fits; copied = refl }) e
fields_take kind.Listening text a e = at_place kind.Listening act.Listening text a (λ p fits. record { of_kind = refl; fields = refl; fits = fits; copied = refl }) e
fields_take kind.ListenFailed text a e = at_place kind.ListenFailed act.ListenFailed text a (λ p fits. record { of_kind = refl; fields = refl; fits = fits; copied = refl }) e
fields_take kind.Accepted text a e = with_field IsPeer peer_text kind.Accepted act.Accepted peer_in peer_takes text a (λ p value at fits. record { of_kind = refl; fields = refl; fits = (at, fits); copied = refl }) e
fields_take kind.NoPeer text a e = at_place kind.NoPeer act.NoPeer text a (λ p fits. record { of_kind = refl; fields = refl; fits = fits; copied = refl }) e
fields_take kind.AcceptFailed text a e = at_place kind.AcceptFailed act.AcceptFailed text a (λ p fits. record { of_kind = refl; fields = refl; fits = fits; copied = refl }) e
fields_take kind.Read text a e = with_field IsBytes bytes_text kind.Read act.Read bytes_in bytes_take text a (λ p value at fits. record { of_kind = refl; fields = refl; fits = (at, fits); copied = refl }) e
fields_take kind.ReadEmpty text a e = at_place kind.ReadEmpty act.ReadEmpty text a (λ p fits. record { of_kind = refl; fields = refl; fits = fits; copied = refl }) e
fields_take kind.ReadEnd text a e = at_place kind.ReadEnd act.ReadEnd text a (λ p fits. record { of_kind = refl; fields = refl; fits = fits; copied = refl }) e
fields_take kind.ReadNotYet text a e = at_place kind.ReadNotYet act.ReadNotYet text a (λ p fits. record { of_kind = refl; fields = refl; fits = fits; copied = refl }) e
fields_take kind.ReadFault text a e = at_place kind.ReadFault act.ReadFault text a (λ p fits. record { of_kind = refl; fields = refl; fits = fits; copied = refl }) e
fields_take kind.Wrote text a e = with_field IsBytes bytes_text kind.Wrote act.Wrote bytes_in bytes_take text a (λ p value at fits. record { of_kind = refl; fields = refl; fits = (at, fits); copied = refl }) e
fields_take kind.WriteNotYet text a e = at_place kind.WriteNotYet act.WriteNotYet text a (λ p fits. record { of_kind = refl; fields = refl; fits = fits; copied = refl }) e
fields_take kind.WriteFault text a e = at_place kind.WriteFault act.WriteFault text a (λ p fits. record { of_kind = refl; fields = refl; fits = fits; copied = refl }) e
fields_take kind.Shut text a e = with_field Always shut_text kind.Shut act.Shut shut_in (λ field value read. (shut_takes field value read, tt)) text a (λ p value at fits. record { of_kind = refl; fields = refl; fits = at; copied = refl }) e
fields_take kind.ShutFault text a e = with_field Always shut_text kind.ShutFault act.ShutFault shut_in (λ field value read. (shut_takes field value read, tt)) text a (λ p value at fits. record { of_kind = refl; fields = refl; fits = at; copied = refl }) e
fields_take kind.Closed text a e = with_field Always why_text kind.Closed act.Closed why_in (λ field value read. (why_takes field value read, tt)) text a (λ p value at fits. record { of_kind = refl; fields = refl; fits = at; copied = refl }) e
fields_take kind.Reaped text a e = with_field IsChildEnd child_text kind.Reaped act.Reaped child_in child_takes text a (λ p value at fits. record { of_kind = refl; fields = refl; fits = (at, fits); copied = refl }) e
fields_take kind.Note text a e = of_bytes kind.Note act.Note text a (λ bytes fits. record { of_kind = refl; fields = refl; fits = fits; copied = refl }) e
fields_take kind.NoteFault text a e = of_bytes kind.NoteFault act.NoteFault text a (λ bytes fits. record { of_kind = refl; fields = refl; fits = fits; copied = refl }) e

-- ---- words

kind_again : (k : ActKind) → kind_in (kind_text k) ≡ Some k
unfolding kind_in
kind_again kind.Turn = refl
kind_again kind.Opened = refl
kind_again kind.OpenLater = refl
kind_again kind.OpenFailed = refl
kind_again kind.Listening = refl
kind_again kind.ListenFailed = refl
kind_again kind.Accepted = refl
kind_again kind.NoPeer = refl
kind_again kind.AcceptFailed = refl
kind_again kind.Read = refl
kind_again kind.ReadEmpty = refl
kind_again kind.ReadEnd = refl
kind_again kind.ReadNotYet = refl
kind_again kind.ReadFault = refl
kind_again kind.Wrote = refl
kind_again kind.WriteNotYet = refl
kind_again kind.WriteFault = refl
kind_again kind.Shut = refl
kind_again kind.ShutFault = refl
kind_again kind.Closed = refl
kind_again kind.Reaped = refl
kind_again kind.Note = refl
kind_again kind.NoteFault = refl

kind_takes : (word : List ℕ) (k : ActKind) → kind_in word ≡ Some k → word ≡ kind_text k
unfolding kind_in
kind_takes word k e = sym (same_bytes (kind_text k) word (find_some (λ x. bytes_eq (kind_text x) word) all_kinds k e))

kind_over : (k : ActKind) → is_over 32 (kind_text k) ≡ true
kind_over kind.Turn = refl
kind_over kind.Opened = refl
kind_over kind.OpenLater = refl
kind_over kind.OpenFailed = refl
kind_over kind.Listening = refl
kind_over kind.ListenFailed = refl
kind_over kind.Accepted = refl
kind_over kind.NoPeer = refl
kind_over kind.AcceptFailed = refl
kind_over kind.Read = refl
kind_over kind.ReadEmpty = refl
kind_over kind.ReadEnd = refl
kind_over kind.ReadNotYet = refl
kind_over kind.ReadFault = refl
kind_over kind.Wrote = refl
kind_over kind.WriteNotYet = refl
kind_over kind.WriteFault = refl
kind_over kind.Shut = refl
kind_over kind.ShutFault = refl
kind_over kind.Closed = refl
kind_over kind.Reaped = refl
kind_over kind.Note = refl
kind_over kind.NoteFault = refl

body_is : (a : Act) → body_of a ≡ kind_text (kind_of a) ++ 32 ∷ fields_of a
body_is (act.Turn until at ready stop) = refl
body_is (act.Opened p) = refl
body_is (act.OpenLater p) = refl
body_is (act.OpenFailed p) = refl
body_is (act.Listening p) = refl
body_is (act.ListenFailed p) = refl
body_is (act.Accepted p peer) = refl
body_is (act.NoPeer p) = refl
body_is (act.AcceptFailed p) = refl
body_is (act.Read p bytes) = refl
body_is (act.ReadEmpty p) = refl
body_is (act.ReadEnd p) = refl
body_is (act.ReadNotYet p) = refl
body_is (act.ReadFault p) = refl
body_is (act.Wrote p bytes) = refl
body_is (act.WriteNotYet p) = refl
body_is (act.WriteFault p) = refl
body_is (act.Shut p how) = refl
body_is (act.ShutFault p how) = refl
body_is (act.Closed p why) = refl
body_is (act.Reaped p end) = refl
body_is (act.Note bytes) = refl
body_is (act.NoteFault bytes) = refl

-- ---- lines

pub act_again : (a : Act) → IsAct a → act_in (body_of a) ≡ Some (copied_act a)
unfolding act_in
act_again a fits =
    ap act_in (body_is a)
    ∙ rw (around_again 32 (kind_text (kind_of a)) (fields_of a) (lacks-from_over 32 32 (kind_text (kind_of a)) (lit≤ tt) (kind_over (kind_of a))))
    (rw (kind_again (kind_of a)) (fields_again a fits))

-- what was read of a line
pub record IsBodyOf (text : List ℕ) (a : Act) : Type 0 where
  pub body : text ≡ body_of a
  pub fits : IsAct a
  pub copied : copied_act a ≡ a

pub act_takes : (text : List ℕ) (a : Act) → act_in text ≡ Some a → IsBodyOf text a
unfolding act_in
act_takes text a e =
    let parts = bind_some (around_first 32 text) (λ parts. kind_in parts.0 >>= λ k. fields_in k parts.1) a e in
    let k = bind_some (kind_in parts.0.0) (λ k. fields_in k parts.0.1) a parts.2 in
    let f = fields_take k.0 parts.0.1 a k.2 in
    let word : parts.0.0 ≡ kind_text (kind_of a) = kind_takes parts.0.0 k.0 k.1 ∙ ap kind_text (sym f.of_kind) in
    record {
      body = around_takes 32 text parts.0 parts.1 ∙ around_is 32 _ _ _ _ word f.fields ∙ sym (body_is a);
      fits = f.fits;
      copied = f.copied;
    }

-- ---- no newline stands in a line but at its end

over31 : (k : ℕ) (text : List ℕ) → 31 ≤ k → is_over k text ≡ true → is_over 31 text ≡ true
over31 k text le h = is_over-weaken 31 k text le h

abbrev AllOver : List (List ℕ) → Type 0
AllOver words = AllByRecursion (λ word. is_over 31 word ≡ true) words

words_over : (a : Act) → IsAct a → AllOver (words_of a)
words_over (act.Turn until at ready stop) fits =
    (refl, (over31 44 (optional_text until) (lit≤ tt) (optional_over until fits.0), (over31 47 (decimal at) (lit≤ tt) (decimal_over at fits.1), (over31 43 (ready_text ready.entries) (lit≤ tt) (ready_over ready.entries fits.2), (over31 43 (flag_text stop) (lit≤ tt) (flag_over stop), tt)))))
words_over (act.Opened p) fits = (refl, (over31 44 (place_text p) (lit≤ tt) (place_over p fits), tt))
words_over (act.OpenLater p) fits = (refl, (over31 44 (place_text p) (lit≤ tt) (place_over p fits), tt))
words_over (act.OpenFailed p) fits = (refl, (over31 44 (place_text p) (lit≤ tt) (place_over p fits), tt))
words_over (act.Listening p) fits = (refl, (over31 44 (place_text p) (lit≤ tt) (place_over p fits), tt))
words_over (act.ListenFailed p) fits = (refl, (over31 44 (place_text p) (lit≤ tt) (place_over p fits), tt))
words_over (act.Accepted p peer) fits = (refl, (over31 44 (place_text p) (lit≤ tt) (place_over p fits.0), (over31 43 (peer_text peer) (lit≤ tt) (peer_over peer fits.1), tt)))
words_over (act.NoPeer p) fits = (refl, (over31 44 (place_text p) (lit≤ tt) (place_over p fits), tt))
words_over (act.AcceptFailed p) fits = (refl, (over31 44 (place_text p) (lit≤ tt) (place_over p fits), tt))
words_over (act.Read p bytes) fits = (refl, (over31 44 (place_text p) (lit≤ tt) (place_over p fits.0), (over31 43 (bytes_text bytes) (lit≤ tt) (bytes_over bytes fits.1), tt)))
words_over (act.ReadEmpty p) fits = (refl, (over31 44 (place_text p) (lit≤ tt) (place_over p fits), tt))
words_over (act.ReadEnd p) fits = (refl, (over31 44 (place_text p) (lit≤ tt) (place_over p fits), tt))
words_over (act.ReadNotYet p) fits = (refl, (over31 44 (place_text p) (lit≤ tt) (place_over p fits), tt))
words_over (act.ReadFault p) fits = (refl, (over31 44 (place_text p) (lit≤ tt) (place_over p fits), tt))
words_over (act.Wrote p bytes) fits = (refl, (over31 44 (place_text p) (lit≤ tt) (place_over p fits.0), (over31 43 (bytes_text bytes) (lit≤ tt) (bytes_over bytes fits.1), tt)))
words_over (act.WriteNotYet p) fits = (refl, (over31 44 (place_text p) (lit≤ tt) (place_over p fits), tt))
words_over (act.WriteFault p) fits = (refl, (over31 44 (place_text p) (lit≤ tt) (place_over p fits), tt))
words_over (act.Shut p how) fits = (refl, (over31 44 (place_text p) (lit≤ tt) (place_over p fits), (over31 43 (shut_text how) (lit≤ tt) (shut_over how), tt)))
words_over (act.ShutFault p how) fits = (refl, (over31 44 (place_text p) (lit≤ tt) (place_over p fits), (over31 43 (shut_text how) (lit≤ tt) (shut_over how), tt)))
words_over (act.Closed p why) fits = (refl, (over31 44 (place_text p) (lit≤ tt) (place_over p fits), (over31 43 (why_text why) (lit≤ tt) (why_over why), tt)))
words_over (act.Reaped p end) fits = (refl, (over31 44 (place_text p) (lit≤ tt) (place_over p fits.0), (child_over end fits.1, tt)))
words_over (act.Note bytes) fits = (refl, (over31 43 (bytes_text bytes) (lit≤ tt) (bytes_over bytes fits), tt))
words_over (act.NoteFault bytes) fits = (refl, (over31 43 (bytes_text bytes) (lit≤ tt) (bytes_over bytes fits), tt))

body_over : (a : Act) → IsAct a → is_over 31 (body_of a) ≡ true
body_over a fits = is_over-joined 31 32 (words_of a) (lit< tt) (words_over a fits)

pub line_again : (a : Act) (rest : List ℕ) → IsAct a → line_in (line_of a ++ rest) ≡ Some (copied_act a, rest)
unfolding line_in
line_again a rest fits =
    ap line_in (append_assoc (body_of a) (10 ∷ []) rest)
    ∙ rw (around_again 10 (body_of a) rest (lacks-from_over 10 31 (body_of a) (lit≤ tt) (body_over a fits)))
    (rw (act_again a fits) refl)

-- what was read of a text's first line
pub record IsLineOf (text : List ℕ) (a : Act) (rest : List ℕ) : Type 0 where
  pub line : text ≡ line_of a ++ rest
  pub fits : IsAct a
  pub copied : copied_act a ≡ a

pub line_takes : (text : List ℕ) (a : Act) (rest : List ℕ) → line_in text ≡ Some (a, rest) → IsLineOf text a rest
unfolding line_in
line_takes text a rest e =
    let parts = bind_some (around_first 10 text) (λ parts. act_in parts.0 >>= λ x. Some (x, parts.1)) (a, rest) e in
    let x = bind_some (act_in parts.0.0) (λ x. Some (x, parts.0.1)) (a, rest) parts.2 in
    let t = act_takes parts.0.0 x.0 x.1 in
    let cut = around_takes 10 text parts.0 parts.1 in
    let spelt : text ≡ line_of x.0 ++ parts.0.1 = cut ∙ ap (λ (b : List ℕ). b ++ 10 ∷ parts.0.1) t.body ∙ sym (append_assoc (body_of x.0) (10 ∷ []) parts.0.1) in
    let made : Act × List ℕ = (x.0, parts.0.1) in
    subst (λ (y : Act × List ℕ). IsLineOf text y.0 y.1) {x = made} (same_Some made (a, rest) x.2) (record { line = spelt; fits = t.fits; copied = t.copied })
