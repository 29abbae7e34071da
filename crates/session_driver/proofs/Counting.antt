-- What a dump is owed of, and what a dumper has counted.
use Rattle.std.proofs.Common.{◌≡◌, ◌≢◌, refl, sym, ap, subst, ◌∙◌, ℕ, ◌+◌, ◌-◌, ◌^◌, min, Bool, true, false, List, ◌∷◌, ◌++◌, length, length-append, Some, None, arith}
use Rattle.std.proofs.lemmas.Bool.{true≢false, false_from_ne_true}
use Rattle.relay_model.specs.declared.places.Place.{Place}
use Rattle.relay_model.specs.declared.places.Side.{Side}
use Rattle.relay_model.specs.declared.places.Side.TheVariants.{Left, Right}
use Rattle.relay_model.specs.declared.commands.Config.{Config}
use Rattle.relay_model.specs.declared.commands.Dump.{Dump}
use Rattle.relay_model.specs.declared.commands.Dump.TheVariants as dumps
use Rattle.relay_model.specs.declared.acts.Act.{Act}
use Rattle.relay_model.specs.declared.acts.Act.TheVariants as acts
use Rattle.relay_model.specs.Places.{same_place}
use Rattle.relay_model.specs.Choices.{joined}
use Rattle.relay_model.specs.Configs.{input, way_from}
use Rattle.relay_model.specs.Dumps.{dump_of}
use Rattle.relay_model.specs.History.{got}
use Rattle.relay_model.specs.Rest.{owed}
use Rattle.relay_model.specs.Frames.{reads_bytes}
use Rattle.relay_laws.proofs.PlaceLemmas.{same_place_equal, same_place_self}
use Rattle.relay_session.specs.declared.sessions.Session.{Session}
use Rattle.relay_session.specs.Sessions.{Stands}
use Rattle.world_trait.specs.Seen.{Seen}
use Rattle.session_driver.specs.Steps.{Acts}
use Rattle.session_driver.specs.Noted.{note_of}
use Rattle.session_driver.specs.Dumpers.{Counted, Counts, IsDumpSettled, counted_at, counted_after}
use Rattle.session_driver.specs.declared.dumpers.Dumper.{Dumper}

-- ---- what is owed

pub unread_owes : (c : Config) (act : Act) (past : List Act) → reads_bytes act ≡ false → owed c (act ∷ past) ≡ None
unread_owes c (acts.Read p bytes) past e = absurd (true≢false e)
unread_owes c act past e = refl

pub unread_got : (act : Act) (past : List Act) (p : Place) → reads_bytes act ≡ false → got (act ∷ past) p ≡ got past p
unread_got (acts.Read q bytes) past p e = absurd (true≢false e)
unread_got act past p e = refl

undumped_owes : (c : Config) (past : List Act) → c.dump ≡ dumps.Off → owed c past ≡ None
undumped_owes c (acts.Read p bytes ∷ past) e = rw e refl
undumped_owes c past e = refl

-- a read owes the dump of its bytes
pub read_owes : (c : Config) (past : List Act) (p : Place) (bytes : List ℕ) → c.dump ≢ dumps.Off → owed c (acts.Read p bytes ∷ past) ≡ Some (dump_of c.dump (way_from p.side) (min (length (got past p)) (2 ^ 64 - 1)) bytes)
read_owes c past p bytes dumped = go c.dump refl
  where
    go : (d : Dump) → c.dump ≡ d → owed c (acts.Read p bytes ∷ past) ≡ Some (dump_of c.dump (way_from p.side) (min (length (got past p)) (2 ^ 64 - 1)) bytes)
    go dumps.Off e = absurd (dumped e)
    go dumps.Text e = rw e refl
    go dumps.Hex e = rw e refl
    go dumps.Mixed e = rw e refl

-- ---- what is counted

pub settled_undumped : (c : Config) (past : List Act) (s : ℕ) (dumper : Dumper) → c.dump ≡ dumps.Off → IsDumpSettled c past s dumper
settled_undumped c past s dumper e = record { unowed = undumped_owes c past e; counted = λ dumped. absurd (dumped e) }

pub settled_on : (c : Config) (act : Act) (past : List Act) (s : ℕ) (dumper dumper' : Dumper) → reads_bytes act ≡ false → dumper' ≡ dumper → Counted c past s dumper → IsDumpSettled c (act ∷ past) s dumper'
settled_on c act past s dumper dumper' e d counted =
    record {
      unowed = unread_owes c act past e;
      counted = λ dumped side.
          ap (λ x. counted_at x side) d ∙ counted dumped side ∙ sym (ap (λ x. min (length x) (2 ^ 64 - 1)) (unread_got act past (input c s (way_from side)) e));
    }

raised_by : (count n : ℕ) (before bytes : List ℕ) → count ≡ min (length before) (2 ^ 64 - 1) → n ≡ length bytes → min (count + n) (2 ^ 64 - 1) ≡ min (length (before ++ bytes)) (2 ^ 64 - 1)
raised_by count n before bytes e f = let g : length (before ++ bytes) ≡ length before + length bytes = length-append before bytes in omega (arith, e, f, g)

counted_here : (p q : Place) (count : ℕ) (past : List Act) (bytes : List ℕ) → same_place p q ≡ true → count ≡ min (length (got past q)) (2 ^ 64 - 1) → min (count + length bytes) (2 ^ 64 - 1) ≡ min (length (got (acts.Read p bytes ∷ past) q)) (2 ^ 64 - 1)
counted_here p q count past bytes s e = raised_by count (length bytes) (got past q) bytes e refl ∙ sym (ap (λ b. min (length (joined b (got past q) bytes)) (2 ^ 64 - 1)) s)

counted_there : (p q : Place) (count : ℕ) (past : List Act) (bytes : List ℕ) → same_place p q ≡ false → count ≡ min (length (got past q)) (2 ^ 64 - 1) → count ≡ min (length (got (acts.Read p bytes ∷ past) q)) (2 ^ 64 - 1)
counted_there p q count past bytes s e = e ∙ sym (ap (λ b. min (length (joined b (got past q) bytes)) (2 ^ 64 - 1)) s)

apart : (p q : Place) → (p.side ≡ q.side → ⊥) → same_place p q ≡ false
apart p q other = false_from_ne_true (same_place p q) (λ e. other (ap (λ x. x.side) (same_place_equal p q e)))

-- after a read at an input of the session its bytes are counted too
pub counted_more : (c : Config) (past : List Act) (s : ℕ) (p : Place) (bytes : List ℕ) (dumper dumper' : Dumper) → p.session ≡ s → same_place p (input c p.session (way_from p.side)) ≡ true → Counts p.side (length bytes) dumper dumper' → Counted c past s dumper → Counted c (acts.Read p bytes ∷ past) s dumper'
counted_more c past s p bytes dumper dumper' first at counts counted dumped side =
    counts side ∙ go p.side side refl (counted dumped Left) (counted dumped Right)
  where
    here : same_place p (input c s (way_from p.side)) ≡ true
    here = subst (λ (t : ℕ). same_place p (input c t (way_from p.side)) ≡ true) first at

    go : (one side : Side) → p.side ≡ one → dumper.left ≡ min (length (got past (input c s (way_from Left)))) (2 ^ 64 - 1) → dumper.right ≡ min (length (got past (input c s (way_from Right)))) (2 ^ 64 - 1) → counted_after one (length bytes) dumper side ≡ min (length (got (acts.Read p bytes ∷ past) (input c s (way_from side)))) (2 ^ 64 - 1)
    go Left Left e l r = counted_here p (input c s (way_from Left)) dumper.left past bytes (subst (λ (x : Side). same_place p (input c s (way_from x)) ≡ true) e here) l
    go Left Right e l r = counted_there p (input c s (way_from Right)) dumper.right past bytes (apart p (input c s (way_from Right)) (λ h. let x : Left ≡ Right = sym e ∙ h in cc)) r
    go Right Left e l r = counted_there p (input c s (way_from Left)) dumper.left past bytes (apart p (input c s (way_from Left)) (λ h. let x : Right ≡ Left = sym e ∙ h in cc)) l
    go Right Right e l r = counted_here p (input c s (way_from Right)) dumper.right past bytes (subst (λ (x : Side). same_place p (input c s (way_from x)) ≡ true) e here) r

-- what the dumper counted before a read at an input is what was read there
pub counted_before : (c : Config) (past : List Act) (s : ℕ) (p : Place) (dumper : Dumper) → p.session ≡ s → same_place p (input c p.session (way_from p.side)) ≡ true → c.dump ≢ dumps.Off → Counted c past s dumper → counted_at dumper p.side ≡ min (length (got past p)) (2 ^ 64 - 1)
counted_before c past s p dumper first at dumped counted =
    let same : p ≡ input c s (way_from p.side) = same_place_equal p (input c s (way_from p.side)) (subst (λ (t : ℕ). same_place p (input c t (way_from p.side)) ≡ true) first at) in
    counted dumped p.side ∙ ap (λ q. min (length (got past q)) (2 ^ 64 - 1)) (sym same)

-- ---- a read that is dumped

-- what a read at an input of the session was
pub record ReadAt (c : Config) (s : ℕ) (p : Place) : Type 0 where
  pub first : p.session ≡ s
  pub at : same_place p (input c p.session (way_from p.side)) ≡ true

pub read_at : (c : Config) (n : ℕ) (old between : Seen) (s : ℕ) (x heard : Session) (past : List Act) (p : Place) (bytes : List ℕ) → owed c past ≡ None → Stands c n past s x → Acts c old between x heard (acts.Read p bytes) → ReadAt c s p
read_at c n old between s x heard past p bytes unowed st a =
    record { first = ((a.here n past s st).own p (same_place_self p)).0; at = ((a.heard n past s st).may unowed).1.asks.is_input }

pub owes_by : (c : Config) (past : List Act) (s : ℕ) (p : Place) (bytes : List ℕ) (dumper : Dumper) → c.dump ≢ dumps.Off → ReadAt c s p → Counted c past s dumper → owed c (acts.Read p bytes ∷ past) ≡ Some (dump_of c.dump (way_from p.side) (counted_at dumper p.side) bytes)
owes_by c past s p bytes dumper dumped at counted =
    read_owes c past p bytes dumped ∙ ap (λ (k : ℕ). Some (dump_of c.dump (way_from p.side) k bytes)) (sym (counted_before c past s p dumper at.first at.at dumped counted))

pub note_unread : (failed : Bool) (text : List ℕ) → reads_bytes (note_of failed text) ≡ false
note_unread false text = refl
note_unread true text = refl
