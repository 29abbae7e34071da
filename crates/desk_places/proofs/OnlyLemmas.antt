-- What a turn names and nothing else: halves whose key was named, and disarmed ones whose port hints so.
use Rattle.std.proofs.Common.{◌≡◌, inl, inr, ℕ, Bool, true, false, List, [], ◌∷◌, ◌++◌, slice_get, Option, Some, None, IfSome, sym, ap, subst, ◌∙◌}
use Rattle.std.specs.Bool.{OnTrue, OnFalse}
use Rattle.slab.specs.Slab.{SameValues}
use Rattle.relay_model.specs.declared.places.Place.{Place}
use Rattle.relay_model.specs.declared.places.Half.{Half}
use Rattle.relay_model.specs.declared.places.Half.TheVariants.{ToRead, ToWrite}
use Rattle.relay_model.specs.declared.readiness.ReadyAt.{ReadyAt}
use Rattle.relay_model.specs.Readiness.{Listed}
use Rattle.port_trait.specs.declared.answers.Hint.{Hint}
use Rattle.port_table.specs.PortTables.{PortId, SameStreams, giving_port, taking_port}
use Rattle.port_table.specs.Ports.{StreamSeen}
use Rattle.port_table.specs.declared.table.PortTable.{PortTable}
use Rattle.desk_places.specs.declared.ports.Ports.{Ports}
use Rattle.desk_places.specs.declared.places.PlaceEntry.{PlaceEntry}
use Rattle.desk_places.specs.PlaceTables.{half_disarmed, entry_at}
use Rattle.desk_places.specs.Naming.{IsDue, IsKeyed, MayHint, NamesMore, NamesOnly, SamePorts, WaitsIdle, half_port, is_hinted, told_by}
use Rattle.desk_places.proofs.NamingLemmas.{grown_then}
use Rattle.desk_places.proofs.TurnLemmas.{told_same}

only_last : (keys : List (ℕ × Half)) (told : PortId → Option Hint) (places : List PlaceEntry) (xs : List ReadyAt) (e : ReadyAt) → IsDue keys told places e.place e.half → NamesOnly keys told places xs → NamesOnly keys told places (xs ++ e ∷ [])
only_last keys told places [] e due only = (due, tt)
only_last keys told places (x ∷ xs) e due only = (only.0, only_last keys told places xs e due only.1)

-- one more entry, full or not
pub push_only : (b : Bool) (old new : Listed) (e : ReadyAt) → OnTrue b (new ≡ record old { entries = old.entries ++ e ∷ [] }) → OnFalse b (new ≡ old) → (keys : List (ℕ × Half)) (told : PortId → Option Hint) (places : List PlaceEntry) → IsDue keys told places e.place e.half → NamesOnly keys told places old.entries → NamesOnly keys told places new.entries
push_only true old new e pushed refused keys told places due only = rw pushed (only_last keys told places old.entries e due only)
push_only false old new e pushed refused keys told places due only = rw refused only

-- the first entry of a list
pub first_due : (keys : List (ℕ × Half)) (told : PortId → Option Hint) (places : List PlaceEntry) (entries : List ReadyAt) (e : ReadyAt) → NamesOnly keys told places entries → slice_get entries 0 ≡ Some e → IsDue keys told places e.place e.half
first_due keys told places [] e only first = absurd cc
first_due keys told places (x ∷ xs) e only first = let same : x ≡ e = cc in subst (λ (it : ReadyAt). IsDue keys told places it.place it.half) same only.0

-- an empty list names nothing else
pub only_none : (keys : List (ℕ × Half)) (told : PortId → Option Hint) (places : List PlaceEntry) (entries : List ReadyAt) → entries ≡ [] → NamesOnly keys told places entries
only_none keys told places entries none = subst (λ xs. NamesOnly keys told places xs) (sym none) tt

may_read : (slot : Option Hint) (hint : Hint) → IfSome slot (λ told. hint.readable ≡ told.readable) → hint.readable ≡ true → IfSome slot (λ told. told.readable ≡ true)
may_read None hint same is = tt
may_read (Some told) hint same is = sym same ∙ is

may_write : (slot : Option Hint) (hint : Hint) → IfSome slot (λ told. hint.writable ≡ told.writable) → hint.writable ≡ true → IfSome slot (λ told. told.writable ≡ true)
may_write None hint same is = tt
may_write (Some told) hint same is = sym same ∙ is

-- a half that the hint of its port finds ready
pub entry_due : (keys : List (ℕ × Half)) (told : PortId → Option Hint) (places : List PlaceEntry) (entry : PlaceEntry) (hint : Hint) → entry_at places entry.place ≡ Some entry → IfSome (told (giving_port entry.base)) (λ h. hint.readable ≡ h.readable) → IfSome (told (taking_port entry.base)) (λ h. hint.writable ≡ h.writable) → (half : Half) → half_disarmed half (Some entry) ≡ true → is_hinted half hint ≡ true → IsDue keys told places entry.place half
entry_due keys told places entry hint here reading writing ToRead off is = inr (subst (λ slot. MayHint told slot ToRead) (sym here) (off, may_read (told (giving_port entry.base)) hint reading is))
entry_due keys told places entry hint here reading writing ToWrite off is = inr (subst (λ slot. MayHint told slot ToWrite) (sym here) (off, may_write (told (taking_port entry.base)) hint writing is))

may_as : (told told' : PortId → Option Hint) (slot : Option PlaceEntry) (half : Half) → ((id : PortId) → told' id ≡ told id) → MayHint told' slot half → MayHint told slot half
may_as told told' None half same may = may
may_as told told' (Some entry) half same may = (may.0, subst (λ o. IfSome o (λ hint. is_hinted half hint ≡ true)) (same (half_port half entry.base)) may.1)

due_as : (keys : List (ℕ × Half)) (told told' : PortId → Option Hint) (places : List PlaceEntry) (p : Place) (half : Half) → ((id : PortId) → told' id ≡ told id) → IsDue keys told' places p half → IsDue keys told places p half
due_as keys told told' places p half same (inl keyed) = inl keyed
due_as keys told told' places p half same (inr may) = inr (may_as told told' (entry_at places p) half same may)

-- ports that tell the same hints
pub only_as : (keys : List (ℕ × Half)) (told told' : PortId → Option Hint) (places : List PlaceEntry) (xs : List ReadyAt) → ((id : PortId) → told' id ≡ told id) → NamesOnly keys told' places xs → NamesOnly keys told places xs
only_as keys told told' places [] same only = tt
only_as keys told told' places (x ∷ xs) same only = (due_as keys told told' places x.place x.half same only.0, only_as keys told told' places xs same only.1)

-- a table whose ports tell what they told
pub told_still : {T I O E : Type 0} (a b : PortTable T I O E) → SameStreams a b → SameValues a.made b.made → (id : PortId) → told_by b id ≡ told_by a id
told_still a b same made =
    told_same a.input.port.hints a.output.port.hints a.errors.port.hints b.input.port.hints b.output.port.hints b.errors.port.hints a.made b.made
    (ap (λ (s : StreamSeen). s.port.hints) same.input) (ap (λ (s : StreamSeen). s.port.hints) same.output) (ap (λ (s : StreamSeen). s.port.hints) same.errors) made

-- and told it before
pub told_back : {T I O E : Type 0} (a b : PortTable T I O E) → SameStreams a b → SameValues a.made b.made → (id : PortId) → told_by a id ≡ told_by b id
told_back a b same made id = sym (told_still a b same made id)

-- one more step, of ports that tell what they told
pub only_step : {T I O E : Type 0} (keys : List (ℕ × Half)) (a b : PortTable T I O E) (places : List PlaceEntry) (xs ys : List ReadyAt) → SameStreams a b → SameValues a.made b.made → (NamesOnly keys (told_by b) places xs → NamesOnly keys (told_by b) places ys) → NamesOnly keys (told_by a) places xs → NamesOnly keys (told_by a) places ys
only_step keys a b places xs ys same made step only =
    only_as keys (told_by a) (told_by b) places ys (told_still a b same made) (step (only_as keys (told_by b) (told_by a) places xs (told_back a b same made) only))

still_then : {T I O E : Type 0} (a b c : PortTable T I O E) → SameStreams a b → SameStreams b c → SameStreams a c
still_then a b c first then = record { input = then.input ∙ first.input; output = then.output ∙ first.output; errors = then.errors ∙ first.errors }

-- one step after another that leave the ports as they are
pub same_then : {A B C D E : Type 0} (a b c : Ports A B C D E) → SamePorts a b → SamePorts b c → SamePorts a c
same_then a b c first then = record {
  streams = still_then a.table b.table c.table first.streams then.streams;
  made = λ key. then.made key ∙ first.made key;
  listed = then.listed ∙ first.listed;
  maker = then.maker ∙ first.maker;
  parents = then.parents ∙ first.parents;
}

-- one naming after another
pub names_then : {A B C D E : Type 0} (places : List PlaceEntry) (a b c : Ports A B C D E) (before between now : Listed) → NamesMore places a b before between → NamesMore places b c between now → NamesMore places a c before now
names_then places a b c before between now first then = record {
  room = then.room ∙ first.room;
  grown = grown_then before.entries between.entries now.entries first.grown then.grown;
  only = λ keys only. only_step keys a.table b.table places between.entries now.entries first.same.streams first.same.made (then.only keys) (first.only keys only);
  held = then.held;
  same = same_then a b c first.same then.same;
}

unkeyed : (places : List PlaceEntry) (p : Place) (half : Half) → IsKeyed [] places p half → ⊥
unkeyed places p half keyed = let e = keyed.entry in absurd cc

none_due : (told : PortId → Option Hint) (places : List PlaceEntry) (p : Place) (half : Half) → ((q : Place) (h : Half) → MayHint told (entry_at places q) h → ⊥) → IsDue [] told places p half → ⊥
none_due told places p half none (inl keyed) = unkeyed places p half keyed
none_due told places p half none (inr may) = none p half may

-- where a half was named by a hint, the poll needn't wait
pub never_idle : (told : PortId → Option Hint) (places : List PlaceEntry) (entries : List ReadyAt) (e : ReadyAt) (until asked : Option ℕ) → NamesOnly [] told places entries → slice_get entries 0 ≡ Some e → WaitsIdle told places until asked
never_idle told places entries e until asked only first = λ none. absurd (none_due told places e.place e.half none (first_due [] told places entries e only first))
