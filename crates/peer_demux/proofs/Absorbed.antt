-- What a table has taken, packet by packet.
use Rattle.std.proofs.Common.{◌≡◌, ℕ, ◌+◌, length, add-one, List, [], ◌∷◌, ◌++◌, Option, None, Some, false, option_map, refl, sym, ap, subst, ◌∙◌, append_assoc}
use Rattle.relay_model.specs.declared.acts.Peer.{Peer}
use Rattle.peer_demux.specs.declared.answers.Put.{Put}
use Rattle.std.proofs.lemmas.List.{length-append}
use Rattle.peer_demux.specs.declared.answers.Taken.{Taken}
use Rattle.peer_demux.specs.declared.answers.Taken.TheVariants as takes
use Rattle.peer_demux.specs.declared.links.Received.TheVariants as gots
use Rattle.peer_demux.specs.Hubs.{Absorbs, ReadsRow, TakesOne, got_of, read_failed, risen_by}
use Rattle.peer_demux.specs.Links.{Adds, Packet}
use Rattle.peer_demux.specs.Tables.{IsPut, IsTaken, TableState, risen}

-- a packet behind those that were taken
pub absorbs_more : (before mid now : TableState) (packets : List Packet) (from : Peer) (bytes : List ℕ) (put : Put) → Absorbs before packets mid → IsPut mid now from bytes put → Absorbs before (packets ++ (from, bytes) ∷ []) now
absorbs_more before mid now [] from bytes put taken is = (now, put, subst (λ (t : TableState). IsPut t now from bytes put) taken is, refl)
absorbs_more before mid now (packet ∷ packets) from bytes put taken is = (taken.0, taken.1, taken.2, absorbs_more taken.0 mid now packets from bytes put taken.3 is)

-- what is told grows by one list after another
pub adds_more : (before mid now : Option (List Packet)) (packets more : List Packet) → Adds before mid packets → Adds mid now more → Adds before now (packets ++ more)
adds_more None mid now packets more first then = then ∙ ap (option_map (λ all. all ++ more)) first
adds_more (Some all) mid now packets more first then = then ∙ ap (option_map (λ all. all ++ more)) first ∙ ap Some (append_assoc all packets more)

-- one packet more was received and put into the table
pub taken_more : (before mid now : TableState) (gave_before gave_mid gave_now : Option (List Packet)) (count : ℕ) (from : Peer) (len : ℕ) → ((more : List Packet) × Absorbs before more mid × Adds gave_before gave_mid more × (length more ≡ count)) → TakesOne mid now gave_mid gave_now (gots.Packet from len) → (more : List Packet) × Absorbs before more now × Adds gave_before gave_now more × (length more ≡ count + 1)
taken_more before mid now gave_before gave_mid gave_now count from len had one = (
  had.0 ++ (from, one.0) ∷ [],
  absorbs_more before mid now had.0 from one.0 one.1 had.1 one.2,
  adds_more gave_before gave_mid gave_now had.0 ((from, one.0) ∷ []) had.2 one.3,
  length-append had.0 ((from, one.0) ∷ []) ∙ ap (λ (n : ℕ). n + 1) had.3,
)

-- a count that rises once more
pub risen_more : (count first before now : ℕ) → before ≡ risen_by count first → now ≡ risen before → now ≡ risen_by (count + 1) first
risen_more count first before now had one = one ∙ ap risen had ∙ ap (λ (n : ℕ). risen_by n first) (sym (add-one count))

-- what was taken of a row is what its read answers
pub reads_row : (mid now : TableState) (number : ℕ) (into : List ℕ) (taken : Taken) → IsTaken mid now number into taken → ReadsRow mid now number into (got_of taken)
reads_row mid now number into (takes.Bytes count) is = is
reads_row mid now number into takes.Empty is = is
reads_row mid now number into takes.NotYet is = is
reads_row mid now number into takes.End is = is

-- such a read doesn't fail
pub reads_well : (taken : Taken) → read_failed (got_of taken) ≡ false
reads_well (takes.Bytes count) = refl
reads_well takes.Empty = refl
reads_well takes.NotYet = refl
reads_well takes.End = refl
