-- What a port tells of its bytes isn't told by the port over it, and stays nothing where none moved.
use Rattle.std.proofs.Common.{◌≡◌, ℕ, List, [], Option, None, refl, sym, subst}
use Rattle.port_trait.specs.Meanings.{Gives, Accepts, AcceptsAll}
use Rattle.port_trait.specs.declared.answers.Got.{Got}
use Rattle.port_trait.specs.declared.answers.Got.TheVariants as reads
use Rattle.port_trait.specs.declared.answers.Took.{Took as WriteAnswer}
use Rattle.port_trait.specs.declared.answers.Took.TheVariants as writes
use Rattle.tunnel_port.specs.Talks.{IsOnly}

pub nothing_kept : (before now : Option (List ℕ)) → IsOnly [] before → now ≡ before → IsOnly [] now
nothing_kept before now only same = subst (IsOnly []) (sym same) only

pub gives_untold : (before now : Option (List ℕ)) (into : List ℕ) (got : Got) → Gives before now into got → Gives None None into got
gives_untold before now into (reads.Bytes n) gives = (gives.0, gives.1, refl)
gives_untold before now into reads.Empty gives = refl
gives_untold before now into reads.End gives = refl
gives_untold before now into reads.NotYet gives = refl
gives_untold before now into reads.Failed gives = refl

pub accepts_untold : (before now : Option (List ℕ)) (bytes : List ℕ) (took : WriteAnswer) → Accepts before now bytes took → Accepts None None bytes took
accepts_untold before now bytes (writes.Took n) accepts = (accepts.0, accepts.1, refl)
accepts_untold before now bytes writes.NotYet accepts = refl
accepts_untold before now bytes writes.Failed accepts = refl

pub accepts_all_untold : (before now : Option (List ℕ)) (bytes : List ℕ) (took : WriteAnswer) → AcceptsAll before now bytes took → AcceptsAll None None bytes took
accepts_all_untold before now bytes (writes.Took n) accepts = (accepts.0, refl)
accepts_all_untold before now bytes writes.NotYet never = absurd never
accepts_all_untold before now bytes writes.Failed accepts = (accepts.0, accepts.1, refl)
