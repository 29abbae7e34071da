-- What goes through a port behind a talk that is over.
use Rattle.std.proofs.Common.{◌≡◌, ℕ, Bool, true, false, List, length, take, sym, ap, ◌∙◌, subst, arith}
use Rattle.std.specs.Prelude.{Option}
use Rattle.std.proofs.lemmas.List.{take_all}
use Rattle.port_trait.specs.Meanings.{Gives, Accepts, AcceptsAll}
use Rattle.port_trait.specs.declared.answers.Got.{Got}
use Rattle.port_trait.specs.declared.answers.Got.TheVariants as reads
use Rattle.port_trait.specs.declared.answers.Took.{Took as WriteAnswer}
use Rattle.port_trait.specs.declared.answers.Took.TheVariants as writes
use Rattle.tunnel_port.specs.declared.stage.TalkStage.{TalkStage}
use Rattle.tunnel_port.specs.Talks.{is_passed, Follows, Begins, Told, InTalk, behind_talk, rest_behind}
use Rattle.tunnel_port.proofs.Fronts.{begins_adds}

begins_given : (part into : List ℕ) (got : Got) (before now : Option (List ℕ)) → Begins part before → Gives before now into got → Begins part now × Gives (rest_behind part before) (rest_behind part now) into got
begins_given part into (reads.Bytes n) before now begins gives = let both = begins_adds part (take n into) before now begins gives.2 in (both.0, (gives.0, gives.1, both.1))
begins_given part into reads.Empty before now begins same = (subst (Begins part) (sym same) begins, ap (rest_behind part) same)
begins_given part into reads.End before now begins same = (subst (Begins part) (sym same) begins, ap (rest_behind part) same)
begins_given part into reads.NotYet before now begins same = (subst (Begins part) (sym same) begins, ap (rest_behind part) same)
begins_given part into reads.Failed before now begins same = (subst (Begins part) (sym same) begins, ap (rest_behind part) same)

begins_accepted : (part bytes : List ℕ) (took : WriteAnswer) (before now : Option (List ℕ)) → Begins part before → Accepts before now bytes took → Begins part now × Accepts (rest_behind part before) (rest_behind part now) bytes took
begins_accepted part bytes (writes.Took n) before now begins accepts = let both = begins_adds part (take n bytes) before now begins accepts.2 in (both.0, (accepts.0, accepts.1, both.1))
begins_accepted part bytes writes.NotYet before now begins same = (subst (Begins part) (sym same) begins, ap (rest_behind part) same)
begins_accepted part bytes writes.Failed before now begins same = (subst (Begins part) (sym same) begins, ap (rest_behind part) same)

begins_accepted_all : (part bytes : List ℕ) (took : WriteAnswer) (before now : Option (List ℕ)) → Begins part before → AcceptsAll before now bytes took → Begins part now × AcceptsAll (rest_behind part before) (rest_behind part now) bytes took
begins_accepted_all part bytes (writes.Took n) before now begins accepts = let both = begins_adds part bytes before now begins accepts.1 in (both.0, (accepts.0, both.1))
begins_accepted_all part bytes writes.NotYet before now begins accepts = absurd accepts
begins_accepted_all part bytes writes.Failed before now begins accepts = let both = begins_adds part (take accepts.0 bytes) before now begins accepts.2 in (both.0, (accepts.0, accepts.1, both.1))

told_given : (passed : Bool) (part into : List ℕ) (got : Got) (before now : Option (List ℕ)) → passed ≡ true → Told passed part before → Gives before now into got → Told passed part now × Gives (behind_talk passed part before) (behind_talk passed part now) into got
told_given true part into got before now is told gives = begins_given part into got before now told gives
told_given false part into got before now is told gives = absurd (cc is)

told_accepted : (passed : Bool) (part bytes : List ℕ) (took : WriteAnswer) (before now : Option (List ℕ)) → passed ≡ true → Told passed part before → Accepts before now bytes took → Told passed part now × Accepts (behind_talk passed part before) (behind_talk passed part now) bytes took
told_accepted true part bytes took before now is told accepts = begins_accepted part bytes took before now told accepts
told_accepted false part bytes took before now is told accepts = absurd (cc is)

told_accepted_all : (passed : Bool) (part bytes : List ℕ) (took : WriteAnswer) (before now : Option (List ℕ)) → passed ≡ true → Told passed part before → AcceptsAll before now bytes took → Told passed part now × AcceptsAll (behind_talk passed part before) (behind_talk passed part now) bytes took
told_accepted_all true part bytes took before now is told accepts = begins_accepted_all part bytes took before now told accepts
told_accepted_all false part bytes took before now is told accepts = absurd (cc is)

-- the request as a whole is its own front
whole_request : (asks : List ℕ) (said : ℕ) → said ≡ length asks → take said asks ≡ asks
whole_request asks said whole = ap (λ n. take n asks) whole ∙ take_all (length asks) asks (omega arith)

-- what a read gave came after the reply
pub talk_given : (took before now : Option (List ℕ)) (asks heard : List ℕ) (said : ℕ) (stage : TalkStage) (into : List ℕ) (got : Got) → is_passed stage ≡ true → InTalk took before asks heard said stage → Gives before now into got → InTalk took now asks heard said stage × Gives (behind_talk (is_passed stage) heard before) (behind_talk (is_passed stage) heard now) into got
talk_given took before now asks heard said stage into got is talk gives =
    let both = told_given (is_passed stage) heard into got before now is talk.answered gives in
    (record { within = talk.within; whole = talk.whole; asked = talk.asked; answered = both.0 }, both.1)

-- what a write accepted was put behind the request
pub talk_accepted : (before now gave : Option (List ℕ)) (asks heard : List ℕ) (said : ℕ) (stage : TalkStage) (bytes : List ℕ) (took : WriteAnswer) → is_passed stage ≡ true → InTalk before gave asks heard said stage → Accepts before now bytes took → InTalk now gave asks heard said stage × Accepts (behind_talk (is_passed stage) asks before) (behind_talk (is_passed stage) asks now) bytes took
talk_accepted before now gave asks heard said stage bytes took is talk accepts =
    let both = told_accepted (is_passed stage) (take said asks) bytes took before now is talk.asked accepts in
    (record { within = talk.within; whole = talk.whole; asked = both.0; answered = talk.answered }, subst (λ part. Accepts (behind_talk (is_passed stage) part before) (behind_talk (is_passed stage) part now) bytes took) (whole_request asks said (talk.whole is)) both.1)

pub talk_accepted_all : (before now gave : Option (List ℕ)) (asks heard : List ℕ) (said : ℕ) (stage : TalkStage) (bytes : List ℕ) (took : WriteAnswer) → is_passed stage ≡ true → InTalk before gave asks heard said stage → AcceptsAll before now bytes took → InTalk now gave asks heard said stage × AcceptsAll (behind_talk (is_passed stage) asks before) (behind_talk (is_passed stage) asks now) bytes took
talk_accepted_all before now gave asks heard said stage bytes took is talk accepts =
    let both = told_accepted_all (is_passed stage) (take said asks) bytes took before now is talk.asked accepts in
    (record { within = talk.within; whole = talk.whole; asked = both.0; answered = talk.answered }, subst (λ part. AcceptsAll (behind_talk (is_passed stage) part before) (behind_talk (is_passed stage) part now) bytes took) (whole_request asks said (talk.whole is)) both.1)

-- a call that puts nothing through
pub talk_kept : (took gave took_now gave_now : Option (List ℕ)) (asks heard : List ℕ) (said : ℕ) (stage : TalkStage) → InTalk took gave asks heard said stage → took_now ≡ took → gave_now ≡ gave → InTalk took_now gave_now asks heard said stage
talk_kept took gave took_now gave_now asks heard said stage talk same_took same_gave = record { within = talk.within; whole = talk.whole; asked = subst (Told (is_passed stage) (take said asks)) (sym same_took) talk.asked; answered = subst (Told (is_passed stage) heard) (sym same_gave) talk.answered }

-- once the request is granted, what was written follows the request, and what was read the reply
told_follows : (passed : Bool) (part : List ℕ) (told : Option (List ℕ)) → passed ≡ true → Told passed part told → Follows part told (behind_talk passed part told)
told_follows true part told is begins = begins
told_follows false part told is begins = absurd (cc is)

pub talk_follows : (took gave : Option (List ℕ)) (asks heard : List ℕ) (said : ℕ) (stage : TalkStage) → is_passed stage ≡ true → InTalk took gave asks heard said stage → Follows asks took (behind_talk (is_passed stage) asks took) × Follows heard gave (behind_talk (is_passed stage) heard gave)
talk_follows took gave asks heard said stage is talk =
    (subst (λ part. Follows part took (behind_talk (is_passed stage) part took)) (whole_request asks said (talk.whole is)) (told_follows (is_passed stage) (take said asks) took is talk.asked), told_follows (is_passed stage) heard gave is talk.answered)
