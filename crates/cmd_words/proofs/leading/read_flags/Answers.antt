use Rattle.std.proofs.Common.{◌∙◌, ◌<◌, length, sym, arith, option_copied}
use Rattle.std.proofs.lemmas.Option.{slice_get_within}
use Rattle.cmd_words.proofs.FlagLemmas.{read_over, read_end, read_alone, read_value, read_stop, read_fault, value_within, value_bounded}
use Rattle.cmd_words.proofs.leading.read_flags.Goals as goal

pub loop-word-preserved-in-Ok-Alone : goal.loop-word-preserved-in-Ok-Alone
loop-word-preserved-in-Ok-Alone c = record {
  inside =
      let within : c.loop-word.at < length c.args.words.now = slice_get_within _ _ _ (sym c.in-Some.ensures) in
      omega arith;
  read =
      read_alone c.loop-word.settings c.loop-word.at c.args.words.now c.in-Some.word.now (option_copied c.word_at-in-Some.result) c.in-Ok-Alone.changed
      c.in-Some.ensures (sym c.if-begins_addresses.false ∙ c.begins_addresses.ensures) c.word_at-in-Some.ensures
      (rw c.in-Ok-Alone.field-0-is at c.in-Ok-Alone.ensures.exact)
      ∙ c.loop-word.invariant.read;
  bounded = rw c.in-Ok-Alone.field-0-is at c.in-Ok-Alone.ensures.sound;
}

pub loop-word-smaller : goal.loop-word-smaller
loop-word-smaller c =
    let within : c.loop-word.at < length c.args.words.now = slice_get_within _ _ _ (sym c.in-Some.ensures) in
    omega arith

pub loop-word-preserved : goal.loop-word-preserved
loop-word-preserved c = record {
  inside = value_within c.loop-word.at c.args.words.now (option_copied c.word_at-in-Some.result) c.in-Ok-WithNext.changed c.word_at-in-Some.ensures (rw c.in-Ok-WithNext.field-0-is at c.in-Ok-WithNext.ensures.sound);
  read =
      read_value c.loop-word.settings c.loop-word.at c.args.words.now c.in-Some.word.now (option_copied c.word_at-in-Some.result) c.in-Ok-WithNext.changed
      c.in-Some.ensures (sym c.if-begins_addresses.false ∙ c.begins_addresses.ensures) c.word_at-in-Some.ensures
      (rw c.in-Ok-WithNext.field-0-is at c.in-Ok-WithNext.ensures.exact)
      ∙ c.loop-word.invariant.read;
  bounded = value_bounded (option_copied c.word_at-in-Some.result) c.in-Ok-WithNext.changed (rw c.in-Ok-WithNext.field-0-is at c.in-Ok-WithNext.ensures.sound);
}

pub returns-in-Ok-Stop-clause-exact : goal.returns-in-Ok-Stop-clause-exact
returns-in-Ok-Stop-clause-exact c =
    sym (sym c.loop-word.invariant.read ∙ read_stop c.loop-word.settings c.loop-word.at c.args.words.now c.in-Some.word.now (option_copied c.word_at-in-Some.result) c.in-Ok-Stop.what
    c.in-Some.ensures (sym c.if-begins_addresses.false ∙ c.begins_addresses.ensures) c.word_at-in-Some.ensures
    (rw c.in-Ok-Stop.field-0-is at c.in-Ok-Stop.ensures.exact))

pub returns-in-Err-clause-exact : goal.returns-in-Err-clause-exact
returns-in-Err-clause-exact c =
    rw c.refused_at.ensures (sym (sym c.loop-word.invariant.read ∙ read_fault c.loop-word.settings c.loop-word.at c.args.words.now c.in-Some.word.now (option_copied c.word_at-in-Some.result) c.in-Err.why
    c.in-Some.ensures (sym c.if-begins_addresses.false ∙ c.begins_addresses.ensures) c.word_at-in-Some.ensures
    c.in-Err.ensures.exact))

pub returns-then-begins_addresses-clause-exact : goal.returns-then-begins_addresses-clause-exact
returns-then-begins_addresses-clause-exact c =
    sym (sym c.loop-word.invariant.read ∙ read_over c.loop-word.settings c.loop-word.at c.args.words.now c.in-Some.word.now c.in-Some.ensures (sym c.if-begins_addresses.true ∙ c.begins_addresses.ensures))

pub returns-in_default-clause-exact : goal.returns-in_default-clause-exact
returns-in_default-clause-exact c =
    sym (sym c.loop-word.invariant.read ∙ read_end c.loop-word.settings c.loop-word.at c.args.words.now c.in_default.ensures)
