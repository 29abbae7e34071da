-- The words are read by the definitions themselves.
use Rattle.std.proofs.Common.{refl}
use Rattle.cmd_words.specs.Commands.{command, between, address_at}
use Rattle.cmd_words.specs.Flags.{flags_from, step_of, plain_flag, known_flags}
use Rattle.addr_kinds.specs.Resolving.{resolution, kind_of, with_options, with_option}
use Rattle.addr_kinds.specs.Kinds.{row_of, known_kinds, is_left_out, left_out_kinds}
use Rattle.addr_kinds.specs.Targets.{target_of}
use Rattle.addr_kinds.specs.Effects.{effect, switched, numbered, ported}
use Rattle.addr_kinds.specs.Rules.{is_host, is_named_host, port_from}
use Rattle.addr_words.specs.Reading.{tokens_from}
use Rattle.option_table.specs.Rows.{lookup_of, known_options, left_out_options}
use Rattle.option_table.specs.Numbers.{number_of, number_in, short_number}
use Rattle.option_table.specs.Values.{bool_of, port_of, is_text}
use Rattle.option_table.specs.Literals.{ipv4_of, ipv6_of}
use Rattle.option_table.specs.Parts.{around_first, in_brackets}
use Rattle.socat_top.proofs.words.command_is_of_words.Goals as goal

pub returns : goal.returns
unfolding command between address_at flags_from step_of plain_flag known_flags resolution kind_of with_options with_option row_of known_kinds is_left_out left_out_kinds target_of effect switched numbered ported is_host is_named_host port_from tokens_from lookup_of known_options left_out_options number_of number_in short_number bool_of port_of is_text ipv4_of ipv6_of around_first in_brackets
returns c = refl
