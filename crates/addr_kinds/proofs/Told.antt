-- No address is told to want memory.
use Rattle.std.proofs.Common.{◌≡◌, ℕ, ◌+◌, Bool, true, false, ◌||◌, List, [], ◌∷◌, length, Option, Some, None, Result, Ok, Err, ap}
use Rattle.relay_model.specs.declared.commands.Options.{Options}
use Rattle.relay_model.specs.declared.commands.Single.{Single}
use Rattle.relay_model.specs.declared.commands.Target.{Target}
use Rattle.relay_model.specs.declared.commands.Target.TheVariants as target
use Rattle.relay_model.specs.declared.commands.Family.TheVariants.{Any}
use Rattle.option_table.specs.declared.rows.OptionRow.{OptionRow}
use Rattle.option_table.specs.declared.rows.Lookup.{Lookup}
use Rattle.option_table.specs.declared.rows.Lookup.TheVariants.{Known, LeftOut, Unknown}
use Rattle.option_table.specs.declared.values.Value.{Value}
use Rattle.option_table.specs.Parts.{only_if}
use Rattle.option_table.specs.Rows.{lookup_of}
use Rattle.option_table.specs.Values.{value_of}
use Rattle.addr_grammar.specs.Addresses.{Named, Parts}
use Rattle.addr_grammar.specs.Grammar.{◌>>=◌}
use Rattle.addr_kinds.specs.declared.faults.KindFault.{KindFault}
use Rattle.addr_kinds.specs.declared.faults.KindFault.TheVariants.{Parameters, Memory}
use Rattle.addr_kinds.specs.declared.uses.Asked.{Asked}
use Rattle.addr_kinds.specs.declared.kinds.Kind.{Kind}
use Rattle.addr_kinds.specs.declared.kinds.Kind.TheVariants as kind
use Rattle.addr_kinds.specs.Kinds.{KnownKind, known_kinds, row_of, is_left_out, includes}
use Rattle.addr_kinds.specs.Rules.{is_name, is_host, is_requested_host, port_from, command_words, is_command_line}
use Rattle.addr_kinds.specs.Targets.{counted, parameter, passed, stream_target, file_target, host_target, port_target, least_port, is_socks_host, target_of}
use Rattle.addr_kinds.specs.Effects.{first_options, effect}
use Rattle.addr_kinds.specs.Resolving.{known_or_not, kind_of, option_at, group_at, is_port_too_many, value_at, text_of, with_option, with_options, may_be_used, use_at, resolution}

-- ---- steps that never end with a fault

abbrev failed : {A E : Type 0} → E → Result A E
failed fault = Err fault

fault_is : {A E : Type 0} (fault other : E) → failed {A = A} fault ≡ failed {A = A} other → fault ≡ other
fault_is fault other e = cc

err_moves : {A B E : Type 0} (fault other : E) → failed {A = B} fault ≡ Err other → failed {A = A} fault ≡ Err other
err_moves fault other e = ap failed (fault_is fault other e)

pub ok_never : {A E : Type 0} (fault : E) (x : A) → Ok x ≡ failed fault → ⊥
ok_never fault x e = absurd cc

pub then_never : {A B E : Type 0} (fault : E) (r : Result A E) (f : A → Result B E) → (r ≡ Err fault → ⊥) → ((x : A) → f x ≡ Err fault → ⊥) → (r >>= f) ≡ Err fault → ⊥
then_never fault (Ok x) f first next e = next x e
then_never fault (Err other) f first next e = first (err_moves other fault e)

-- ---- answers that aren't want of memory

abbrev pub Told : {A : Type 0} → Result A KindFault → Type 0
Told r = r ≡ Err Memory → ⊥

ok_told : {A : Type 0} (x : A) → Told (Ok x)
ok_told x = ok_never Memory x

then_told : {A B : Type 0} (r : Result A KindFault) (f : A → Result B KindFault) → Told r → ((x : A) → Told (f x)) → Told (r >>= f)
then_told r f first next = then_never Memory r f first next

-- ---- the kind

known_told : (row : Option KnownKind) (left_out : Bool) → Told (known_or_not row left_out)
known_told (Some row) left_out e = ok_told row e
known_told None true e = absurd cc
known_told None false e = absurd cc

pub kind_told : (keyword : List ℕ) → Told (kind_of keyword)
unfolding kind_of
kind_told keyword = known_told (row_of known_kinds keyword) (is_left_out keyword)

-- ---- the parameters

parameter_told : {A : Type 0} (place : ℕ) (value : Option A) → Told (parameter place value)
parameter_told place (Some value) e = ok_told value e
parameter_told place None e = absurd cc

number_told : (want have : ℕ) → Told {A = Target} (Err (Parameters want have))
number_told want have e = absurd cc

-- one text that passes its test
text_told : (test : Bool) (text : List ℕ) (made : List ℕ → Target) → Told (passed 1 test text >>= λ name. Ok (made name))
text_told test text made = then_told (passed 1 test text) (λ name. Ok (made name)) (parameter_told 1 (only_if test text)) (λ name. ok_told (made name))

-- a host and a port
host_told : (test : Bool) (text : List ℕ) (digits : Option ℕ) (made : List ℕ → ℕ → Target)
    → Told (passed 1 test text >>= λ host. parameter 2 digits >>= λ port. Ok (made host port))
host_told test text digits made =
    then_told (passed 1 test text) (λ host. parameter 2 digits >>= λ port. Ok (made host port)) (parameter_told 1 (only_if test text))
    (λ host. then_told (parameter 2 digits) (λ port. Ok (made host port)) (parameter_told 2 digits) (λ port. ok_told (made host port)))

-- a server, and behind it a host and a port
server_told : (test : Bool) (relay : List ℕ) (fits : Bool) (text : List ℕ) (digits : Option ℕ) (made : List ℕ → List ℕ → ℕ → Target)
    → Told (passed 1 test relay >>= λ server. passed 2 fits text >>= λ host. parameter 3 digits >>= λ port. Ok (made server host port))
server_told test relay fits text digits made =
    then_told (passed 1 test relay) (λ server. passed 2 fits text >>= λ host. parameter 3 digits >>= λ port. Ok (made server host port)) (parameter_told 1 (only_if test relay))
    (λ server. then_told (passed 2 fits text) (λ host. parameter 3 digits >>= λ port. Ok (made server host port)) (parameter_told 2 (only_if fits text))
    (λ host. then_told (parameter 3 digits) (λ port. Ok (made server host port)) (parameter_told 3 digits) (λ port. ok_told (made server host port))))

pub target_told : (of : Kind) (params : List (List ℕ)) → Told (target_of of params)
unfolding target_of
target_told (kind.Stream stream) [] = ok_told (stream_target stream)
target_told (kind.Stream stream) (one ∷ more) = number_told 0 (counted (length (one ∷ more)))
target_told (kind.File file) [] = number_told 1 (counted 0)
target_told (kind.File file) (text ∷ []) = text_told (is_name text) text (file_target file)
target_told (kind.File file) (one ∷ two ∷ more) = number_told 1 (counted (length (one ∷ two ∷ more)))
target_told kind.Pipe [] = ok_told target.Echo
target_told kind.Pipe (text ∷ []) = text_told (is_name text) text target.NamedPipe
target_told kind.Pipe (one ∷ two ∷ more) = number_told 1 (counted (length (one ∷ two ∷ more)))
target_told (kind.Host connects family) [] = number_told 2 (counted 0)
target_told (kind.Host connects family) (one ∷ []) = number_told 2 (counted 1)
target_told (kind.Host connects family) (text ∷ digits ∷ []) = host_told (is_host family text) text (port_from 1 digits) (host_target connects family)
target_told (kind.Host connects family) (one ∷ two ∷ three ∷ more) = number_told 2 (counted (length (one ∷ two ∷ three ∷ more)))
target_told (kind.Port waits family) [] = number_told 1 (counted 0)
target_told (kind.Port waits family) (digits ∷ []) =
    then_told (parameter 1 (port_from (least_port waits) digits)) (λ port. Ok (port_target waits family port))
    (parameter_told 1 (port_from (least_port waits) digits)) (λ port. ok_told (port_target waits family port))
target_told (kind.Port waits family) (one ∷ two ∷ more) = number_told 1 (counted (length (one ∷ two ∷ more)))
target_told kind.Exec [] = number_told 1 (counted 0)
target_told kind.Exec (text ∷ []) = text_told (is_command_line text) text (λ line. target.Exec (command_words line))
target_told kind.Exec (one ∷ two ∷ more) = number_told 1 (counted (length (one ∷ two ∷ more)))
target_told kind.System [] = number_told 1 (counted 0)
target_told kind.System (text ∷ []) = text_told (is_name text) text target.System
target_told kind.System (one ∷ two ∷ more) = number_told 1 (counted (length (one ∷ two ∷ more)))
target_told (kind.Socks by_name) [] = number_told 3 (counted 0)
target_told (kind.Socks by_name) (one ∷ []) = number_told 3 (counted 1)
target_told (kind.Socks by_name) (one ∷ two ∷ []) = number_told 3 (counted 2)
target_told (kind.Socks by_name) (relay ∷ text ∷ digits ∷ []) =
    server_told (is_host Any relay) relay (is_socks_host by_name text) text (port_from 1 digits) (target.Socks by_name)
target_told (kind.Socks by_name) (one ∷ two ∷ three ∷ four ∷ more) = number_told 3 (counted (length (one ∷ two ∷ three ∷ four ∷ more)))
target_told kind.Proxy [] = number_told 3 (counted 0)
target_told kind.Proxy (one ∷ []) = number_told 3 (counted 1)
target_told kind.Proxy (one ∷ two ∷ []) = number_told 3 (counted 2)
target_told kind.Proxy (relay ∷ text ∷ digits ∷ []) =
    server_told (is_host Any relay) relay (is_requested_host text) text (port_from 1 digits) target.Proxy
target_told kind.Proxy (one ∷ two ∷ three ∷ four ∷ more) = number_told 3 (counted (length (one ∷ two ∷ three ∷ four ∷ more)))

-- ---- the options

row_told : (place : ℕ) (found : Lookup) → Told (option_at place found)
row_told place (Known row) e = ok_told row e
row_told place LeftOut e = absurd cc
row_told place Unknown e = absurd cc

group_told : (place : ℕ) (taken : Bool) → Told (group_at place taken)
group_told place true e = ok_told tt e
group_told place false e = absurd cc

value_told : (place : ℕ) (refused : Bool) (value : Option Value) → Told (value_at place refused value)
value_told place false (Some value) e = ok_told value e
value_told place false None e = absurd cc
value_told place true value e = absurd cc

-- the steps of one option, whose row is found
taken_told : (known : KnownKind) (general : Bool) (place : ℕ) (option : Named) (options : Options) (row : OptionRow)
    → Told (group_at place (general || includes known.groups row.group) >>= λ taken.
    value_at place (is_port_too_many known.kind row.id (text_of option.value)) (value_of row.form option.value) >>= λ value.
    Ok (effect row.id value (text_of option.value) options))
taken_told known general place option options row =
    let value : Result Value KindFault = value_at place (is_port_too_many known.kind row.id (text_of option.value)) (value_of row.form option.value) in
    let done : Value → Options = λ value. effect row.id value (text_of option.value) options in
    then_told (group_at place (general || includes known.groups row.group)) (λ taken. value >>= λ value. Ok (done value))
    (group_told place (general || includes known.groups row.group))
    (λ taken. then_told value (λ value. Ok (done value)) (value_told place (is_port_too_many known.kind row.id (text_of option.value)) (value_of row.form option.value)) (λ value. ok_told (done value)))

option_told : (known : KnownKind) (general : Bool) (place : ℕ) (option : Named) (options : Options) → Told (with_option known general place option options)
unfolding with_option
option_told known general place option options =
    then_told (option_at place (lookup_of option.name)) _ (row_told place (lookup_of option.name)) (taken_told known general place option options)

pub options_told : (known : KnownKind) (general : Bool) (place : ℕ) (more : List Named) (options : Options) → Told (with_options known general place more options)
unfolding with_options
options_told known general place [] options = ok_told options
options_told known general place (option ∷ more) options =
    then_told (with_option known general place option options) (with_options known general (counted (place + 1)) more)
    (option_told known general place option options) (options_told known general (counted (place + 1)) more)

-- ---- the whole

use_told : (allowed : Bool) → Told (use_at allowed)
use_told true e = ok_told tt e
use_told false e = absurd cc

abbrev single : Target → Options → Single
single to options = record { target = to; options = options }

used_told : (known : KnownKind) (asked : Asked) (to : Target) (options : Options)
    → Told (use_at (may_be_used known options.file asked) >>= λ used. Ok (single to options))
used_told known asked to options =
    then_told (use_at (may_be_used known options.file asked)) (λ used. Ok (single to options)) (use_told (may_be_used known options.file asked)) (λ used. ok_told (single to options))

aimed_told : (parts : Parts) (asked : Asked) (general : Bool) (known : KnownKind) (to : Target)
    → Told (with_options known general 1 parts.options (first_options to) >>= λ options.
    use_at (may_be_used known options.file asked) >>= λ used. Ok (single to options))
aimed_told parts asked general known to =
    then_told (with_options known general 1 parts.options (first_options to)) (λ options. use_at (may_be_used known options.file asked) >>= λ used. Ok (single to options))
    (options_told known general 1 parts.options (first_options to)) (used_told known asked to)

pub resolution_told : (parts : Parts) (asked : Asked) (general : Bool) → Told (resolution parts asked general)
unfolding resolution
resolution_told parts asked general =
    then_told (kind_of parts.keyword) _ (kind_told parts.keyword)
    (λ known. then_told (target_of known.kind parts.params) _ (target_told known.kind parts.params) (aimed_told parts asked general known))
