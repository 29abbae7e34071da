-- What is printed is read as the address again.
use Rattle.std.proofs.Common.{◌≡◌, ℕ, ◌+◌, ◌≤◌, Bool, false, cond, List, [], ◌∷◌, ◌++◌, length, Option, Some, None, Result, Ok, Err, refl, sym, ap, subst, ◌∙◌, append_assoc, arith, length-append}
use Rattle.std.specs.Prelude.{IfOk}
use Rattle.std.specs.List.{AllByRecursion}
use Rattle.std.proofs.lemmas.List.{append-nil}
use Rattle.addr_words.specs.declared.token_list.Token.{Token}
use Rattle.addr_words.specs.declared.token_list.TokenKind.TheVariants as kinds
use Rattle.addr_words.specs.declared.faults.WordFault.{WordFault}
use Rattle.addr_words.specs.Reading.{token, after_front, tokens_from, tokens_of}
use Rattle.addr_words.specs.Writing.{written, written_byte, byte_tokens}
use Rattle.addr_words.proofs.Steps.{after_front-after, last_read, next_read, dual_read, short_read, at_end}
use Rattle.addr_words.proofs.RoundTrip.{written_read}
use Rattle.addr_grammar.specs.declared.cutting.Mark.{Mark}
use Rattle.addr_grammar.specs.declared.cutting.Mark.TheVariants.{Colon, Comma, Dual, Equals}
use Rattle.addr_grammar.specs.declared.faults.GrammarFault.{GrammarFault}
use Rattle.addr_grammar.specs.declared.faults.GrammarFault.TheVariants.{EmptyOption, Empty}
use Rattle.addr_grammar.specs.declared.addresses.RawAddress.{RawAddress}
use Rattle.addr_grammar.specs.declared.addresses.RawAddress.TheVariants.{One, Two}
use Rattle.addr_grammar.specs.Addresses.{Named, Parts, is_empty, is_dash, FitsKeyword, HaveNames, IsSingle}
use Rattle.addr_grammar.specs.Grammar.{◌>>=◌, is_mark, before, after, later, decoded, Header, gopen, stdio, header, texts, head_of, value_of, option_of, options_of, single_of, second_half, halves, address_of, widen, reading}
use Rattle.addr_grammar.specs.Printing.{printed_params, printed_value, printed_option, printed_options, printed_single, printed, IsAddress}
use Rattle.addr_grammar.proofs.Pieces.{pieces_cut}

-- a text is read as these tokens where it begins at an offset outside, whatever follows it
abbrev ReadAs : List ℕ → ℕ → List Token → Type 0
ReadAs text at tokens = (rest : List ℕ) → tokens_from [] at (text ++ rest) ≡ after_front tokens (tokens_from [] (at + length text) rest)

joined_read : (x y : List ℕ) (at : ℕ) (ts us : List Token) → ReadAs x at ts → ReadAs y (at + length x) us → ReadAs (x ++ y) at (ts ++ us)
joined_read x y at ts us rx ry rest =
    let ends : at + length x + length y ≡ at + length (x ++ y) = omega (arith, length-append x y) in
    ap (tokens_from [] at) (append_assoc x y rest) ∙ rx (y ++ rest) ∙ ap (after_front ts) (ry rest) ∙ after_front-after ts us (tokens_from [] (at + length x + length y) rest)
    ∙ ap (λ (n : ℕ). after_front (ts ++ us) (tokens_from [] n rest)) ends

colon_read : (at : ℕ) → ReadAs (58 ∷ []) at (token kinds.Colon at (at + 1) ∷ [])
colon_read at [] = last_read [] at 58 refl
colon_read at (c ∷ cs) = next_read [] at 58 c cs refl refl

comma_read : (at : ℕ) → ReadAs (44 ∷ []) at (token kinds.Comma at (at + 1) ∷ [])
comma_read at [] = last_read [] at 44 refl
comma_read at (c ∷ cs) = next_read [] at 44 c cs refl refl

equals_read : (at : ℕ) → ReadAs (61 ∷ []) at (token kinds.Equals at (at + 1) ∷ [])
equals_read at [] = last_read [] at 61 refl
equals_read at (c ∷ cs) = next_read [] at 61 c cs refl refl

marks_read : (at : ℕ) → ReadAs (33 ∷ 33 ∷ []) at (token kinds.Dual at (at + 2) ∷ [])
marks_read at rest = dual_read [] at 33 33 rest refl refl

-- the tokens of what is printed
abbrev param_tokens : ℕ → List (List ℕ) → List Token
param_tokens at [] = []
param_tokens at (p ∷ params) = (token kinds.Colon at (at + 1) ∷ byte_tokens (at + 1) p) ++ param_tokens (at + length (58 ∷ written p)) params

abbrev value_tokens : ℕ → Option (List ℕ) → List Token
value_tokens at None = []
value_tokens at (Some value) = token kinds.Equals at (at + 1) ∷ byte_tokens (at + 1) value

abbrev option_tokens : ℕ → Named → List Token
option_tokens at option = (token kinds.Comma at (at + 1) ∷ byte_tokens (at + 1) option.name) ++ value_tokens (at + length (44 ∷ written option.name)) option.value

abbrev options_tokens : ℕ → List Named → List Token
options_tokens at [] = []
options_tokens at (option ∷ options) = option_tokens at option ++ options_tokens (at + length (printed_option option)) options

abbrev single_tokens : ℕ → Parts → List Token
single_tokens at single =
    byte_tokens at single.keyword
    ++ (param_tokens (at + length (written single.keyword)) single.params ++ options_tokens (at + length (written single.keyword) + length (printed_params single.params)) single.options)

params_read : (params : List (List ℕ)) (at : ℕ) → ReadAs (printed_params params) at (param_tokens at params)
params_read [] at = written_read [] at
params_read (p ∷ params) at =
    joined_read (58 ∷ written p) (printed_params params) at (token kinds.Colon at (at + 1) ∷ byte_tokens (at + 1) p) (param_tokens (at + length (58 ∷ written p)) params)
    (joined_read (58 ∷ []) (written p) at (token kinds.Colon at (at + 1) ∷ []) (byte_tokens (at + 1) p) (colon_read at) (written_read p (at + 1)))
    (params_read params (at + length (58 ∷ written p)))

value_read : (value : Option (List ℕ)) (at : ℕ) → ReadAs (printed_value value) at (value_tokens at value)
value_read None at = written_read [] at
value_read (Some value) at = joined_read (61 ∷ []) (written value) at (token kinds.Equals at (at + 1) ∷ []) (byte_tokens (at + 1) value) (equals_read at) (written_read value (at + 1))

option_read : (option : Named) (at : ℕ) → ReadAs (printed_option option) at (option_tokens at option)
option_read option at =
    joined_read (44 ∷ written option.name) (printed_value option.value) at (token kinds.Comma at (at + 1) ∷ byte_tokens (at + 1) option.name) (value_tokens (at + length (44 ∷ written option.name)) option.value)
    (joined_read (44 ∷ []) (written option.name) at (token kinds.Comma at (at + 1) ∷ []) (byte_tokens (at + 1) option.name) (comma_read at) (written_read option.name (at + 1)))
    (value_read option.value (at + length (44 ∷ written option.name)))

options_read : (options : List Named) (at : ℕ) → ReadAs (printed_options options) at (options_tokens at options)
options_read [] at = written_read [] at
options_read (option ∷ options) at =
    joined_read (printed_option option) (printed_options options) at (option_tokens at option) (options_tokens (at + length (printed_option option)) options)
    (option_read option at) (options_read options (at + length (printed_option option)))

single_read : (single : Parts) (at : ℕ) → ReadAs (printed_single single) at (single_tokens at single)
single_read single at =
    joined_read (written single.keyword) (printed_params single.params ++ printed_options single.options) at (byte_tokens at single.keyword)
    (param_tokens (at + length (written single.keyword)) single.params ++ options_tokens (at + length (written single.keyword) + length (printed_params single.params)) single.options)
    (written_read single.keyword at)
    (joined_read (printed_params single.params) (printed_options single.options) (at + length (written single.keyword)) (param_tokens (at + length (written single.keyword)) single.params)
    (options_tokens (at + length (written single.keyword) + length (printed_params single.params)) single.options)
    (params_read single.params (at + length (written single.keyword))) (options_read single.options (at + length (written single.keyword) + length (printed_params single.params))))

-- no such mark stands among the tokens
abbrev Free : Mark → List Token → Type 0
Free mark = AllByRecursion (λ t. is_mark mark t.kind ≡ false)

free_append : (mark : Mark) (xs ys : List Token) → Free mark xs → Free mark ys → Free mark (xs ++ ys)
free_append mark [] ys fx fy = fy
free_append mark (x ∷ xs) ys fx fy = (fx.0, free_append mark xs ys fx.1 fy)

no_byte : (mark : Mark) (b : ℕ) → is_mark mark (kinds.Byte b) ≡ false
no_byte Colon b = refl
no_byte Comma b = refl
no_byte Dual b = refl
no_byte Equals b = refl

free_bytes : (mark : Mark) (at : ℕ) (bytes : List ℕ) → Free mark (byte_tokens at bytes)
free_bytes mark at [] = tt
free_bytes mark at (b ∷ bytes) = (no_byte mark b, free_bytes mark (at + length (written_byte b)) bytes)

free_params : (mark : Mark) → is_mark mark kinds.Colon ≡ false → (at : ℕ) (params : List (List ℕ)) → Free mark (param_tokens at params)
free_params mark h at [] = tt
free_params mark h at (p ∷ params) = (h, free_append mark (byte_tokens (at + 1) p) (param_tokens (at + length (58 ∷ written p)) params) (free_bytes mark (at + 1) p) (free_params mark h (at + length (58 ∷ written p)) params))

free_value : (mark : Mark) → is_mark mark kinds.Equals ≡ false → (at : ℕ) (value : Option (List ℕ)) → Free mark (value_tokens at value)
free_value mark h at None = tt
free_value mark h at (Some value) = (h, free_bytes mark (at + 1) value)

free_options : (at : ℕ) (options : List Named) → Free Dual (options_tokens at options)
free_options at [] = tt
free_options at (option ∷ options) =
    free_append Dual (option_tokens at option) (options_tokens (at + length (printed_option option)) options)
    (refl, free_append Dual (byte_tokens (at + 1) option.name) (value_tokens (at + length (44 ∷ written option.name)) option.value) (free_bytes Dual (at + 1) option.name) (free_value Dual refl (at + length (44 ∷ written option.name)) option.value))
    (free_options (at + length (printed_option option)) options)

free_single : (at : ℕ) (single : Parts) → Free Dual (single_tokens at single)
free_single at single =
    free_append Dual (byte_tokens at single.keyword)
    (param_tokens (at + length (written single.keyword)) single.params ++ options_tokens (at + length (written single.keyword) + length (printed_params single.params)) single.options)
    (free_bytes Dual at single.keyword)
    (free_append Dual (param_tokens (at + length (written single.keyword)) single.params) (options_tokens (at + length (written single.keyword) + length (printed_params single.params)) single.options)
    (free_params Dual refl (at + length (written single.keyword)) single.params) (free_options (at + length (written single.keyword) + length (printed_params single.params)) single.options))

before_free : (mark : Mark) (xs ys : List Token) → Free mark xs → before mark (xs ++ ys) ≡ xs ++ before mark ys
before_free mark [] ys free = refl
before_free mark (x ∷ xs) ys free =
    ap (λ (b : Bool). cond b [] (x ∷ before mark (xs ++ ys))) free.0 ∙ ap (λ (ts : List Token). x ∷ ts) (before_free mark xs ys free.1)

after_free : (mark : Mark) (xs ys : List Token) → Free mark xs → after mark (xs ++ ys) ≡ after mark ys
after_free mark [] ys free = refl
after_free mark (x ∷ xs) ys free =
    ap (λ (b : Bool). cond b (Some (x, xs ++ ys)) (after mark (xs ++ ys))) free.0 ∙ after_free mark xs ys free.1

after_none : (mark : Mark) (xs : List Token) → Free mark xs → after mark xs ≡ None
after_none mark xs free = ap (after mark) (sym (append-nil xs)) ∙ after_free mark xs [] free

decoded_bytes : (at : ℕ) (bytes : List ℕ) → decoded (byte_tokens at bytes) ≡ bytes
decoded_bytes at [] = refl
decoded_bytes at (b ∷ bytes) = ap (λ (bs : List ℕ). b ∷ bs) (decoded_bytes (at + length (written_byte b)) bytes)

-- bytes in front of what begins with a mark, or of nothing
bytes_before : (mark : Mark) (at : ℕ) (bytes : List ℕ) (ys : List Token) → before mark ys ≡ [] → decoded (before mark (byte_tokens at bytes ++ ys)) ≡ bytes
bytes_before mark at bytes ys stops =
    ap decoded (before_free mark (byte_tokens at bytes) ys (free_bytes mark at bytes) ∙ ap (λ (ts : List Token). byte_tokens at bytes ++ ts) stops ∙ append-nil (byte_tokens at bytes))
    ∙ decoded_bytes at bytes

params_stop : (at : ℕ) (params : List (List ℕ)) → before Colon (param_tokens at params) ≡ []
params_stop at [] = refl
params_stop at (p ∷ params) = refl

value_stops : (at : ℕ) (value : Option (List ℕ)) → before Equals (value_tokens at value) ≡ []
value_stops at None = refl
value_stops at (Some value) = refl

options_stop : (at : ℕ) (options : List Named) → before Comma (options_tokens at options) ≡ []
options_stop at [] = refl
options_stop at (option ∷ options) = refl

params_again : (at : ℕ) (params : List (List ℕ)) → texts (later Colon (after Colon (param_tokens at params))) ≡ params
params_again at [] = refl
params_again at (p ∷ params) =
    let others = param_tokens (at + length (58 ∷ written p)) params in
    ap texts (pieces_cut Colon (at + 1) (byte_tokens (at + 1) p ++ others))
    ∙ ap (λ (bytes : List ℕ). bytes ∷ texts (later Colon (after Colon (byte_tokens (at + 1) p ++ others)))) (bytes_before Colon (at + 1) p others (params_stop (at + length (58 ∷ written p)) params))
    ∙ ap (λ (back : Option (Token × List Token)). p ∷ texts (later Colon back)) (after_free Colon (byte_tokens (at + 1) p) others (free_bytes Colon (at + 1) p))
    ∙ ap (λ (ps : List (List ℕ)). p ∷ ps) (params_again (at + length (58 ∷ written p)) params)

value_again : (at : ℕ) (value : Option (List ℕ)) → value_of (after Equals (value_tokens at value)) ≡ value
value_again at None = refl
value_again at (Some value) = ap Some (decoded_bytes (at + 1) value)

abbrev pub option_from : ℕ → List ℕ → Option (List ℕ) → Result Named GrammarFault
option_from at n v = cond (is_empty n) (Err (EmptyOption at)) (Ok (record { name = n; value = v }))

-- an option behind its comma, up to the next one
option_again : (at name_at value_at : ℕ) (option : Named) → is_empty option.name ≡ false
    → option_of (record { at = at; tokens = byte_tokens name_at option.name ++ value_tokens value_at option.value }) ≡ Ok option
option_again at name_at value_at option is_named =
    let tokens = byte_tokens name_at option.name ++ value_tokens value_at option.value in
    let name : decoded (before Equals tokens) ≡ option.name = bytes_before Equals name_at option.name (value_tokens value_at option.value) (value_stops value_at option.value) in
    let value : value_of (after Equals tokens) ≡ option.value = ap value_of (after_free Equals (byte_tokens name_at option.name) (value_tokens value_at option.value) (free_bytes Equals name_at option.name)) ∙ value_again value_at option.value in
    ap (λ (n : List ℕ). option_from at n (value_of (after Equals tokens))) name ∙ ap (λ (v : Option (List ℕ)). option_from at option.name v) value ∙ ap (λ (b : Bool). cond b (Err (EmptyOption at)) (Ok option)) is_named

options_again : (at : ℕ) (options : List Named) → HaveNames options → options_of (later Comma (after Comma (options_tokens at options))) ≡ Ok options
options_again at [] names = refl
options_again at (option ∷ options) names =
    let text = byte_tokens (at + 1) option.name ++ value_tokens (at + length (44 ∷ written option.name)) option.value in
    let others = options_tokens (at + length (printed_option option)) options in
    let free : Free Comma text = free_append Comma (byte_tokens (at + 1) option.name) (value_tokens (at + length (44 ∷ written option.name)) option.value) (free_bytes Comma (at + 1) option.name) (free_value Comma refl (at + length (44 ∷ written option.name)) option.value) in
    let front : before Comma (text ++ others) ≡ text = before_free Comma text others free ∙ ap (λ (ts : List Token). text ++ ts) (options_stop (at + length (printed_option option)) options) ∙ append-nil text in
    ap options_of (pieces_cut Comma (at + 1) (text ++ others))
    ∙ ap (λ (ts : List Token). option_of (record { at = at + 1; tokens = ts }) >>= λ o. options_of (later Comma (after Comma (text ++ others))) >>= λ os. Ok (o ∷ os)) front
    ∙ ap (λ (r : Result Named GrammarFault). r >>= λ o. options_of (later Comma (after Comma (text ++ others))) >>= λ os. Ok (o ∷ os)) (option_again (at + 1) (at + 1) (at + length (44 ∷ written option.name)) option names.0)
    ∙ ap (λ (back : Option (Token × List Token)). options_of (later Comma back) >>= λ os. Ok (option ∷ os)) (after_free Comma text others free)
    ∙ ap (λ (r : Result (List Named) GrammarFault). r >>= λ os. Ok (option ∷ os)) (options_again (at + length (printed_option option)) options names.1)

pub header_again : (keyword : List ℕ) (params : List (List ℕ)) (whole : List ℕ) → FitsKeyword keyword → header keyword params whole ≡ Ok (record { keyword = keyword; params = params })
header_again keyword params whole fits =
    ap (λ (b : Bool). cond b (Ok (record { keyword = gopen; params = whole ∷ [] })) (cond (is_dash keyword) (Ok (record { keyword = stdio; params = params })) (cond (is_empty keyword) (Err Empty) (Ok (record { keyword = keyword; params = params }))))) fits.no_slash
    ∙ ap (λ (b : Bool). cond b (Ok (record { keyword = stdio; params = params })) (cond (is_empty keyword) (Err Empty) (Ok (record { keyword = keyword; params = params })))) fits.no_dash
    ∙ ap (λ (b : Bool). cond b (Err Empty) (Ok (record { keyword = keyword; params = params }))) fits.not_empty

head_again : (at params_at : ℕ) (keyword : List ℕ) (params : List (List ℕ)) → FitsKeyword keyword → head_of (byte_tokens at keyword ++ param_tokens params_at params) ≡ Ok (record { keyword = keyword; params = params })
head_again at params_at keyword params fits =
    let tokens = byte_tokens at keyword ++ param_tokens params_at params in
    let first : decoded (before Colon tokens) ≡ keyword = bytes_before Colon at keyword (param_tokens params_at params) (params_stop params_at params) in
    let others : texts (later Colon (after Colon tokens)) ≡ params = ap (λ (back : Option (Token × List Token)). texts (later Colon back)) (after_free Colon (byte_tokens at keyword) (param_tokens params_at params) (free_bytes Colon at keyword)) ∙ params_again params_at params in
    ap (λ (k : List ℕ). header k (texts (later Colon (after Colon tokens))) (decoded tokens)) first ∙ ap (λ (ps : List (List ℕ)). header keyword ps (decoded tokens)) others ∙ header_again keyword params (decoded tokens) fits

abbrev fine : Parts → Result Parts GrammarFault
fine parts = Ok parts

single_again : (at : ℕ) (single : Parts) → IsSingle single → single_of (single_tokens at single) ≡ Ok single
single_again at single fits =
    let words = byte_tokens at single.keyword in
    let params = param_tokens (at + length (written single.keyword)) single.params in
    let options = options_tokens (at + length (written single.keyword) + length (printed_params single.params)) single.options in
    let free_words = free_bytes Comma at single.keyword in
    let free_rest = free_params Comma refl (at + length (written single.keyword)) single.params in
    let front : before Comma (words ++ (params ++ options)) ≡ words ++ params =
    before_free Comma words (params ++ options) free_words
    ∙ ap (λ (ts : List Token). words ++ ts) (before_free Comma params options free_rest ∙ ap (λ (ts : List Token). params ++ ts) (options_stop (at + length (written single.keyword) + length (printed_params single.params)) single.options) ∙ append-nil params) in
    let back : after Comma (words ++ (params ++ options)) ≡ after Comma options = after_free Comma words (params ++ options) free_words ∙ after_free Comma params options free_rest in
    ap (λ (ts : List Token). head_of ts >>= λ h. options_of (later Comma (after Comma (words ++ (params ++ options)))) >>= λ os. fine (record { keyword = h.keyword; params = h.params; options = os })) front
    ∙ ap (λ (r : Result Header GrammarFault). r >>= λ h. options_of (later Comma (after Comma (words ++ (params ++ options)))) >>= λ os. fine (record { keyword = h.keyword; params = h.params; options = os })) (head_again at (at + length (written single.keyword)) single.keyword single.params fits.keyword)
    ∙ ap (λ (b : Option (Token × List Token)). options_of (later Comma b) >>= λ os. fine (record { keyword = single.keyword; params = single.params; options = os })) back
    ∙ ap (λ (r : Result (List Named) GrammarFault). r >>= λ os. fine (record { keyword = single.keyword; params = single.params; options = os })) (options_again (at + length (written single.keyword) + length (printed_params single.params)) single.options fits.have_names)

one_again : (at : ℕ) (single : Parts) → IsSingle single → address_of (single_tokens at single) ≡ Ok (One single)
one_again at single fits =
    ap (halves (single_tokens at single)) (after_none Dual (single_tokens at single) (free_single at single))
    ∙ ap (λ (r : Result Parts GrammarFault). r >>= λ s. Ok (One s)) (single_again at single fits)

two_again : (at mark_at end_at other_at : ℕ) (left right : Parts) → IsSingle left → IsSingle right → address_of (single_tokens at left ++ token kinds.Dual mark_at end_at ∷ single_tokens other_at right) ≡ Ok (Two left right)
two_again at mark_at end_at other_at left right fits_left fits_right =
    let first = single_tokens at left in
    let second = single_tokens other_at right in
    let all = first ++ token kinds.Dual mark_at end_at ∷ second in
    let back : after Dual all ≡ Some (token kinds.Dual mark_at end_at, second) = after_free Dual first (token kinds.Dual mark_at end_at ∷ second) (free_single at left) in
    let front : before Dual all ≡ first = before_free Dual first (token kinds.Dual mark_at end_at ∷ second) (free_single at left) ∙ append-nil first in
    ap (halves all) back
    ∙ ap (λ (ts : List Token). second_half ts second (after Dual second)) front
    ∙ ap (second_half first second) (after_none Dual second (free_single other_at right))
    ∙ ap (λ (r : Result Parts GrammarFault). r >>= λ s. single_of second >>= λ t. Ok (Two s t)) (single_again at left fits_left)
    ∙ ap (λ (r : Result Parts GrammarFault). r >>= λ t. Ok (Two left t)) (single_again other_at right fits_right)

-- a whole text that is read as these tokens
whole_read : (text : List ℕ) (tokens : List Token) → length text ≤ 65536 → ReadAs text 0 tokens → tokens_of text ≡ Ok tokens
whole_read text tokens le read =
    short_read text le ∙ ap (tokens_from [] 0) (sym (append-nil text)) ∙ read [] ∙ ap (after_front tokens) (at_end [] (0 + length text)) ∙ ap Ok (append-nil tokens)

then_address : (text : List ℕ) (tokens : List Token) (address : RawAddress) → tokens_of text ≡ Ok tokens → address_of tokens ≡ Ok address → reading text ≡ Ok address
then_address text tokens address is_read spells = ap (λ (r : Result (List Token) WordFault). widen r >>= address_of) is_read ∙ spells

pub printed_again : (address : RawAddress) → IsAddress address → length (printed address) ≤ 65536 → reading (printed address) ≡ Ok address
printed_again (One single) fits le = then_address (printed_single single) (single_tokens 0 single) (One single) (whole_read (printed_single single) (single_tokens 0 single) le (single_read single 0)) (one_again 0 single fits)
printed_again (Two left right) fits le =
    let mark_at = 0 + length (printed_single left) in
    let tokens = single_tokens 0 left ++ token kinds.Dual mark_at (mark_at + 2) ∷ single_tokens (mark_at + 2) right in
    let read : ReadAs (printed_single left ++ (33 ∷ 33 ∷ printed_single right)) 0 tokens =
    joined_read (printed_single left) (33 ∷ 33 ∷ printed_single right) 0 (single_tokens 0 left) (token kinds.Dual mark_at (mark_at + 2) ∷ single_tokens (mark_at + 2) right) (single_read left 0)
    (joined_read (33 ∷ 33 ∷ []) (printed_single right) mark_at (token kinds.Dual mark_at (mark_at + 2) ∷ []) (single_tokens (mark_at + 2) right) (marks_read mark_at) (single_read right (mark_at + 2))) in
    then_address (printed (Two left right)) tokens (Two left right) (whole_read (printed (Two left right)) tokens le read) (two_again 0 mark_at (mark_at + 2) (mark_at + 2) left right fits.0 fits.1)

pub again : {E : Type 0} (address : RawAddress) (out : List ℕ) (r : Result (List ℕ) E) → IsAddress address → out ≡ printed address → IfOk r (λ text. text ≡ out) → IfOk r (λ text. length text ≤ 65536 → reading text ≡ Ok address)
again address out (Ok text) fits whole e = λ le.
    let is_printed : text ≡ printed address = e ∙ whole in
    ap reading is_printed ∙ printed_again address fits (subst (λ (t : List ℕ). length t ≤ 65536) is_printed le)
again address out (Err f) fits whole e = tt
