-- The text that is printed of a module: its tokens, with a line for each port and each item. This project's.
use Rattle.std.specs.Prelude.{◌≡◌, ℕ, ◌^◌, Bool, true, false, ◌&&◌, ◌||◌, nat_lt, not, List, [], ◌∷◌, ◌++◌, length, flat_map, bytes_eq, codes, decimal}
use Rattle.std.specs.Prelude.{if◌then◌else◌}
use Rattle.std.specs.List.{list_all}
use Rattle.hw_names.specs.Name.{Text}
use Rattle.ver_lang.specs.Grammar.{is_module, item_tokens, key, mark, module_tokens, name, signal}
use Rattle.ver_lang.specs.Token.{Token, Keyword, Mark, Escaped, Number, Sized, is_one_of, is_plain_name, is_printed, marks}
use Rattle.ver_lang.specs.Tree.{Signal, Module}

-- the bytes of a token; an escaped name ends with a space
abbrev pub word_of : Token → Text
word_of (Keyword text) = text
word_of (Mark text) = text
word_of (Escaped name) = codes "\\" ++ name ++ codes " "
word_of (Number n) = decimal n
word_of (Sized width value) = decimal width ++ codes "'d" ++ decimal value

abbrev pub is_colon : Token → Bool
is_colon (Mark text) = bytes_eq text (codes ":")
is_colon token = false

-- `(`, `[`, `{`, `~`, `!` and `@`
abbrev pub opens : Token → Bool
opens (Mark text) = is_one_of (codes "(" ∷ codes "[" ∷ codes "{" ∷ codes "~" ∷ codes "!" ∷ codes "@" ∷ []) text
opens token = false

-- `)`, `]` and `}`
abbrev pub shuts : Token → Bool
shuts (Mark text) = is_one_of (codes ")" ∷ codes "]" ∷ codes "}" ∷ []) text
shuts token = false

-- `,` and `;`
abbrev pub parts : Token → Bool
parts (Mark text) = is_one_of (codes "," ∷ codes ";" ∷ []) text
parts token = false

abbrev pub is_mark : Token → Bool
is_mark (Mark text) = true
is_mark token = false

abbrev pub is_sized : Token → Bool
is_sized (Sized width value) = true
is_sized token = false

-- the second stands right after the first: after a name, which has its own space; after what opens; before what shuts or parts; and round the colon of [H:L]
abbrev pub touches : Token → Token → Bool
touches (Escaped name) next = true
touches (Number n) next = shuts next || parts next || is_colon next
touches token (Number n) = opens token || is_colon token
touches token next = (opens token && (opens next || not (is_mark next))) || ((is_sized token || shuts token) && (shuts next || parts next))

-- what stands between two tokens: a space, or nothing
abbrev pub between : Token → Token → Text
between token next = if touches token next then [] else codes " "

-- tokens after this one
abbrev pub rendered_after : Token → List Token → Text
rendered_after token [] = []
rendered_after token (next ∷ tokens) = between token next ++ word_of next ++ rendered_after next tokens

abbrev pub rendered : List Token → Text
rendered [] = []
rendered (token ∷ tokens) = word_of token ++ rendered_after token tokens

-- a line inside the module
abbrev pub line : List Token → Text
line tokens = codes "  " ++ rendered tokens ++ codes "\n"

-- a port after another one
abbrev pub port_text : Text → Signal → Text
port_text direction s = codes ",\n  " ++ rendered (key direction ++ key (codes "wire") ++ signal s)

-- the clock, then the other inputs, then the outputs
abbrev pub ports_text : Module → Text
ports_text m =
    codes "  " ++ rendered (key (codes "input") ++ key (codes "wire") ++ name m.clock)
    ++ flat_map (port_text (codes "input")) m.ins ++ flat_map (port_text (codes "output")) m.outs ++ codes "\n"

-- the first line, the ports, the items, the last line
abbrev pub module_text : Module → Text
module_text m =
    rendered (key (codes "module") ++ name m.name ++ mark (codes "(")) ++ codes "\n" ++ ports_text m ++ codes ");\n"
    ++ flat_map (λ item. line (item_tokens m.clock item)) m.items ++ codes "endmodule\n"

-- a number that a text may have
abbrev pub is_number : ℕ → Bool
is_number n = nat_lt n (2 ^ 128)

-- the bytes of the token are its own: a name has a byte or more, all printed, and no number is too large
abbrev pub is_written : Token → Bool
is_written (Keyword text) = is_plain_name text
is_written (Mark text) = is_one_of marks text
is_written (Escaped name) = nat_lt 0 (length name) && list_all is_printed name
is_written (Number n) = is_number n
is_written (Sized width value) = is_number width && is_number value

-- the module has a text
abbrev pub HasModuleText : Module → Type 0
HasModuleText m = (is_module m ≡ true) × (list_all is_written (module_tokens m) ≡ true)
