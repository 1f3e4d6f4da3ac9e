-- What is put for a field is ASCII.
use Rattle.std.{proofs.Common.{ℕ, ◌≡◌, ◌<◌, List, [], ◌∷◌, ◌++◌, Bool, true, false, nat_lt, if◌then◌else◌, refl, arith, ◌∙◌, ap, inl}, specs.Prelude.{Option, Some}}
use Rattle.std.specs.{Prelude.{None, codes, Result, Ok, Err, OnOk, unwrap_or}, Result.{is_err}, List.{flat_map, list_all}, Int.{to_be_bytes, w32}, Str.{IsAscii}}
use Rattle.std.proofs.lemmas.{Bool.Decides.{nat_tests}, Str.{IsAscii-append}, Str.Ascii.{IsAscii-nil, IsAscii-cons}}
use Rattle.ppdb_base.specs.{Written.{appended}, Escaped.{escaped, escaped_byte, code_of, is_plain}}
use Rattle.hex.{specs.Hex.{encode_lower, lower_digits}, proofs.HexLemmas.{IsAscii-encode_with}}
use Rattle.uuid.{specs.Text.{lower}, specs.Parts.{swap_fields}, proofs.TextLemmas.{hyphenated_ascii}}
use Rattle.ppdb_show_lines.specs.{Values.{table_text, token_text, guid_text, hex_text}, Lines.{Content, number, table, token, guid, octets, name, absent}}
use Rattle.ppdb_show_lines.specs.{Lines.{content_text}, Views.{IsText}}

all_small : (xs : List ℕ) → list_all (λ c. nat_lt c 128) xs ≡ true → IsAscii xs
all_small [] h = IsAscii-nil
all_small (x ∷ xs) h = IsAscii-cons x xs (grind (arith, nat_tests)) (all_small xs (grind (arith, nat_tests)))

digits_ascii : IsAscii lower_digits
digits_ascii = all_small lower_digits refl

hex_ascii : (bytes : List ℕ) → IsAscii (encode_lower bytes)
hex_ascii bytes = IsAscii-encode_with lower_digits bytes digits_ascii

dash_ascii : IsAscii (codes "-")
dash_ascii = IsAscii-cons 45 [] (omega arith) IsAscii-nil

hexed_ascii : (bytes : List ℕ) → IsAscii (hex_text bytes)
unfolding hex_text
hexed_ascii [] = dash_ascii
hexed_ascii (b ∷ bs) = hex_ascii (b ∷ bs)

guided_ascii : (g : Option (List ℕ)) → IsAscii (guid_text g)
unfolding guid_text
guided_ascii None = dash_ascii
guided_ascii (Some g) = hyphenated_ascii lower (swap_fields g) (inl refl)

coded_ascii : (byte : ℕ) → IsAscii (code_of byte)
coded_ascii byte =
    IsAscii-cons 92 (120 ∷ encode_lower (byte ∷ [])) (omega arith) (IsAscii-cons 120 (encode_lower (byte ∷ [])) (omega arith) (hex_ascii (byte ∷ [])))

byte_by : (byte : ℕ) (plain : Bool) → (plain ≡ true → byte < 128) → IsAscii (if plain then byte ∷ [] else code_of byte)
byte_by byte true h = IsAscii-cons byte [] (h refl) IsAscii-nil
byte_by byte false h = coded_ascii byte

plain_small : (byte : ℕ) → is_plain byte ≡ true → byte < 128
plain_small byte h = grind (arith, nat_tests)

byte_ascii : (byte : ℕ) → IsAscii (escaped_byte byte)
byte_ascii byte = byte_by byte (is_plain byte) (plain_small byte)

bytes_ascii : (bytes : List ℕ) → IsAscii (flat_map escaped_byte bytes)
bytes_ascii [] = IsAscii-nil
bytes_ascii (b ∷ bs) = IsAscii-append (escaped_byte b) (flat_map escaped_byte bs) (byte_ascii b) (bytes_ascii bs)

escaped_ascii : (bytes : List ℕ) → IsAscii (escaped bytes)
escaped_ascii [] = IsAscii-cons 92 (45 ∷ []) (omega arith) dash_ascii
escaped_ascii (b ∷ bs) = bytes_ascii (b ∷ bs)

table_ascii : (t : ℕ) → IsAscii (table_text t)
unfolding table_text
table_ascii t = hex_ascii (t ∷ [])

token_ascii : (t : ℕ) → IsAscii (token_text t)
unfolding token_text
token_ascii t = hex_ascii (to_be_bytes w32 t)

pub content_ascii : (c : Content) → IsText c → IsAscii (content_text c)
content_ascii (number n) h = absurd h
content_ascii (table t) h = table_ascii t
content_ascii (token t) h = token_ascii t
content_ascii (guid g) h = guided_ascii g
content_ascii (octets bytes) h = hexed_ascii bytes
content_ascii (name bytes) h = escaped_ascii bytes
content_ascii (absent words) h = absurd h

-- what a sink that began empty was given
pub given : {T E : Type 0} (r : Result T E) (old new text : List ℕ) → is_err r ≡ false → old ≡ [] → OnOk r (Some new ≡ appended (Some old) text) → new ≡ text
given (Ok x) old new text h e p = ap (λ (o : Option (List ℕ)). unwrap_or o []) p ∙ ap (λ (xs : List ℕ). xs ++ text) e
given (Err x) old new text h e p = absurd (grind (arith, h))
