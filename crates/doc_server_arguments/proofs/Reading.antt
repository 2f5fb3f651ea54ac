-- A text is read as the address that it spells.
use Rattle.std.proofs.Common.{◌≡◌, ℕ, List, [], ◌∷◌, length, Option, Some, None, Result, Ok, Err, refl, sym, ap, ◌∙◌, subst, append-nil, ne_eqb, arith, ◌==◌, Bool, true, false}
use Rattle.std.specs.Prelude.{option_map, if◌then◌else◌}
use Rattle.std.specs.Option.{option_or}
use Rattle.std.specs.Result.{result_ok}
use Rattle.std.specs.Net.Grammar.{Parses, IsSocketText}
use Rattle.std.specs.Net.Reader.{Read, read_socket_v4, read_socket_v6, whole_value, v4_parts, v6_parts}
use Rattle.std.specs.declared.net.socket_addr.SocketAddr.{SocketAddr}
use Rattle.std.specs.declared.net.socket_addr.SocketAddr.TheVariants.{V4, V6}
use Rattle.std.proofs.lemmas.Option.{none-some, same_Some}
use Rattle.std.proofs.NetLemmas.Sockets.{read_socket_v4_complete, read_socket_v4_sound, read_socket_v6_complete, read_socket_v6_sound}
use Rattle.std.proofs.NetLemmas.Theorems.{Parses_gives, IsSocketText_unique}
use Rattle.doc_server_arguments.specs.Addresses.{address_of, v4_of, v6_of}

cut_off : {A : Type 0} (b : Bool) (found value : A) → b ≡ false → (if b then Some found else None) ≡ Some value → ⊥
cut_off true found value isnt e = absurd (cc)
cut_off false found value isnt e = none-some value e

-- a value that was read to the end
whole_read : {A : Type 0} (read : Read A) (value : A) → whole_value read ≡ Some value → read ≡ Some (value, [])
whole_read None value e = absurd (none-some value e)
whole_read (Some (found, [])) value e = ap (λ v. Some (v, [])) (same_Some found value e)
whole_read (Some (found, c ∷ rest)) value e = absurd
    (cut_off (length (c ∷ rest) == 0) found value (ne_eqb (length (c ∷ rest)) 0 (omega arith)) e)

-- what spells an address is read as that
v4_read : (text : List ℕ) (parts : List ℕ × ℕ) → whole_value (read_socket_v4 text) ≡ Some parts → IsSocketText text (v4_of parts)
v4_read text parts e =
    let (front, split, spelled) = read_socket_v4_sound text [] (record { ip = record { octets = parts.0 }; port = parts.1 })
    (whole_read _ _ e) in
    subst (λ t. IsSocketText t (v4_of parts)) (sym (split ∙ append-nil front)) spelled

v6_read : (text : List ℕ) (parts : List ℕ × ℕ × ℕ × ℕ) → whole_value (read_socket_v6 text) ≡ Some parts → IsSocketText text (v6_of parts)
v6_read text parts e =
    let (front, split, spelled) = read_socket_v6_sound text []
    (record { ip = record { segments = parts.0 }; port = parts.1; flowinfo = parts.2; scope_id = parts.3 }) (whole_read _ _ e) in
    subst (λ t. IsSocketText t (v6_of parts)) (sym (split ∙ append-nil front)) spelled

-- an address that is read is one that the text spells
by_parts : (text : List ℕ) (v4 : Option (List ℕ × ℕ)) (v6 : Option (List ℕ × ℕ × ℕ × ℕ)) → whole_value (read_socket_v4 text) ≡ v4
    → whole_value (read_socket_v6 text) ≡ v6 → (address : SocketAddr) → option_or (option_map v4_of v4) (option_map v6_of v6) ≡ Some address
    → IsSocketText text address
by_parts text (Some parts) v6 e4 e6 address e = subst (IsSocketText text) (same_Some _ _ e) (v4_read text parts e4)
by_parts text None (Some parts) e4 e6 address e = subst (IsSocketText text) (same_Some _ _ e) (v6_read text parts e6)
by_parts text None None e4 e6 address e = absurd (none-some address e)

pub spelled : (text : List ℕ) (address : SocketAddr) → address_of text ≡ Some address → IsSocketText text address
unfolding address_of
spelled text address e = by_parts text _ _ refl refl address e

-- a text that spells an address is read as one
some_read : (text : List ℕ) (v4 : Option (List ℕ × ℕ)) (v6 : Option (List ℕ × ℕ × ℕ × ℕ)) → whole_value (read_socket_v4 text) ≡ v4
    → whole_value (read_socket_v6 text) ≡ v6 → (address : SocketAddr) → IsSocketText text address
    → option_or (option_map v4_of v4) (option_map v6_of v6) ≡ None → ⊥
some_read text (Some parts) v6 e4 e6 address is e = none-some _ (sym e)
some_read text None (Some parts) e4 e6 address is e = none-some _ (sym e)
some_read text None None e4 e6 (V4 address) is e = none-some (v4_parts address)
    (sym e4 ∙ ap whole_value (read_socket_v4_complete text address is))
some_read text None None e4 e6 (V6 address) is e = none-some (v6_parts address)
    (sym e6 ∙ ap whole_value (read_socket_v6_complete text address is))

pub not_spelled : (text : List ℕ) (address : SocketAddr) → address_of text ≡ None → IsSocketText text address → ⊥
unfolding address_of
not_spelled text address e is = some_read text _ _ refl refl address is e

read_by : (text : List ℕ) (address : SocketAddr) (read : Option SocketAddr) → address_of text ≡ read → IsSocketText text address
    → read ≡ Some address
read_by text address None e is = absurd (not_spelled text address e is)
read_by text address (Some other) e is = ap Some (IsSocketText_unique text other address (spelled text other e) is)

pub read_as : (text : List ℕ) (address : SocketAddr) → IsSocketText text address → address_of text ≡ Some address
read_as text address is = read_by text address (address_of text) refl is

-- what the library's parser gives
parsed_by : {E : Type 0} (text : List ℕ) (read : Option SocketAddr) (r : Result SocketAddr E) → address_of text ≡ read
    → Parses IsSocketText text r
    → result_ok r ≡ read
parsed_by text None (Ok address) e parses = absurd (not_spelled text address e parses)
parsed_by text None (Err error) e parses = refl
parsed_by text (Some address) r e parses =
    ap result_ok (Parses_gives IsSocketText text address r (IsSocketText_unique text) (spelled text address e) parses)

pub parsed : {E : Type 0} (text : List ℕ) (r : Result SocketAddr E) → Parses IsSocketText text r → result_ok r ≡ address_of text
parsed text r parses = parsed_by text (address_of text) r refl parses
