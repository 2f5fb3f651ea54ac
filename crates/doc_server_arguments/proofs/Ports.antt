-- 127.0.0.1 and a port.
use Rattle.std.proofs.Common.{◌≡◌, ℕ, ◌<◌, ◌≤◌, ◌==◌, ◌^◌, ◌&&◌, List, [], ◌∷◌, ◌++◌, length, take, drop, Bool, true, false, not, Option, Some, None, refl, sym, ap, ◌∙◌, subst, append-nil, arith, lit≤, take-append-drop, inl, inr}
use Rattle.std.specs.Prelude.{codes, nat_lt, option_and_then, option_map}
use Rattle.std.specs.Char.{is_ascii_digit}
use Rattle.std.specs.List.{list_all}
use Rattle.std.specs.Str.Parse.{AllDigits, IsNumeral, digits_value}
use Rattle.std.specs.Net.Grammar.{IsDotted, IsSocketText}
use Rattle.std.specs.Net.Reader.{read_decimal, read_ipv4, read_number, read_octet, read_port, read_socket_v4, read_socket_v6, v4_parts, v6_parts}
use Rattle.std.specs.declared.net.socket_addr.SocketAddr.{SocketAddr}
use Rattle.std.specs.declared.net.socket_addr.SocketAddr.TheVariants.{V4, V6}
use Rattle.std.proofs.lemmas.Bool.{cases_Bool}
use Rattle.std.proofs.lemmas.Bool.Decides.{nat_tests}
use Rattle.std.proofs.lemmas.Option.{none-some, same_Some}
use Rattle.std.proofs.lemmas.Str.Parse.{digit_from_value}
use Rattle.std.proofs.NetLemmas.Numbers.{read_number_sound}
use Rattle.std.proofs.NetLemmas.Options.{and_then_some, map_some, same_parts}
use Rattle.std.proofs.NetLemmas.Ipv4.{read_ipv4_sound}
use Rattle.std.proofs.NetLemmas.Sockets.{read_socket_v4_complete, read_socket_v6_complete}
use Rattle.doc_page_parts.proofs.Bools.{and_first, and_second}
use Rattle.doc_server_arguments.specs.Addresses.{address_of, loopback, v4_of}
use Rattle.doc_server_arguments.specs.Numbers.{are_digits, number_below, port_of}
use Rattle.doc_server_arguments.proofs.Digits.{digits_are}
use Rattle.doc_server_arguments.proofs.Reading.{read_as, spelled}

-- 127.0.0.1 at a port
abbrev pub local_at : ℕ → SocketAddr
local_at port = v4_of (127 ∷ 0 ∷ 0 ∷ 1 ∷ [], port)

both_true : (a b : Bool) → a ≡ true → b ≡ true → (a && b) ≡ true
both_true true true ha hb = refl
both_true true false ha hb = hb
both_true false b ha hb = ha

digit_told : (c : ℕ) (range : (48 ≤ c) × (c ≤ 57)) → is_ascii_digit c ≡ true
digit_told c range = grind (arith, nat_tests)

all_told : (word : List ℕ) → AllDigits 10 word → list_all is_ascii_digit word ≡ true
all_told [] all = refl
all_told (c ∷ cs) all =
    let range = digit_from_value c all.0 in
    both_true (is_ascii_digit c) (list_all is_ascii_digit cs) (digit_told c (omega (arith, range.0), omega (arith, range.1)))
    (all_told cs all.1)

some_told : (word : List ℕ) → 0 < length word → not (length word == 0) ≡ true
some_told word some = grind (arith, nat_tests)

digits_told : (word : List ℕ) → IsNumeral 10 word → are_digits word ≡ true
digits_told word is = both_true (not (length word == 0)) (list_all is_ascii_digit word) (some_told word is.0) (all_told word is.1)

number_told : (limit : ℕ) (word : List ℕ) → IsNumeral 10 word → digits_value 10 word < limit
    → number_below limit word ≡ Some (digits_value 10 word)
number_told limit word is small =
    let less : nat_lt (digits_value 10 word) limit ≡ true = grind (arith, nat_tests) in
    rw (digits_told word is, less) refl

numeral_by : (limit : ℕ) (word : List ℕ) (n : ℕ) → number_below limit word ≡ Some n
    → IsNumeral 10 word × (digits_value 10 word ≡ n) × (n < limit)
numeral_by limit word n e =
    elim (cases_Bool (are_digits word)) [
      | inl digits ↦ elim (cases_Bool (nat_lt (digits_value 10 word) limit)) [
        | inl less ↦
            let small : digits_value 10 word < limit = grind (arith, nat_tests) in
            let value : digits_value 10 word ≡ n = same_Some _ _ (rw (← e, digits, less) refl) in
            let some = and_first (not (length word == 0)) (list_all is_ascii_digit word) digits in
            let long : 0 < length word = grind (arith, nat_tests) in (
              (long, digits_are word (and_second (not (length word == 0)) (list_all is_ascii_digit word) digits)),
              value,
              subst
                  (λ v. v < limit) value small,
            )
        | inr more ↦ absurd (none-some n (rw (← e, digits, more) refl))
      ]
      | inr none ↦ absurd (none-some n (rw (← e, none) refl))
    ]

ip_spelled : IsDotted (codes "127.0.0.1") (127 ∷ 0 ∷ 0 ∷ 1 ∷ [])
unfolding read_ipv4 read_octet read_number
ip_spelled =
    let (front, split, dotted) = read_ipv4_sound (codes "127.0.0.1") (127 ∷ 0 ∷ 0 ∷ 1 ∷ []) [] refl in
    subst (λ t. IsDotted t (127 ∷ 0 ∷ 0 ∷ 1 ∷ [])) (sym (split ∙ append-nil front)) dotted

-- a port is read as 127.0.0.1 at that port
local_spelled : (port : List ℕ) (n : ℕ) → port_of port ≡ Some n → IsSocketText (loopback ++ port) (local_at n)
local_spelled port n e =
    let (numeral, value, small) = numeral_by (2 ^ 16) port n e in (
      codes "127.0.0.1",
      58 ∷ port,
      refl,
      ip_spelled,
      (port, refl, (numeral, value), small),
    )

-- what is read of 127.0.0.1 is its port
ip_read : (port : List ℕ) → read_socket_v4 (loopback ++ port)
    ≡ option_and_then (λ p. Some ((127 ∷ 0 ∷ 0 ∷ 1 ∷ [], p.0), p.1)) (read_decimal 0xffff port)
unfolding read_socket_v4 read_ipv4 read_octet read_number read_port
ip_read port = refl

no_v6 : (port : List ℕ) → read_socket_v6 (loopback ++ port) ≡ None
unfolding read_socket_v6
no_v6 port = refl

port_told : (port : List ℕ) (value : ℕ) (len : ℕ) → read_number 10 0xffff port ≡ Some (value, len) → drop len port ≡ []
    → port_of port ≡ Some value
port_told port value len e left =
    let (number, fits, count, stop) = read_number_sound 10 0xffff port value len (lit≤ tt) e in
    let whole : take len port ≡ port = sym (append-nil (take len port)) ∙ ap (λ rest. take len port ++ rest) (sym left)
    ∙ take-append-drop len port in
    let numeral = subst (λ t. IsNumeral 10 t) whole number.0 in
    let value_is : digits_value 10 port ≡ value = ap (digits_value 10) (sym whole) ∙ number.1 in
    number_told (2 ^ 16) port numeral (omega (arith, value_is, fits)) ∙ ap Some value_is

port_read : (port : List ℕ) (address : SocketAddr) → IsSocketText (loopback ++ port) address → (n : ℕ) × (port_of port ≡ Some n)
port_read port (V6 address) is = absurd (none-some (v6_parts address, [])
    (sym (no_v6 port) ∙ read_socket_v6_complete (loopback ++ port) address is))
port_read port (V4 address) is =
    and_then_some _ (read_decimal 0xffff port) (v4_parts address, [])
    (sym (ip_read port) ∙ read_socket_v4_complete (loopback ++ port) address is)
    λ found decimal whole.
    map_some _ (read_number 10 0xffff port) found decimal λ number read same.
    let left : drop number.1 port ≡ [] = ap (λ p. p.1) same ∙ (same_parts _ _ _ _ whole).1 in
    (number.0, port_told port number.0 number.1 read left)

local_by : (port : List ℕ) (read : Option ℕ) (address : Option SocketAddr) → port_of port ≡ read → address_of (loopback ++ port) ≡ address
    → address ≡ option_map local_at read
local_by port (Some n) address e a = sym a ∙ read_as (loopback ++ port) (local_at n) (local_spelled port n e)
local_by port None None e a = refl
local_by port None (Some address) e a =
    let there = port_read port address (spelled (loopback ++ port) address a) in absurd (none-some there.0 (sym e ∙ there.1))

pub local_read : (port : List ℕ) → address_of (loopback ++ port) ≡ option_map local_at (port_of port)
local_read port = local_by port (port_of port) (address_of (loopback ++ port)) refl refl
