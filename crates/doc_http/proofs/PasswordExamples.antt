-- Worked examples: passwords of literal values.
use lib.Utf8.{encode}
use Rattle.std.proofs.Common.{◌≡◌, [], ◌∷◌, ◌++◌, true, false, codes, refl}
use Rattle.std.specs.Prelude.{Some, None}
use Rattle.std.specs.Str.{chars, is_utf8}
use Rattle.base64.proofs.OnLiterals.{base64_on_literals}
use Rattle.doc_http.specs.Passwords.{basic_text, password_in, password_of, token_in}
use Rattle.doc_page_parts.specs.Tokens.{is_token}

-- one name to unfold where an example computes
unfoldable computing : Unit {0}
unfolding base64_on_literals chars encode is_token is_utf8 password_in
computing = tt

-- ---- texts

texts :
    (basic_text (codes "Basic YW5uOnRvay1hbm4=") ≡ Some (codes "YW5uOnRvay1hbm4="))
    × (basic_text (codes "bAsIc   x y ") ≡ Some (codes "x y "))
    × (basic_text (codes "Basic ") ≡ Some [])
    × (basic_text (codes "Basic") ≡ None)
    × (basic_text (codes "Basic\tx") ≡ None)
    × (basic_text (codes " Basic x") ≡ None)
    × (basic_text (codes "Bearer x") ≡ None)
    × (basic_text [] ≡ None)
unfolding computing
texts = (refl, refl, refl, refl, refl, refl, refl, refl)

-- ---- passwords of bytes

passwords :
    (password_of (codes "ann:tok-ann") ≡ Some (codes "tok-ann"))
    × (password_of (codes ":tok-ann") ≡ Some (codes "tok-ann"))
    × (password_of (codes "an n\"<\\:tok-ann") ≡ Some (codes "tok-ann"))
    × (password_of (codes "a:x==") ≡ Some (codes "x=="))
    -- the first colon parts them, and no token holds one
    × (password_of (codes "ann:b:tok-ann") ≡ None)
    × (password_of (codes "tok-ann") ≡ None)
    × (password_of (codes "ann:") ≡ None)
    × (password_of [] ≡ None)
    -- nothing is cut off
    × (password_of (codes "ann:tok-ann ") ≡ None)
    × (password_of (codes "ann: tok-ann") ≡ None)
    × (password_of (codes "ann:tok-ann" ++ 0 ∷ []) ≡ None)
unfolding computing
passwords = (refl, refl, refl, refl, refl, refl, refl, refl, refl, refl, refl)

-- U+00E4, U+00A0 and U+10FFFF; a byte that is no UTF-8; U+0000, U+001F, U+007F, U+0080, U+009F
users :
    (password_of (0xC3 ∷ 0xA4 ∷ codes ":x") ≡ Some (codes "x"))
    × (password_of (0xC2 ∷ 0xA0 ∷ codes ":x") ≡ Some (codes "x"))
    × (password_of (0xF4 ∷ 0x8F ∷ 0xBF ∷ 0xBF ∷ codes ":x") ≡ Some (codes "x"))
    × (password_of (0xE4 ∷ codes ":x") ≡ None)
    × (password_of (0 ∷ codes ":x") ≡ None)
    × (password_of (97 ∷ 0x1F ∷ codes ":x") ≡ None)
    × (password_of (0x7F ∷ codes ":x") ≡ None)
    × (password_of (0xC2 ∷ 0x80 ∷ codes ":x") ≡ None)
    × (password_of (0xC2 ∷ 0x9F ∷ codes ":x") ≡ None)
unfolding computing
users = (refl, refl, refl, refl, refl, refl, refl, refl, refl)

-- ---- passwords of values

a_password : password_in (codes "Basic YW5uOnRvay1hbm4=") ≡ Some (codes "tok-ann")
unfolding computing
a_password = refl

without_a_name : password_in (codes "bAsIc   OnRvay1hbm4=") ≡ Some (codes "tok-ann")
unfolding computing
without_a_name = refl

nobody : password_in (codes "Basic YW5uOm5vYm9keQ==") ≡ Some (codes "nobody")
unfolding computing
nobody = refl

unpadded : password_in (codes "Basic YW5uOnRvay1hbm4") ≡ None
unfolding computing
unpadded = refl

padded_too_much : password_in (codes "Basic YW5uOnRvay1hbm4==") ≡ None
unfolding computing
padded_too_much = refl

-- the last symbol before the padding has a bit beyond the last byte
spare_bits : password_in (codes "Basic YW5uOnRvay1hbm5=") ≡ None
unfolding computing
spare_bits = refl

spare_bits_of_one_byte : password_in (codes "Basic YW5uOm5vYm9keR==") ≡ None
unfolding computing
spare_bits_of_one_byte = refl

-- the alphabet for addresses: `an?:x`
another_alphabet : (password_in (codes "Basic YW4/Ong=") ≡ Some (codes "x")) × (password_in (codes "Basic YW4_Ong=") ≡ None)
unfolding computing
another_alphabet = (refl, refl)

-- `a`, U+0007, `:tok-ann`
a_control_in_the_name : password_in (codes "Basic YQc6dG9rLWFubg==") ≡ None
unfolding computing
a_control_in_the_name = refl

-- `tok-ann`
no_colon : password_in (codes "Basic dG9rLWFubg==") ≡ None
unfolding computing
no_colon = refl

a_scheme_alone : (password_in (codes "Basic") ≡ None) × (password_in (codes "Basic ") ≡ None)
unfolding computing
a_scheme_alone = (refl, refl)

a_space_behind : password_in (codes "Basic YW5uOnRvay1hbm4= ") ≡ None
unfolding computing
a_space_behind = refl

another_scheme : password_in (codes "Bearer YW5uOnRvay1hbm4=") ≡ None
unfolding computing
another_scheme = refl

-- ---- tokens of values

tokens :
    (token_in true (Some (codes "Bearer tok-ann")) ≡ Some (codes "tok-ann"))
    × (token_in false (Some (codes "Bearer tok-ann")) ≡ Some (codes "tok-ann"))
    × (token_in true (Some (codes "Basic YW5uOnRvay1hbm4=")) ≡ Some (codes "tok-ann"))
    × (token_in false (Some (codes "Basic YW5uOnRvay1hbm4=")) ≡ None)
    × (token_in true (Some []) ≡ None)
    × (token_in true None ≡ None)
unfolding computing
tokens = (refl, refl, refl, refl, refl, refl)
