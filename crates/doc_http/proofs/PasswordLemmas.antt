-- The password of a login.
use Rattle.std.proofs.Common.{◌≡◌, ℕ, Bool, true, false, ◌&&◌, not, List, ap, refl, sym, ◌∙◌}
use Rattle.std.specs.Prelude.{IsUtf8, Option, Some, None, Result, Ok, Err}
use Rattle.std.specs.List.{list_all}
use Rattle.std.specs.Result.{result_ok}
use Rattle.std.specs.Str.{chars, is_utf8}
use Rattle.std.proofs.lemmas.Str.{IsUtf8-from_is_utf8, is_utf8-from_IsUtf8}
use Rattle.base64.specs.declared.decode.DecodeError.{DecodeError}
use Rattle.base64.specs.declared.engine.general_purpose.GeneralPurpose.{GeneralPurpose}
use Rattle.base64.specs.Engines.{standard}
use Rattle.base64.specs.GeneralPurpose.{IsBytes, decode_of, decoded_of, encode_of}
use Rattle.base64.proofs.EngineFacts.{decode_of_strict}
use Rattle.doc_http.specs.declared.request.Request.{Request}
use Rattle.doc_http.specs.Bearers.{bearer_in, bearer_of}
use Rattle.doc_http.specs.Passwords.{is_user, or_password, token_asking, token_in}
use Rattle.doc_page_parts.specs.Paths.{is_control}

-- ---- names

pub user_of_text : (bytes text : List ℕ) (has_none : Bool) → text ≡ bytes → IsUtf8 bytes
    → has_none ≡ list_all (λ c. not (is_control c)) (chars text) → has_none ≡ is_user bytes
user_of_text bytes text has_none same utf8 is =
    let test = λ (b : Bool). b && list_all (λ c. not (is_control c)) (chars bytes) in
    is ∙ ap (λ t. list_all (λ c. not (is_control c)) (chars t)) same ∙ sym (ap test (is_utf8-from_IsUtf8 bytes utf8))

pub no_user : (bytes : List ℕ) → ¬ (IsUtf8 bytes) → false ≡ is_user bytes
no_user bytes other = by_test (is_utf8 bytes) refl
  where
    by_test : (t : Bool) → is_utf8 bytes ≡ t → false ≡ t && list_all (λ c. not (is_control c)) (chars bytes)
    by_test true is = absurd (other (IsUtf8-from_is_utf8 bytes is))
    by_test false is = refl

-- ---- base64

pub decoded_ok : (engine : GeneralPurpose) (text bytes made : List ℕ) → decode_of engine text ≡ Ok bytes → made ≡ bytes
    → Some made ≡ decoded_of engine text
unfolding decoded_of
decoded_ok engine text bytes made decodes same = ap Some same ∙ sym (ap result_ok decodes)

pub decoded_err : (engine : GeneralPurpose) (text : List ℕ) (error : DecodeError) → decode_of engine text ≡ Err error
    → None ≡ decoded_of engine text
unfolding decoded_of
decoded_err engine text error fails = sym (ap result_ok fails)

ok_from_some : (result : Result (List ℕ) DecodeError) (bytes : List ℕ) → result_ok result ≡ Some bytes → result ≡ Ok bytes
ok_from_some (Ok found) bytes is = cc
ok_from_some (Err error) bytes is = cc

spelled : (text bytes : List ℕ) → IsBytes text → decoded_of standard text ≡ Some bytes → text ≡ encode_of standard bytes
unfolding decoded_of
spelled text bytes is_bytes is = decode_of_strict standard text bytes (refl, refl) is_bytes
    (ok_from_some (decode_of standard text) bytes is)

pub spelled_in_one_way : (a b bytes : List ℕ) → IsBytes a → IsBytes b → decoded_of standard a ≡ Some bytes
    → decoded_of standard b ≡ Some bytes → a ≡ b
spelled_in_one_way a b bytes a_bytes b_bytes of_a of_b = spelled a bytes a_bytes of_a ∙ sym (spelled b bytes b_bytes of_b)

-- ---- tokens

pub bearer_goes_first : (login : Bool) (value : Option (List ℕ)) (token : List ℕ) → bearer_in value ≡ Some token
    → token_in login value ≡ Some token
bearer_goes_first login None token is = cc
bearer_goes_first login (Some value) token is = ap (or_password login value) is

without_password : (value : List ℕ) (bearer : Option (List ℕ)) → or_password false value bearer ≡ bearer
without_password value None = refl
without_password value (Some token) = refl

bearer_alone : (value : Option (List ℕ)) → token_in false value ≡ bearer_in value
bearer_alone None = refl
bearer_alone (Some value) = without_password value (bearer_in (Some value))

pub bearer_alone_asks : (request : Request) → token_asking false request ≡ bearer_of request
unfolding token_asking bearer_of
bearer_alone_asks request = bearer_alone request.authorization
