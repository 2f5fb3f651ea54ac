-- How long a status is.
use Rattle.std.proofs.Common.{◌≡◌, ℕ, ◌+◌, ◌/◌, ◌%◌, ◌<◌, ◌≤◌, ◌==◌, Bool, true, false, List, [], ◌∷◌, length, codes, ap, ◌∙◌}
use Rattle.std.proofs.Common.{arith, length-append}
use Rattle.std.specs.Prelude.{decimal, if◌then◌else◌}
use Rattle.std.proofs.lemmas.Fmt.{decimal_digit, decimal_step}
use Rattle.doc_http_replies.specs.Replies.{reason_of}

-- ---- the digits of its code

pub one_digit : (n : ℕ) → n < 10 → length (decimal n) ≡ 1
one_digit n small = ap length (decimal_digit n small)

one_longer : (n : ℕ) → 10 ≤ n → n < 65536 → length (decimal n) ≡ length (decimal (n / 10)) + 1
one_longer n low high =
    ap length (decimal_step n low (omega (arith, high))) ∙ length-append (decimal (n / 10)) ((48 + n % 10) ∷ [])

pub two_digits : (n : ℕ) → 10 ≤ n → n < 100 → length (decimal n) ≡ 2
two_digits n low high =
    let longer = one_longer n low (omega arith) in
    let rest = one_digit (n / 10) (omega arith) in
    omega arith

pub three_digits : (n : ℕ) → 100 ≤ n → n < 1000 → length (decimal n) ≡ 3
three_digits n low high =
    let longer = one_longer n (omega arith) (omega arith) in
    let rest = two_digits (n / 10) (omega arith) (omega arith) in
    omega arith

pub four_digits : (n : ℕ) → 1000 ≤ n → n < 10000 → length (decimal n) ≡ 4
four_digits n low high =
    let longer = one_longer n (omega arith) (omega arith) in
    let rest = three_digits (n / 10) (omega arith) (omega arith) in
    omega arith

pub five_digits : (n : ℕ) → 10000 ≤ n → n < 65536 → length (decimal n) ≡ 5
five_digits n low high =
    let longer = one_longer n (omega arith) high in
    let rest = four_digits (n / 10) (omega arith) (omega arith) in
    omega arith

-- ---- its reason

either_is_short : (test : Bool) (a b : List ℕ) → length a < 50 → length b < 50 → length (if test then a else b) < 50
either_is_short true a b one other = one
either_is_short false a b one other = other

-- a choice that a code makes, where the reason that it chooses is short
chosen : (code known : ℕ) (reason rest : List ℕ) → length reason < 50 → length rest < 50
    → length (if code == known then reason else rest) < 50
chosen code known reason rest one other = either_is_short (code == known) reason rest one other

pub reason_is_short : (code : ℕ) → length (reason_of code) < 50
unfolding reason_of
reason_is_short code =
    chosen code 200 (codes "OK") _ (omega arith) (chosen code 201 (codes "Created") _ (omega arith)
    (chosen code 204 (codes "No Content") _ (omega arith) (chosen code 301 (codes "Moved Permanently") _ (omega arith)
    (chosen code 304 (codes "Not Modified") _ (omega arith) (chosen code 400 (codes "Bad Request") _ (omega arith)
    (chosen code 401 (codes "Unauthorized") _ (omega arith) (chosen code 403 (codes "Forbidden") _ (omega arith)
    (chosen code 404 (codes "Not Found") _ (omega arith) (chosen code 405 (codes "Method Not Allowed") _ (omega arith)
    (chosen code 409 (codes "Conflict") _ (omega arith) (chosen code 412 (codes "Precondition Failed") _ (omega arith)
    (chosen code 413 (codes "Content Too Large") _ (omega arith) (chosen code 415 (codes "Unsupported Media Type") _ (omega arith)
    (chosen code 431 (codes "Request Header Fields Too Large") _ (omega arith) (chosen code 501 (codes "Not Implemented") _ (omega arith)
    (chosen code 507 (codes "Insufficient Storage") [] (omega arith) (omega arith)))))))))))))))))
