-- How long the content of a reply is.
use Rattle.std.proofs.Common.{◌≡◌, ◌≢◌, ℕ, ◌+◌, ◌<◌, ◌≤◌, ◌==◌, true, false, List, ◌++◌, length, codes, refl, ap, ◌∙◌}
use Rattle.std.proofs.Common.{sym, arith, length-append}
use Rattle.std.specs.Prelude.{decimal, if◌then◌else◌}
use Rattle.std.proofs.lemmas.Bool.Decides.{nat_tests}
use Rattle.std.proofs.lemmas.List.{append_assoc}
use Rattle.doc_http_replies.proofs.StatusLemmas.{three_digits}
use Rattle.doc_http_replies.specs.declared.reply.Reply.{Reply}
use Rattle.doc_http_replies.specs.Replies.{is_reply_code, reason_of, status_of, content_of, content_type, content_lines, field_line}

in_range : (code : ℕ) → is_reply_code code ≡ true → (100 ≤ code) × (code < 1000)
in_range code known = (grind (arith, nat_tests), grind (arith, nat_tests))

-- the code, a space, the reason and a line feed
length_of_line : (code : ℕ) → is_reply_code code ≡ true → length (reason_of code) + 5 ≡ length (status_of code ++ codes "\n")
length_of_line code known =
    let range = in_range code known in
    let digits = three_digits code range.0 range.1 in
    omega (
      arith,
      length-append (status_of code) (codes "\n"),
      length-append (decimal code ++ codes " ") (reason_of code),
      length-append
          (decimal code) (codes " "),
    )

pub length_of_content : (reply : Reply) → is_reply_code reply.code ≡ true → reply.code ≢ 200
    → length (reason_of reply.code) + 5 ≡ length (content_of reply)
length_of_content reply known other =
    let test : (reply.code == 200) ≡ false = grind (arith, nat_tests) in
    length_of_line reply.code known ∙ ap (λ t. length (if t then reply.body else status_of reply.code ++ codes "\n")) (sym test)

-- what is said of a content, one line after the other
pub content_lines_after : (reply : Reply) (start typed kind : List ℕ) (len : ℕ) → reply.code ≢ 204
    → kind ≡ content_type reply.html → typed ≡ start ++ field_line (codes "Content-Type") kind → len ≡ length (content_of reply)
    → typed ++ field_line (codes "Content-Length") (decimal len) ≡ start ++ content_lines reply
content_lines_after reply start typed kind len other kind_is typed_is len_is =
    let test : (reply.code == 204) ≡ false = grind (arith, nat_tests) in
    rw (test, typed_is, kind_is, len_is, append_assoc) refl

-- ---- texts that were written, one behind the other

pub two_written : (old first second a b : List ℕ) → first ≡ old ++ a → second ≡ first ++ b → second ≡ old ++ (a ++ b)
two_written old first second a b one two = rw (two, one, append_assoc) refl

pub four_written : (old first second third fourth a b c d : List ℕ) → first ≡ old ++ a → second ≡ first ++ b → third ≡ second ++ c
    → fourth ≡ third ++ d → fourth ≡ old ++ (a ++ b ++ c ++ d)
four_written old first second third fourth a b c d one two three four =
    four ∙ ap (λ t. t ++ d) (three ∙ ap (λ t. t ++ c) (two ∙ ap (λ t. t ++ b) one)) ∙ simp append_assoc

pub five_written : (old first second third fourth fifth a b c d e : List ℕ) → first ≡ old ++ a → second ≡ first ++ b → third ≡ second ++ c
    → fourth ≡ third ++ d → fifth ≡ fourth ++ e → fifth ≡ old ++ (a ++ b ++ c ++ (d ++ e))
five_written old first second third fourth fifth a b c d e one two three four five =
    five ∙ ap (λ t. t ++ e) (four ∙ ap (λ t. t ++ d) (three ∙ ap (λ t. t ++ c) (two ∙ ap (λ t. t ++ b) one))) ∙ simp append_assoc
