-- Laws of replies to owners who edit.
use Rattle.std.proofs.Common.{◌≡◌, ◌≢◌, ◌++◌, ◌==◌, ◌&&◌, ℕ, Bool, true, false, List, [], refl, ◌∙◌, sym, arith, append-nil}
use Rattle.std.specs.Prelude.{not, codes, None}
use Rattle.std.proofs.lemmas.Bool.Decides.{nat_tests}
use Rattle.doc_http_replies.specs.EditReplies.{edit_bytes, edit_content, edit_guards}
use Rattle.doc_http_replies.specs.Heads.{head_of}
use Rattle.doc_http_replies.specs.Laws.{AStatusIsToldAlike, told_alone}
use Rattle.doc_http_replies.specs.PeopleReplies.{typed_lines}
use Rattle.doc_http_replies.specs.ReplyForms.{plain_reply}
use Rattle.doc_http_replies.specs.Replies.{challenge_line, close_line, content_lines, content_of, content_type, reply_bytes, reply_head, status_of, where_true}

no_test : (code known : ℕ) → code ≢ known → (code == known) ≡ false
no_test code known other = grind (arith, nat_tests)

-- of two tests of which the second fails
first_alone : (a b : Bool) → b ≡ false → (not a && not b) ≡ not a
first_alone true b is = refl
first_alone false b is = rw is refl

nothing_between : (start lines end tail close : List ℕ)
    → (start ++ (lines ++ [] ++ [] ++ ([] ++ close)) ++ end) ++ tail ≡ (start ++ (lines ++ [] ++ [] ++ [] ++ close) ++ end) ++ tail
nothing_between start lines end tail close = simp append-nil

same_content : (code : ℕ) (text : List ℕ) → code ≢ 200 → edit_content (told_alone code text) ≡ content_of (plain_reply code None None)
same_content code text other = rw (no_test code 200 other) (append-nil (status_of code ++ codes "\n"))

pub a_status_is_told_alike : AStatusIsToldAlike
unfolding edit_bytes reply_bytes reply_head typed_lines
a_status_is_told_alike code text head_only close no_text no_change no_challenge =
    let has = first_alone (code == 204) (code == 304) (no_test code 304 no_change) in
    let content = same_content code text no_text in
    let guards : edit_guards code ≡ [] = rw (no_test code 200 no_text, no_test code 304 no_change) refl in
    let challenge : challenge_line code ≡ [] = rw (no_test code 401 no_challenge) refl in
    let start = codes "HTTP/1.1 " ++ status_of code ++ codes "\r\n" in
    let reply = plain_reply code None None in
    let tail = where_true (not head_only && not (code == 204)) (content_of reply) in
    (λ i. head_of code (where_true (has i) (typed_lines (content_type false) (content i)) ++ [] ++ [] ++ (guards i ++ close_line close))
    ++ where_true (not head_only && has i) (content i))
    ∙ nothing_between start (content_lines reply) (codes "\r\n") tail (close_line close)
    ∙ sym (λ i. (start ++ (content_lines reply ++ [] ++ [] ++ challenge i ++ close_line close) ++ codes "\r\n") ++ tail)
