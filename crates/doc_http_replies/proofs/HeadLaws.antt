-- Laws of heads.
use Rattle.std.proofs.Common.{◌≡◌, ◌++◌, ◌==◌, ◌&&◌, ℕ, Bool, true, false, List, [], refl, ◌∙◌, arith, append-nil}
use Rattle.std.specs.Prelude.{not, codes, Option, Some, None}
use Rattle.std.proofs.lemmas.Bool.Decides.{nat_tests}
use Rattle.std.proofs.lemmas.List.{append_assoc}
use Rattle.doc_http_replies.specs.Heads.{Dress, challenge_lines, dressed_bytes, dressed_head, guard_lines, is_html, nosniff_line, policy_line, private_lines, referrer_line, undressed}
use Rattle.doc_http_replies.specs.Laws.{NoHtmlWithoutAPolicy, NoPersonsPageWithoutAPolicy, NothingIsAdded}
use Rattle.doc_http_replies.specs.PeopleReplies.{people_bytes, people_challenge_line, typed_lines}
use Rattle.doc_http_replies.specs.Replies.{allow_line, close_line, content_lines, content_of, content_type, field_line, location_line, reply_bytes, reply_head, status_of, where_true}
use Rattle.doc_http_replies.specs.declared.reply.Reply.{Reply}

pub nothing_is_added : NothingIsAdded
unfolding dressed_bytes dressed_head reply_bytes reply_head
nothing_is_added reply head_only close = refl

-- the same of a reply whose manner adds nothing
pub plainly : (dress : Dress) (with reply : Reply) (head head_only ends close : Bool) → dress ≡ undressed → with ≡ reply
    → head ≡ head_only → ends ≡ close → dressed_bytes dress with head ends ≡ reply_bytes reply head_only close
plainly dress with reply head head_only ends close bare same by_head by_end =
    (λ i. dressed_bytes (bare i) (same i) (by_head i) (by_end i)) ∙ nothing_is_added reply head_only close

-- a line in the midst of lines ends a front of the whole
ends_a_front : (start front policy nosniff private last end content : List ℕ)
    → (start ++ ((front ++ []) ++ ((policy ++ nosniff ++ private) ++ last)) ++ end) ++ content
    ≡ (start ++ (front ++ policy)) ++ ((nosniff ++ private) ++ last ++ end ++ content)
ends_a_front start front policy nosniff private last end content = simp (append-nil, append_assoc)

-- the same where nothing is empty, and one line more stands there
ends_a_front_too : (start front policy nosniff referrer private last end content : List ℕ)
    → (start ++ (front ++ ((policy ++ nosniff ++ referrer ++ private) ++ last)) ++ end) ++ content
    ≡ (start ++ (front ++ policy)) ++ ((nosniff ++ referrer ++ private) ++ last ++ end ++ content)
ends_a_front_too start front policy nosniff referrer private last end content = simp append_assoc

both : (a b : Bool) → (a && b) ≡ true → (a ≡ true) × (b ≡ true)
both true b is = (refl, is)
both false b is = cc

-- a page of HTML isn't refused
unchallenged : (realm : Option (List ℕ)) (code : ℕ) → code ≡ 200 → challenge_lines realm code ≡ []
unchallenged None code is = rw is refl
unchallenged (Some title) code is = rw is refl

pub no_html_without_a_policy : NoHtmlWithoutAPolicy
unfolding dressed_bytes dressed_head
no_html_without_a_policy dress reply head_only close guarded html =
    let is_page = both (reply.code == 200) reply.html html in
    let ok : reply.code ≡ 200 = grind (arith, nat_tests, is_page.0) in
    let front = content_lines reply ++ location_line reply.location ++ allow_line reply.allow in
    let content = where_true (not head_only && not (reply.code == 204)) (content_of reply) in
    let start = codes "HTTP/1.1 " ++ status_of reply.code ++ codes "\r\n" in
    let guards : guard_lines (dress.guarded && is_html reply) dress.private ≡ policy_line ++ nosniff_line ++ private_lines
    = rw (guarded, html) refl in (
      (nosniff_line ++ private_lines) ++ close_line close ++ codes "\r\n" ++ content,
      (λ i. (start ++ (front ++ unchallenged dress.realm reply.code ok i ++ (guards i ++ close_line close)) ++ codes "\r\n") ++ content)
          ∙ ends_a_front start front policy_line nosniff_line private_lines (close_line close) (codes "\r\n") content,
    )

pub no_persons_page_without_a_policy : NoPersonsPageWithoutAPolicy
unfolding people_bytes
no_persons_page_without_a_policy reply head_only close =
    let start = codes "HTTP/1.1 " ++ status_of reply.code ++ codes "\r\n" in
    let front = typed_lines (content_type true) reply.body ++ location_line reply.location
    ++ people_challenge_line reply.realm reply.code in
    let content = where_true (not head_only) reply.body in (
      (nosniff_line ++ referrer_line ++ private_lines) ++ close_line close ++ codes "\r\n" ++ content,
      ends_a_front_too start front (field_line (codes "Content-Security-Policy") reply.policy) nosniff_line referrer_line private_lines
          (close_line close) (codes "\r\n") content,
    )
