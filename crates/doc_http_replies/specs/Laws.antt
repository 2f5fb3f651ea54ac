-- Laws of heads.
use Rattle.std.specs.Prelude.{◌≡◌, ◌≢◌, ◌++◌, Bool, true, List, ℕ, None, codes}
use Rattle.doc_http_replies.specs.declared.reply.Reply.{Reply}
use Rattle.doc_http_replies.specs.EditReplies.{EditReply, edit_bytes}
use Rattle.doc_http_replies.specs.Heads.{Dress, dressed_bytes, is_html, policy_line, undressed}
use Rattle.doc_http_replies.specs.PeopleReplies.{PeopleReply, people_bytes, people_challenge_line, typed_lines}
use Rattle.doc_http_replies.specs.Replies.{allow_line, content_lines, content_type, field_line, location_line, reply_bytes, status_of}
use Rattle.doc_http_replies.specs.ReplyForms.{plain_reply}

-- without settings each reply is what it is by itself
abbrev pub NothingIsAdded : Type 0
NothingIsAdded =
    (reply : Reply) (head_only close : Bool) → dressed_bytes undressed reply head_only close ≡ reply_bytes reply head_only close

-- the status line, and field lines behind it
abbrev pub begun : ℕ → List ℕ → List ℕ
begun code lines = codes "HTTP/1.1 " ++ status_of code ++ codes "\r\n" ++ lines

-- where HTML is guarded, each page of it has the policy in its head, behind the lines that say what the content is
abbrev pub NoHtmlWithoutAPolicy : Type 0
NoHtmlWithoutAPolicy = (dress : Dress) (reply : Reply) (head_only close : Bool) → dress.guarded ≡ true → is_html reply ≡ true
    → (rest : List ℕ)
    × (dressed_bytes dress reply head_only close
    ≡ begun reply.code (content_lines reply ++ location_line reply.location ++ allow_line reply.allow ++ policy_line) ++ rest)

-- and so has each reply to a person, the policy that it is given
abbrev pub NoPersonsPageWithoutAPolicy : Type 0
NoPersonsPageWithoutAPolicy = (reply : PeopleReply) (head_only close : Bool)
    → (rest : List ℕ)
    × (people_bytes reply head_only close
    ≡ begun reply.code (typed_lines (content_type true) reply.body ++ location_line reply.location
    ++ people_challenge_line reply.realm reply.code ++ field_line (codes "Content-Security-Policy") reply.policy) ++ rest)

-- a reply to an owner that tells no more than its status
abbrev pub told_alone : ℕ → List ℕ → EditReply
told_alone code text = record { code = code; text = text; why = None; tag = None; groups = None }

-- It is the reply that says no more than the status, but for the codes whose replies have lines of their own: 200 and 304, which keep the
-- text to its owner, and 401, which says how to ask again.
abbrev pub AStatusIsToldAlike : Type 0
AStatusIsToldAlike = (code : ℕ) (text : List ℕ) (head_only close : Bool) → code ≢ 200 → code ≢ 304 → code ≢ 401
    → edit_bytes (told_alone code text) head_only close ≡ reply_bytes (plain_reply code None None) head_only close
