-- What is no request is answered by a reply to whose head nothing is added.
use Rattle.std.proofs.Common.{◌≡◌, ℕ, Bool, true, refl, ◌∙◌}
use Rattle.doc_http_replies.specs.Heads.{Dress, dressed_bytes, dressed_head, undressed}
use Rattle.doc_http_replies.specs.Replies.{reply_bytes, reply_head}
use Rattle.doc_http_replies.specs.declared.reply.Reply.{Reply}
use Rattle.doc_hub_answers.specs.Replies.{fault_bytes, status_reply}

nothing_is_added : (reply : Reply) (head_only close : Bool)
    → dressed_bytes undressed reply head_only close ≡ reply_bytes reply head_only close
unfolding dressed_bytes dressed_head reply_bytes reply_head
nothing_is_added reply head_only close = refl

pub fault_is_plain : (dress : Dress) (told code : ℕ) (head_only bare close : Bool) → dress ≡ undressed → told ≡ code → head_only ≡ bare
    → close ≡ true → dressed_bytes dress (status_reply told) head_only close ≡ fault_bytes code bare
fault_is_plain dress told code head_only bare close plain same by_head by_end =
    (λ i. dressed_bytes (plain i) (status_reply (same i)) (by_head i) (by_end i)) ∙ nothing_is_added (status_reply code) bare true
