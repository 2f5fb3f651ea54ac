-- What is said of answers as they are made.
use Rattle.std.specs.Prelude.{◌≡◌, ℕ, List, Option, Some, option_and_then, Result, Ok, Err}
use Rattle.doc_page_parts.specs.declared.failure.Memory.{Memory}
use Rattle.doc_store_readers.specs.Readers.{ReaderTable, find_in}
use Rattle.doc_store.specs.Store.{StoreState}
use Rattle.doc_store_readers.specs.declared.reader.Reader.{Reader}
use Rattle.doc_http.specs.Bearers.{bearer_of}
use Rattle.doc_http_replies.specs.Heads.{dressed_bytes}
use Rattle.doc_http_replies.specs.Manners.{dress_of}
use Rattle.doc_http.specs.declared.request.Request.{Request}
use Rattle.doc_hub_answers.specs.declared.answer.Answer.{Answer}
use Rattle.doc_hub_answers.specs.declared.exchange.Exchange.{Exchange}
use Rattle.doc_hub_answers.specs.declared.edit.Edit.{Edit}
use Rattle.doc_hub_answers.specs.Edits.{store_after}
use Rattle.doc_hub_answers.specs.Replies.{Response}

-- the entry of a request's token
abbrev pub entry_of : ReaderTable → Request → Option Reader
entry_of readers request = option_and_then (find_in readers) (bearer_of request)

-- a response as it is sent in an exchange
abbrev pub sent_in : Exchange → Response → Answer
sent_in exchange response =
    record {
      bytes = dressed_bytes (dress_of exchange.manner) response.reply exchange.manner.head_only exchange.manner.close;
      closes = exchange.manner.close;
      edit = response.edit;
    }

-- an answer after an edit
abbrev pub after_edit : Answer → Edit → Answer
after_edit answer edit = record { bytes = answer.bytes; closes = answer.closes; edit = Some edit }

-- A request with this body got this answer, and its edit was made; or memory ran out, and the store is as it was.
abbrev pub AnsweredSo : List ℕ → StoreState → Answer → StoreState → Result Answer Memory → Type 0
AnsweredSo text old answer new (Ok told) = (told ≡ answer) × (new ≡ store_after old text told.edit)
AnsweredSo text old answer new (Err e) = new ≡ old

-- the same by a response
abbrev pub Answered : Exchange → StoreState → Response → StoreState → Result Answer Memory → Type 0
Answered exchange old response new result = AnsweredSo exchange.request.now.body old (sent_in exchange response) new result
