-- Previews of a body, by whether it is a text.
use Rattle.std.proofs.Common.{◌≡◌, ℕ, List, Bool, true, false, refl}
use Rattle.std.specs.Prelude.{◌&&◌, not, codes, IfOk, Result, Ok, Err, if◌then◌else◌}
use Rattle.std.specs.Str.{IsUtf8, is_utf8}
use Rattle.std.proofs.lemmas.Str.{IsUtf8-from_is_utf8}
use Rattle.doc_http.specs.declared.request.Request.{Request}
use Rattle.doc_page_parts.specs.declared.failure.Memory.{Memory}
use Rattle.doc_people.specs.declared.settings.Browse.{Browse}
use Rattle.doc_store_readers.specs.Sites.{View}
use Rattle.doc_hub_people.specs.Counts.{previews_of}
use Rattle.doc_hub_people.specs.Replies.{Renders}
use Rattle.doc_hub_people.specs.Answer.{Answer}
use Rattle.doc_media.specs.Media.{Beside}
use Rattle.doc_hub_editing.specs.EditAnswers.{preview_of, preview_text}
use Rattle.doc_hub_editing.specs.EditResponses.{Shown, only_reply, refused, refused_for}

-- where no text is, the test says so
pub no_text : (text : List ℕ) → (IsUtf8 text → ⊥) → is_utf8 text ≡ false
no_text text bad = by (is_utf8 text) refl
  where
    by : (b : Bool) → is_utf8 text ≡ b → b ≡ false
    by true is = absurd (bad (IsUtf8-from_is_utf8 text is))
    by false is = refl

-- what holds whatever is answered
pub told : {P : Type 0} (result : Result Answer Memory) → P → IfOk result (λ a. P)
told (Ok a) is = is
told (Err e) is = tt

-- what is answered to a text of the right type, or to what is none
module _ (render : Renders) (browse : Browse) (view : View) (media : Beside) (path : List ℕ) (request : Request) (utf8 : Bool)
    (typed : request.markdown ≡ true) (is : is_utf8 request.body ≡ utf8) where
  pub by_text : preview_text render browse view media path request
      ≡ (if utf8 then only_reply (Shown (preview_of browse view media path (render request.body)))
      else refused_for 400 (codes "the text is not UTF-8"))
  by_text = λ i.
      if not (typed i) then refused 415
      else (if is i then only_reply (Shown (preview_of browse view media path (render request.body)))
      else refused_for 400 (codes "the text is not UTF-8"))

  -- and how many previews are shown
  pub counted_by : previews_of (request.markdown && is_utf8 request.body) ≡ previews_of utf8
  counted_by = λ i. previews_of (typed i && is i)
