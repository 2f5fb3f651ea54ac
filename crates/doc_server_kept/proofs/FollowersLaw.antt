-- Who follows another server answers as that one did.
use Rattle.std.proofs.Common.{◌≡◌, ℕ, List, Bool, true, false, refl, ap, sym, subst, ◌∙◌}
use Rattle.std.specs.Prelude.{None, Result, Ok, Err}
use Rattle.doc_http.specs.declared.request.Request.{Request}
use Rattle.doc_media.specs.Media.{Beside, Media, beside_of}
use Rattle.doc_people.specs.declared.settings.Settings.{Settings}
use Rattle.doc_store_readers.specs.Readers.{ReaderTable}
use Rattle.doc_store_readers.specs.Sites.{Site, View, view_of}
use Rattle.doc_hub.specs.Edits.{puts_taken}
use Rattle.doc_hub.specs.Replies.{Renders}
use Rattle.doc_hub.specs.Answer.{Answer}
use Rattle.doc_hub.specs.Asking.{Asking, reader_asking, row_of}
use Rattle.doc_hub.specs.Answers.{answer_of, dress_by}
use Rattle.doc_hub.specs.ServingSteps.{closes_after}
use Rattle.doc_hub.specs.TakingEdits.{answer_given, left_to, refused_or}
use Rattle.doc_hub.specs.StepLaws.{Agree, AnswersAlike, is_owners_put}
use Rattle.doc_hub.specs.Worlds.{World, answer_in, asking_of, reader_of}
use Rattle.doc_server_kept.specs.Followers.{FollowersAnswerAlike, FollowsAs}
use Rattle.doc_server_kept.specs.KeptTurns.{IsRestored}
use Rattle.doc_server_restore.specs.Restores.{restored, unstamped}
use Rattle.doc_store.specs.Store.{StoreState}

-- ---- one site

abbrev from_ok : {A E : Type 0} → A → Result A E → A
from_ok missing (Ok x) = x
from_ok missing (Err e) = missing

same_ok : {A E : Type 0} (r s : Result A E) (x y : A) → s ≡ r → r ≡ Ok x → s ≡ Ok y → y ≡ x
same_ok r s x y same one two = ap (from_ok x) (sym two ∙ same ∙ one)

same_site : (config : StoreState) (texts : List (List ℕ)) (w f : World) → f.media ≡ w.media → IsRestored config texts w
    → IsRestored config texts f → f.site ≡ w.site
same_site config texts w f media a b =
    sym b.site
    ∙ ap (λ (s : StoreState). s.site) (same_ok (restored w.media (unstamped config) texts) (restored f.media (unstamped config) texts) a.store
    b.store (ap (λ m. restored m (unstamped config) texts) media) a.gives b.gives)
    ∙ a.site

-- ---- what isn't left to who takes edits

module _ (s : Settings) (render : Renders) (view : View) (beside : Beside) (asking : Asking) (left : Bool) (request : Request) where
  unless_refused : left_to s asking request ≡ None
      → answer_given s render view beside asking left request ≡ answer_of s render view beside asking left request
  unfolding answer_given
  unless_refused none =
      ap (λ allow. refused_or allow (dress_by s.browse asking) (closes_after s request) request
      (answer_of s render view beside asking left request)) none

  edits_or_not : answer_of (record s { takes_edits = false }) render view beside asking left request
      ≡ answer_of s render view beside asking left request
  unfolding answer_of
  edits_or_not = refl

  nothing_left : s.takes_edits ≡ true → left_to s asking request ≡ None
  nothing_left takes = ap (λ t. left_to (record s { takes_edits = t }) asking request) takes

-- ---- the answers

not_both : (b : Bool) → b ≡ false → b ≡ true → ⊥
not_both true is was = cc
not_both false is was = cc

module _ (render : Renders) (left : Bool) (request : Request) where
  -- the answer by parts of a world
  abbrev at : Settings → Site → Media → ReaderTable → Answer
  at s site media readers =
      answer_of s render (view_of site (row_of (reader_asking s.browse readers request)))
      (beside_of media (row_of (reader_asking s.browse readers request))) (reader_asking s.browse readers request) left request

  same_parts : (w f : World) → FollowsAs w f → f.site ≡ w.site
      → at f.settings f.site f.media f.readers ≡ at w.settings w.site w.media w.readers
  same_parts w f is site =
      ap (λ s. at s f.site f.media f.readers) is.settings
      ∙ edits_or_not w.settings render (view_of f.site (row_of (reader_asking w.settings.browse f.readers request)))
      (beside_of f.media (row_of (reader_asking w.settings.browse f.readers request)))
      (reader_asking w.settings.browse f.readers request) left request
      ∙ ap (λ r. at w.settings f.site f.media r) is.readers
      ∙ ap (λ m. at w.settings f.site m w.readers) is.media
      ∙ ap (λ x. at w.settings x w.media w.readers) site

pub followers_answer_alike : AnswersAlike → FollowersAnswerAlike
followers_answer_alike alike render config texts w f request takes is one two no_put none =
    let puts = puts_taken f.takes_puts f.puts in
    let with_puts : World = record w { takes_puts = f.takes_puts; puts = f.puts } in
    unless_refused f.settings render _ _ (asking_of f request) puts request none
    ∙ same_parts render puts request w f is (same_site config texts w f is.media one two)
    ∙ sym (unless_refused w.settings render _ _ (asking_of w request) puts request
    (nothing_left w.settings render (view_of w.site (reader_of w request)) (beside_of w.media (reader_of w request)) (asking_of w request)
    puts request takes))
    ∙ alike render with_puts w request (record {
      settings = refl;
      asking = refl;
      sites = refl;
      beside = refl;
      puts = λ put. absurd (not_both (is_owners_put (reader_of w request) request) no_put put);
    })
