-- Images behind what is written.
use Rattle.std.proofs.Common.{◌≡◌, ℕ, Bool, true, false, List, [], ◌∷◌, ◌++◌, map, refl, ap, sym, ◌∙◌, append-nil}
use Rattle.std.specs.Prelude.{encode_utf8_all}
use Rattle.std.proofs.lemmas.List.{map-append}
use Rattle.std.proofs.lemmas.List.Concat.{flat_map-append}
use Rattle.doc_rules.specs.Characters.{Text}
use Rattle.doc_rules.specs.Destinations.{Target}
use Rattle.doc_rules.specs.Html.{LinkTag, ImageNote, Output, characters}
use Rattle.doc_rules.specs.Pages.{noted, images_in}
use Rattle.doc_html.specs.WrittenPageSteps.{images_by}

pub no_images : (tells : Bool) → [] ≡ map encode_utf8_all (images_by tells [])
unfolding images_in
no_images false = refl
no_images true = refl

pub text_notes : (text : Text) → images_in (characters text) ≡ []
unfolding images_in noted characters
text_notes [] = refl
text_notes (c ∷ rest) = text_notes rest

pub tag_notes : (target : Target) → images_in (LinkTag target ∷ []) ≡ []
unfolding images_in noted
tag_notes target = refl

note_notes : (dest : Text) → images_in (ImageNote dest ∷ []) ≡ dest ∷ []
unfolding images_in noted
note_notes dest = refl

images_append : (some more : Output) → images_in (some ++ more) ≡ images_in some ++ images_in more
unfolding images_in
images_append some more = flat_map-append noted some more

-- what has no image in it is written
pub images_stay : (tells : Bool) (images : List (List ℕ)) (output more : Output) → images ≡ map encode_utf8_all (images_by tells output)
    → images_in more ≡ [] → images ≡ map encode_utf8_all (images_by tells (output ++ more))
images_stay false images output more are none = are
images_stay true images output more are none =
    are ∙ ap (map encode_utf8_all)
    (sym (images_append output more ∙ (ap (λ t. images_in output ++ t) none ∙ append-nil (images_in output))))

-- an image is noted, where they aren't told
pub image_untold : (tells : Bool) (images : List (List ℕ)) (output : Output) (dest : Text) → tells ≡ false
    → images ≡ map encode_utf8_all (images_by tells output) → images ≡ map encode_utf8_all (images_by tells (output ++ ImageNote dest ∷ []))
image_untold false images output dest is are = are
image_untold true images output dest is are = cc

-- .. and where they are
pub image_told : (tells : Bool) (images new : List (List ℕ)) (bytes : List ℕ) (output : Output) (dest : Text) → tells ≡ true
    → images ≡ map encode_utf8_all (images_by tells output) → bytes ≡ encode_utf8_all dest → new ≡ images ++ bytes ∷ []
    → new ≡ map encode_utf8_all (images_by tells (output ++ ImageNote dest ∷ []))
image_told false images new bytes output dest is are same more = cc
image_told true images new bytes output dest is are same more =
    more
    ∙ (ap (λ i. i ++ bytes ∷ []) are
    ∙ (ap (λ b. map encode_utf8_all (images_in output) ++ b ∷ []) same
    ∙ (sym (map-append encode_utf8_all (images_in output) (dest ∷ []))
    ∙ ap (map encode_utf8_all) (sym (images_append output (ImageNote dest ∷ []) ∙ ap (λ t. images_in output ++ t) (note_notes dest))))))
