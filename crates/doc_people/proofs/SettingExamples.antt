-- Examples: values of settings.
use Rattle.std.proofs.Common.{◌≡◌, [], ◌∷◌, true, false, replicate, refl}
use Rattle.std.specs.Prelude.{codes}
use Rattle.std.specs.Str.{chars}
use Rattle.doc_people.specs.Settings.{is_title, is_language}

-- ---- titles

titles :
    (is_title (codes "Handbook") ≡ true)
    × (is_title (codes "Our handbook") ≡ true)
    × (is_title [] ≡ false)
    × (is_title (codes " Handbook") ≡ false)
    × (is_title (codes "Handbook ") ≡ false)
    × (is_title (codes "Hand\nbook") ≡ false)
    × (is_title (replicate 100 97) ≡ true)
    × (is_title (replicate 101 97) ≡ false)
    -- U+0080 is a control character, U+00A0 isn't
    × (is_title (97 ∷ 0xC2 ∷ 0x80 ∷ []) ≡ false)
    × (is_title (97 ∷ 0xC2 ∷ 0xA0 ∷ []) ≡ true)
unfolding is_title chars
titles = (refl, refl, refl, refl, refl, refl, refl, refl, refl, refl)

-- ---- languages

languages :
    (is_language (codes "en") ≡ true)
    × (is_language (codes "de-CH-1996") ≡ true)
    × (is_language (codes "sr-Latn") ≡ true)
    × (is_language [] ≡ false)
    × (is_language (codes "e") ≡ false)
    × (is_language (codes "e1") ≡ false)
    × (is_language (codes "en-") ≡ false)
    × (is_language (codes "en_GB") ≡ false)
    × (is_language (codes "abcdefgh-abcdefgh") ≡ true)
    × (is_language (codes "abcdefghi") ≡ false)
    × (is_language (codes "aa-bbbbbbbb-cccccccc-dddddddd-eeeee") ≡ true)
    × (is_language (codes "aa-bbbbbbbb-cccccccc-dddddddd-eeeeee") ≡ false)
unfolding is_language
languages = (refl, refl, refl, refl, refl, refl, refl, refl, refl, refl, refl, refl)
