-- What stands between '<' and '>'.
use Rattle.std.proofs.Common.{◌≡◌, ℕ, ◌+◌, ◌-◌, Bool, true, false, ◌==◌, [], ◌∷◌, ◌++◌, take, length, refl, ap, sym, ◌∙◌, Option, Some}
use Rattle.std.proofs.Common.{None, option_and_then, arith, append_assoc, length-append, eqb-true}
use Rattle.std.proofs.Math.Seq.{take-append_seam}
use Rattle.doc_rules.specs.Characters.{Text}
use Rattle.doc_rules.specs.Parsers.{Parser, is, ◌then◌, before}
use Rattle.doc_rules.specs.Tags.{raw_html}
use Rattle.doc_rules.specs.Autolinks.{uri, mail}
use Rattle.doc_rules.specs.Reading.{address}
use Rattle.doc_rules.specs.Rests.{IsRest}
use Rattle.doc_lines.proofs.Slices.{front_is_before}
use Rattle.doc_inlines_marks.specs.PlaceSteps.{StandsBefore}
use Rattle.doc_inlines_marks.specs.AddressSteps.{IsAddressOf}
use Rattle.doc_inlines_marks.specs.Enclosed.{Enclosing, Uri, Mail, Raw, enclosed_behind, enclosed_at}

-- ---- one character

pub is_splits : (c : ℕ) (text rest : Text) → Some rest ≡ is c text → text ≡ c ∷ rest
is_splits c [] rest e = absurd cc
is_splits c (d ∷ more) rest e = at (d == c) refl e
  where
    at : (b : Bool) → (d == c) ≡ b → Some rest ≡ (elim b [ true ↦ Some more | false ↦ None ]) → (d ∷ more) ≡ c ∷ rest
    at true f g = let same : more ≡ rest = cc in ap (λ k. k ∷ more) (eqb-true d c f) ∙ ap (λ t. c ∷ t) same
    at false f g = absurd cc

pub behind_one : (c : ℕ) (text rest : Text) → Some rest ≡ is c text → IsRest rest text
behind_one c text rest e = record { front = c ∷ []; split = is_splits c text rest e }

-- ---- an address

same_address : (inside slice after : Text) → inside ≡ slice ++ (62 ∷ after) → slice ≡ address after inside
same_address inside slice after e =
    let cut : inside ≡ (slice ++ (62 ∷ [])) ++ after = e ∙ sym (append_assoc slice (62 ∷ []) after) in
    let taken : slice ++ (62 ∷ []) ≡ before after inside = front_is_before inside after (slice ++ (62 ∷ []))
    (record { front = slice ++ (62 ∷ []); split = cut }) cut in
    let count : length (slice ++ (62 ∷ [])) ≡ length slice + 1 = length-append slice (62 ∷ []) in
    let less : length slice ≡ length (slice ++ (62 ∷ [])) - 1 = omega arith in
    sym (take-append_seam slice (62 ∷ [])) ∙ (ap (λ n. take n (slice ++ (62 ∷ []))) less ∙ ap (λ t. take (length t - 1) t) taken)

-- a slice up to a '>'
pub closed : (read : Parser) (inside slice behind after : Text) → Some behind ≡ read inside → inside ≡ slice ++ behind
    → Some after ≡ is 62 behind → IsAddressOf read inside slice after
closed read inside slice behind after r joins e =
    let cut : inside ≡ slice ++ (62 ∷ after) = joins ∙ ap (λ t. slice ++ t) (is_splits 62 behind after e) in record {
      value = e ∙ ap (option_and_then (is 62)) r;
      same = same_address inside slice after cut;
      stands = record { front = []; between = 62 ∷ []; split = cut };
      end = record { front = slice ++ (62 ∷ []); split = cut ∙ sym (append_assoc slice (62 ∷ []) after) };
    }

-- ---- behind a '<'

after_raw : Text → Option Text → Option (Enclosing × Text)
unfolding enclosed_behind
after_raw rest found = elim found [ Some after ↦ Some (Raw (before after (60 ∷ rest)), after) | None ↦ None ]

after_mail : Text → Option Text → Option (Enclosing × Text)
unfolding enclosed_behind after_raw
after_mail rest found = elim found [ Some after ↦ Some (Mail (address after rest), after) | None ↦ after_raw rest (raw_html (60 ∷ rest)) ]

after_uri : Text → Option Text → Option (Enclosing × Text)
unfolding enclosed_behind after_mail after_raw
after_uri rest found = elim found [ Some after ↦ Some (Uri (address after rest), after) | None ↦ after_mail rest ((mail then is 62) rest) ]

-- the text does not begin with a '<'
pub nothing_at : (text : Text) → None ≡ is 60 text → None ≡ enclosed_at text
unfolding enclosed_at
nothing_at text e = ap (option_and_then enclosed_behind) e

behind_is : (text inside : Text) → Some inside ≡ is 60 text → enclosed_behind inside ≡ enclosed_at text
unfolding enclosed_at
behind_is text inside e = ap (option_and_then enclosed_behind) e

pub uri_at : (text inside slice after : Text) → Some inside ≡ is 60 text → IsAddressOf uri inside slice after
    → Some (Uri slice, after) ≡ enclosed_at text
unfolding enclosed_behind after_uri after_mail after_raw
uri_at text inside slice after e h = ap (λ s. Some (Uri s, after)) h.same ∙ (ap (after_uri inside) h.value ∙ behind_is text inside e)

pub mail_at : (text inside slice after : Text) → Some inside ≡ is 60 text → None ≡ (uri then is 62) inside
    → IsAddressOf mail inside slice after → Some (Mail slice, after) ≡ enclosed_at text
unfolding enclosed_behind after_uri after_mail after_raw
mail_at text inside slice after e u h =
    ap (λ s. Some (Mail s, after)) h.same ∙ (ap (after_mail inside) h.value ∙ (ap (after_uri inside) u ∙ behind_is text inside e))

pub raw_at : (text inside slice after : Text) → Some inside ≡ is 60 text → None ≡ (uri then is 62) inside → None ≡ (mail then is 62) inside
    → Some after ≡ raw_html text → slice ≡ before after text →
    Some (Raw slice, after) ≡ enclosed_at text
unfolding enclosed_behind after_uri after_mail after_raw
raw_at text inside slice after e u m r same =
    let whole : text ≡ 60 ∷ inside = is_splits 60 text inside e in
    ap (λ s. Some (Raw s, after)) (same ∙ ap (before after) whole)
    ∙ (ap (after_raw inside) (r ∙ ap raw_html whole) ∙ (ap (after_mail inside) m ∙ (ap (after_uri inside) u ∙ behind_is text inside e)))

pub none_at : (text inside : Text) → Some inside ≡ is 60 text → None ≡ (uri then is 62) inside → None ≡ (mail then is 62) inside
    → None ≡ raw_html text → None ≡ enclosed_at text
unfolding enclosed_behind after_uri after_mail after_raw
none_at text inside e u m r =
    let whole : text ≡ 60 ∷ inside = is_splits 60 text inside e in
    ap (after_raw inside) (r ∙ ap raw_html whole) ∙ (ap (after_mail inside) m ∙ (ap (after_uri inside) u ∙ behind_is text inside e))

-- ---- where the slices stand

pub stands_behind_one : (c : ℕ) (text inside slice after : Text) → Some inside ≡ is c text → StandsBefore slice after inside
    → StandsBefore slice after text
stands_behind_one c text inside slice after e h =
    record { front = c ∷ h.front; between = h.between; split = is_splits c text inside e ∙ ap (λ t. c ∷ t) h.split }

pub stands_in_front : (text slice after : Text) → text ≡ slice ++ after → StandsBefore slice after text
stands_in_front text slice after e = record { front = []; between = []; split = e }
