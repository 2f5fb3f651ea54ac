use Rattle.std.proofs.Common.{◌≡◌, false, not, ◌&&◌, chars, rules, ap, sym, ◌∙◌}
use Rattle.std.proofs.lemmas.Str.{chars-nil, chars-IsAscii}
use Rattle.std.proofs.lemmas.Bool.{and_from, and_left, and_right}
use Rattle.std.specs.Char.{is_ascii_alphabetic}
use Rattle.doc_rules.specs.BareLinks.{is_www_place, is_www, is_web}
use Rattle.doc_inlines_addresses.proofs.FoundLaws.{www_found, web_found, none_found}
use Rattle.doc_inlines_addresses.proofs.bare_address.Goals as goal
use Rattle.doc_inlines_addresses.proofs.bare_address.Goals.{else-is_www_place-via-then-is_www_place+else-is_www, else-is_www_place-via-else-is_www_place}
use Rattle.doc_inlines_addresses.proofs.bare_address.Goals.{else-not-is_ascii_alphabetic-via-then-not-is_ascii_alphabetic+else-is_web, else-not-is_ascii_alphabetic-via-else-not-is_ascii_alphabetic}

pub returns-then-is_www : goal.returns-then-is_www
returns-then-is_www c =
    www_found _ _ _ _ c.requires
    (and_from _ _ (sym c.is_www_place.ensures ∙ c.if-is_www_place.true) (sym c.is_www.ensures ∙ c.if-is_www.true))
    (chars-IsAscii _ (search rules)) c.address_of.ensures.value c.address_of.ensures.front

pub returns-then-is_web : goal.returns-then-is_web
returns-then-is_web c =
    let no_www : (is_www_place c.args.last && is_www (chars c.args.text.now)) ≡ false =
    elim c.else-is_www_place.branch [
      | else-is_www_place-via-then-is_www_place+else-is_www w ↦ and_right _ _ (sym w.is_www.ensures ∙ w.if-is_www.false)
      | else-is_www_place-via-else-is_www_place w ↦ and_left _ _ (sym c.is_www_place.ensures ∙ w.if-is_www_place.false)
    ] in
    web_found _ _ _ _ c.requires no_www
    (and_from _ _ (ap not (sym c.is_ascii_alphabetic.ensures.value ∙ c.if-not-is_ascii_alphabetic.true)) (sym c.is_web.ensures ∙ c.if-is_web.true))
    chars-nil c.address_of-then-is_web.ensures.value c.address_of-then-is_web.ensures.front

pub returns : goal.returns
returns c =
    let no_www : (is_www_place c.args.last && is_www (chars c.args.text.now)) ≡ false =
    elim c.else-is_www_place.branch [
      | else-is_www_place-via-then-is_www_place+else-is_www w ↦ and_right _ _ (sym w.is_www.ensures ∙ w.if-is_www.false)
      | else-is_www_place-via-else-is_www_place w ↦ and_left _ _ (sym c.is_www_place.ensures ∙ w.if-is_www_place.false)
    ] in
    let no_web : (not (is_ascii_alphabetic c.args.last) && is_web (chars c.args.text.now)) ≡ false =
    elim c.else-not-is_ascii_alphabetic.branch [
      | else-not-is_ascii_alphabetic-via-then-not-is_ascii_alphabetic+else-is_web w ↦ and_right _ _ (sym w.is_web.ensures ∙ w.if-is_web.false)
      | else-not-is_ascii_alphabetic-via-else-not-is_ascii_alphabetic w ↦
          and_left _ _ (ap not (sym c.is_ascii_alphabetic.ensures.value ∙ w.if-not-is_ascii_alphabetic.false))
    ] in
    none_found _ _ no_www no_web
