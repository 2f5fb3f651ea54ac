-- Examples: the style sheet.
use Rattle.std.proofs.Common.{◌≡◌, length, true, refl}
use Rattle.std.specs.Char.{is_ascii}
use Rattle.std.specs.List.{list_all}
use Rattle.doc_people.specs.declared.style_sheet.TheConstants.{STYLE_SHEET}

size : (length STYLE_SHEET.now ≡ 9178) × (list_all is_ascii STYLE_SHEET.now ≡ true)
size = (refl, refl)
