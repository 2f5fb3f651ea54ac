-- Laws of conditions.
use Rattle.std.proofs.Common.{◌≡◌, ℕ, List, Bool, true, false, not, Option, None, refl, bytes_eq}
use mathlib.Core.Bool.{◌&&◌}
use Rattle.doc_http_conditions.specs.declared.comparison.Comparison.TheVariants.{Strong}
use Rattle.doc_http_conditions.specs.declared.verdict.Verdict.TheVariants.{Holds}
use Rattle.doc_http_conditions.specs.EntityTags.{EntityTag, is_same}
use Rattle.doc_http_conditions.specs.Verdicts.{verdict_of}

weak_first : (weak other same : Bool) → weak ≡ true → (not weak && other && same) ≡ false
weak_first weak other same is = rw is refl

weak_second : (other weak same : Bool) → weak ≡ true → (other && not weak && same) ≡ false
weak_second true weak same is = rw is refl
weak_second false weak same is = refl

pub weak_is_no_match : (tag other : EntityTag) → tag.weak ≡ true → (is_same Strong tag other ≡ false) × (is_same Strong other tag ≡ false)
weak_is_no_match tag other is = (
  weak_first tag.weak (not other.weak) (bytes_eq tag.opaque other.opaque) is,
  weak_second (not other.weak) tag.weak (bytes_eq other.opaque tag.opaque) is,
)

pub none_asked : (reads : Bool) (stands : Option (List ℕ)) → verdict_of reads None None stands ≡ Holds
unfolding verdict_of
none_asked reads stands = refl
