-- What compares as equal is the same.
use Rattle.std.proofs.Common.{◌≡◌, ℕ, ◌==◌, List, Bool, true, false, refl, ap, ◌&&◌}
use Rattle.std.specs.Prelude.{Option, Some, None}
use Rattle.std.specs.Bool.{Decides, beq}
use Rattle.std.specs.Cmp.{unsigned_Decides}
use Rattle.std.specs.Cmp.Lexicographic.{pointwise}
use Rattle.std.specs.Option.{option_eq}
use Rattle.std.proofs.lemmas.Bool.{and_parts}
use Rattle.std.proofs.lemmas.Slice.Eq.{slice_eq-Decides}
use Rattle.doc_people.specs.declared.settings.Browse.{Browse}
use Rattle.doc_people.specs.declared.settings.Offers.{Offers}
use Rattle.doc_store_readers.specs.declared.reader.Reader.{Reader}

abbrev Text : Type 0
Text = List ℕ

bool_is : (a b : Bool) → beq a b ≡ true → a ≡ b
bool_is true true h = refl
bool_is true false h = absurd (cc)
bool_is false true h = absurd (cc)
bool_is false false h = refl

texts_Decide : (a b : Text) → Decides (pointwise ◌==◌ a b) (a ≡ b)
texts_Decide a b = slice_eq-Decides unsigned_Decides a b (pointwise ◌==◌ a b) refl

groups_are : (a b : List Text) → pointwise (pointwise ◌==◌) a b ≡ true → a ≡ b
groups_are a b h = (slice_eq-Decides texts_Decide a b (pointwise (pointwise ◌==◌) a b) refl).0 h

guests_are : (a b : Option (List Text)) → option_eq (pointwise (pointwise ◌==◌)) a b ≡ true → a ≡ b
guests_are None None h = refl
guests_are None (Some y) h = absurd (cc)
guests_are (Some x) None h = absurd (cc)
guests_are (Some x) (Some y) h = ap Some (groups_are x y h)

pub offers_are : (a b : Offers) → (beq a.sign_in b.sign_in && beq a.tools b.tools) ≡ true → a ≡ b
offers_are a b h =
    let parts = and_parts (beq a.sign_in b.sign_in) (beq a.tools b.tools) h in
    λ i. record { sign_in = bool_is a.sign_in b.sign_in parts.0 i; tools = bool_is a.tools b.tools parts.1 i }

pub readers_are : (a b : Reader) → (beq a.owner b.owner && pointwise (pointwise ◌==◌) a.groups b.groups) ≡ true → a ≡ b
readers_are a b h =
    let parts = and_parts (beq a.owner b.owner) (pointwise (pointwise ◌==◌) a.groups b.groups) h in
    λ i. record { owner = bool_is a.owner b.owner parts.0 i; groups = groups_are a.groups b.groups parts.1 i }

pub settings_are : (a b : Browse) → (pointwise ◌==◌ a.title b.title && (pointwise ◌==◌ a.language b.language &&
    (pointwise ◌==◌ a.home b.home
    && (option_eq (pointwise (pointwise ◌==◌)) a.guest b.guest
    && (beq a.login b.login && beq a.editing b.editing))))) ≡ true → a ≡ b
settings_are a b h =
    let title = and_parts (pointwise ◌==◌ a.title b.title) _ h in
    let language = and_parts (pointwise ◌==◌ a.language b.language) _ title.1 in
    let home = and_parts (pointwise ◌==◌ a.home b.home) _ language.1 in
    let guest = and_parts (option_eq (pointwise (pointwise ◌==◌)) a.guest b.guest) _ home.1 in
    let login = and_parts (beq a.login b.login) (beq a.editing b.editing) guest.1 in
    λ i. record {
      title = (texts_Decide a.title b.title).0 title.0 i;
      language = (texts_Decide a.language b.language).0 language.0 i;
      home = (texts_Decide a.home b.home).0 home.0 i;
      guest = guests_are a.guest b.guest guest.0 i;
      login = bool_is a.login b.login login.0 i;
      editing = bool_is a.editing b.editing login.1 i;
    }
