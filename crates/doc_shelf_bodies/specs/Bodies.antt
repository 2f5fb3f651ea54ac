-- Pages for people that are kept.
use Rattle.std.specs.Prelude.{◌≡◌, ◌⊎◌, ℕ, List, Some}
use Rattle.std.specs.FinMap as map
use Rattle.doc_people.specs.declared.settings.Browse.{Browse}
use Rattle.doc_people.specs.declared.settings.Offers.{Offers}
use Rattle.doc_store_readers.specs.declared.reader.Reader.{Reader}
use Rattle.doc_shelf_bodies.specs.Tables.{StandsAt}
use Rattle.doc_shelf_bodies.specs.declared.bodies.Bodies.{Bodies}
use Rattle.doc_shelf_bodies.specs.declared.body.Body.{Body}

-- a page for people, and what it was made with
pub record Made : Type 0 where
  pub browse : Browse
  pub path : List ℕ
  pub body : Body

-- the text of the page at a path for a reader, made with these settings and offers
abbrev pub made_for : Browse → Offers → List ℕ → Reader → List ℕ → Made
made_for browse offers path reader text = record {
  browse = browse;
  path = path;
  body = record { reader = reader; offers = offers; text = text };
}

-- a page is kept
abbrev pub Keeps : Bodies → Made → Type 0
Keeps bodies one = (bodies.browse ≡ Some one.browse) × StandsAt bodies.rows one.path one.body

-- none is kept
abbrev pub KeepsNothing : Bodies → Type 0
KeepsNothing bodies = bodies.rows ≡ map.empty

-- each that is kept after was kept before
abbrev pub KeepsNoMore : Bodies → Bodies → Type 0
KeepsNoMore old new = (one : Made) → Keeps new one → Keeps old one

-- each that is kept after was kept before, or is this one
abbrev pub KeepsAtMost : Bodies → Made → Bodies → Type 0
KeepsAtMost old more new = (one : Made) → Keeps new one → Keeps old one ⊎ (one ≡ more)
