-- Which bodies are kept.
use Rattle.std.proofs.Common.{◌≡◌, ℕ, List, inl, inr, sym, ◌∙◌}
use Rattle.std.specs.Prelude.{Some}
use Rattle.std.proofs.lemmas.Option.{same_Some}
use Rattle.doc_people.specs.declared.settings.Browse.{Browse}
use Rattle.doc_shelf_bodies.specs.Bodies.{Keeps, KeepsAtMost, KeepsNoMore, KeepsNothing, Made}
use Rattle.doc_shelf_bodies.specs.Tables.{AddsAtMost, BodyMap}
use Rattle.doc_shelf_bodies.specs.declared.bodies.Bodies.{Bodies}
use Rattle.doc_shelf_bodies.specs.declared.body.Body.{Body}
use Rattle.doc_shelf_bodies.proofs.TableSteps.{none_stands}

-- where nothing is kept no page is
pub none_kept : (bodies : Bodies) (one : Made) → KeepsNothing bodies → Keeps bodies one → ⊥
none_kept bodies one nothing keeps = none_stands bodies.rows one.path one.body nothing keeps.1

pub nothing_more : (old new : Bodies) → KeepsNothing new → KeepsNoMore old new
nothing_more old new nothing = λ one keeps. absurd (none_kept new one nothing keeps)

pub nothing_at_most : (old new : Bodies) (more : Made) → KeepsNothing new → KeepsAtMost old more new
nothing_at_most old new more nothing = λ one keeps. absurd (none_kept new one nothing keeps)

-- after room was made, one body more
pub one_added : (old room : Bodies) (rows : BodyMap) (count : ℕ) (browse : Browse) (path at : List ℕ) (body given : Body)
    → KeepsNoMore old room
    → room.browse ≡ Some browse → at ≡ path → given ≡ body → AddsAtMost room.rows at given rows
    → KeepsAtMost old (record { browse = browse; path = path; body = body }) (record room { count = count; rows = rows })
one_added old room rows count browse path at body given no_more settled there is adds = λ one keeps.
    elim (adds one.path one.body keeps.1) [
      | inl before ↦ inl (no_more one (keeps.0, before))
      | inr this ↦ inr (λ i. record {
        browse = same_Some one.browse browse (sym keeps.0 ∙ settled) i;
        path = (this.0 ∙ there) i;
        body = (this.1 ∙ is) i;
      })
    ]
