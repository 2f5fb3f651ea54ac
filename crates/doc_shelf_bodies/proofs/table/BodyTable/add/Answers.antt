use Rattle.std.proofs.Common.{ap, string_bytes, ◌∙◌, ◌++◌, ◌∷◌, []}
use Rattle.std.specs.FinMap as map
use Rattle.doc_shelf_bodies.specs.Tables.{bodies_in}
use Rattle.doc_shelf_bodies.proofs.TableSteps.{set_or_not, taken_out}
use Rattle.doc_shelf_bodies.proofs.table.BodyTable.add.Goals as goal

pub returns-in_err-push : goal.returns-in_err-push
returns-in_err-push c =
    taken_out c.args.self.now c.take-bodies.new.self (string_bytes c.args.path) c.args.body
    (c.take-bodies.ensures.rest ∙ ap (map.remove c.args.self.now) c.as_str.ensures.value)

pub returns : goal.returns
returns c =
    set_or_not c.args.self.now c.take-bodies.new.self (string_bytes c.args.path) c.args.body
    (c.take-bodies.ensures.rest ∙ ap (map.remove c.args.self.now) c.as_str.ensures.value)
    c.new.result c.insert.new.self
    (c.new.ensures ∙ c.in_ok-push.ensures.items
    ∙ ap (λ items. items ++ c.args.body ∷ []) (c.take-bodies.ensures.taken
    ∙ ap (λ path. bodies_in (map.get c.args.self.now path)) c.as_str.ensures.value))
    c.insert.result c.insert.ensures.ok c.insert.ensures.err
