use Rattle.std.proofs.Common.{◌≡◌, cond, ap, sym, ◌∙◌, rules}
use Rattle.std.specs.Prelude.{Some, None, option_map, option_copied}
use Rattle.doc_store.proofs.SightSteps.{leads_as_alias, leads_nowhere, leads_to_page}
use Rattle.doc_store.proofs.site_sight.SiteSightSight.goal.Goals as goal

pub returns-then-may_see : goal.returns-then-may_see
returns-then-may_see c =
    let i = c.self.inside in
    let path = c.args.path.now in
    c.in-Some.ensures.path ∙ ap (option_map (λ _. path)) (sym c.in-Some.ensures.page)
    ∙ ap (λ b. cond b (Some path) None) (sym c.if-may_see.true)
    ∙ leads_to_page i.pages.now i.aliases.now c.self.invariant i.reader.now c.args.self.now c.self.view_is path c.in-Some.page.now
    c.may_see.result c.in-Some.ensures.page c.may_see.ensures

pub returns-else-may_see : goal.returns-else-may_see
returns-else-may_see c =
    let i = c.self.inside in
    let path = c.args.path.now in
    ap (λ b. cond b (Some path) None) (sym c.if-may_see.false)
    ∙ leads_to_page i.pages.now i.aliases.now c.self.invariant i.reader.now c.args.self.now c.self.view_is path c.in-Some.page.now
    c.may_see.result c.in-Some.ensures.page c.may_see.ensures

pub returns-in_err-goal : goal.returns-in_err-goal
returns-in_err-goal c =
    let i = c.self.inside in
    let none : option_copied c.from_residual.result ≡ None = search rules in
    none
    ∙ leads_nowhere i.pages.now i.aliases.now c.self.invariant i.reader.now c.args.self.now c.self.view_is c.args.path.now
    c.in_default.ensures.page (ap option_copied (sym c.in_err-goal.was) ∙ c.get.ensures)

pub returns : goal.returns
returns c =
    let i = c.self.inside in
    leads_as_alias i.pages.now i.aliases.now c.self.invariant i.reader.now c.args.self.now c.self.view_is c.args.path.now
    c.in_ok-goal.goal.now _
    c.in_default.ensures.page (ap option_copied (sym c.in_ok-goal.was) ∙ c.get.ensures) c.seen_goal.ensures
