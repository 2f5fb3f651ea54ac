use Rattle.std.proofs.Common.{◌∙◌, sym}
use Rattle.std.proofs.lemmas.Slice.Eq.{strip_prefix_is}
use Rattle.std.proofs.lemmas.Bool.Decides.{Decides-eqb}
use Rattle.doc_server_follow.proofs.MarkLemmas.{begins, begins_not, foot_mark, header_mark}
use Rattle.doc_server_follow.proofs.followed.Followed.behind_mark.Goals as goal

pub returns-then-self-eq0-clause-found : goal.returns-then-self-eq0-clause-found
returns-then-self-eq0-clause-found c =
    begins _ _ _ (c.as_slice.ensures ∙ sym (header_mark c.args.self.now c.if-self-eq0.true)) _
    (strip_prefix_is Decides-eqb _ _ _ c.strip_prefix.ensures.cases)

pub returns-then-self-eq0-clause-none : goal.returns-then-self-eq0-clause-none
returns-then-self-eq0-clause-none c =
    begins_not _ _ _ (c.as_slice.ensures ∙ sym (header_mark c.args.self.now c.if-self-eq0.true)) _
    (strip_prefix_is Decides-eqb _ _ _ c.strip_prefix.ensures.cases)

pub returns-clause-found : goal.returns-clause-found
returns-clause-found c =
    begins _ _ _ (c.as_slice-2.ensures ∙ c.foot_of.ensures ∙ sym (foot_mark c.args.self.now c.if-self-eq0.false)) _
    (strip_prefix_is Decides-eqb _ _ _ c.strip_prefix-2.ensures.cases)

pub returns-clause-none : goal.returns-clause-none
returns-clause-none c =
    begins_not _ _ _ (c.as_slice-2.ensures ∙ c.foot_of.ensures ∙ sym (foot_mark c.args.self.now c.if-self-eq0.false)) _
    (strip_prefix_is Decides-eqb _ _ _ c.strip_prefix-2.ensures.cases)
