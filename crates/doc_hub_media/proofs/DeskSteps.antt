-- What stands under a path, as it is found there, and what is done where conditions hold.
use Rattle.std.proofs.Common.{◌≡◌, ap}
use Rattle.std.specs.Prelude.{Option, Some, None, IfOk, Result, is_some, option_map}
use Rattle.doc_page_parts.specs.declared.failure.Memory.{Memory}
use Rattle.doc_hub_editing.specs.Answer.{Answer}
use Rattle.doc_hub_editing.specs.EditResponses.{EditingReply, EditingResponse, only_reply, unless}

pub was_found : {X Y : Type 0} (f : X → Y) (found : Option X) (stands : Option Y) → option_map f found ≡ stands
    → is_some found ≡ is_some stands
was_found f None stands is = ap is_some is
was_found f (Some x) stands is = ap is_some is

-- where nothing stands against it
pub done_where_met : (told : EditingResponse → Answer) (against : Option EditingReply) (done : EditingResponse)
    (result : Result Answer Memory) → None ≡ option_map (λ reply. told (only_reply reply)) against → IfOk result (λ a. a ≡ told done)
    → IfOk result (λ a. a ≡ told (unless against done))
done_where_met told None done result none is = is
done_where_met told (Some reply) done result none is = cc
