use Rattle.std.proofs.Common.{refl, ap, ◌∙◌, subst, take}
use Rattle.std.specs.Prelude.{Ok}
use Rattle.doc_hub_events.specs.declared.event.ConnId.{ConnId}
use Rattle.doc_server_network.specs.Networks.{Moves, came_len}
use Rattle.doc_server_network.proofs.Passing.{moved_at}
use Rattle.doc_server_turns.specs.Wirings.{Peer}
use Rattle.doc_server_turns.proofs.ReadSteps.{read_ended, read_nothing, read_pushed, read_refused}
use Rattle.doc_server_network.proofs.Leading.{push_is_unedited, same_is_unedited, unedited_behind}
use Rattle.doc_server_turns.proofs.client.Client.read.Goals as goal

pub returns-in-Ok-clause-serves : goal.returns-in-Ok-clause-serves
returns-in-Ok-clause-serves g c =
    let id : ConnId = record { 0 = c.args.id } in
    let old = g.N.Network.came c.args.net.now in let new = g.N.Network.came c.read.new.self in
    let opened = ap (λ (p : Peer). p.is_open) c.self.view_is ∙ c.requires.open in
    let bytes = take c.in-Ok-Bytes.count c.read.new.buf in
    let moves = subst (λ x. Moves old new c.args.id (take (came_len (Ok x)) c.read.new.buf)) c.in-Ok-Bytes.field-0-is
    c.in-Ok-Bytes.ensures.came in
    rw (← c.self.view_is) (read_pushed (g.R.Renderer.page c.args.saved.now.hub.0) (old c.args.id) (new c.args.id)
    (g.N.Network.has_ended c.read.new.self c.args.id) _ _ opened refl c.args.saved.now.hub.1 c.push.new.self.hub.1 id bytes
    c.in-Ok.ensures.world (moved_at old new c.args.id bytes moves) refl)

pub returns-in-Err-push-clause-serves : goal.returns-in-Err-push-clause-serves
returns-in-Err-push-clause-serves g c =
    let id : ConnId = record { 0 = c.args.id } in
    let old = g.N.Network.came c.args.net.now in let new = g.N.Network.came c.read.new.self in
    let opened = ap (λ (p : Peer). p.is_open) c.self.view_is ∙ c.requires.open in
    let bytes = take c.in-Ok-Bytes.count c.read.new.buf in
    let moves = subst (λ x. Moves old new c.args.id (take (came_len (Ok x)) c.read.new.buf)) c.in-Ok-Bytes.field-0-is
    c.in-Ok-Bytes.ensures.came in
    rw (c.dropped-self-inside.ensures.stage, ← c.self.view_is) (read_refused (g.R.Renderer.page c.args.saved.now.hub.0) (old c.args.id)
    (new c.args.id) (g.N.Network.has_ended c.read.new.self c.args.id) _ _ opened refl c.args.saved.now.hub.1 c.push.new.self.hub.1
    c.dropped-self-inside.new.saved.hub.1 id bytes c.in-Err-push.field-0 _ c.in-Err-push.ensures.world
    c.dropped-self-inside.ensures.world (moved_at old new c.args.id bytes moves) refl)

pub returns-in-Ok-Nothing-clause-serves : goal.returns-in-Ok-Nothing-clause-serves
returns-in-Ok-Nothing-clause-serves g c =
    let old = g.N.Network.came c.args.net.now in let new = g.N.Network.came c.read.new.self in
    let opened = ap (λ (p : Peer). p.is_open) c.self.view_is ∙ c.requires.open in
    let moves = subst (λ x. Moves old new c.args.id (take (came_len (Ok x)) c.read.new.buf)) c.in-Ok-Nothing.field-0-is
    c.in-Ok-Nothing.ensures.came in
    rw (← c.self.view_is) (read_nothing (g.R.Renderer.page c.args.saved.now.hub.0) (old c.args.id) (new c.args.id)
    (g.N.Network.has_ended c.read.new.self c.args.id) _ _ opened refl c.args.saved.now.hub.1 c.args.id
    (moved_at old new c.args.id _ moves) opened (λ r. refl))

pub returns-in-Ok-End-clause-serves : goal.returns-in-Ok-End-clause-serves
returns-in-Ok-End-clause-serves g c =
    let id : ConnId = record { 0 = c.args.id } in
    let old = g.N.Network.came c.args.net.now in let new = g.N.Network.came c.read.new.self in
    let opened = ap (λ (p : Peer). p.is_open) c.self.view_is ∙ c.requires.open in
    let moves = subst (λ x. Moves old new c.args.id (take (came_len (Ok x)) c.read.new.buf)) c.in-Ok-End.field-0-is
    c.in-Ok-End.ensures.came in
    rw (c.dropped-self-inside-in-Ok-End.ensures.stage, ← c.self.view_is) (read_ended (g.R.Renderer.page c.args.saved.now.hub.0)
    (old c.args.id) (new c.args.id) (g.N.Network.has_ended c.read.new.self c.args.id) _ _ opened refl c.args.saved.now.hub.1
    c.dropped-self-inside-in-Ok-End.new.saved.hub.1 id _ c.dropped-self-inside-in-Ok-End.ensures.world
    (moved_at old new c.args.id _ moves) refl (c.in-Ok-End.ensures.ends c.in-Ok-End.field-0-is))

pub returns-in-Err-clause-serves : goal.returns-in-Err-clause-serves
returns-in-Err-clause-serves g c =
    let id : ConnId = record { 0 = c.args.id } in
    let old = g.N.Network.came c.args.net.now in let new = g.N.Network.came c.read.new.self in
    let opened = ap (λ (p : Peer). p.is_open) c.self.view_is ∙ c.requires.open in
    rw (c.dropped-self-inside-in-Err.ensures.stage, ← c.self.view_is) (read_ended (g.R.Renderer.page c.args.saved.now.hub.0)
    (old c.args.id) (new c.args.id) (g.N.Network.has_ended c.read.new.self c.args.id) _ _ opened refl c.args.saved.now.hub.1
    c.dropped-self-inside-in-Err.new.saved.hub.1 id _ c.dropped-self-inside-in-Err.ensures.world
    (moved_at old new c.args.id _ c.in-Err.ensures.came) refl c.in-Err.ensures.fails)

pub returns-in-Ok-clause-unedited : goal.returns-in-Ok-clause-unedited
returns-in-Ok-clause-unedited g c =
    push_is_unedited (g.R.Renderer.page c.args.saved.now.hub.0) c.args.saved.now c.push.new.self c.push.ensures.journal c.push.ensures.unsaved (record { 0 = c.args.id })
    (take c.in-Ok-Bytes.count c.read.new.buf) _ c.push.ensures.world

pub returns-in-Err-push-clause-unedited : goal.returns-in-Err-push-clause-unedited
returns-in-Err-push-clause-unedited g c =
    unedited_behind c.args.saved.now c.push.new.self c.dropped-self-inside.new.saved
    (push_is_unedited (g.R.Renderer.page c.args.saved.now.hub.0) c.args.saved.now c.push.new.self c.push.ensures.journal c.push.ensures.unsaved (record { 0 = c.args.id })
    (take c.in-Ok-Bytes.count c.read.new.buf) _ c.push.ensures.world)
    c.dropped-self-inside.ensures.unedited

pub returns-in-Ok-Nothing-clause-unedited : goal.returns-in-Ok-Nothing-clause-unedited
returns-in-Ok-Nothing-clause-unedited g c = same_is_unedited c.args.saved.now c.args.saved.now refl
