use Rattle.std.proofs.Common.{◌≡◌, Some, sym, ap, ◌∙◌}
use Rattle.std.specs.Prelude.{option_map}
use Rattle.std.specs.declared.net.socket_addr.SocketAddr.TheVariants.{V4}
use Rattle.doc_server_arguments.specs.Numbers.{port_of}
use Rattle.doc_server_arguments.proofs.Ports.{local_at, local_read}
use Rattle.doc_server_arguments.proofs.address.local_address_of.Goals as goal

pub returns-in_err-port : goal.returns-in_err-port
returns-in_err-port c =
    c.from_residual.ensures ∙ sym (local_read c.args.port.now ∙ ap (option_map local_at) (sym c.port_of.ensures ∙ c.in_err-port.was))

pub returns : goal.returns
returns c =
    let port : port_of c.args.port.now ≡ Some c.in_ok-port.port = sym c.port_of.ensures ∙ c.in_ok-port.was in
    ap (λ a. Some (V4 a)) (λ i. record { ip = c.new.ensures.ip i; port = c.new.ensures.port i })
    ∙ sym (local_read c.args.port.now ∙ ap (option_map local_at) port)
