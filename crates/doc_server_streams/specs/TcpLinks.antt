-- What contracts see of a stream over TCP.
use Rattle.std.specs.Prelude.{ℕ}
use Rattle.doc_server_streams.specs.declared.tcp_link.TcpLink.{TcpLink}

-- how many calls failed
abbrev pub tcp_failures : TcpLink → ℕ
tcp_failures s = s.failures
