-- Addresses, as arguments write them.
use Rattle.std.specs.Prelude.{ℕ, List, [], ◌∷◌, ◌++◌, ◌==◌, codes, Option, Some, None, option_map, if◌then◌else◌}
use Rattle.std.specs.Option.{option_or}
use Rattle.std.specs.Net.Reader.{read_socket_v4, read_socket_v6, whole_value}
use Rattle.std.specs.declared.net.socket_addr.SocketAddr.{SocketAddr}
use Rattle.std.specs.declared.net.socket_addr.SocketAddr.TheVariants.{V4, V6}

-- of four octets and a port
abbrev pub v4_of : List ℕ × ℕ → SocketAddr
v4_of parts = V4 (record { ip = record { octets = parts.0 }; port = parts.1 })

-- of eight segments, a port, the flow information and the scope
abbrev pub v6_of : List ℕ × ℕ × ℕ × ℕ → SocketAddr
v6_of parts = V6 (record { ip = record { segments = parts.0 }; port = parts.1; flowinfo = parts.2; scope_id = parts.3 })

-- the address that a text spells, read as the standard library reads it: an IP address and a port, `127.0.0.1:8080` or `[::1]:8080`
unfoldable pub address_of : List ℕ → Option SocketAddr
address_of text =
    option_or (option_map v4_of (whole_value (read_socket_v4 text))) (option_map v6_of (whole_value (read_socket_v6 text)))

-- what follows a front, where the text has it
abbrev pub behind : List ℕ → List ℕ → Option (List ℕ)
behind [] text = Some text
behind (x ∷ front) [] = None
behind (x ∷ front) (b ∷ text) = if x == b then behind front text else None

-- what `localhost:` stands for
abbrev pub loopback : List ℕ
loopback = codes "127.0.0.1:"

-- the address of a text of which it is known what follows `localhost:`
abbrev pub local_or : List ℕ → Option (List ℕ) → Option SocketAddr
local_or text None = address_of text
local_or text (Some port) = address_of (loopback ++ port)

-- the same, where `localhost` may stand for 127.0.0.1
abbrev pub listen_address_of : List ℕ → Option SocketAddr
listen_address_of text = local_or text (behind (codes "localhost:") text)
