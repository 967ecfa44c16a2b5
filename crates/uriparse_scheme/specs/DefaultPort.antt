-- The port that a scheme's URIs have if they name none: RFC 3986, section 3.2.3.
use Rattle.std.specs.Prelude.{ℕ, Option, Some, None}
use Rattle.uriparse_scheme.specs.declared.scheme.registered.RegisteredScheme.{RegisteredScheme}
use Rattle.uriparse_scheme.specs.declared.scheme.registered.RegisteredScheme.TheVariants as scheme
use Rattle.uriparse_scheme.specs.declared.scheme.Scheme.{Scheme}
use Rattle.uriparse_scheme.specs.declared.scheme.Scheme.TheVariants.{Registered, Unregistered}

-- the default port of a registered scheme, if this list has one
unfoldable pub registered_port : RegisteredScheme → Option ℕ
-- schemes.tsv: ports
registered_port scheme.AAA = Some 3868
registered_port scheme.AAAS = Some 5658
registered_port scheme.ACAP = Some 674
registered_port scheme.CAP = Some 1026
registered_port scheme.CoAP = Some 5683
registered_port scheme.CoAPTCP = Some 5683
registered_port scheme.CoAPWS = Some 80
registered_port scheme.CoAPS = Some 5684
registered_port scheme.CoAPSTCP = Some 5684
registered_port scheme.CoAPSWS = Some 443
registered_port scheme.DICT = Some 2628
registered_port scheme.DNS = Some 53
registered_port scheme.FTP = Some 21
registered_port scheme.Go = Some 1096
registered_port scheme.Gopher = Some 70
registered_port scheme.HTTP = Some 80
registered_port scheme.HTTPS = Some 443
registered_port scheme.ICAP = Some 1344
registered_port scheme.IMAP = Some 143
registered_port scheme.IPP = Some 631
registered_port scheme.IPPS = Some 631
registered_port scheme.LDAP = Some 389
registered_port scheme.MTQP = Some 1038
registered_port scheme.MUpdate = Some 3905
registered_port scheme.NFS = Some 2049
registered_port scheme.NNTP = Some 119
registered_port scheme.POP = Some 110
registered_port scheme.Prospero = Some 1525
registered_port scheme.Redis = Some 6379
registered_port scheme.RedisS = Some 6379
registered_port scheme.RSync = Some 873
registered_port scheme.RTMFP = Some 1935
registered_port scheme.RTSP = Some 554
registered_port scheme.RTSPS = Some 322
registered_port scheme.RTSPU = Some 554
registered_port scheme.SFTP = Some 22
registered_port scheme.Sieve = Some 4190
registered_port scheme.SNMP = Some 161
registered_port scheme.SSH = Some 22
registered_port scheme.Telnet = Some 23
registered_port scheme.TFTP = Some 69
registered_port scheme.TIP = Some 3372
registered_port scheme.TN3270 = Some 23
registered_port scheme.VEMMI = Some 575
registered_port scheme.VNC = Some 5900
registered_port scheme.WAIS = Some 210
registered_port scheme.WS = Some 80
registered_port scheme.WSS = Some 443
registered_port scheme.Z3950R = Some 210
registered_port scheme.Z3950S = Some 210
-- schemes.tsv: end
registered_port s = None

-- the default port of a scheme; an unregistered one has none
abbrev pub default_port : Scheme → Option ℕ
default_port (Registered s) = registered_port s
default_port (Unregistered text) = None
