-- The table of registered schemes: RFC 3986, section 3.1.
use Rattle.std.specs.Prelude.{ℕ, List, [], ◌∷◌, codes}
use Rattle.uriparse_scheme.specs.declared.scheme.registered.RegisteredScheme.{RegisteredScheme}
use Rattle.uriparse_scheme.specs.declared.scheme.registered.RegisteredScheme.TheVariants as scheme
use Rattle.uriparse_scheme.specs.declared.scheme.microsoft.MicrosoftScheme.TheVariants as microsoft
use Rattle.uriparse_scheme.specs.declared.scheme.status.SchemeStatus.{SchemeStatus}
use Rattle.uriparse_scheme.specs.declared.scheme.status.SchemeStatus.TheVariants.{Historical, Permanent, Provisional}

pub record Row : Type 0 where
  pub name : List ℕ
  pub status : SchemeStatus

-- a row
abbrev pub row : List ℕ → SchemeStatus → Row
row name status = record { name = name; status = status }

-- the row of a registered scheme
unfoldable pub row_of : RegisteredScheme → Row
-- schemes.tsv: rows
row_of scheme.AAA = row (codes "aaa") Permanent
row_of scheme.AAAS = row (codes "aaas") Permanent
row_of scheme.About = row (codes "about") Permanent
row_of scheme.ACAP = row (codes "acap") Permanent
row_of scheme.ACCT = row (codes "acat") Permanent
row_of scheme.ACR = row (codes "acr") Provisional
row_of scheme.AdiumXtra = row (codes "adiumxtra") Provisional
row_of scheme.AFP = row (codes "afp") Provisional
row_of scheme.AFS = row (codes "afs") Provisional
row_of scheme.AIM = row (codes "aim") Provisional
row_of scheme.AMSS = row (codes "amss") Provisional
row_of scheme.Android = row (codes "android") Provisional
row_of scheme.AppData = row (codes "appdata") Provisional
row_of scheme.APT = row (codes "apt") Provisional
row_of scheme.Attachment = row (codes "attachment") Provisional
row_of scheme.AW = row (codes "aw") Provisional
row_of scheme.Barion = row (codes "barion") Provisional
row_of scheme.BeShare = row (codes "beshare") Provisional
row_of scheme.Bitcoin = row (codes "bitcoin") Provisional
row_of scheme.BitcoinCash = row (codes "bitcoincash") Provisional
row_of scheme.Blob = row (codes "blob") Provisional
row_of scheme.Bolo = row (codes "bolo") Provisional
row_of scheme.BrowserExt = row (codes "browserext") Provisional
row_of scheme.Calculator = row (codes "calculator") Provisional
row_of scheme.CallTo = row (codes "callto") Provisional
row_of scheme.CAP = row (codes "cap") Permanent
row_of scheme.Cast = row (codes "cast") Provisional
row_of scheme.Casts = row (codes "casts") Provisional
row_of scheme.Chrome = row (codes "chrome") Provisional
row_of scheme.ChromeExtension = row (codes "chrome-extension") Provisional
row_of scheme.CID = row (codes "cid") Permanent
row_of scheme.CoAP = row (codes "coap") Permanent
row_of scheme.CoAPTCP = row (codes "coap+tcp") Permanent
row_of scheme.CoAPWS = row (codes "coap+ws") Permanent
row_of scheme.CoAPS = row (codes "coaps") Permanent
row_of scheme.CoAPSTCP = row (codes "coaps+tcp") Permanent
row_of scheme.CoAPSWS = row (codes "coaps+ws") Permanent
row_of scheme.ComEventBriteAttendee = row (codes "com-eventbrite-attendee") Provisional
row_of scheme.Content = row (codes "content") Provisional
row_of scheme.Conti = row (codes "conti") Provisional
row_of scheme.CRID = row (codes "crid") Permanent
row_of scheme.CVS = row (codes "cvs") Provisional
row_of scheme.DAB = row (codes "dab") Provisional
row_of scheme.Data = row (codes "data") Permanent
row_of scheme.DAV = row (codes "dav") Permanent
row_of scheme.Diaspora = row (codes "diaspora") Provisional
row_of scheme.DICT = row (codes "dict") Permanent
row_of scheme.DID = row (codes "did") Provisional
row_of scheme.DIS = row (codes "dis") Provisional
row_of scheme.DLNAPlayContainer = row (codes "dlna-playcontainer") Provisional
row_of scheme.DLNAPlaySingle = row (codes "dlna-playsingle") Provisional
row_of scheme.DNS = row (codes "dns") Permanent
row_of scheme.DNTP = row (codes "dntp") Provisional
row_of scheme.DPP = row (codes "dpp") Provisional
row_of scheme.DRM = row (codes "drm") Provisional
row_of scheme.Drop = row (codes "drop") Provisional
row_of scheme.DTN = row (codes "dtn") Provisional
row_of scheme.DVB = row (codes "dvb") Provisional
row_of scheme.ED2K = row (codes "ed2k") Provisional
row_of scheme.ELSI = row (codes "elsi") Provisional
row_of scheme.Example = row (codes "example") Permanent
row_of scheme.FaceTime = row (codes "facetime") Provisional
row_of scheme.Fax = row (codes "fax") Historical
row_of scheme.Feed = row (codes "feed") Provisional
row_of scheme.FeedReady = row (codes "feedready") Provisional
row_of scheme.File = row (codes "file") Permanent
row_of scheme.FileSystem = row (codes "filesystem") Historical
row_of scheme.Finger = row (codes "finger") Provisional
row_of scheme.Fish = row (codes "fish") Provisional
row_of scheme.FM = row (codes "fm") Provisional
row_of scheme.FTP = row (codes "ftp") Permanent
row_of scheme.FuchsiaPkg = row (codes "fuchsia-pkg") Provisional
row_of scheme.Geo = row (codes "geo") Permanent
row_of scheme.GG = row (codes "gg") Provisional
row_of scheme.Git = row (codes "git") Provisional
row_of scheme.GizmoProject = row (codes "gizmoproject") Provisional
row_of scheme.Go = row (codes "go") Permanent
row_of scheme.Gopher = row (codes "gopher") Permanent
row_of scheme.Graph = row (codes "graph") Provisional
row_of scheme.GTalk = row (codes "gtalk") Provisional
row_of scheme.H323 = row (codes "h323") Permanent
row_of scheme.HAM = row (codes "ham") Provisional
row_of scheme.HCAP = row (codes "hcap") Provisional
row_of scheme.HCP = row (codes "hcp") Provisional
row_of scheme.HTTP = row (codes "http") Permanent
row_of scheme.HTTPS = row (codes "https") Permanent
row_of scheme.HXXP = row (codes "hxxp") Provisional
row_of scheme.HXXPS = row (codes "hxxps") Provisional
row_of scheme.HydraZone = row (codes "hydrazone") Provisional
row_of scheme.IAX = row (codes "iax") Permanent
row_of scheme.ICAP = row (codes "icap") Permanent
row_of scheme.Icon = row (codes "icon") Provisional
row_of scheme.IM = row (codes "im") Permanent
row_of scheme.IMAP = row (codes "imap") Permanent
row_of scheme.Info = row (codes "info") Permanent
row_of scheme.IoTDisc = row (codes "iotdisc") Provisional
row_of scheme.IPN = row (codes "ipn") Provisional
row_of scheme.IPP = row (codes "ipp") Permanent
row_of scheme.IPPS = row (codes "ipps") Permanent
row_of scheme.IRC = row (codes "irc") Provisional
row_of scheme.IRC6 = row (codes "irc6") Provisional
row_of scheme.IRCS = row (codes "ircs") Provisional
row_of scheme.IRIS = row (codes "iris") Permanent
row_of scheme.IRISBEEP = row (codes "iris.beep") Permanent
row_of scheme.IRISLWZ = row (codes "iris.lwz") Permanent
row_of scheme.IRISXPC = row (codes "iris.xpc") Permanent
row_of scheme.IRISXPCS = row (codes "iris.xpcs") Permanent
row_of scheme.IsoStore = row (codes "isostore") Provisional
row_of scheme.ITMS = row (codes "itms") Provisional
row_of scheme.Jabber = row (codes "jabber") Permanent
row_of scheme.JAR = row (codes "jar") Provisional
row_of scheme.JMS = row (codes "jms") Provisional
row_of scheme.KeyParc = row (codes "keyparc") Provisional
row_of scheme.LastFM = row (codes "lastfm") Provisional
row_of scheme.LDAP = row (codes "ldap") Permanent
row_of scheme.LDAPS = row (codes "ldaps") Provisional
row_of scheme.LoRaWAN = row (codes "lorawan") Provisional
row_of scheme.LVLT = row (codes "lvlt") Provisional
row_of scheme.Magnet = row (codes "magnet") Provisional
row_of scheme.MailServer = row (codes "mailserver") Historical
row_of scheme.MailTo = row (codes "mailto") Permanent
row_of scheme.Maps = row (codes "maps") Provisional
row_of scheme.Market = row (codes "market") Provisional
row_of scheme.Message = row (codes "message") Provisional
row_of scheme.MicrosoftWindowsCamera = row (codes "microsoft.windows.camera") Provisional
row_of scheme.MicrosoftWindowsCameraMultiPicker = row (codes "microsoft.windows.camera.multipicker") Provisional
row_of scheme.MicrosoftWindowsCameraPicker = row (codes "microsoft.windows.camera.picker") Provisional
row_of scheme.MID = row (codes "mid") Permanent
row_of scheme.MMS = row (codes "mms") Provisional
row_of scheme.Modem = row (codes "modem") Historical
row_of scheme.MongoDB = row (codes "mongodb") Provisional
row_of scheme.Moz = row (codes "moz") Provisional
row_of (scheme.Microsoft microsoft.MSAccess) = row (codes "ms-access") Provisional
row_of (scheme.Microsoft microsoft.MSBrowserExtension) = row (codes "ms-browser-extension") Provisional
row_of (scheme.Microsoft microsoft.MSCalculator) = row (codes "ms-calculator") Provisional
row_of (scheme.Microsoft microsoft.MSDriveTo) = row (codes "ms-drive-to") Provisional
row_of (scheme.Microsoft microsoft.MSEnrollment) = row (codes "ms-enrollment") Provisional
row_of (scheme.Microsoft microsoft.MSExcel) = row (codes "ms-excel") Provisional
row_of (scheme.Microsoft microsoft.MSEyeControlSpeech) = row (codes "ms-eyecontrolspeech") Provisional
row_of (scheme.Microsoft microsoft.MSGameBarServices) = row (codes "ms-gamebaresrvices") Provisional
row_of (scheme.Microsoft microsoft.MSGamingOverlay) = row (codes "ms-gamingoverlay") Provisional
row_of (scheme.Microsoft microsoft.MSGetOffice) = row (codes "ms-getoffice") Provisional
row_of (scheme.Microsoft microsoft.MSHelp) = row (codes "ms-help") Provisional
row_of (scheme.Microsoft microsoft.MSInfoPath) = row (codes "ms-infopath") Provisional
row_of (scheme.Microsoft microsoft.MSInputApp) = row (codes "ms-inputapp") Provisional
row_of (scheme.Microsoft microsoft.MSLockScreenComponentConfig) = row (codes "ms-lockscreencomponent-config") Provisional
row_of (scheme.Microsoft microsoft.MSMediaStreamID) = row (codes "ms-media-stream-id") Provisional
row_of (scheme.Microsoft microsoft.MSMixedRealityCapture) = row (codes "ms-mixedrealitycapture") Provisional
row_of (scheme.Microsoft microsoft.MSOfficeApp) = row (codes "ms-officeapp") Provisional
row_of (scheme.Microsoft microsoft.MSPeople) = row (codes "ms-people") Provisional
row_of (scheme.Microsoft microsoft.MSPowerPoint) = row (codes "ms-powerpoint") Provisional
row_of (scheme.Microsoft microsoft.MSProject) = row (codes "ms-project") Provisional
row_of (scheme.Microsoft microsoft.MSPublisher) = row (codes "ms-publisher") Provisional
row_of (scheme.Microsoft microsoft.MSRestoreTabCompanion) = row (codes "ms-restoretabcompanion") Provisional
row_of (scheme.Microsoft microsoft.MSScreenClip) = row (codes "ms-screenclip") Provisional
row_of (scheme.Microsoft microsoft.MSScreenSketch) = row (codes "ms-screensketch") Provisional
row_of (scheme.Microsoft microsoft.MSSearch) = row (codes "ms-search") Provisional
row_of (scheme.Microsoft microsoft.MSSearchRepair) = row (codes "ms-search-repair") Provisional
row_of (scheme.Microsoft microsoft.MSSecondaryScreenController) = row (codes "ms-secondary-screen-controller") Provisional
row_of (scheme.Microsoft microsoft.MSSeocndaryScreenSetup) = row (codes "ms-secondary-screen-setup") Provisional
row_of (scheme.Microsoft microsoft.MSSettings) = row (codes "ms-settings") Provisional
row_of (scheme.Microsoft microsoft.MSSettingsAirplaneMode) = row (codes "ms-settings-airplanemode") Provisional
row_of (scheme.Microsoft microsoft.MSSettingsBluetooth) = row (codes "ms-settings-bluetooth") Provisional
row_of (scheme.Microsoft microsoft.MSSettingsCamera) = row (codes "ms-settings-camera") Provisional
row_of (scheme.Microsoft microsoft.MSSettingsCellular) = row (codes "ms-settings-cellular") Provisional
row_of (scheme.Microsoft microsoft.MSSettingsCloudStorage) = row (codes "ms-settings-cloudstorage") Provisional
row_of (scheme.Microsoft microsoft.MSSettingsConnectableDevices) = row (codes "ms-settings-connectabledevices") Provisional
row_of (scheme.Microsoft microsoft.MSSettingsDisplaysTopology) = row (codes "ms-settings-displays-topology") Provisional
row_of (scheme.Microsoft microsoft.MSSettingsEmailAndAccounts) = row (codes "ms-settings-emailandaccounts") Provisional
row_of (scheme.Microsoft microsoft.MSSettingsLanguage) = row (codes "ms-settings-language") Provisional
row_of (scheme.Microsoft microsoft.MSSettingsLocation) = row (codes "ms-settings-location") Provisional
row_of (scheme.Microsoft microsoft.MSSettingsLock) = row (codes "ms-settings-lock") Provisional
row_of (scheme.Microsoft microsoft.MSSettingsNFCTransactions) = row (codes "ms-settings-nfctransactions") Provisional
row_of (scheme.Microsoft microsoft.MSSettingsNotifications) = row (codes "ms-settings-notifications") Provisional
row_of (scheme.Microsoft microsoft.MSSettingsPower) = row (codes "ms-settings-power") Provisional
row_of (scheme.Microsoft microsoft.MSSettingsPrivacy) = row (codes "ms-settings-privacy") Provisional
row_of (scheme.Microsoft microsoft.MSSettingsProximity) = row (codes "ms-settings-proximity") Provisional
row_of (scheme.Microsoft microsoft.MSSettingsScreenRotation) = row (codes "ms-settings-screenrotation") Provisional
row_of (scheme.Microsoft microsoft.MSSettingsWiFi) = row (codes "ms-settings-wifi") Provisional
row_of (scheme.Microsoft microsoft.MSSettingsWorkplace) = row (codes "ms-settings-workplace") Provisional
row_of (scheme.Microsoft microsoft.MSSPD) = row (codes "ms-spd") Provisional
row_of (scheme.Microsoft microsoft.MSSTTOverlay) = row (codes "ms-sttoverlay") Provisional
row_of (scheme.Microsoft microsoft.MSTransitTo) = row (codes "ms-transit-to") Provisional
row_of (scheme.Microsoft microsoft.MSUserActivitySet) = row (codes "ms-useractivityset") Provisional
row_of (scheme.Microsoft microsoft.MSVirtualTouchPad) = row (codes "ms-virtualtouchpad") Provisional
row_of (scheme.Microsoft microsoft.MSVisio) = row (codes "ms-visio") Provisional
row_of (scheme.Microsoft microsoft.MSWalkTo) = row (codes "ms-walk-to") Provisional
row_of (scheme.Microsoft microsoft.MSWhiteboard) = row (codes "ms-whiteboard") Provisional
row_of (scheme.Microsoft microsoft.MSWhiteboardCMD) = row (codes "ms-whiteboard-cmd") Provisional
row_of (scheme.Microsoft microsoft.MSWord) = row (codes "ms-word") Provisional
row_of scheme.MSNIM = row (codes "msnim") Provisional
row_of scheme.MSRP = row (codes "msrp") Permanent
row_of scheme.MSRPS = row (codes "msrps") Permanent
row_of scheme.MSS = row (codes "mss") Provisional
row_of scheme.MTQP = row (codes "mtqp") Permanent
row_of scheme.Mumble = row (codes "mumble") Provisional
row_of scheme.MUpdate = row (codes "mupdate") Permanent
row_of scheme.MVN = row (codes "mvn") Provisional
row_of scheme.News = row (codes "news") Permanent
row_of scheme.NFS = row (codes "nfs") Permanent
row_of scheme.NI = row (codes "ni") Permanent
row_of scheme.NIH = row (codes "nih") Permanent
row_of scheme.NNTP = row (codes "nntp") Permanent
row_of scheme.Notes = row (codes "notes") Provisional
row_of scheme.OCF = row (codes "ocf") Provisional
row_of scheme.OID = row (codes "oid") Provisional
row_of scheme.OneNote = row (codes "onenote") Provisional
row_of scheme.OneNoteCMD = row (codes "onenote-cmd") Provisional
row_of scheme.OpaqueLockToken = row (codes "opaquelocktoken") Permanent
row_of scheme.OpenPGP4FPR = row (codes "openpgp4fpr") Provisional
row_of scheme.Pack = row (codes "pack") Historical
row_of scheme.Palm = row (codes "palm") Provisional
row_of scheme.Paparazzi = row (codes "paparazzi") Provisional
row_of scheme.PKCS11 = row (codes "pkcs11") Permanent
row_of scheme.Platform = row (codes "platform") Provisional
row_of scheme.POP = row (codes "pop") Permanent
row_of scheme.Pres = row (codes "pres") Permanent
row_of scheme.Prospero = row (codes "prospero") Historical
row_of scheme.Proxy = row (codes "proxy") Provisional
row_of scheme.PSYC = row (codes "psyc") Provisional
row_of scheme.PWID = row (codes "pwid") Provisional
row_of scheme.QB = row (codes "qb") Provisional
row_of scheme.Query = row (codes "query") Provisional
row_of scheme.Redis = row (codes "redis") Provisional
row_of scheme.RedisS = row (codes "rediss") Provisional
row_of scheme.Reload = row (codes "reload") Permanent
row_of scheme.Res = row (codes "res") Provisional
row_of scheme.Resource = row (codes "resource") Provisional
row_of scheme.RMI = row (codes "rmi") Provisional
row_of scheme.RSync = row (codes "rsync") Provisional
row_of scheme.RTMFP = row (codes "rtmfp") Provisional
row_of scheme.RTMP = row (codes "rtmp") Provisional
row_of scheme.RTSP = row (codes "rtsp") Permanent
row_of scheme.RTSPS = row (codes "rtsps") Permanent
row_of scheme.RTSPU = row (codes "rtspu") Permanent
row_of scheme.SecondLife = row (codes "secondlife") Provisional
row_of scheme.Service = row (codes "service") Permanent
row_of scheme.Session = row (codes "session") Permanent
row_of scheme.SFTP = row (codes "sftp") Provisional
row_of scheme.SGN = row (codes "sgn") Provisional
row_of scheme.SHTTP = row (codes "shttp") Permanent
row_of scheme.Sieve = row (codes "sieve") Permanent
row_of scheme.SimpleLedger = row (codes "simpleledger") Provisional
row_of scheme.SIP = row (codes "sip") Permanent
row_of scheme.SIPS = row (codes "sips") Permanent
row_of scheme.Skype = row (codes "skype") Provisional
row_of scheme.SMB = row (codes "smb") Provisional
row_of scheme.SMS = row (codes "sms") Permanent
row_of scheme.SMTP = row (codes "smtp") Provisional
row_of scheme.SNews = row (codes "snews") Historical
row_of scheme.SNMP = row (codes "snmp") Permanent
row_of scheme.SOAPBEEP = row (codes "soap.beep") Permanent
row_of scheme.SOAPBEEPS = row (codes "soap.beeps") Permanent
row_of scheme.Soldat = row (codes "soldat") Provisional
row_of scheme.SPIFFE = row (codes "spiffe") Provisional
row_of scheme.Spotify = row (codes "spotify") Provisional
row_of scheme.SSH = row (codes "ssh") Provisional
row_of scheme.Steam = row (codes "steam") Provisional
row_of scheme.STUN = row (codes "stun") Permanent
row_of scheme.STUNS = row (codes "stuns") Permanent
row_of scheme.Submit = row (codes "submit") Provisional
row_of scheme.SVN = row (codes "svn") Provisional
row_of scheme.Tag = row (codes "tag") Permanent
row_of scheme.TeamSpeak = row (codes "teamspeak") Provisional
row_of scheme.Tel = row (codes "tel") Permanent
row_of scheme.TeliaEID = row (codes "teliaeid") Provisional
row_of scheme.Telnet = row (codes "telnet") Permanent
row_of scheme.TFTP = row (codes "tftp") Permanent
row_of scheme.Things = row (codes "things") Provisional
row_of scheme.ThisMessage = row (codes "thismessage") Permanent
row_of scheme.TIP = row (codes "tip") Permanent
row_of scheme.TN3270 = row (codes "tn3270") Permanent
row_of scheme.Tool = row (codes "tool") Provisional
row_of scheme.TURN = row (codes "turn") Permanent
row_of scheme.TURNS = row (codes "turns") Permanent
row_of scheme.TV = row (codes "tv") Permanent
row_of scheme.UDP = row (codes "udp") Provisional
row_of scheme.Unreal = row (codes "unreal") Provisional
row_of scheme.URN = row (codes "urn") Permanent
row_of scheme.UT2004 = row (codes "ut2004") Provisional
row_of scheme.VEvent = row (codes "v-event") Provisional
row_of scheme.VEMMI = row (codes "vemmi") Permanent
row_of scheme.Ventrilo = row (codes "ventrilo") Provisional
row_of scheme.Videotex = row (codes "videotex") Historical
row_of scheme.ViewSource = row (codes "view-source") Provisional
row_of scheme.VNC = row (codes "vnc") Permanent
row_of scheme.WAIS = row (codes "wais") Historical
row_of scheme.Webcal = row (codes "webcal") Provisional
row_of scheme.WPID = row (codes "wpid") Historical
row_of scheme.WS = row (codes "ws") Permanent
row_of scheme.WSS = row (codes "wss") Permanent
row_of scheme.WTAI = row (codes "wtai") Provisional
row_of scheme.WYCIWYG = row (codes "wyciwyg") Provisional
row_of scheme.XCON = row (codes "xcon") Permanent
row_of scheme.XCONUserID = row (codes "xcon-userid") Permanent
row_of scheme.Xfire = row (codes "xfire") Provisional
row_of scheme.XMLRPCBEEP = row (codes "xmlrpc.beep") Permanent
row_of scheme.XMLRPCBEEPS = row (codes "xmlrpc.beeps") Permanent
row_of scheme.XMPP = row (codes "xmpp") Permanent
row_of scheme.XRI = row (codes "xri") Provisional
row_of scheme.YMSGR = row (codes "ymsgr") Provisional
row_of scheme.Z3950 = row (codes "z39.50") Historical
row_of scheme.Z3950R = row (codes "z39.50r") Permanent
row_of scheme.Z3950S = row (codes "z39.50s") Permanent

-- schemes.tsv: end

-- the registered schemes, in the order of their names
unfoldable pub variants : List RegisteredScheme
variants =
    -- schemes.tsv: variants
    scheme.AAA ∷ scheme.AAAS ∷ scheme.About ∷ scheme.ACAP ∷ scheme.ACCT ∷ scheme.ACR ∷ scheme.AdiumXtra ∷ scheme.AFP ∷ scheme.AFS ∷
    scheme.AIM ∷ scheme.AMSS ∷ scheme.Android ∷ scheme.AppData ∷ scheme.APT ∷ scheme.Attachment ∷ scheme.AW ∷ scheme.Barion ∷ scheme.BeShare ∷
    scheme.Bitcoin ∷ scheme.BitcoinCash ∷ scheme.Blob ∷ scheme.Bolo ∷ scheme.BrowserExt ∷ scheme.Calculator ∷ scheme.CallTo ∷ scheme.CAP ∷
    scheme.Cast ∷ scheme.Casts ∷ scheme.Chrome ∷ scheme.ChromeExtension ∷ scheme.CID ∷ scheme.CoAP ∷ scheme.CoAPTCP ∷ scheme.CoAPWS ∷
    scheme.CoAPS ∷ scheme.CoAPSTCP ∷ scheme.CoAPSWS ∷ scheme.ComEventBriteAttendee ∷ scheme.Content ∷ scheme.Conti ∷ scheme.CRID ∷ scheme.CVS ∷
    scheme.DAB ∷ scheme.Data ∷ scheme.DAV ∷ scheme.Diaspora ∷ scheme.DICT ∷ scheme.DID ∷ scheme.DIS ∷ scheme.DLNAPlayContainer ∷
    scheme.DLNAPlaySingle ∷ scheme.DNS ∷ scheme.DNTP ∷ scheme.DPP ∷ scheme.DRM ∷ scheme.Drop ∷ scheme.DTN ∷ scheme.DVB ∷ scheme.ED2K ∷
    scheme.ELSI ∷ scheme.Example ∷ scheme.FaceTime ∷ scheme.Fax ∷ scheme.Feed ∷ scheme.FeedReady ∷ scheme.File ∷ scheme.FileSystem ∷
    scheme.Finger ∷ scheme.Fish ∷ scheme.FM ∷ scheme.FTP ∷ scheme.FuchsiaPkg ∷ scheme.Geo ∷ scheme.GG ∷ scheme.Git ∷ scheme.GizmoProject ∷
    scheme.Go ∷ scheme.Gopher ∷ scheme.Graph ∷ scheme.GTalk ∷ scheme.H323 ∷ scheme.HAM ∷ scheme.HCAP ∷ scheme.HCP ∷ scheme.HTTP ∷
    scheme.HTTPS ∷ scheme.HXXP ∷ scheme.HXXPS ∷ scheme.HydraZone ∷ scheme.IAX ∷ scheme.ICAP ∷ scheme.Icon ∷ scheme.IM ∷ scheme.IMAP ∷
    scheme.Info ∷ scheme.IoTDisc ∷ scheme.IPN ∷ scheme.IPP ∷ scheme.IPPS ∷ scheme.IRC ∷ scheme.IRC6 ∷ scheme.IRCS ∷ scheme.IRIS ∷
    scheme.IRISBEEP ∷ scheme.IRISLWZ ∷ scheme.IRISXPC ∷ scheme.IRISXPCS ∷ scheme.IsoStore ∷ scheme.ITMS ∷ scheme.Jabber ∷ scheme.JAR ∷
    scheme.JMS ∷ scheme.KeyParc ∷ scheme.LastFM ∷ scheme.LDAP ∷ scheme.LDAPS ∷ scheme.LoRaWAN ∷ scheme.LVLT ∷ scheme.Magnet ∷
    scheme.MailServer ∷ scheme.MailTo ∷ scheme.Maps ∷ scheme.Market ∷ scheme.Message ∷ scheme.MicrosoftWindowsCamera ∷
    scheme.MicrosoftWindowsCameraMultiPicker ∷ scheme.MicrosoftWindowsCameraPicker ∷ scheme.MID ∷ scheme.MMS ∷ scheme.Modem ∷ scheme.MongoDB ∷
    scheme.Moz ∷ scheme.Microsoft microsoft.MSAccess ∷ scheme.Microsoft microsoft.MSBrowserExtension ∷
    scheme.Microsoft microsoft.MSCalculator ∷ scheme.Microsoft microsoft.MSDriveTo ∷ scheme.Microsoft microsoft.MSEnrollment ∷
    scheme.Microsoft microsoft.MSExcel ∷ scheme.Microsoft microsoft.MSEyeControlSpeech ∷ scheme.Microsoft microsoft.MSGameBarServices ∷
    scheme.Microsoft microsoft.MSGamingOverlay ∷ scheme.Microsoft microsoft.MSGetOffice ∷ scheme.Microsoft microsoft.MSHelp ∷
    scheme.Microsoft microsoft.MSInfoPath ∷ scheme.Microsoft microsoft.MSInputApp ∷ scheme.Microsoft microsoft.MSLockScreenComponentConfig ∷
    scheme.Microsoft microsoft.MSMediaStreamID ∷ scheme.Microsoft microsoft.MSMixedRealityCapture ∷ scheme.Microsoft microsoft.MSOfficeApp ∷
    scheme.Microsoft microsoft.MSPeople ∷ scheme.Microsoft microsoft.MSPowerPoint ∷ scheme.Microsoft microsoft.MSProject ∷
    scheme.Microsoft microsoft.MSPublisher ∷ scheme.Microsoft microsoft.MSRestoreTabCompanion ∷ scheme.Microsoft microsoft.MSScreenClip ∷
    scheme.Microsoft microsoft.MSScreenSketch ∷ scheme.Microsoft microsoft.MSSearch ∷ scheme.Microsoft microsoft.MSSearchRepair ∷
    scheme.Microsoft microsoft.MSSecondaryScreenController ∷ scheme.Microsoft microsoft.MSSeocndaryScreenSetup ∷
    scheme.Microsoft microsoft.MSSettings ∷ scheme.Microsoft microsoft.MSSettingsAirplaneMode ∷
    scheme.Microsoft microsoft.MSSettingsBluetooth ∷ scheme.Microsoft microsoft.MSSettingsCamera ∷
    scheme.Microsoft microsoft.MSSettingsCellular ∷ scheme.Microsoft microsoft.MSSettingsCloudStorage ∷
    scheme.Microsoft microsoft.MSSettingsConnectableDevices ∷ scheme.Microsoft microsoft.MSSettingsDisplaysTopology ∷
    scheme.Microsoft microsoft.MSSettingsEmailAndAccounts ∷ scheme.Microsoft microsoft.MSSettingsLanguage ∷
    scheme.Microsoft microsoft.MSSettingsLocation ∷ scheme.Microsoft microsoft.MSSettingsLock ∷
    scheme.Microsoft microsoft.MSSettingsNFCTransactions ∷ scheme.Microsoft microsoft.MSSettingsNotifications ∷
    scheme.Microsoft microsoft.MSSettingsPower ∷ scheme.Microsoft microsoft.MSSettingsPrivacy ∷
    scheme.Microsoft microsoft.MSSettingsProximity ∷ scheme.Microsoft microsoft.MSSettingsScreenRotation ∷
    scheme.Microsoft microsoft.MSSettingsWiFi ∷ scheme.Microsoft microsoft.MSSettingsWorkplace ∷ scheme.Microsoft microsoft.MSSPD ∷
    scheme.Microsoft microsoft.MSSTTOverlay ∷ scheme.Microsoft microsoft.MSTransitTo ∷ scheme.Microsoft microsoft.MSUserActivitySet ∷
    scheme.Microsoft microsoft.MSVirtualTouchPad ∷ scheme.Microsoft microsoft.MSVisio ∷ scheme.Microsoft microsoft.MSWalkTo ∷
    scheme.Microsoft microsoft.MSWhiteboard ∷ scheme.Microsoft microsoft.MSWhiteboardCMD ∷ scheme.Microsoft microsoft.MSWord ∷ scheme.MSNIM ∷
    scheme.MSRP ∷ scheme.MSRPS ∷ scheme.MSS ∷ scheme.MTQP ∷ scheme.Mumble ∷ scheme.MUpdate ∷ scheme.MVN ∷ scheme.News ∷ scheme.NFS ∷
    scheme.NI ∷ scheme.NIH ∷ scheme.NNTP ∷ scheme.Notes ∷ scheme.OCF ∷ scheme.OID ∷ scheme.OneNote ∷ scheme.OneNoteCMD ∷
    scheme.OpaqueLockToken ∷ scheme.OpenPGP4FPR ∷ scheme.Pack ∷ scheme.Palm ∷ scheme.Paparazzi ∷ scheme.PKCS11 ∷ scheme.Platform ∷ scheme.POP ∷
    scheme.Pres ∷ scheme.Prospero ∷ scheme.Proxy ∷ scheme.PSYC ∷ scheme.PWID ∷ scheme.QB ∷ scheme.Query ∷ scheme.Redis ∷ scheme.RedisS ∷
    scheme.Reload ∷ scheme.Res ∷ scheme.Resource ∷ scheme.RMI ∷ scheme.RSync ∷ scheme.RTMFP ∷ scheme.RTMP ∷ scheme.RTSP ∷ scheme.RTSPS ∷
    scheme.RTSPU ∷ scheme.SecondLife ∷ scheme.Service ∷ scheme.Session ∷ scheme.SFTP ∷ scheme.SGN ∷ scheme.SHTTP ∷ scheme.Sieve ∷
    scheme.SimpleLedger ∷ scheme.SIP ∷ scheme.SIPS ∷ scheme.Skype ∷ scheme.SMB ∷ scheme.SMS ∷ scheme.SMTP ∷ scheme.SNews ∷ scheme.SNMP ∷
    scheme.SOAPBEEP ∷ scheme.SOAPBEEPS ∷ scheme.Soldat ∷ scheme.SPIFFE ∷ scheme.Spotify ∷ scheme.SSH ∷ scheme.Steam ∷ scheme.STUN ∷
    scheme.STUNS ∷ scheme.Submit ∷ scheme.SVN ∷ scheme.Tag ∷ scheme.TeamSpeak ∷ scheme.Tel ∷ scheme.TeliaEID ∷ scheme.Telnet ∷ scheme.TFTP ∷
    scheme.Things ∷ scheme.ThisMessage ∷ scheme.TIP ∷ scheme.TN3270 ∷ scheme.Tool ∷ scheme.TURN ∷ scheme.TURNS ∷ scheme.TV ∷ scheme.UDP ∷
    scheme.Unreal ∷ scheme.URN ∷ scheme.UT2004 ∷ scheme.VEvent ∷ scheme.VEMMI ∷ scheme.Ventrilo ∷ scheme.Videotex ∷ scheme.ViewSource ∷
    scheme.VNC ∷ scheme.WAIS ∷ scheme.Webcal ∷ scheme.WPID ∷ scheme.WS ∷ scheme.WSS ∷ scheme.WTAI ∷ scheme.WYCIWYG ∷ scheme.XCON ∷
    scheme.XCONUserID ∷ scheme.Xfire ∷ scheme.XMLRPCBEEP ∷ scheme.XMLRPCBEEPS ∷ scheme.XMPP ∷ scheme.XRI ∷ scheme.YMSGR ∷ scheme.Z3950 ∷
    scheme.Z3950R ∷ scheme.Z3950S ∷ []
    -- schemes.tsv: end
