use Rattle.uriparse_text.specs.declared.internal.scan.TheConstants.{HEX_LOW, HEX_HIGH}
use Rattle.uriparse_text.specs.Bytes.{is_hex}
use Rattle.uriparse_text.proofs.lemmas.scans.LaneLemmas.{marks_by_tables, hex_kind}
use Rattle.uriparse_text.proofs.internal.scan.IsHexByteTest.marks.Goals as goal

pub returns : goal.returns
returns c = marks_by_tables HEX_LOW HEX_HIGH is_hex hex_kind c.args.lanes _ _ c.fits-lanes c.by_low.ensures c.by_high.ensures
