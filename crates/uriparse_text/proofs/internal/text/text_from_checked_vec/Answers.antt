use Rattle.uriparse_text.proofs.lemmas.classes.ClassLemmas.{IsUtf8-in_class}
use Rattle.uriparse_text.proofs.internal.text.text_from_checked_vec.Goals as goal

pub from_utf8_unchecked-requires : goal.from_utf8_unchecked-requires
from_utf8_unchecked-requires g c = IsUtf8-in_class g.K.TextKind.class c.args.bytes.items c.requires
