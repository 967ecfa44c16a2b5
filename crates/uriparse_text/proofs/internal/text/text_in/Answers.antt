use Rattle.uriparse_text.proofs.lemmas.classes.ClassLemmas.{IsUtf8-in_class}
use Rattle.uriparse_text.proofs.internal.text.text_in.Goals as goal

pub from_utf8_unchecked-requires : goal.from_utf8_unchecked-requires
from_utf8_unchecked-requires c = IsUtf8-in_class c.args.class c.args.bytes.now c.requires
