-- A key of a set of references: a text that it owns, or a view that it borrows.
use Rattle.uriparse_reference.specs.declared.uri_reference.text.key.ReferenceKey.{ReferenceKey}
use Rattle.uriparse_reference.specs.declared.uri_reference.text.key.ReferenceKey.TheVariants.{Text, View}
use Rattle.uriparse_reference.specs.View.{Viewed}

-- the reference that it stands for
abbrev pub keyed : ReferenceKey → Viewed
keyed (Text v) = v
keyed (View v) = v.now
