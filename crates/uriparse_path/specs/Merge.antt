-- A base's path merged with a reference's: RFC 3986, section 5.2.3.
use Rattle.std.specs.Prelude.{◌≡◌, nat_le, [], if◌then◌else◌, ◌++◌, length, Result, Ok, Err}
use Rattle.uriparse_text.specs.declared.segment.error.PathError.{PathError}
use Rattle.uriparse_text.specs.declared.segment.error.PathError.TheVariants.{ExceededMaximumLength}
use Rattle.uriparse_path.specs.Path.{PathParts, max_segments}
use Rattle.uriparse_path.specs.Dots.{all_but_last, replay}

-- the segments of the base without the last one, then the reference's
abbrev pub merged : PathParts → PathParts → PathParts
merged p q = record { absolute = p.absolute; segments = all_but_last p.segments ++ q.segments }

-- the same, or the error if there are more segments than a path may have
abbrev pub merging : PathParts → PathParts → Result PathParts PathError
merging p q = if nat_le (length (merged p q).segments) max_segments then Ok (merged p q) else Err ExceededMaximumLength

-- The path q, merged with the base b, leads to the segments of t once the dot segments are removed.
abbrev pub LeadsTo : PathParts → PathParts → PathParts → Type 0
LeadsTo b q t = replay [] (merged b q).segments ≡ t.segments
