-- What a borrowed step borrows.
use Rattle.wt_step.specs.declared.raw.RawLink.{RawLink}
use Rattle.wt_step.specs.declared.raw.RawLink.TheVariants.{Marker, Restrict}
use Rattle.wt_step.specs.declared.link.LinkRef.{LinkRef}
use Rattle.wt_step.specs.declared.link.LinkRef.TheVariants as borrowed

-- the step that a borrowed one borrows
abbrev pub link_of : LinkRef → RawLink
link_of (borrowed.Marker s) = Marker s.raw.now
link_of (borrowed.Restrict s) = Restrict s.raw.now
