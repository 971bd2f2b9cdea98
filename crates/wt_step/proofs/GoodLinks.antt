-- Steps of either kind without a fault are good, and good ones have no fault.
use Rattle.std.proofs.Common.{◌≡◌, None}
use Rattle.wt_step.specs.declared.raw.RawLink.{RawLink}
use Rattle.wt_step.specs.declared.raw.RawLink.TheVariants.{Marker, Restrict}
use Rattle.wt_step.specs.Links.{link_fault}
use Rattle.wt_step.specs.Good.{IsGoodLink}
use Rattle.wt_step.proofs.Goodness.{good_step, no_fault}
use Rattle.wt_step.proofs.Restricted.{good_restrict, no_restrict_fault}

pub good_link : (link : RawLink) → link_fault link ≡ None → IsGoodLink link
unfolding link_fault
good_link (Marker s) e = good_step s e
good_link (Restrict s) e = good_restrict s e

pub no_link_fault : (link : RawLink) → IsGoodLink link → link_fault link ≡ None
unfolding link_fault
no_link_fault (Marker s) g = no_fault s g
no_link_fault (Restrict s) g = no_restrict_fault s g
